-- A number in decimal, digit by digit. Assumes nothing.
use Prim.Native.Nat.{ℕ, zero, suc, ◌+◌, ◌/◌, ◌%◌, ◌^◌, ◌<◌, ◌≤◌}
use mathlib.Core.Path.{◌≡◌, sym, ap, ◌∙◌}
use mathlib.Core.Bool.{Bool, true, false, cond}
use mathlib.Core.List.{List, [], ◌∷◌, ◌++◌}
use native.Mathlib.Nat.{pow-suc}
use native.Mathlib.Omega.{arith}
use lib.Dec.{ltb}
use lib.ListN.{length, length-append}
use borrow.Author.Tests.{lt-ltb, le-ltb}
use Rattle.pen.specs.Decimal.{decimal_in, decimal}

-- the last digit taken off, a number needs one place less
pub pow_div : (k n : ℕ) → n < 10 ^ suc k → n / 10 < 10 ^ k
pow_div k n h = omega (arith, rw pow-suc at h)

-- one digit
in_one : (k n : ℕ) → n < 10 → decimal_in (suc k) n ≡ (48 + n) ∷ []
unfolding decimal_in
in_one k n h = rw (lt-ltb n 10 h)

-- more than one digit
in_more : (k n : ℕ) → 10 ≤ n → decimal_in (suc k) n ≡ decimal_in k (n / 10) ++ ((48 + n % 10) ∷ [])
unfolding decimal_in
in_more k n h = rw (le-ltb n 10 h)

-- so many places are enough: more of them say the same
in_same : (k j n : ℕ) → n < 10 ^ suc k → n < 10 ^ suc j → decimal_in (suc k) n ≡ decimal_in (suc j) n
unfolding decimal_in
in_same zero j n a b = in_one zero n a ∙ sym (in_one j n a)
in_same (suc k) zero n a b = in_one (suc k) n b ∙ sym (in_one zero n b)
in_same (suc k) (suc j) n a b =
    ap
    (λ (l : List ℕ). cond (ltb n 10) ((48 + n) ∷ []) (l ++ ((48 + n % 10) ∷ [])))
    (in_same k j (n / 10) (pow_div (suc k) n a) (pow_div (suc j) n b))

-- a number below ten is its digit
pub decimal_one : (n : ℕ) → n < 10 → decimal n ≡ (48 + n) ∷ []
decimal_one n h = in_one 19 n h

-- another is what stands before its last digit, and that digit
pub decimal_more : (n : ℕ) → 10 ≤ n → n < 10 ^ 20 → decimal n ≡ decimal (n / 10) ++ ((48 + n % 10) ∷ [])
decimal_more n big small =
    in_more 19 n big ∙ ap (λ (l : List ℕ). l ++ ((48 + n % 10) ∷ [])) (in_same 18 19 (n / 10) (pow_div 19 n small) (omega arith))

-- one digit, or those before the last and the last, are no more than the places
one_more : (t : Bool) (k d e : ℕ) (l : List ℕ) → length l ≤ k → length (cond t (d ∷ []) (l ++ (e ∷ []))) ≤ suc k
one_more true k d e l h = omega arith
one_more false k d e l h = rw (length-append l (e ∷ [])) (omega arith)

-- no more digits than places
in_short : (k n : ℕ) → length (decimal_in k n) ≤ k
unfolding decimal_in
in_short zero n = omega arith
in_short (suc k) n = one_more (ltb n 10) k (48 + n) (48 + n % 10) (decimal_in k (n / 10)) (in_short k (n / 10))

-- a number below a power of ten has no more digits than that
in_long : (k j n : ℕ) → 1 ≤ j → n < 10 ^ j → length (decimal_in k n) ≤ j
unfolding decimal_in
in_long zero j n some small = omega arith
in_long (suc k) zero n some small = absurd (omega arith)
in_long (suc k) (suc zero) n some small = rw (in_one k n (omega arith)) (omega arith)
in_long (suc k) (suc (suc j)) n some small =
    one_more (ltb n 10) (suc j) (48 + n) (48 + n % 10) (decimal_in k (n / 10)) (in_long k (suc j) (n / 10) (omega arith) (pow_div (suc j) n small))

pub decimal_long : (j n : ℕ) → 1 ≤ j → n < 10 ^ j → length (decimal n) ≤ j
decimal_long j n = in_long 20 j n

-- and never more than 20
pub decimal_short : (n : ℕ) → length (decimal n) ≤ 20
decimal_short n = in_short 20 n
