-- The laws of the first number that passes a test. Assumes nothing.
use Prim.Native.Nat.{ℕ, zero, suc, ◌+◌, ◌≤◌, ◌<◌}
use mathlib.Core.Bool.{Bool, true, false, cond}
use mathlib.Core.Path.{◌≡◌, refl, sym, ap, ◌∙◌}
use native.Mathlib.Decide.{ℕ_discrete}
use native.Mathlib.Nat.{add-suc, suc-add, add-zero, zero-add}
use native.Mathlib.Omega.{arith}
use lib.Dec.{ltb}
use borrow.Author.Tests.{lt-ltb, le-ltb}
use Rattle.mark.proofs.Choices.{by_cases}
use Rattle.bits.specs.Seek.{seek}

-- ---- what it is

-- it is one of the numbers, or the one after them
pub seek_ge : (p : ℕ → Bool) (i more : ℕ) → i ≤ seek p i more
unfolding seek
seek_ge p i zero = omega arith
seek_ge p i (suc more) = by_cases (λ (n : ℕ). i ≤ n) (p i) _ _ (λ is. omega arith) (λ isnot. omega (arith, seek_ge p (suc i) more))

pub seek_le : (p : ℕ → Bool) (i more : ℕ) → seek p i more ≤ i + more
unfolding seek
seek_le p i zero = omega arith
seek_le p i (suc more) =
    by_cases (λ (n : ℕ). n ≤ i + suc more) (p i) _ _ (λ is. omega arith) (λ isnot. omega (arith, seek_le p (suc i) more))

-- it passes, if it is one of them
pub seek_passes : (p : ℕ → Bool) (i more : ℕ) → seek p i more < i + more → p (seek p i more) ≡ true
unfolding seek
seek_passes p i zero = λ under. absurd (omega arith)
seek_passes p i (suc more) =
    by_cases (λ (n : ℕ). n < i + suc more → p n ≡ true) (p i) _ _ (λ is under. is) (λ isnot under. seek_passes p (suc i) more (omega arith))

-- and none before it does
pub seek_first : (p : ℕ → Bool) (i more j : ℕ) → i ≤ j → j < seek p i more → p j ≡ false
unfolding seek
seek_first p i zero j from = λ under. absurd (omega arith)
seek_first p i (suc more) j from =
    by_cases (λ (n : ℕ). j < n → p j ≡ false) (p i) _ _ (λ is under. absurd (omega arith))
    (λ isnot. later isnot (λ after. seek_first p (suc i) more j after) (ℕ_discrete j i))
  where
    later : p i ≡ false → (suc i ≤ j → j < seek p (suc i) more → p j ≡ false) → Dec (j ≡ i) → j < seek p (suc i) more → p j ≡ false
    later isnot further (yes same) under = rw same isnot
    later isnot further (no other) under = further (omega (arith, other)) under

-- ---- how it is sought

-- by a test that comes out the same for each of the numbers
pub seek_same : (p q : ℕ → Bool) (i more : ℕ) → ((j : ℕ) → i ≤ j → j < i + more → p j ≡ q j) → seek p i more ≡ seek q i more
unfolding seek
seek_same p q i zero same = refl
seek_same p q i (suc more) same =
    rw (same i (omega arith) (omega arith), seek_same p q (suc i) more (λ j from under. same j (omega arith) (omega arith)))

-- among numbers that are all so much further
pub seek_further : (p : ℕ → Bool) (c i more : ℕ) → seek p (c + i) more ≡ c + seek (λ j. p (c + j)) i more
unfolding seek
seek_further p c i zero = refl
seek_further p c i (suc more) = rest (p (c + i)) _ _ (ap (λ (n : ℕ). seek p n more) (sym (add-suc c i)) ∙ seek_further p c (suc i) more)
  where
    rest : (t : Bool) (m n : ℕ) → m ≡ c + n → cond t (c + i) m ≡ c + cond t i n
    rest true m n is = refl
    rest false m n is = is

-- among some, and then among more
pub seek_on :
    (p : ℕ → Bool) (i some more : ℕ) → seek p i (some + more) ≡ cond (ltb (seek p i some) (i + some)) (seek p i some) (seek p (i + some) more)
unfolding seek
seek_on p i zero more =
    rw (zero-add more, le-ltb i (i + zero) (omega arith)) (ap (λ (n : ℕ). seek p n more) (sym (add-zero i)))
seek_on p i (suc some) more = rw (suc-add some more) (rest (p i) (seek_on p (suc i) some more))
  where
    rest :
        (t : Bool)
        → seek p (suc i) (some + more) ≡ cond (ltb (seek p (suc i) some) (suc i + some)) (seek p (suc i) some) (seek p (suc i + some) more)
        → cond t i (seek p (suc i) (some + more))
        ≡ cond (ltb (cond t i (seek p (suc i) some)) (i + suc some)) (cond t i (seek p (suc i) some)) (seek p (i + suc some) more)
    rest true later = rw (lt-ltb i (i + suc some) (omega arith))
    rest false later = rw (add-suc i some, ← suc-add i some) later
