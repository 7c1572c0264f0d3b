-- A number's digits say that number. Assumes nothing.
use Prim.Native.Nat.{ℕ, zero, suc, ◌+◌, ◌*◌, ◌-◌, ◌/◌, ◌%◌, ◌^◌, ◌≤◌, ◌<◌}
use mathlib.Core.Bool.{Bool, true, false, and-eq-true_iff}
use mathlib.Core.Path.{◌≡◌, refl}
use mathlib.Core.List.{List, [], ◌∷◌, ◌++◌}
use native.Mathlib.Nat.{pow-le-pow_right}
use native.Mathlib.Omega.{arith}
use lib.Dec.{eqb, leb, ltb}
use lib.ListN.{length, get_or, length-append}
use borrow.Author.Tests.{leb-true, ltb-true, ltb-false, le-leb, lt-leb, ne_eqb}
use Rattle.mark.proofs.Choices.{both_hold}
use Rattle.pen.specs.Decimal.{decimal}
use Rattle.pen.proofs.Decimal.{pow_div, decimal_one, decimal_more}
use Rattle.schedule.specs.Tokens.{in_word, small, is_digit, are_digits, value_after}
use Rattle.schedule.proofs.Places.{is_word}

-- digits, at least one, that say a number
pub record Spells (n : ℕ) (word : List ℕ) : Type 0 where
  pub digits : are_digits word ≡ true
  pub says : value_after 0 word ≡ n
  pub some : 1 ≤ length word

-- the digit of a number below ten
is_digit_lem : (d : ℕ) → d < 10 → is_digit (48 + d) ≡ true
is_digit_lem d small = both_hold (leb 48 (48 + d)) (leb (48 + d) 57) (le-leb 48 (48 + d) (omega arith)) (le-leb (48 + d) 57 (omega arith))

-- one digit more
digits_more : (l : List ℕ) (b : ℕ) → are_digits l ≡ true → is_digit b ≡ true → are_digits (l ++ (b ∷ [])) ≡ true
unfolding are_digits
digits_more [] b all is = rw is
digits_more (c ∷ l) b all is =
    let both = (and-eq-true_iff (is_digit c) (are_digits l)).0 all in
    both_hold (is_digit c) (are_digits (l ++ (b ∷ []))) both.0 (digits_more l b both.1 is)

-- and what they say with it
value_more : (before : ℕ) (l : List ℕ) (b : ℕ) → value_after before (l ++ (b ∷ [])) ≡ 10 * value_after before l + (b - 48)
unfolding value_after
value_more before [] b = refl
value_more before (c ∷ l) b = value_more (10 * before + (c - 48)) l b

one_digit : (n : ℕ) → n < 10 → Spells n ((48 + n) ∷ [])
unfolding are_digits value_after
one_digit n small = record { digits = both_hold (is_digit (48 + n)) true (is_digit_lem n small) refl; says = omega arith; some = omega arith }

more_digits : (n : ℕ) (l : List ℕ) → Spells (n / 10) l → Spells n (l ++ ((48 + n % 10) ∷ []))
more_digits n l s =
    let value = value_more 0 l (48 + n % 10) in
    let before = s.says in
    let long = length-append l ((48 + n % 10) ∷ []) in
    record {
      digits = digits_more l (48 + n % 10) s.digits (is_digit_lem (n % 10) (omega arith));
      says = omega arith;
      some = omega arith;
    }

by_size : (n : ℕ) → n < 10 ^ 20 → (10 ≤ n → Spells (n / 10) (decimal (n / 10))) → (t : Bool) → ltb n 10 ≡ t → Spells n (decimal n)
by_size n small before true one = rw (decimal_one n (ltb-true n 10 one)) (one_digit n (ltb-true n 10 one))
by_size n small before false more =
    let big = ltb-false n 10 more in
    rw (decimal_more n big small) (more_digits n (decimal (n / 10)) (before big))

-- a number in so many places
spells_in : (k n : ℕ) → k ≤ 20 → n < 10 ^ k → Spells n (decimal n)
spells_in zero n few small = rw (decimal_one n (omega arith)) (one_digit n (omega arith))
spells_in (suc k) n few small =
    let room : 10 ^ suc k ≤ 10 ^ 20 = pow-le-pow_right {n = 10} (omega arith) {i = suc k} {j = 20} few in
    by_size n (omega arith) (λ big. spells_in k (n / 10) (omega arith) (pow_div k n small)) (ltb n 10) refl

-- a number of 64 bits is spelled by its digits
pub spells : (n : ℕ) → n < 10 ^ 20 → Spells n (decimal n)
spells n small = spells_in 20 n (omega arith) small

-- a digit is no blank, no comment and no end of a line
digit_byte : (b : ℕ) → is_digit b ≡ true → in_word b ≡ true
digit_byte b is =
    let both = (and-eq-true_iff (leb 48 b) (leb b 57)).0 is in
    let low = leb-true 48 b both.0 in
    let no : (k : ℕ) → k < 48 → eqb b k ≡ false = λ k less. ne_eqb b k (omega arith) in
    rw (no 32 (omega arith), no 9 (omega arith), no 13 (omega arith), no 35 (omega arith), no 10 (omega arith))

-- digits may stand in a word
pub digits_word : (l : List ℕ) → are_digits l ≡ true → is_word l ≡ true
unfolding are_digits is_word
digits_word [] all = refl
digits_word (b ∷ l) all =
    let both = (and-eq-true_iff (is_digit b) (are_digits l)).0 all in
    both_hold (in_word b) (is_word l) (digit_byte b both.0) (digits_word l both.1)

-- they begin with no x
pub digits_head : (l : List ℕ) → are_digits l ≡ true → 1 ≤ length l → eqb (small (get_or l 0 0)) 120 ≡ false
unfolding are_digits
digits_head [] all some = absurd (omega arith)
digits_head (b ∷ l) all some =
    let both = (and-eq-true_iff (is_digit b) (are_digits l)).0 all in
    let within = (and-eq-true_iff (leb 48 b) (leb b 57)).0 both.0 in
    let high = leb-true b 57 within.1 in
    rw (lt-leb 65 b (omega arith)) (ne_eqb b 120 (omega arith))
