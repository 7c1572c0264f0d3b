-- The first bit that is set, by the zeros below the lowest bit of what is shifted down. Assumes nothing.
use Prim.Native.Nat.{ℕ, zero, suc, ◌+◌, ◌-◌, ◌/◌, ◌%◌, ◌^◌, ◌<◌}
use mathlib.Core.Bool.{cond}
use mathlib.Core.Path.{◌≡◌, refl, sym, ap, subst, ◌∙◌}
use native.Mathlib.Nat.{mod-lt, suc-add, add-zero}
use native.Mathlib.Numerals.{add-one}
use native.Mathlib.Omega.{arith}
use lib.Count.{count_trailing_zeros, under, trailing_of_zero}
use lib.Dec.{eqb}
use lib.Pow.{shr-shr, shr_lt}
use Rattle.bits.specs.Seek.{seek}
use Rattle.bits.specs.Bits.{is_set}

-- the zeros below the lowest of so many bits from bit i on are what is passed over
pub seek_zeros : (w i more : ℕ) → seek (is_set w) i more ≡ i + count_trailing_zeros more (w / 2 ^ i)
unfolding seek count_trailing_zeros is_set
seek_zeros w i zero = sym (add-zero i)
seek_zeros w i (suc more) =
    rest (w / 2 ^ i % 2) (mod-lt (w / 2 ^ i) (omega arith)) _ _
    (seek_zeros w (suc i) more ∙ ap (λ (x : ℕ). suc i + count_trailing_zeros more x) (ap (λ (n : ℕ). w / 2 ^ n) (sym (add-one i)) ∙ sym (shr-shr w i 1)))
  where
    rest : (d : ℕ) → d < 2 → (m n : ℕ) → m ≡ suc i + n → cond (eqb d 1) i m ≡ i + under d n
    rest zero two m n is = omega (arith, is)
    rest (suc zero) two m n is = sym (add-zero i)
    rest (suc (suc d)) two m n is = absurd (omega arith)

-- more zeros than the number has digits are looked for in vain, and no fewer are found
pub zeros_enough : (some more n : ℕ) → n < 2 ^ some → (n ≡ 0 → ⊥) → count_trailing_zeros (some + more) n ≡ count_trailing_zeros some n
unfolding count_trailing_zeros
zeros_enough zero more n fits other = absurd (other (omega arith))
zeros_enough (suc some) more n fits other =
    rw (suc-add some more) (rest (n % 2) refl (λ more_digits. zeros_enough some more (n / 2) (half_fits) more_digits))
  where
    half_fits : n / 2 < 2 ^ some
    half_fits = shr_lt some 1 (rw (add-one some) fits)

    rest :
        (d : ℕ)
        → n % 2 ≡ d
        → ((n / 2 ≡ 0 → ⊥) → count_trailing_zeros (some + more) (n / 2) ≡ count_trailing_zeros some (n / 2))
        → under d (count_trailing_zeros (some + more) (n / 2)) ≡ under d (count_trailing_zeros some (n / 2))
    rest zero even further = ap suc (further (λ none. other (omega (arith, even, none))))
    rest (suc d) odd further = refl

-- a number that is not 0 has a digit that is set among its own
pub zeros_under : (k n : ℕ) → n < 2 ^ k → (n ≡ 0 → ⊥) → count_trailing_zeros k n < k
unfolding count_trailing_zeros
zeros_under zero n fits other = absurd (other (omega arith))
zeros_under (suc k) n fits other = rest (n % 2) refl (zeros_under k (n / 2) (shr_lt k 1 (rw (add-one k) fits)))
  where
    rest :
        (d : ℕ)
        → n % 2 ≡ d
        → ((n / 2 ≡ 0 → ⊥) → count_trailing_zeros k (n / 2) < k)
        → under d (count_trailing_zeros k (n / 2)) < suc k
    rest zero even further = let less = further (λ none. other (omega (arith, even, none))) in omega (arith, less)
    rest (suc d) odd further = omega arith

module _ (w i : ℕ) (fits : w < 2 ^ 64) (bit : i < 64) where
  -- so of a word from bit i on: where nothing is left above, no bit is set
  pub first_none : w / 2 ^ i ≡ 0 → 64 ≡ seek (is_set w) i (64 - i)
  first_none none = omega (arith, seek_zeros w i (64 - i) ∙ ap (λ (n : ℕ). i + count_trailing_zeros (64 - i) n) none, trailing_of_zero (64 - i))

  -- and else the zeros below what is left are passed over
  pub first_some : (w / 2 ^ i ≡ 0 → ⊥) → i + count_trailing_zeros 64 (w / 2 ^ i) ≡ seek (is_set w) i (64 - i)
  first_some some =
      let digits : 64 ≡ (64 - i) + i = omega arith in
      let left : w / 2 ^ i < 2 ^ (64 - i) = shr_lt (64 - i) i (subst (λ (n : ℕ). w < 2 ^ n) digits fits) in
      ap (λ (n : ℕ). i + n) (ap (λ (n : ℕ). count_trailing_zeros n (w / 2 ^ i)) digits ∙ zeros_enough (64 - i) i (w / 2 ^ i) left some)
      ∙ sym (seek_zeros w i (64 - i))

  -- which is one of the word's bits
  pub some_under : (w / 2 ^ i ≡ 0 → ⊥) → seek (is_set w) i (64 - i) < 64
  some_under some =
      let digits : 64 ≡ (64 - i) + i = omega arith in
      let left : w / 2 ^ i < 2 ^ (64 - i) = shr_lt (64 - i) i (subst (λ (n : ℕ). w < 2 ^ n) digits fits) in
      omega (arith, seek_zeros w i (64 - i), zeros_under (64 - i) (w / 2 ^ i) left some)
