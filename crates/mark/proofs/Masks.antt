-- A mark word's test by masks is the tests of its marks and of its byte 7. Assumes nothing.
use Rattle.std.proofs.Common.{◌≡◌, ℕ, ◌+◌, ◌*◌, ◌/◌, ◌%◌, ◌^◌, ◌<◌, Bool, true, false, ◌&&◌, eqb, leb, sym, refl, ap, ◌∙◌, ap₂, add-zero, mod-lt, arith, pow_pos, shr-shr, eq-eqb, eqb-true, le-leb, leb-true}
use mathlib.Core.Bool.{and-eq-true_iff}
use lib.Pow.{split}
use lib.Bits.{bit_and, bit_or, and_le_r, and_block, and_high, and_mask, or_add_and, or_self, or_shr, or_mod}
use Rattle.mark.specs.Word.{mark_of, byte7, well_formed}
use Rattle.mark.proofs.Choices.{both_hold}

-- two tests that pass together are one
same_outcome : (t u : Bool) → (t ≡ true → u ≡ true) → (u ≡ true → t ≡ true) → t ≡ u
same_outcome true u there back = sym (there refl)
same_outcome false true there back = back refl
same_outcome false false there back = refl

-- the bits that a mask finds in a number, or in the number with the ones added
abbrev found : ℕ → ℕ → ℕ → ℕ
found n mask ones = bit_and (bit_or n (n + ones)) mask

-- a mask finds the lowest byte's bits apart from those above it
pub and_byte : (n rest low : ℕ) → low < 2 ^ 8 → bit_and n (rest * 2 ^ 8 + low) ≡ bit_and (n / 2 ^ 8) rest * 2 ^ 8 + bit_and (n % 2 ^ 8) low
and_byte n rest low byte =
    ap (λ (x : ℕ). bit_and x (rest * 2 ^ 8 + low)) (sym (split n 8))
    ∙ and_block 8 (n / 2 ^ 8) rest (n % 2 ^ 8) low (mod-lt n (pow_pos 8)) byte

-- a mask with 252 as its lowest byte keeps what the lowest byte of n has above 3
above_three : (n rest : ℕ) → bit_and n (rest * 2 ^ 8 + 252) ≡ bit_and (n / 2 ^ 8) rest * 2 ^ 8 + n % 2 ^ 8 / 4 * 4
above_three n rest =
    and_byte n rest 252 (omega arith)
    ∙ ap (λ (x : ℕ). bit_and (n / 2 ^ 8) rest * 2 ^ 8 + x) (and_high (n % 2 ^ 8) 6 2 ∙ omega arith)

-- the lowest byte of any n is a mark, wherever in the word it came from
module _ (n rest ones : ℕ) where
  abbrev next : ℕ
  next = n + (ones * 2 ^ 8 + 1)

  abbrev here : ℕ
  here = found n (rest * 2 ^ 8 + 252) (ones * 2 ^ 8 + 1)

  abbrev higher : ℕ
  higher = found (n / 2 ^ 8) rest ones

  -- the bits of n itself are found whatever the ones make of it
  low_byte : here ≡ 0 → n % 2 ^ 8 < 4
  low_byte none =
      let a : ℕ = n % 2 ^ 8 in
      let b : ℕ = next % 2 ^ 8 in
      let byte : bit_or a b < 4 = omega (arith, above_three (bit_or n next) rest, or_mod n next 8) in
      omega (arith, or_add_and a b, and_le_r a b)

  -- one added to a byte below 4 stays in it, so that the higher bytes are tested as if they stood alone
  apart : n % 2 ^ 8 < 4 → here ≡ higher * 2 ^ 8 + (n % 2 ^ 8 + 1) / 4 * 4
  apart low =
      let none : n % 2 ^ 8 / 2 ^ 2 ≡ 0 = omega arith in
      let byte : next % 2 ^ 8 ≡ n % 2 ^ 8 + 1 = omega arith in
      let above : next / 2 ^ 8 ≡ n / 2 ^ 8 + ones = omega arith in
      above_three (bit_or n next) rest
      ∙ ap₂ (λ (x y : ℕ). bit_and x rest * 2 ^ 8 + y * 4)
      (or_shr n next 8 ∙ ap (bit_or (n / 2 ^ 8)) above)
      (ap (λ (x : ℕ). x / 2 ^ 2) (or_mod n next 8)
      ∙ or_shr (n % 2 ^ 8) (next % 2 ^ 8) 2
      ∙ ap₂ (λ (x y : ℕ). bit_or x (y / 2 ^ 2)) none byte)

  mark_test : eqb here 0 ≡ (leb (n % 2 ^ 8) 2 && eqb higher 0)
  mark_test =
      same_outcome _ _
      (λ passed.
      let none = eqb-true here 0 passed in
      let parts = apart (low_byte none) in
      both_hold _ _ (le-leb (n % 2 ^ 8) 2 (omega arith)) (eq-eqb higher 0 (omega arith)))
      (λ passed.
      let tests = (and-eq-true_iff _ _).0 passed in
      let mark = leb-true (n % 2 ^ 8) 2 tests.0 in
      let none = eqb-true higher 0 tests.1 in
      eq-eqb here 0 (omega (arith, apart (omega arith))))

module _ (w : ℕ) (fits : w < 2 ^ 64) where
  top_test : found (byte7 w) 0xFF 0 ≡ byte7 w
  unfolding byte7
  top_test = rw (add-zero, or_self) (and_mask (w / 2 ^ 56) 8 ∙ omega arith)

  -- §14.11: what `is_well_formed` makes of a word
  pub well_formed_by_masks : eqb (found (w / 2 ^ 32) 0xFFFC_FCFC 0x0001_0101) 0 ≡ well_formed w
  unfolding well_formed mark_of byte7
  well_formed_by_masks =
      rw (
        mark_test (w / 2 ^ 32) 0xFF_FCFC 0x0101,
        shr-shr w 32 8,
        mark_test (w / 2 ^ 40) 0xFFFC 0x01,
        shr-shr w 40 8,
        mark_test (w / 2 ^ 48) 0xFF 0,
        shr-shr w 48 8,
        top_test,
      )
