-- The first empty slot of a mark word by masks, and by the zeros below the lowest bit that they leave. Assumes nothing.
use Rattle.std.proofs.Common.{◌≡◌, ℕ, zero, suc, ◌+◌, ◌*◌, ◌/◌, ◌%◌, ◌^◌, ◌<◌, ◌≤◌, Bool, true, false, cond, eqb, refl, ap, ◌∙◌, ap₂, add-zero, mod-lt, suc-add, zero-add, mul-one, arith, pow_pos, shr-shr, ne_eqb}
use native.Mathlib.Decide.{ℕ_discrete}
use lib.Count.{count_trailing_zeros, trailing_le}
use lib.Bits.{bit_and, bit_or, bit_xor, and_le_l, and_le_r, and_high, and_mask, and_zero_r}
use lib.Bits.{or_add_and, or_lt, or_shr, or_mod, xor_block, shifted_even, shifted_half}
use Rattle.mark.specs.Word.{mark_of, first_empty}
use Rattle.mark.proofs.Masks.{and_byte}

-- ---- the bytes that are not 0

-- the highest bits of the bytes of n that are not 0, as far as the mask has them
abbrev taken : ℕ → ℕ → ℕ → ℕ
taken n mask rests = bit_and (bit_or n (bit_and n rests + rests)) mask

-- a byte that is not 0 has its highest bit, or gets it when 127 is added to its other bits
abbrev raised : ℕ → ℕ
raised b = b % 2 ^ 7 + 127

highest : (b : ℕ) → b < 2 ^ 8 → Dec (b ≡ 0) → bit_and (bit_or b (raised b)) 128 ≡ cond (eqb b 0) 0 128
highest b byte (yes none) = rw none
highest b byte (no other) =
    let r : ℕ = raised b in
    let high : 128 ≤ bit_or b r = omega (arith, or_add_and b r, and_le_l b r, and_le_r b r) in
    let in_byte : bit_or b r < 2 ^ 8 = or_lt 8 b r byte (omega arith) in
    rw (ne_eqb b 0 other) (and_high (bit_or b r) 1 7 ∙ omega arith)

-- no sum goes beyond its byte, so that the higher bytes are found as if they stood alone
module _ (n mask rests : ℕ) where
  abbrev low : ℕ
  low = n % 2 ^ 8

  abbrev higher : ℕ
  higher = n / 2 ^ 8

  abbrev added : ℕ
  added = bit_and n (rests * 2 ^ 8 + 127) + (rests * 2 ^ 8 + 127)

  sum : added ≡ (bit_and higher rests + rests) * 2 ^ 8 + raised low
  sum = omega (arith, and_byte n rests 127 (omega arith), and_mask low 7)

  taken_byte : taken n (mask * 2 ^ 8 + 128) (rests * 2 ^ 8 + 127) ≡ taken higher mask rests * 2 ^ 8 + cond (eqb low 0) 0 128
  taken_byte =
      let above : added / 2 ^ 8 ≡ bit_and higher rests + rests = omega (arith, sum) in
      let here : added % 2 ^ 8 ≡ raised low = omega (arith, sum) in
      and_byte (bit_or n added) mask 128 (omega arith)
      ∙ ap₂ (λ (x y : ℕ). bit_and x mask * 2 ^ 8 + bit_and y 128)
      (or_shr n added 8 ∙ ap (bit_or higher) above)
      (or_mod n added 8 ∙ ap (bit_or low) here)
      ∙ ap (λ (x : ℕ). taken higher mask rests * 2 ^ 8 + x) (highest low (mod-lt n (pow_pos 8)) (ℕ_discrete low 0))

-- ---- the zeros below the lowest bit

trailing_shifted : (j k a : ℕ) → count_trailing_zeros (j + k) (a * 2 ^ j) ≡ j + count_trailing_zeros k a
unfolding count_trailing_zeros
trailing_shifted zero k a = rw (zero-add k, zero-add (count_trailing_zeros k a), mul-one a)
trailing_shifted (suc j) k a =
    rw (suc-add j k, suc-add j (count_trailing_zeros k a), shifted_even a j, shifted_half a j) (ap suc (trailing_shifted j k a))

module _ (k a : ℕ) where
  trailing_odd : count_trailing_zeros (suc k) (2 * a + 1) ≡ 0
  unfolding count_trailing_zeros
  trailing_odd = let odd : (2 * a + 1) % 2 ≡ 1 = omega arith in rw odd

  -- below a lowest byte of 128 there are seven zeros; a lowest byte of 0 is eight, and those of the higher bytes come to them
  trailing_byte : (t : Bool) → count_trailing_zeros (8 + k) (a * 2 ^ 8 + cond t 128 0) / 8 ≡ cond t 0 (suc (count_trailing_zeros k a / 8))
  trailing_byte true =
      let digits : 8 + k ≡ 7 + suc k = omega arith in
      let shifted : a * 2 ^ 8 + 128 ≡ (2 * a + 1) * 2 ^ 7 = omega arith in
      rw (digits, shifted, trailing_shifted 7 (suc k) (2 * a + 1), trailing_odd)
  trailing_byte false = rw (add-zero (a * 2 ^ 8), trailing_shifted 8 k a) (omega arith)

-- ---- the first byte that is 0

-- in n of k digits: how many bytes stand below the lowest bit of `all` that is not taken
abbrev first : ℕ → ℕ → ℕ → ℕ → ℕ → ℕ
first k n mask rests all = count_trailing_zeros k (bit_xor (taken n mask rests) all) / 8

exchanged_lt : (t : Bool) → cond t 0 128 < 2 ^ 8
exchanged_lt true = omega arith
exchanged_lt false = omega arith

-- the bit of a byte is left where it is not taken
exchanged : (t : Bool) → bit_xor (cond t 0 128) 128 ≡ cond t 128 0
exchanged true = refl
exchanged false = refl

module _ (k n mask rests all : ℕ) where
  first_byte :
      first (8 + k) n (mask * 2 ^ 8 + 128) (rests * 2 ^ 8 + 127) (all * 2 ^ 8 + 128)
      ≡ cond (eqb (n % 2 ^ 8) 0) 0 (suc (first k (n / 2 ^ 8) mask rests all))
  first_byte =
      let t : Bool = eqb (n % 2 ^ 8) 0 in
      let bits : ℕ = taken (n / 2 ^ 8) mask rests in
      ap (λ (x : ℕ). count_trailing_zeros (8 + k) x / 8)
      (ap (λ (x : ℕ). bit_xor x (all * 2 ^ 8 + 128)) (taken_byte n mask rests)
      ∙ xor_block 8 bits all (cond t 0 128) 128 (exchanged_lt t) (omega arith)
      ∙ ap (λ (x : ℕ). bit_xor bits all * 2 ^ 8 + x) (exchanged t))
      ∙ trailing_byte k (bit_xor bits all) t

-- ---- the first empty slot

-- a choice that counts up is a choice of numbers
counted : (t u v : Bool) → cond t 0 (suc (cond u 0 (suc (cond v 0 1)))) ≡ cond t 0 (cond u 1 (cond v 2 3))
counted true u v = refl
counted false true v = refl
counted false false true = refl
counted false false false = refl

module _ (w : ℕ) where
  abbrev empty : ℕ → Bool
  empty k = eqb (w / 2 ^ k % 2 ^ 8) 0

  -- §14.11: what `first_empty` makes of a word
  pub first_empty_by_masks : first 32 (w / 2 ^ 32) 0x0080_8080 0x007F_7F7F 0x8080_8080 ≡ first_empty w
  unfolding first_empty mark_of count_trailing_zeros
  first_empty_by_masks =
      rw (
        first_byte 24 (w / 2 ^ 32) 0x8080 0x7F7F 0x80_8080,
        shr-shr w 32 8,
        first_byte 16 (w / 2 ^ 40) 0x80 0x7F 0x8080,
        shr-shr w 40 8,
        first_byte 8 (w / 2 ^ 48) 0 0 0x80,
        and_zero_r (bit_or _ _),
      ) (counted (empty 32) (empty 40) (empty 48))
