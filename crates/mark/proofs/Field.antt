-- A field of a 64-bit word replaced by shifts and masks, in plain arithmetic. It starts at bit k, and is d bits wide. Assumes nothing.
use Rattle.std.proofs.Common.{◌≡◌, ℕ, ◌+◌, ◌-◌, ◌*◌, ◌/◌, ◌%◌, ◌^◌, ◌<◌, ◌≤◌, sym, ap, ◌∙◌, subst, ap₂, add-zero, mod-lt, mod-eq_of_lt, add-mul, arith, pow_pos, pow_mono, pow-add, shl_exact, shr-shr, shr_lt}
use lib.Pow.{split, ones_lt}
use lib.Bits.{bit_and, bit_or, and_mask, and_high, and_block, or_block, or_shifted, or_zero_r}

module _ (w k d : ℕ) (fits : w < 2 ^ 64) (room : d + k ≤ 64) where
  -- how many bits stand above it
  abbrev j : ℕ
  j = 64 - (d + k)

  -- the mask that clears it: every bit above it, and every bit below it
  mask : (2 ^ 64 - 1) - (2 ^ d - 1) * 2 ^ k ≡ (2 ^ (j + d) - 2 ^ d) * 2 ^ k + (2 ^ k - 1)
  mask =
      let e : (j + d) + k ≡ 64 = omega arith in
      let q : 2 ^ 64 ≡ 2 ^ (j + d) * 2 ^ k = ap (λ (n : ℕ). 2 ^ n) (sym e) ∙ pow-add 2 (j + d) k in
      let m : 2 ^ d ≤ 2 ^ (j + d) = pow_mono {i = d} {j = j + d} (omega arith) in
      let p : 2 ^ (j + d) * 2 ^ k ≡ (2 ^ (j + d) - 2 ^ d) * 2 ^ k + 2 ^ d * 2 ^ k =
      ap (λ (n : ℕ). n * 2 ^ k) (omega arith) ∙ add-mul (2 ^ (j + d) - 2 ^ d) (2 ^ d) (2 ^ k) in
      let one : 2 ^ d * 2 ^ k ≡ (2 ^ d - 1) * 2 ^ k + 1 * 2 ^ k =
      ap (λ (n : ℕ). n * 2 ^ k) (omega (arith, pow_pos d)) ∙ add-mul (2 ^ d - 1) 1 (2 ^ k) in
      omega (arith, pow_pos k)

  cleared : bit_and w ((2 ^ 64 - 1) - (2 ^ d - 1) * 2 ^ k) ≡ (w / 2 ^ k / 2 ^ d * 2 ^ d) * 2 ^ k + w % 2 ^ k
  cleared =
      let e : j + (k + d) ≡ 64 = omega arith in
      let top : w / 2 ^ k / 2 ^ d < 2 ^ j =
      subst (λ (n : ℕ). n < 2 ^ j) (sym (shr-shr w k d)) (shr_lt j (k + d) (subst (λ (n : ℕ). w < 2 ^ n) (sym e) fits)) in
      ap₂ bit_and (sym (split w k)) mask
      ∙ and_block k (w / 2 ^ k) (2 ^ (j + d) - 2 ^ d) (w % 2 ^ k) (2 ^ k - 1) (mod-lt w (pow_pos k)) (ones_lt k)
      ∙ ap₂ (λ (x y : ℕ). x * 2 ^ k + y)
      (and_high (w / 2 ^ k) j d ∙ ap (λ (x : ℕ). x * 2 ^ d) (mod-eq_of_lt top))
      (and_mask (w % 2 ^ k) k ∙ mod-eq_of_lt (mod-lt w (pow_pos k)))

  -- §14.11: what `with_mark` makes of a word
  pub field_set :
      (m : ℕ)
      → m < 2 ^ d
      → bit_or (bit_and w ((2 ^ 64 - 1) - (2 ^ d - 1) * 2 ^ k % 2 ^ 64)) (m * 2 ^ k % 2 ^ 64) ≡ w - (w / 2 ^ k % 2 ^ d) * 2 ^ k + m * 2 ^ k
  field_set m within =
      let a : ℕ = w / 2 ^ k / 2 ^ d in
      let b : ℕ = w / 2 ^ k % 2 ^ d in
      let s : (a * 2 ^ d + b) * 2 ^ k + w % 2 ^ k ≡ w = ap (λ (x : ℕ). x * 2 ^ k + w % 2 ^ k) (split (w / 2 ^ k) d) ∙ split w k in
      ap₂ (λ (x y : ℕ). bit_or (bit_and w ((2 ^ 64 - 1) - x)) y) (shl_exact d k 64 (ones_lt d) room) (shl_exact d k 64 within room)
      ∙ ap₂ bit_or cleared (sym (add-zero (m * 2 ^ k)))
      ∙ or_block k (a * 2 ^ d) m (w % 2 ^ k) 0 (mod-lt w (pow_pos k)) (pow_pos k)
      ∙ ap₂ (λ (x y : ℕ). x * 2 ^ k + y) (or_shifted a d m within) (or_zero_r (w % 2 ^ k))
      ∙ omega (arith, add-mul (a * 2 ^ d) b (2 ^ k), add-mul (a * 2 ^ d) m (2 ^ k))
