-- The laws of a word's bits: what setting one does to it and to the others. Assumes nothing.
use Prim.Native.Nat.{ℕ, ◌+◌, ◌-◌, ◌*◌, ◌/◌, ◌%◌, ◌^◌, ◌≤◌, ◌<◌}
use mathlib.Core.Bool.{Bool, true, false, cond}
use mathlib.Core.Path.{◌≡◌, refl, sym, ap, ◌∙◌}
use native.Mathlib.Nat.{mod-lt, add-mul, div-eq_of_lt, lt_of_lt_of_le}
use native.Mathlib.Decide.{dec_le}
use native.Mathlib.Omega.{arith}
use lib.Dec.{eqb}
use lib.Pow.{pow_pos, pow_mono, split, high, low, shr-shr, field, mod-mod-pow}
use borrow.Author.Tests.{lt-ltb}
use Rattle.bits.specs.Bits.{is_set, with_bit}

-- a choice of 1 or 0 is less than 2, and tells which
pub one_lt : (on : Bool) → cond on 1 0 < 2
one_lt true = omega arith
one_lt false = omega arith

is_one : (on : Bool) → eqb (cond on 1 0) 1 ≡ on
is_one true = refl
is_one false = refl

-- a bit is told by what stands from it on, and by what stands up to it
set_above : (v w i j : ℕ) → v / 2 ^ i ≡ w / 2 ^ i → is_set v (i + j) ≡ is_set w (i + j)
unfolding is_set
set_above v w i j same =
    ap (λ (x : ℕ). eqb (x % 2) 1) (sym (shr-shr v i j) ∙ ap (λ (x : ℕ). x / 2 ^ j) same ∙ shr-shr w i j)

set_below : (v w j k : ℕ) → v % 2 ^ (k + (1 + j)) ≡ w % 2 ^ (k + (1 + j)) → is_set v j ≡ is_set w j
unfolding is_set
set_below v w j k same =
    ap (λ (x : ℕ). eqb x 1)
    (sym (field v 1 j)
    ∙ ap (λ (x : ℕ). x / 2 ^ j) (sym (mod-mod-pow v k (1 + j)) ∙ ap (λ (x : ℕ). x % 2 ^ (1 + j)) same ∙ mod-mod-pow w k (1 + j))
    ∙ field w 1 j)

module _ (w i : ℕ) (on : Bool) (bit : i < 64) where
  abbrev a : ℕ
  a = w / 2 ^ i / 2

  abbrev new : ℕ
  new = cond on 1 0

  -- above the bit, the bit, and below it
  parts : with_bit w i on ≡ (a * 2 + new) * 2 ^ i + w % 2 ^ i
  unfolding with_bit
  parts =
      let b : ℕ = w / 2 ^ i % 2 in
      let s : (a * 2 + b) * 2 ^ i + w % 2 ^ i ≡ w = ap (λ (x : ℕ). x * 2 ^ i + w % 2 ^ i) (omega arith) ∙ split w i in
      rw (lt-ltb i 64 bit) (omega (arith, add-mul (a * 2) b (2 ^ i), add-mul (a * 2) new (2 ^ i)))

  shifted : with_bit w i on / 2 ^ i ≡ a * 2 + new
  shifted = ap (λ (x : ℕ). x / 2 ^ i) parts ∙ high (a * 2 + new) i (mod-lt w (pow_pos i))

  below : with_bit w i on % 2 ^ i ≡ w % 2 ^ i
  below = ap (λ (x : ℕ). x % 2 ^ i) parts ∙ low (a * 2 + new) i (mod-lt w (pow_pos i))

  -- the bit itself
  pub bit_set : is_set (with_bit w i on) i ≡ on
  unfolding is_set
  bit_set =
      let low_bit : (a * 2 + new) % 2 ≡ new = omega (arith, one_lt on) in
      ap (λ (x : ℕ). eqb (x % 2) 1) shifted ∙ ap (λ (x : ℕ). eqb x 1) low_bit ∙ is_one on

  -- and every other
  pub bit_set_other : (j : ℕ) → (i ≡ j → ⊥) → is_set (with_bit w i on) j ≡ is_set w j
  bit_set_other j other = by (dec_le j i)
    where
      dropped : (a * 2 + new) / 2 ≡ a
      dropped = omega (arith, one_lt on)

      halved : with_bit w i on / 2 ^ (i + 1) ≡ w / 2 ^ (i + 1)
      halved =
          sym (shr-shr (with_bit w i on) i 1)
          ∙ ap (λ (x : ℕ). x / 2) shifted
          ∙ dropped
          ∙ shr-shr w i 1

      by : Dec (j ≤ i) → is_set (with_bit w i on) j ≡ is_set w j
      by (no above) =
          let is : j ≡ (i + 1) + (j - (i + 1)) = omega (arith, above) in
          rw is (set_above (with_bit w i on) w (i + 1) (j - (i + 1)) halved)
      by (yes up_to_lem) =
          let is : i ≡ (i - (1 + j)) + (1 + j) = omega (arith, other) in
          set_below (with_bit w i on) w j (i - (1 + j)) (ap (λ (n : ℕ). with_bit w i on % 2 ^ n) (sym is) ∙ below ∙ ap (λ (n : ℕ). w % 2 ^ n) is)

-- a bit past the last of a word is never set
pub bit_past : (w i : ℕ) → w < 2 ^ 64 → 64 ≤ i → is_set w i ≡ false
unfolding is_set
bit_past w i fits past = let none : w / 2 ^ i ≡ 0 = div-eq_of_lt (lt_of_lt_of_le fits (pow_mono {i = 64} {j = i} past)) in rw none
