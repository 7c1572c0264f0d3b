-- The bytes of a field that was read are those of the sheet. Assumes nothing.
use Prim.Native.Nat.{ℕ, zero, suc, ◌+◌, ◌*◌, ◌/◌, ◌%◌, ◌≤◌, ◌<◌}
use mathlib.Core.Path.{◌≡◌, refl, sym, ap, ◌∙◌}
use mathlib.Core.List.{List, ◌∷◌, ◌++◌}
use native.Mathlib.Nat.{add-zero}
use native.Mathlib.Numerals.{add-one}
use native.Mathlib.Omega.{arith}
use lib.ListN.{length, take, drop, length-drop}
use lib.Seq.{take-suc, drop-cons, get_or-drop, take-add, drop-drop, length-take-le}
use Rattle.sheet.specs.Fields.{byte_at, number_at, length_at, Bytes}
use Rattle.schedule.specs.Bytes.{high_first, field}

-- so many bytes of a sheet from a place on
abbrev pub part : List ℕ → ℕ → ℕ → List ℕ
part sheet at long = take long (drop at sheet)

-- one part after another
pub part_then :
    (sheet : List ℕ) (at long next more : ℕ) → at + long ≡ next → part sheet at long ++ part sheet next more ≡ part sheet at (long + more)
part_then sheet at long next more is = rw (← is, ← drop-drop long at sheet) (sym (take-add long more (drop at sheet)))

-- a part that is there has its length
pub length_part : (sheet : List ℕ) (at long : ℕ) → at + long ≤ length sheet → length (part sheet at long) ≡ long
length_part sheet at long fits = let d = length-drop at sheet in length-take-le long (drop at sheet) (omega arith)

-- a part's first byte, and the others
pub part_cons :
    (sheet : List ℕ) (at next long : ℕ) → at + 1 ≡ next → at < length sheet → byte_at sheet at ∷ part sheet next long ≡ part sheet at (suc long)
part_cons sheet at next long is fits = rw (← is, add-one at, drop-cons sheet at 0 fits)

module _ (sheet : List ℕ) (bytes : Bytes sheet) where
  -- a number of so many bytes is those bytes
  pub number_bytes : (at k : ℕ) → at + k ≤ length sheet → high_first k (number_at sheet at k) ≡ part sheet at k
  unfolding high_first number_at
  number_bytes at zero fits = refl
  number_bytes at (suc k) fits =
      let n = number_at sheet at k in
      let b = byte_at sheet (at + k) in
      let small : b < 256 = bytes (at + k) in
      let high : (256 * n + b) / 256 ≡ n = omega arith in
      let low : (256 * n + b) % 256 ≡ b = omega arith in
      let d = length-drop at sheet in
      rw (high, low, number_bytes at k (omega arith), take-suc (drop at sheet) k 0 (omega arith), get_or-drop at sheet k 0)

  -- one byte
  pub byte_bytes : (at : ℕ) → at + 1 ≤ length sheet → high_first 1 (byte_at sheet at) ≡ part sheet at 1
  unfolding number_at
  byte_bytes at fits =
      let one : number_at sheet at 1 ≡ byte_at sheet at = rw (add-zero at) (omega arith) in
      rw (← one) (number_bytes at 1 fits)

  -- tag, length and value
  pub field_bytes :
      (tag at long : ℕ) (value : List ℕ)
      → byte_at sheet at ≡ tag
      → length_at sheet at ≡ long
      → at + 3 + long ≤ length sheet
      → value ≡ part sheet (at + 3) long
      → field tag value ≡ part sheet at (3 + long)
  field_bytes tag at long value is says fits all =
      let three : suc (2 + long) ≡ 3 + long = omega arith in
      let size : length value ≡ length_at sheet at = ap length all ∙ (length_part sheet (at + 3) long fits ∙ sym says) in
      rw (size, all, ← is, number_bytes (at + 1) 2 (omega arith), part_then sheet (at + 1) 2 (at + 3) long (omega arith))
      (part_cons sheet at (at + 1) (2 + long) refl (omega arith) ∙ ap (part sheet at) three)
