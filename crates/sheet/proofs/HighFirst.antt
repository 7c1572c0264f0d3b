-- Numbers of so many bytes, high byte first: the next byte, and how large they get. Assumes nothing.
use Prim.Native.Nat.{ℕ, zero, suc, ◌+◌, ◌-◌, ◌*◌, ◌^◌, ◌≤◌, ◌<◌}
use mathlib.Core.Path.{◌≡◌, ◌∙◌}
use mathlib.Core.List.{List}
use native.Mathlib.Nat.{pow-suc, pow-le-pow_right}
use native.Mathlib.Numerals.{add-one}
use native.Mathlib.Omega.{arith}
use lib.ListN.{length, get_or, take, drop, length-take}
use Rattle.std.proofs.lemmas.List.{get_or-take, get_or-drop}
use Rattle.sheet.specs.Fields.{byte_at, Bytes, number_at}

-- one byte more
pub number_next : (sheet : List ℕ) (at i : ℕ) → 256 * number_at sheet at i + byte_at sheet (at + i) ≡ number_at sheet at (i + 1)
unfolding number_at
number_next sheet at i = rw add-one

-- the byte at a place of a part
pub part_byte : (sheet : List ℕ) (at n i : ℕ) → i < length (take (at + n - at) (drop at sheet)) → get_or (take (at + n - at) (drop at sheet)) i 0 ≡ byte_at sheet (at + i)
part_byte sheet at n i inside =
    get_or-take (at + n - at) (drop at sheet) i 0 (let e = rw length-take at inside in omega (arith, e)) ∙ get_or-drop at sheet i 0

-- there are no more of them than it has
pub part_short : (sheet : List ℕ) (at n i : ℕ) → i < length (take (at + n - at) (drop at sheet)) → i < n
part_short sheet at n i inside = let e = rw length-take at inside in omega (arith, e)

module _ (i n : ℕ) (small : n < 256 ^ i) where
  -- a number with one byte more has one byte more of room
  pub next_small : (b : ℕ) → b < 256 → 256 * n + b < 256 ^ (i + 1)
  next_small b byte = rw (add-one, pow-suc) (omega arith)

  -- below 8 bytes there is room for one more in 64 bits
  pub room_for_byte : i < 8 → n < 256 ^ 7
  room_for_byte short = let most : 256 ^ i ≤ 256 ^ 7 = pow-le-pow_right {n = 256} (omega arith) {i = i} {j = 7} (omega arith) in omega arith

-- a number of so many bytes is below that power of 256
pub number_small : (sheet : List ℕ) → Bytes sheet → (at n : ℕ) → number_at sheet at n < 256 ^ n
unfolding number_at
number_small sheet bytes at zero = omega arith
number_small sheet bytes at (suc n) = rw pow-suc (omega (arith, number_small sheet bytes at n, bytes (at + n)))
