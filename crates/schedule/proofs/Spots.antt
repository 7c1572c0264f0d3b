-- The line and the column of a place, byte by byte. Assumes nothing.
use Prim.Native.Nat.{ℕ, ◌+◌, ◌-◌, ◌<◌, ◌≤◌}
use mathlib.Core.Bool.{Bool, true, false, cond}
use mathlib.Core.Path.{◌≡◌, refl, ap, ◌∙◌}
use mathlib.Core.List.{List, ◌∷◌}
use native.Mathlib.Numerals.{add-one}
use native.Mathlib.Omega.{arith}
use borrow.Author.Tests.{eq-eqb, ne_eqb}
use lib.ListN.{length, get_or, take, drop, drop_of_length-le}
use lib.Seq.{drop-cons}
use Rattle.schedule.specs.declared.Spot.{Spot}
use Rattle.schedule.specs.Saying.{spot_after, spot_of}

-- the bytes before a place
pub spot_starts : (text head : List ℕ) (at : ℕ) → head ≡ take (at - 0) text → spot_after (record { line = 1; column = 1 }) head ≡ spot_of text at
unfolding spot_of
spot_starts text head at is = let all : at - 0 ≡ at = omega arith in rw (is, all) refl

module _ (bytes : List ℕ) (i : ℕ) (s : Spot) where
  -- no byte is left
  pub spot_over : length bytes ≤ i → spot_after s (drop i bytes) ≡ s
  unfolding spot_after
  spot_over past = rw (drop_of_length-le bytes {i = i} past)

  module _ (inside : i < length bytes) where
    first : drop i bytes ≡ get_or bytes i 0 ∷ drop (i + 1) bytes
    first = rw (drop-cons bytes i 0 inside, add-one i)

    -- the spot behind the byte
    abbrev next : Bool → Spot
    next t = cond t (record { line = s.line + 1; column = 1 }) (record { line = s.line; column = s.column + 1 })

    -- the end of a line
    pub spot_line : get_or bytes i 0 ≡ 10 → spot_after s (drop i bytes) ≡ spot_after (next true) (drop (i + 1) bytes)
    unfolding spot_after
    spot_line is = ap (spot_after s) first ∙ ap (λ (t : Bool). spot_after (next t) (drop (i + 1) bytes)) (eq-eqb (get_or bytes i 0) 10 is)

    -- another byte
    pub spot_column : (get_or bytes i 0 ≡ 10 → ⊥) → spot_after s (drop i bytes) ≡ spot_after (next false) (drop (i + 1) bytes)
    unfolding spot_after
    spot_column other = ap (spot_after s) first ∙ ap (λ (t : Bool). spot_after (next t) (drop (i + 1) bytes)) (ne_eqb (get_or bytes i 0) 10 other)
