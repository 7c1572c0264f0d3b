-- The turns of a field that are left, one after another. Assumes nothing.
use Prim.Native.Nat.{ℕ, suc, ◌+◌, ◌-◌, ◌≤◌, ◌<◌}
use mathlib.Core.Path.{◌≡◌}
use mathlib.Core.List.{List, []}
use native.Mathlib.Numerals.{add-one}
use native.Mathlib.Omega.{arith}
use lib.ListN.{length, get_or, take, drop}
use lib.Seq.{drop-cons}
use Rattle.turn.specs.Turn.{After}
use Rattle.sheet.specs.Play.{Desk, outcome, turn_at_desk, and_then, turns_done}

module _ (sheet : List ℕ) (end : ℕ) where
  -- the turns from a place on
  abbrev pub turns_from : ℕ → List ℕ
  turns_from at = take (end - at) (drop at sheet)

  -- the turn at a place, and then the others
  pub turns_here :
      (at : ℕ) (s : After Desk)
      → at < end
      → end ≤ length sheet
      → turns_done (turns_from at) s ≡ and_then (turn_at_desk (get_or sheet at 0) s) (turns_done (turns_from (at + 1)))
  unfolding turns_done
  turns_here at s more inside =
      let k : end - at ≡ suc (end - suc at) = omega arith in
      rw (k, add-one at, drop-cons sheet at 0 (omega arith))

  -- no turn is left
  pub turns_over : (s : After Desk) → turns_done (turns_from end) s ≡ outcome [] s 0
  unfolding turns_done
  turns_over s = let none : end - end ≡ 0 = omega arith in rw none
