-- The scenes so far refused nothing, and none of them was the last.
use Rattle.std.proofs.Common.{◌-◌, ◌≡◌, length}
use Rattle.turn.specs.Turn.{after}
use Rattle.view.proofs.Playing.{Accepted}
use Rattle.view.proofs.show.last.Given as goal

abbrev pub invariant-loop-stage : goal.invariant-loop-stage
invariant-loop-stage l = Accepted l.fn.sheet l.fn.board (after l.board l.stage) × (length l.board ≡ length l.fn.board)

abbrev pub decreases-loop-stage : goal.decreases-loop-stage
decreases-loop-stage l = length l.sheet - l.stage.cursor.turn
