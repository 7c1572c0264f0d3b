-- The scenes of the page among those so far are told, and none of them was the last.
use Rattle.std.proofs.Common.{◌+◌, ◌*◌, ◌≤◌, ◌≡◌, length}
use Rattle.turn.specs.Turn.{after}
use Rattle.pen.specs.Written.{Writes}
use Rattle.view.specs.Scenes.{scenes_on}
use Rattle.view.proofs.Playing.{Playing, told_on}
use Rattle.view.proofs.show.page.Given as goal

abbrev pub invariant-loop-n : goal.invariant-loop-n
invariant-loop-n l =
    Playing l.fn.sheet l.fn.board l.n (after l.board l.stage)
    × Writes l.fn.pen (told_on (scenes_on l.fn.sheet l.fn.board) l.page l.n) l.pen
    × (l.n ≤ 1024 * l.page + 1024)
    × (length l.board ≡ length l.fn.board)
