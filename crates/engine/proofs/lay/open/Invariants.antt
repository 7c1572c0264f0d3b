-- So many buckets are laid out, and the rest of the board is as it was. Assumes nothing.
use Rattle.std.proofs.Common.{◌≡◌, length}
use Rattle.engine.specs.Board.{opened_board}
use Rattle.engine.proofs.Buckets.{laid}
use Rattle.engine.proofs.lay.open.Given as goal

abbrev pub invariant-loop-b : goal.invariant-loop-b
invariant-loop-b l =
    (l.board ≡ laid (opened_board l.buckets l.version) l.fn.board l.b) × (length l.board ≡ length l.fn.board)
