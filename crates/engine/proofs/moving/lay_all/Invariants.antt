-- So many buckets are as the move leaves them, and the rest of the board is as it was. Assumes nothing.
use Rattle.std.proofs.Common.{◌≡◌, length}
use Rattle.engine.proofs.Filling.{left}
use Rattle.engine.proofs.Buckets.{laid}
use Rattle.engine.proofs.moving.lay_all.Given as goal

abbrev pub invariant-loop-b : goal.invariant-loop-b
invariant-loop-b l =
    (l.board ≡ laid (left l.old l.olds l.buckets l.version) l.fn.board l.b) × (length l.board ≡ length l.fn.board)
