-- The turns before this one are done.
use Rattle.sheet.proofs.Going.{Going}
use Rattle.sheet.proofs.Desk.turns.Given as goal

abbrev pub invariant-loop-worker : goal.invariant-loop-worker
invariant-loop-worker l = Going l.turns l.fn.board l.fn.self l.fn.pen l.board l.self l.pen l.worker-index
