-- What is left to run from here comes to what the whole comes to.
use Rattle.std.proofs.Common.{length}
use Rattle.floor.proofs.Underway.{Underway}
use Rattle.floor.proofs.desk_run.Given as goal

abbrev pub invariant-loop-worker : goal.invariant-loop-worker
invariant-loop-worker l =
    Underway l.floor l.turns l.fn.board l.fn.records l.fn.index
    (record { totals = l.totals; at = l.worker-index; end = length l.turns; last = l.last; stop = 0 }) l.board l.records l.index
