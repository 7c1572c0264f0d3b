use Rattle.std.proofs.Common.{length}
use Rattle.schedule.proofs.Runs.{Telling}
use Rattle.schedule.proofs.writing.turns.Given as goal

abbrev pub invariant-loop-worker : goal.invariant-loop-worker
invariant-loop-worker l = Telling l.turns l.initial.pen l.pen l.rest

abbrev pub decreases-loop-worker : goal.decreases-loop-worker
decreases-loop-worker l = length l.rest
