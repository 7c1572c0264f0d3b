use Rattle.std.proofs.Common.{◌-◌, length}
use Rattle.schedule.proofs.Turning.{Listing}
use Rattle.schedule.proofs.turns.list.Given as goal

abbrev pub invariant-loop-worker : goal.invariant-loop-worker
invariant-loop-worker l = Listing l.initial.text l.fn.pen l.text l.pen

abbrev pub decreases-loop-worker : goal.decreases-loop-worker
decreases-loop-worker l = length l.text.text.now - l.text.at
