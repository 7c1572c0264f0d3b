use Rattle.std.proofs.Common.{◌-◌, length}
use Rattle.schedule.proofs.Turning.{Counting}
use Rattle.schedule.proofs.turns.count.Given as goal

abbrev pub invariant-loop-times : goal.invariant-loop-times
invariant-loop-times l = Counting l.fn.text l.text l.count

abbrev pub decreases-loop-times : goal.decreases-loop-times
decreases-loop-times l = length l.text.text.now - l.text.at
