use Rattle.std.proofs.Common.{◌+◌, ◌≡◌, drop}
use Rattle.schedule.specs.Writing.{same_as}
use Rattle.schedule.proofs.writing.same_as.Given as goal

abbrev pub invariant-loop-i : goal.invariant-loop-i
invariant-loop-i l = l.i + same_as l.worker (drop l.i l.turns) ≡ same_as l.worker l.turns
