use Rattle.std.proofs.Common.{replicate}
use Rattle.pen.specs.Written.{Writes}
use Rattle.schedule.proofs.turns.repeat.Given as goal

abbrev pub invariant-loop : goal.invariant-loop
invariant-loop l = Writes l.fn.pen (replicate l.counter l.byte) l.pen
