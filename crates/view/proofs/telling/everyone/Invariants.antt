-- The workers that the loop has come to are told.
use Rattle.std.proofs.Common.{take}
use Rattle.pen.specs.Written.{Writes}
use Rattle.view.specs.Telling.{busy_from}
use Rattle.view.proofs.telling.everyone.Given as goal

abbrev pub invariant-loop-i : goal.invariant-loop-i
invariant-loop-i l = Writes l.fn.pen (busy_from 0 (take l.i l.records)) l.pen
