-- As many of the words as the loop has come to are written.
use Rattle.std.proofs.Common.{take}
use Rattle.pen.specs.Written.{Writes}
use Rattle.pen.proofs.Pen.words.Given as goal

abbrev pub invariant-loop-byte : goal.invariant-loop-byte
invariant-loop-byte l = Writes l.fn.self (take l.byte-index l.said) l.self
