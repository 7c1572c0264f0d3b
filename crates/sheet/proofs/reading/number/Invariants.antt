-- The bytes before this one are read.
use Rattle.std.proofs.Common.{◌≡◌, ◌<◌, ◌^◌}
use Rattle.sheet.specs.Fields.{number_at}
use Rattle.sheet.proofs.reading.number.Given as goal

abbrev pub invariant-loop-byte : goal.invariant-loop-byte
invariant-loop-byte l = (l.n ≡ number_at l.sheet l.at l.byte-index) × (l.n < 256 ^ l.byte-index)
