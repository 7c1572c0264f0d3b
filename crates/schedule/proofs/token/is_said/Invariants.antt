use Rattle.schedule.proofs.Letters.{Left}
use Rattle.schedule.proofs.token.is_said.Given as goal

abbrev pub invariant-loop-byte : goal.invariant-loop-byte
invariant-loop-byte l = Left l.word l.said l.byte-iterator.a.rest.now l.byte-iterator.b.rest.now
