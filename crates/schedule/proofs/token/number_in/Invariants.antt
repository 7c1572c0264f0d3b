use Rattle.schedule.proofs.Numbers.{Counted}
use Rattle.schedule.proofs.token.number_in.Given as goal

abbrev pub invariant-loop-byte : goal.invariant-loop-byte
invariant-loop-byte l = Counted l.digits l.n l.byte-index
