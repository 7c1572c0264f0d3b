use borrow.Author.Tests.{eq-eqb, ne_eqb}
use Rattle.schedule.specs.Bytes.{high_first}
use Rattle.schedule.proofs.field.call.Goals as goal

pub returns-then-call-ne-INSERT : goal.returns-then-call-ne-INSERT
unfolding high_first
returns-then-call-ne-INSERT c = rw (ne_eqb _ 2 c.if-call-ne-INSERT.true) c.call_of.ensures

pub returns-then-long : goal.returns-then-long
unfolding high_first
returns-then-long c = rw (eq-eqb _ 2 c.if-call-ne-INSERT.false, c.if-long.true) c.call_of-then-long.ensures

pub returns-else-long : goal.returns-else-long
unfolding high_first
returns-else-long c = rw (eq-eqb _ 2 c.if-call-ne-INSERT.false, c.if-long.false) c.call_of-else-long.ensures
