use borrow.Author.Tests.{eq-eqb, ne_eqb}
use Rattle.hall.specs.Index.{followed}
use Rattle.hall.proofs.display.follow.Goals as goal

pub returns-then-before-after : goal.returns-then-before-after
unfolding followed
returns-then-before-after c = rw (eq-eqb c.args.before c.args.after c.if-before-after.true)

pub returns : goal.returns
unfolding followed
returns c =
    rw (ne_eqb c.args.before c.args.after c.if-before-after.false, c.with_bit.ensures, c.valid_slots-is.ensures.0, c.valid_slots-was.ensures.0)
