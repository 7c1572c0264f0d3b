use native.Mathlib.Omega.{arith}
use borrow.Author.Tests.{ne_eqb}
use Rattle.mark.proofs.Choices.{choices}
use Rattle.turn.proofs.retire.vacate.Goals as goal

pub bounds-lent-0 : goal.bounds-lent-0
bounds-lent-0 c = omega (arith, c.requires c.if-w-eq-NO_SLOT.false)

pub bounds-lent-0-2 : goal.bounds-lent-0-2
bounds-lent-0-2 c = omega (arith, c.requires c.if-w-eq-NO_SLOT.false)

pub returns : goal.returns
returns c = rw (ne_eqb _ 3 c.if-w-eq-NO_SLOT.false, c.with_next_version.ensures, c.with_mark.ensures)

pub returns-then-w-eq-NO_SLOT : goal.returns-then-w-eq-NO_SLOT
returns-then-w-eq-NO_SLOT c = search choices
