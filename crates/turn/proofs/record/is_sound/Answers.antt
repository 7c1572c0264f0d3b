use borrow.Author.Tests.{le-leb, lt-leb, ne_eqb}
use Rattle.turn.specs.Worker.{may_stand, fits, sound}
use Rattle.turn.proofs.record.is_sound.Goals as goal

pub returns-then-w-gt2 : goal.returns-then-w-gt2
unfolding sound fits may_stand
returns-then-w-gt2 c = rw (lt-leb _ 2 c.if-w-gt2.true)

pub returns-then-w-eq-INSERT : goal.returns-then-w-eq-INSERT
unfolding sound fits may_stand
returns-then-w-eq-INSERT c = rw (le-leb _ 2 c.if-w-gt2.false, c.if-w-eq-INSERT.true) c.insert_fits.ensures

pub returns-then-w-eq-LOOK : goal.returns-then-w-eq-LOOK
unfolding sound fits may_stand
returns-then-w-eq-LOOK c = rw (le-leb _ 2 c.if-w-gt2.false, c.if-w-eq-LOOK.true) c.look_fits.ensures

pub returns-then-w-eq-REMOVE : goal.returns-then-w-eq-REMOVE
unfolding sound fits may_stand
returns-then-w-eq-REMOVE c = rw (le-leb _ 2 c.if-w-gt2.false, c.if-w-eq-REMOVE.true) c.remove_fits.ensures

pub returns : goal.returns
unfolding sound fits may_stand
returns c =
    rw (
      le-leb _ 2 c.if-w-gt2.false,
      ne_eqb _ 1 c.if-w-eq-LOOK.false,
      ne_eqb _ 2 c.if-w-eq-INSERT.false,
      ne_eqb _ 3 c.if-w-eq-REMOVE.false,
    )
