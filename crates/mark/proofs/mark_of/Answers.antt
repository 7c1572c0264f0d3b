use Rattle.std.proofs.Common.{◌/◌}
use lib.Bits.{and_mask}
use Rattle.mark.specs.Word.{unit, mark_of}
use Rattle.mark.proofs.Choices.{choices}
use Rattle.mark.proofs.Slots.{mark_at_lem}
use Rattle.mark.proofs.mark_of.Goals as goal

pub returns-then-slot-ge-NO_SLOT : goal.returns-then-slot-ge-NO_SLOT
unfolding mark_of
returns-then-slot-ge-NO_SLOT c = search choices

pub returns : goal.returns
returns c =
    let a = c.args in
    rw (c.mark_shift.ensures, mark_at_lem a.word a.slot c.if-slot-ge-NO_SLOT.false) (and_mask (a.word / unit a.slot) 8)
