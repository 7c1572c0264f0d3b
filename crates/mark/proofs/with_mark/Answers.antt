use Rattle.std.proofs.Common.{◌+◌, ◌*◌, arith}
use Rattle.mark.specs.Word.{set_mark}
use Rattle.mark.proofs.Field.{field_set}
use Rattle.mark.proofs.Choices.{choices}
use Rattle.mark.proofs.Slots.{set_at}
use Rattle.mark.proofs.with_mark.Goals as goal

pub returns-then-slot-ge-NO_SLOT : goal.returns-then-slot-ge-NO_SLOT
unfolding set_mark
returns-then-slot-ge-NO_SLOT c = search choices

pub returns : goal.returns
returns c =
    let a = c.args in
    rw (c.mark_shift-shift.ensures, set_at a.word a.slot c.if-slot-ge-NO_SLOT.false a.mark)
    (field_set a.word (32 + 8 * a.slot) 8 c.ranges.word.fits (omega arith) a.mark c.ranges.mark.fits)
