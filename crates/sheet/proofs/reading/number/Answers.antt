use Rattle.std.proofs.Common.{arith, refl, ◌∙◌, ◌+◌}
use Rattle.sheet.specs.Fields.{number_at}
use Rattle.sheet.proofs.HighFirst.{part_byte, part_short, number_next, next_small, room_for_byte}
use Rattle.sheet.proofs.reading.number.Goals as goal

pub loop-byte-init : goal.loop-byte-init
unfolding number_at
loop-byte-init c = (refl, omega arith)

pub overflow_mul-n : goal.overflow_mul-n
overflow_mul-n c =
    let short = part_short c.args.sheet.now c.args.at c.args.bytes _ c.loop-byte-test.true in
    let room = room_for_byte c.loop-byte.byte-index c.loop-byte.n c.loop-byte.invariant.1 (omega (arith, short, c.requires.0)) in
    omega (arith, room)

pub overflow_add-n : goal.overflow_add-n
overflow_add-n c =
    let short = part_short c.args.sheet.now c.args.at c.args.bytes _ c.loop-byte-test.true in
    let room = room_for_byte c.loop-byte.byte-index c.loop-byte.n c.loop-byte.invariant.1 (omega (arith, short, c.requires.0)) in
    let byte = c.from.ensures ∙ part_byte c.args.sheet.now c.args.at c.args.bytes _ c.loop-byte-test.true in
    omega (arith, room, byte, c.type_inv.sheet (c.args.at + c.loop-byte.byte-index))

pub loop-byte-preserved : goal.loop-byte-preserved
loop-byte-preserved c =
    let byte = c.from.ensures ∙ part_byte c.args.sheet.now c.args.at c.args.bytes _ c.loop-byte-test.true in
    (rw (c.loop-byte.invariant.0, byte) (number_next _ _ _), next_small _ _ c.loop-byte.invariant.1 _ (omega (arith, byte, c.type_inv.sheet (c.args.at + c.loop-byte.byte-index))))
