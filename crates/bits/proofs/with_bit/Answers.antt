use Rattle.std.proofs.Common.{◌≡◌, Bool, true, false, cond, refl, arith, lt-ltb, le-ltb}
use mir.Val.{bool_byte}
use Rattle.mark.proofs.Field.{field_set}
use Rattle.bits.specs.Bits.{with_bit}
use Rattle.bits.proofs.Bit.{one_lt}
use Rattle.bits.proofs.with_bit.Goals as goal

pub returns-then-bit-ge-BITS : goal.returns-then-bit-ge-BITS
unfolding with_bit
returns-then-bit-ge-BITS c = rw (le-ltb c.args.bit 64 c.if-bit-ge-BITS.true)

-- a bit as the number that it is
bit_of : (on : Bool) → bool_byte on ≡ cond on 1 0
bit_of true = refl
bit_of false = refl

pub returns : goal.returns
unfolding with_bit
returns c =
    let a = c.args in
    rw (lt-ltb a.bit 64 c.if-bit-ge-BITS.false, bit_of a.on)
    (field_set a.word a.bit 1 c.ranges.word.fits (omega (arith, c.if-bit-ge-BITS.false)) _ (one_lt a.on))
