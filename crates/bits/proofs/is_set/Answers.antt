use Rattle.std.proofs.Common.{ℕ, ◌/◌, ◌^◌, eqb, le-ltb, sym, ap}
use lib.Bits.{and_mask}
use Rattle.bits.specs.Bits.{is_set}
use Rattle.bits.proofs.Bit.{bit_past}
use Rattle.bits.proofs.is_set.Goals as goal

pub returns-then-bit-lt-BITS : goal.returns-then-bit-lt-BITS
unfolding is_set
returns-then-bit-lt-BITS c = ap (λ (x : ℕ). eqb x 1) (and_mask (c.args.word / 2 ^ c.args.bit) 1)

pub returns-else-bit-lt-BITS : goal.returns-else-bit-lt-BITS
returns-else-bit-lt-BITS c =
    let past = c.if-bit-lt-BITS.false in
    rw (le-ltb c.args.bit 64 past) (sym (bit_past c.args.word c.args.bit c.ranges.word.fits past))
