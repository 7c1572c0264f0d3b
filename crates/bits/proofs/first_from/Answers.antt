use Rattle.std.proofs.Common.{ℕ, ◌<◌, sym, subst, lt-ltb, le-ltb}
use Rattle.bits.specs.Bits.{first_from}
use Rattle.bits.proofs.Zeros.{first_none, first_some, some_under}
use Rattle.bits.proofs.first_from.Goals as goal

pub returns-then-bit-ge-BITS : goal.returns-then-bit-ge-BITS
unfolding first_from
returns-then-bit-ge-BITS c = rw (le-ltb c.args.bit 64 c.if-bit-ge-BITS.true)

pub returns-then-above-eq0 : goal.returns-then-above-eq0
unfolding first_from
returns-then-above-eq0 c =
    let bit = c.if-bit-ge-BITS.false in
    rw (lt-ltb c.args.bit 64 bit, ← first_none c.args.word c.args.bit c.ranges.word.fits bit c.if-above-eq0.true)

pub returns : goal.returns
unfolding first_from
returns c =
    let bit = c.if-bit-ge-BITS.false in
    let some = c.if-above-eq0.false in
    rw (
      lt-ltb c.args.bit 64 bit,
      ← first_some c.args.word c.args.bit c.ranges.word.fits bit some,
      lt-ltb _ 64 (subst (λ (n : ℕ). n < 64) (sym (first_some c.args.word c.args.bit c.ranges.word.fits bit some)) (some_under c.args.word c.args.bit c.ranges.word.fits bit some)),
    )
