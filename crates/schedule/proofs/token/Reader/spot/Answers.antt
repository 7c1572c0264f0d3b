use Rattle.std.proofs.Common.{arith, sym, ◌∙◌}
use Rattle.schedule.proofs.Spots.{spot_starts, spot_over, spot_line, spot_column}
use Rattle.schedule.proofs.token.Reader.spot.Goals.{then-byte-eq10, else-byte-eq10}
use Rattle.schedule.proofs.token.Reader.spot.Goals as goal

pub loop-byte-init : goal.loop-byte-init
loop-byte-init c = (spot_starts _ _ _ c.bytes-byte-items.ensures, omega arith, omega arith)

pub loop-byte-preserved : goal.loop-byte-preserved
loop-byte-preserved c =
    let l = c.loop-byte in
    elim c.if-byte-eq10.branch [
      | then-byte-eq10 w ↦ (rw w.spot-is (sym (spot_line _ _ l.spot c.loop-byte-test.true w.if-byte-eq10.true) ∙ l.invariant.0), rw w.spot-is (omega (arith, l.invariant)), rw w.spot-is (omega (arith, l.invariant)))
      | else-byte-eq10 w ↦ (rw w.spot-is (sym (spot_column _ _ l.spot c.loop-byte-test.true w.if-byte-eq10.false) ∙ l.invariant.0), rw w.spot-is (omega (arith, l.invariant)), rw w.spot-is (omega (arith, l.invariant)))
    ]

pub returns : goal.returns
returns c = let l = c.loop-byte in sym (spot_over _ _ l.spot c.loop-byte-test.false) ∙ l.invariant.0
