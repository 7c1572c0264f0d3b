use Rattle.std.proofs.Common.{refl, ◌∙◌, arith}
use Rattle.view.proofs.Playing.{accepted_starts, accepted_next, accepted_last, played_beyond}
use Rattle.view.proofs.show.last.Goals as goal

pub loop-stage-init : goal.loop-stage-init
loop-stage-init c = (rw c.shut-stage.ensures (accepted_starts _ _), refl)

pub returns-then-stage : goal.returns-then-stage
returns-then-stage c = accepted_last _ _ _ _ c.loop-stage.invariant.0 c.next.ensures c.if-stage.true

pub loop-stage-smaller : goal.loop-stage-smaller
loop-stage-smaller c =
    let beyond = played_beyond _ _ _ _ _ c.loop-stage.invariant.0.playing c.next.ensures c.if-stage.false in
    omega (arith, beyond.further, beyond.within.turns, beyond.within.inside)

pub loop-stage-preserved : goal.loop-stage-preserved
loop-stage-preserved c =
    (accepted_next _ _ _ _ c.loop-stage.invariant.0 c.next.ensures c.if-stage.false, c.next.auto.board ∙ c.loop-stage.invariant.1)
