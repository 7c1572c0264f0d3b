use Rattle.std.proofs.Common.{refl}
use Rattle.std.proofs.lemmas.Result.{err_from_is_err_and}
use Rattle.turn.proofs.Refusing.{number_some}
use Rattle.sheet.proofs.Going.{going_starts, going_over, going_ready, going_refused, going_next}
use Rattle.sheet.proofs.Desk.turns.Goals as goal

pub loop-worker-init : goal.loop-worker-init
loop-worker-init c = going_starts _ _ _ _ c.requires.0 c.requires.1

pub turn-requires : goal.turn-requires
turn-requires c = going_ready _ _ _ _ _ _ _ _ c.loop-worker.invariant c.loop-worker-test.true

pub returns-in_err-turn : goal.returns-in_err-turn
returns-in_err-turn c =
    let p = err_from_is_err_and c.from_residual.result c.from_residual.ensures.1 in
    rw (p.1, p.2)
    (going_refused _ _ _ _ _ _ _ _ c.loop-worker.invariant c.loop-worker-test.true _ _ _ _ c.in_err-turn.ensures (number_some _))

pub loop-worker-preserved : goal.loop-worker-preserved
loop-worker-preserved c =
    going_next _ _ _ _ _ _ _ _ c.loop-worker.invariant c.loop-worker-test.true _ _ _ _ c.in_ok-turn.ensures refl

pub returns : goal.returns
returns c = going_over _ _ _ _ _ _ _ _ c.loop-worker.invariant c.loop-worker-test.false
