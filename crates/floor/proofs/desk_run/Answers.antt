use Rattle.turn.proofs.Refusing.{number_some}
use Rattle.floor.proofs.Underway.{starts, stops_whole, counts, stops_at, over}
use Rattle.floor.proofs.desk_run.Goals as goal

pub returns-in-Err : goal.returns-in-Err
returns-in-Err c =
    rw (c.run.ensures, c.no_report-last.ensures, c.nothing-totals.ensures.whole, c.into.ensures)
    (stops_whole _ _ _ _ _ _ (number_some c.in-Err.why) c.in-Err.ensures.whole)

pub loop-worker-init : goal.loop-worker-init
loop-worker-init c = rw (c.nothing-totals.ensures.whole, c.no_report-last.ensures) (starts _ _ _ _ _ c.in_default.ensures.whole)

pub returns-in-Err-turn_at : goal.returns-in-Err-turn_at
returns-in-Err-turn_at c =
    let l = c.loop-worker in
    let t = c.turn_at in
    rw (c.run-in-Err-turn_at.ensures, c.into-in-Err-turn_at.ensures)
    (stops_at _ _ _ _ _ _ l.board l.records l.index l.invariant c.loop-worker-test.true _ _ _ _ t.auto.board t.auto.records t.auto.index _
    c.in-Err-turn_at.ensures.0 c.in-Err-turn_at.ensures.1)

pub loop-worker-preserved : goal.loop-worker-preserved
loop-worker-preserved c =
    let l = c.loop-worker in
    let t = c.turn_at in
    rw c.add-totals.ensures.whole
    (counts _ _ _ _ _ _ l.board l.records l.index l.invariant c.loop-worker-test.true 0 _ _ _ t.auto.board t.auto.records t.auto.index _
    c.in-Ok.ensures.0 c.in-Ok.ensures.1)

pub returns : goal.returns
returns c = rw c.run-2.ensures (over _ _ _ _ _ _ _ _ _ c.loop-worker.invariant c.loop-worker-test.false)
