use Rattle.std.proofs.Common.{sym, ◌∙◌, arith}
use Rattle.schedule.proofs.Runs.{same_one, same_other, same_over}
use Rattle.schedule.proofs.writing.same_as.Goals as goal

pub returns-then-turn-worker-clause-is : goal.returns-then-turn-worker-clause-is
returns-then-turn-worker-clause-is c = sym (same_other _ _ _ c.loop-i-test.true c.if-turn-worker.true) ∙ c.loop-i.invariant

pub loop-i-preserved : goal.loop-i-preserved
loop-i-preserved c = sym (same_one _ _ _ c.loop-i-test.true c.if-turn-worker.false) ∙ c.loop-i.invariant

pub returns-clause-is : goal.returns-clause-is
returns-clause-is c =
    let l = c.loop-i in
    omega (arith, l.auto.i-end, c.loop-i-test.false) ∙ sym (same_over _ _ c.args.worker c.loop-i-test.false) ∙ l.invariant
