use Rattle.std.proofs.Common.{get_or, sym, ap, ◌∙◌}
use Rattle.engine.specs.Calls.{blank}
use Rattle.engine.specs.Move.{rest_with}
use Rattle.engine.proofs.Rest.{rest_none, rest_next, rest_all}
use Rattle.floor.proofs.list.rest_refusal.Goals as goal

pub loop-w-init : goal.loop-w-init
loop-w-init c = sym (rest_none c.args.records.now)

pub loop-w-preserved : goal.loop-w-preserved
loop-w-preserved c =
    let l = c.loop-w in
    c.rest_refusal-number.ensures.whole
    ∙ ap (λ n. rest_with n (get_or c.args.records.now l.w-index blank)) l.invariant
    ∙ sym (rest_next c.args.records.now l.w-index c.loop-w-test.true)

pub returns : goal.returns
returns c = c.loop-w.invariant ∙ rest_all c.args.records.now c.loop-w.w-index c.loop-w-test.false
