use Rattle.std.proofs.Common.{sym, ◌∙◌}
use Rattle.schedule.proofs.Spans.{span_on, span_off, span_all}
use Rattle.schedule.proofs.token.Reader.past.Goals as goal

pub returns-then-not-takes : goal.returns-then-not-takes
returns-then-not-takes c =
    sym (span_off _ _ _ c.loop-end-test.true (sym c.takes.ensures ∙ c.if-not-takes.true)) ∙ c.loop-end.invariant

pub loop-end-preserved : goal.loop-end-preserved
loop-end-preserved c =
    sym (span_on _ _ _ c.loop-end-test.true (sym c.takes.ensures ∙ c.if-not-takes.false)) ∙ c.loop-end.invariant

pub returns : goal.returns
returns c = let l = c.loop-end in span_all _ _ _ _ c.max.ensures l.auto.end-end c.loop-end-test.false l.invariant
