use Rattle.std.proofs.Common.{sym, ◌∙◌, inl, inr}
use Rattle.schedule.proofs.Letters.{left_all, left_other, left_same, left_over}
use Rattle.schedule.proofs.token.is_said.Goals as goal

pub loop-byte-init : goal.loop-byte-init
loop-byte-init c =
    let z = c.zip-byte-items.ensures in
    rw (c.into_iter-byte-iterator.ensures.into_iter_gives, z.first, z.second.0, c.iter.ensures.rest) (left_all _ _)

pub returns-then-small-letter : goal.returns-then-small-letter
returns-then-small-letter c =
    let h = c.in-Some.ensures.steps in
    left_other c.loop-byte.invariant h.0 h.1 (λ is. c.if-small-letter.true (c.small.ensures ∙ is))

pub loop-byte-preserved : goal.loop-byte-preserved
loop-byte-preserved c =
    let h = c.in-Some.ensures.steps in
    left_same c.loop-byte.invariant h.0 h.1 (sym c.small.ensures ∙ c.if-small-letter.false)

pub returns : goal.returns
returns c =
    left_over _ _ c.loop-byte.invariant (elim c.in-None.ensures.steps [ inl a ↦ inl a.1.0 | inr b ↦ inr b.1.0 ])
