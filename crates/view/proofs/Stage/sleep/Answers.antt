use Rattle.std.proofs.Common.{◌≡◌, ℕ, ap, ◌∙◌, length, arith}
use Rattle.turn.specs.Asleep.{slept}
use Rattle.engine.specs.Firsts.{firsts}
use Rattle.engine.proofs.Firsts.{firsts_next, firsts_slept_lem}
use Rattle.view.proofs.Stage.sleep.Goals as goal

pub loop-w-preserved : goal.loop-w-preserved
loop-w-preserved c = rw (c.slept.ensures, c.loop-w.invariant) (firsts_next (λ k w. slept w) c.loop-w.w-index _)

pub returns : goal.returns
returns c =
    let records = c.args.self.now.records in
    let over : c.loop-w.w-index ≡ length records = omega arith in
    rw (c.loop-w.invariant ∙ ap (λ (n : ℕ). firsts (λ k w. slept w) n records) over ∙ firsts_slept_lem records)
