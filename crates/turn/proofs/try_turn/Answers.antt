-- The mark word is read off the lent words before the step and after it. Assumes nothing.
use Rattle.std.proofs.Common.{length, sym, ap, ◌∙◌, arith}
use Rattle.std.proofs.lemmas.Result.{err_from_is_err_and}
use borrow.Author.Tests.{ne_eqb}
use Rattle.turn.specs.Places.{Step, turn}
use Rattle.turn.specs.Turn.{after, report_of, done, try_turn}
use Rattle.turn.proofs.Refusing.{number_some}
use Rattle.turn.proofs.Sound.{accepted, ready}
use Rattle.turn.proofs.Asleep.{awake_accepted}
use Rattle.turn.proofs.Cells.{turn_long}
use Rattle.turn.proofs.try_turn.Goals as goal

pub returns-in_err-turn_refusal : goal.returns-in_err-turn_refusal
unfolding try_turn
returns-in_err-turn_refusal c =
    let p = err_from_is_err_and c.from_residual.result c.from_residual.ensures.1 in
    rw (p.1, p.2, ← c.in_err-turn_refusal.ensures, ne_eqb _ 0 (number_some c.in_err-turn_refusal.field-0.0))

pub bounds-lent-0 : goal.bounds-lent-0
bounds-lent-0 c = omega (arith, (accepted _ _ (sym (c.in_ok-turn_refusal.ensures))).whole.eight)

pub step-stepped-requires : goal.step-stepped-requires
step-stepped-requires c = rw c.awake.ensures (ready _ _ (awake_accepted _ _ (accepted _ _ (sym (c.in_ok-turn_refusal.ensures)))))

pub bounds-lent-0-2 : goal.bounds-lent-0-2
bounds-lent-0-2 c =
    let same = ap (λ (x : Step). length x.bucket) c.step-stepped.ensures ∙ turn_long _ _ in
    omega (arith, same, (accepted _ _ (sym (c.in_ok-turn_refusal.ensures))).whole.eight)

pub returns : goal.returns
unfolding try_turn
returns c =
    let a = c.args in
    rw (← c.in_ok-turn_refusal.ensures, c.reported-report.ensures)
    (ap (λ (x : Step). after x.bucket (done x.stepped.worker (report_of a.bucket a.lent.now x) a.w.place))
    (c.step-stepped.ensures ∙ ap (turn a.lent.now) c.awake.ensures))
