use Rattle.std.proofs.Common.{sym, ◌∙◌}
use Rattle.std.proofs.lemmas.Result.{err_from_is_err_and}
use Rattle.turn.specs.Turn.{turn_refusal}
use Rattle.turn.proofs.Refusing.{busy_stops, busy_passes}
use Rattle.turn.proofs.turn_refusal.Goals as goal

pub returns-in_err-busy_refusal : goal.returns-in_err-busy_refusal
unfolding turn_refusal
returns-in_err-busy_refusal c =
    let p = err_from_is_err_and c.from_residual.result c.from_residual.ensures.1 in
    rw (p.1, p.2) (busy_stops c.args.w _ _ (c.in_err-busy_refusal.ensures))

pub returns : goal.returns
unfolding turn_refusal
returns c = c.bucket_refusal.ensures ∙ sym (busy_passes c.args.w _ (c.in_ok-busy_refusal.ensures))
