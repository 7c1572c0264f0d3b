use Rattle.std.proofs.Common.{refl, ◌∙◌}
use Rattle.std.proofs.lemmas.Result.{err_from_is_err_and}
use Rattle.turn.proofs.Refusing.{number_some}
use Rattle.engine.proofs.Seats.{seat_first, seat_after}
use Rattle.engine.proofs.start_refusal.Goals as goal

pub returns-in_err-seat_refusal : goal.returns-in_err-seat_refusal
returns-in_err-seat_refusal c =
    let p = err_from_is_err_and c.from_residual.result c.from_residual.ensures.1 in
    rw (p.1, p.2) (seat_first _ _ _ _ _ c.in_err-seat_refusal.ensures _ (number_some _))

pub returns : goal.returns
returns c = c.record_refusal.ensures ∙ seat_after _ _ _ _ _ c.in_ok-seat_refusal.ensures _ refl
