use Rattle.std.proofs.Common.{refl, ◌∙◌}
use Rattle.std.proofs.lemmas.Result.{err_from_is_err_and}
use Rattle.turn.proofs.Refusing.{number_some}
use Rattle.engine.specs.Refusals.{wrong_sizes, turn_number, each_number}
use Rattle.engine.proofs.Seats.{seat_first, seat_after, seat_right}
use Rattle.engine.proofs.turn_refusal.Goals as goal

pub returns-in_err-seat_refusal : goal.returns-in_err-seat_refusal
unfolding turn_number each_number wrong_sizes
returns-in_err-seat_refusal c =
    let p = err_from_is_err_and c.from_residual.result c.from_residual.ensures.1 in
    record { whole = rw (p.1, p.2) (seat_first _ _ _ _ _ c.in_err-seat_refusal.ensures _ (number_some _)) }

pub turn_refusal-requires : goal.turn_refusal-requires
unfolding turn_number each_number wrong_sizes
turn_refusal-requires c = seat_right _ _ _ _ _ c.in_ok-seat_refusal.ensures refl

pub returns : goal.returns
unfolding turn_number each_number wrong_sizes
returns c = record { whole = c.turn_refusal.ensures ∙ seat_after _ _ _ _ _ c.in_ok-seat_refusal.ensures _ refl }
