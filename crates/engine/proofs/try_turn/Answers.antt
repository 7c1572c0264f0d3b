use Rattle.std.proofs.Common.{refl, ap, ◌∙◌}
use Rattle.std.proofs.lemmas.Result.{err_from_is_err_and}
use Rattle.turn.proofs.Refusing.{number_some}
use Rattle.std.proofs.Common.{ℕ}
use borrow.Author.Tests.{ne_eqb}
use Rattle.engine.specs.Refusals.{wrong_sizes, each_number, turn_number}
use Rattle.engine.specs.Calls.{tried, try_call}
use Rattle.engine.proofs.Seats.{seat_first, seat_after, seat_right}
use Rattle.engine.proofs.Turns.{refused_tried}
use Rattle.engine.proofs.try_turn.Goals as goal

pub returns-in_err-seat_refusal : goal.returns-in_err-seat_refusal
unfolding try_call turn_number each_number wrong_sizes
returns-in_err-seat_refusal c =
    let p = err_from_is_err_and c.from_residual.result c.from_residual.ensures.1 in
    let a = c.args in
    let why = c.in_err-seat_refusal.field-0.0 in
    record {
      whole =
          rw (p.1, p.2)
          (refused_tried _ a.seat.floor a.board.now a.w _ (ne_eqb _ 0 (number_some why)) refl
          ∙ ap (λ (m : ℕ). tried m a.seat.floor a.board.now a.w) (seat_first _ _ _ _ _ c.in_err-seat_refusal.ensures _ (number_some why)));
    }

pub turn-requires : goal.turn-requires
unfolding try_call turn_number each_number wrong_sizes
turn-requires c = seat_right _ _ _ _ _ c.in_ok-seat_refusal.ensures refl

pub returns : goal.returns
unfolding try_call turn_number each_number wrong_sizes
returns c =
    let a = c.args in
    record { whole = c.turn.ensures ∙ ap (λ (m : ℕ). tried m a.seat.floor a.board.now a.w) (seat_after _ _ _ _ _ c.in_ok-seat_refusal.ensures _ refl) }
