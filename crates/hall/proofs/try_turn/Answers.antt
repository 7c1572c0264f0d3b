use Rattle.std.proofs.Common.{sym, ◌∙◌}
use Rattle.std.proofs.lemmas.Result.{err_from_is_err_and}
use Rattle.turn.specs.declared.refusal.Refusal.TheVariants.{WrongSizes, UntrueIndex}
use Rattle.turn.proofs.Refusing.{number_some}
use borrow.Author.Tests.{ne_eqb}
use Rattle.hall.proofs.Numbers.{five_sized, sized_none, short_sized}
use Rattle.hall.proofs.Turns.{wrong_turn, both, untrue_turn, refused_turn, done_turn, done_follows}
use Rattle.hall.proofs.try_turn.Goals as goal

pub returns-in_default : goal.returns-in_default
returns-in_default c =
    let a = c.args in
    wrong_turn _ _ _ _ WrongSizes (short_sized a.seat.floor a.board.now a.index.now a.seat.listed c.in_default.ensures.cases)

pub returns-in_err-run_refusal : goal.returns-in_err-run_refusal
returns-in_err-run_refusal c =
    let p = err_from_is_err_and c.from_residual.result c.from_residual.ensures.1 in
    let a = c.args in
    let is = c.in-Some.ensures.cases in
    rw (p.1, p.2, is.same)
    (wrong_turn _ _ _ _ c.in_err-run_refusal.field-0.0
    (c.in_err-run_refusal.ensures.whole ∙ five_sized a.seat.floor a.board.now a.index.now a.seat.listed is.long))

pub is_untrue_for-requires : goal.is_untrue_for-requires
is_untrue_for-requires c =
    let a = c.args in
    (both _ _ a.seat a.w (sized_none a.seat.floor a.board.now a.index.now a.seat.listed c.in-Some.ensures.cases.long c.in_ok-run_refusal.ensures.whole)).1

pub returns-in_err-turn_refusal : goal.returns-in_err-turn_refusal
returns-in_err-turn_refusal c =
    let p = err_from_is_err_and c.from_residual-in_err-turn_refusal.result c.from_residual-in_err-turn_refusal.ensures.1 in
    let a = c.args in
    let is = c.in-Some.ensures.cases in
    let why = c.in_err-turn_refusal.field-0.0 in
    rw (p.1, p.2, is.same)
    (untrue_turn _ _ _ _ (sized_none a.seat.floor a.board.now a.index.now a.seat.listed is.long c.in_ok-run_refusal.ensures.whole) why
    (rw is.same at (sym c.if-is_untrue_for.ensures)) (rw (← c.in_err-turn_refusal.ensures.whole, ne_eqb _ 0 (number_some why))))

pub returns-then-is_untrue_for : goal.returns-then-is_untrue_for
returns-then-is_untrue_for c =
    let a = c.args in
    let is = c.in-Some.ensures.cases in
    rw is.same
    (untrue_turn _ _ _ _ (sized_none a.seat.floor a.board.now a.index.now a.seat.listed is.long c.in_ok-run_refusal.ensures.whole) UntrueIndex
    (rw is.same at (sym c.if-is_untrue_for.ensures)) (rw (← c.in_ok-turn_refusal.ensures.whole)))

pub returns-in_err-done : goal.returns-in_err-done
returns-in_err-done c =
    let p = err_from_is_err_and c.from_residual-in_err-done.result c.from_residual-in_err-done.ensures.1 in
    let a = c.args in
    let is = c.in-Some.ensures.cases in
    rw (p.1, p.2, is.same)
    (refused_turn _ _ _ _ (sized_none a.seat.floor a.board.now a.index.now a.seat.listed is.long c.in_ok-run_refusal.ensures.whole) _ _
    (rw is.same at (sym c.if-is_untrue_for.ensures)) c.in_err-done.ensures.whole)

pub follow-requires : goal.follow-requires
follow-requires c =
    let a = c.args in
    let is = c.in-Some.ensures.cases in
    rw is.same
    (done_follows _ _ _ _ (sized_none a.seat.floor a.board.now a.index.now a.seat.listed is.long c.in_ok-run_refusal.ensures.whole) _ _
    (rw is.same at (sym c.if-is_untrue_for.ensures)) c.in_ok-done.ensures.whole)

pub returns : goal.returns
returns c =
    let a = c.args in
    let is = c.in-Some.ensures.cases in
    done_turn _ _ _ _ (sized_none a.seat.floor a.board.now a.index.now a.seat.listed is.long c.in_ok-run_refusal.ensures.whole) _ _
    (rw is.same at (sym c.if-is_untrue_for.ensures)) c.in_ok-done.ensures.whole _ (rw is.same at c.follow.ensures)
