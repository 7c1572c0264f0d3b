use Rattle.std.proofs.Common.{sym, ◌∙◌}
use Rattle.std.proofs.lemmas.Result.{err_from_is_err_and}
use Rattle.turn.specs.declared.refusal.Refusal.TheVariants.{WrongSizes, UntrueIndex}
use Rattle.turn.proofs.Refusing.{number_some}
use borrow.Author.Tests.{ne_eqb}
use Rattle.hall.proofs.Numbers.{five_sized, sized_none, short_sized}
use Rattle.hall.proofs.Retirings.{wrong_retiring, both, untrue_retiring, refused_retiring, done_retiring, done_follows}
use Rattle.hall.proofs.retire.Goals as goal

pub returns-in_default : goal.returns-in_default
returns-in_default c =
    let a = c.args in
    wrong_retiring _ _ _ _ WrongSizes (short_sized a.seat.floor a.board.now a.index.now a.seat.listed c.in_default.ensures.cases)

pub returns-in_err-run_refusal : goal.returns-in_err-run_refusal
returns-in_err-run_refusal c =
    let p = err_from_is_err_and c.from_residual.result c.from_residual.ensures.1 in
    let a = c.args in
    let is = c.in-Some.ensures.cases in
    rw (p.1, p.2, is.same)
    (wrong_retiring _ _ _ _ c.in_err-run_refusal.field-0.0
    (c.in_err-run_refusal.ensures.whole ∙ five_sized a.seat.floor a.board.now a.index.now a.seat.listed is.long))

pub is_untrue_if_held-requires : goal.is_untrue_if_held-requires
is_untrue_if_held-requires c =
    let a = c.args in
    (both _ _ a.seat a.w (sized_none a.seat.floor a.board.now a.index.now a.seat.listed c.in-Some.ensures.cases.long c.in_ok-run_refusal.ensures.whole)).1

pub returns-in_err-retire_refusal : goal.returns-in_err-retire_refusal
returns-in_err-retire_refusal c =
    let p = err_from_is_err_and c.from_residual-in_err-retire_refusal.result c.from_residual-in_err-retire_refusal.ensures.1 in
    let a = c.args in
    let is = c.in-Some.ensures.cases in
    let why = c.in_err-retire_refusal.field-0.0 in
    rw (p.1, p.2, is.same)
    (untrue_retiring _ _ _ _ (sized_none a.seat.floor a.board.now a.index.now a.seat.listed is.long c.in_ok-run_refusal.ensures.whole) why
    (rw is.same at (sym c.if-is_untrue_if_held.ensures)) (rw (← c.in_err-retire_refusal.ensures.whole, ne_eqb _ 0 (number_some why))))

pub returns-then-is_untrue_if_held : goal.returns-then-is_untrue_if_held
returns-then-is_untrue_if_held c =
    let a = c.args in
    let is = c.in-Some.ensures.cases in
    rw is.same
    (untrue_retiring _ _ _ _ (sized_none a.seat.floor a.board.now a.index.now a.seat.listed is.long c.in_ok-run_refusal.ensures.whole) UntrueIndex
    (rw is.same at (sym c.if-is_untrue_if_held.ensures)) (rw (← c.in_ok-retire_refusal.ensures.whole)))

pub returns-in_err-retired : goal.returns-in_err-retired
returns-in_err-retired c =
    let p = err_from_is_err_and c.from_residual-in_err-retired.result c.from_residual-in_err-retired.ensures.1 in
    let a = c.args in
    let is = c.in-Some.ensures.cases in
    rw (p.1, p.2, is.same)
    (refused_retiring _ _ _ _ (sized_none a.seat.floor a.board.now a.index.now a.seat.listed is.long c.in_ok-run_refusal.ensures.whole) _ _
    (rw is.same at (sym c.if-is_untrue_if_held.ensures)) c.in_err-retired.ensures.whole)

pub follow-requires : goal.follow-requires
follow-requires c =
    let a = c.args in
    let is = c.in-Some.ensures.cases in
    rw is.same
    (done_follows _ _ _ _ (sized_none a.seat.floor a.board.now a.index.now a.seat.listed is.long c.in_ok-run_refusal.ensures.whole) _ _
    (rw is.same at (sym c.if-is_untrue_if_held.ensures)) c.in_ok-retired.ensures.whole _ _ c.touched_by-before.ensures c.touched_by-after.ensures)

pub returns : goal.returns
returns c =
    let a = c.args in
    let is = c.in-Some.ensures.cases in
    done_retiring _ _ _ _ (sized_none a.seat.floor a.board.now a.index.now a.seat.listed is.long c.in_ok-run_refusal.ensures.whole) _ _
    (rw is.same at (sym c.if-is_untrue_if_held.ensures)) c.in_ok-retired.ensures.whole _ _ c.touched_by-before.ensures c.touched_by-after.ensures _
    (rw is.same at c.follow.ensures)
