use Rattle.std.proofs.Common.{◌∙◌}
use Rattle.std.proofs.lemmas.Result.{err_from_is_err_and}
use borrow.Author.Tests.{ne_eqb}
use Rattle.turn.specs.declared.refusal.Refusal.TheVariants.{WrongSizes}
use Rattle.turn.proofs.Refusing.{number_some}
use Rattle.hall.specs.Calls.{next_call}
use Rattle.hall.proofs.Numbers.{five_sized, sized_none, short_sized}
use Rattle.hall.proofs.Asked.{asked_one, asked_none, asked_both, next_told_lem}
use Rattle.hall.proofs.next_occupied.Goals as goal

pub returns-in_default : goal.returns-in_default
unfolding next_call
returns-in_default c =
    let a = c.args in
    next_told_lem _ _ _ _ _
    (rw (← asked_one a.floor a.board.now a.index.now WrongSizes (short_sized a.floor a.board.now a.index.now a.floor.workers c.in_default.ensures.1)))

pub returns-in_err-run_refusal : goal.returns-in_err-run_refusal
unfolding next_call
returns-in_err-run_refusal c =
    let p = err_from_is_err_and c.from_residual.result c.from_residual.ensures.1 in
    let a = c.args in
    let why = c.in_err-run_refusal.field-0.0 in
    let is = c.in_err-run_refusal.ensures.whole ∙ five_sized a.floor a.board.now a.index.now a.floor.workers c.in-Ok.ensures.1.long in
    rw (p.1, p.2) (next_told_lem _ _ _ _ _ (rw (← asked_one a.floor a.board.now a.index.now why is, ne_eqb _ 0 (number_some why))))

pub next-requires : goal.next-requires
next-requires c =
    let a = c.args in
    (asked_both a.floor a.board.now a.index.now
    (sized_none a.floor a.board.now a.index.now a.floor.workers c.in-Ok.ensures.1.long c.in_ok-run_refusal.ensures.whole)).1.buckets

pub returns : goal.returns
unfolding next_call
returns c =
    let a = c.args in
    let sized = sized_none a.floor a.board.now a.index.now a.floor.workers c.in-Ok.ensures.1.long c.in_ok-run_refusal.ensures.whole in
    next_told_lem _ _ _ _ _ (rw (asked_none a.floor a.board.now a.index.now sized) (rw c.in-Ok.ensures.1.same at c.next.ensures))
