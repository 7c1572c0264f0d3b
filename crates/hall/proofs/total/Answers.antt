use Rattle.std.proofs.Common.{sym, arith}
use Rattle.std.proofs.lemmas.Result.{err_from_is_err_and}
use borrow.Author.Tests.{ne_eqb}
use Rattle.turn.proofs.Refusing.{number_some}
use Rattle.hall.specs.Calls.{total_call}
use Rattle.hall.proofs.Asked.{asked_one, asked_none, asked_both, total_told_lem}
use Rattle.hall.proofs.total.Goals as goal

pub returns-in_err-run_refusal : goal.returns-in_err-run_refusal
unfolding total_call
returns-in_err-run_refusal c =
    let p = err_from_is_err_and c.from_residual.result c.from_residual.ensures.1 in
    let a = c.args in
    let why = c.in_err-run_refusal.field-0.0 in
    rw (p.1, p.2)
    (total_told_lem _ _ _ _
    (rw (← asked_one a.floor a.board.now a.index.now why c.in_err-run_refusal.ensures.whole, ne_eqb _ 0 (number_some why))))

pub bounds-index-0 : goal.bounds-index-0
bounds-index-0 c = omega (arith, (asked_both c.args.floor c.args.board.now c.args.index.now (sym c.in_ok-run_refusal.ensures.whole)).0)

pub returns : goal.returns
unfolding total_call
returns c =
    let a = c.args in
    total_told_lem _ _ _ _ (rw (asked_none a.floor a.board.now a.index.now (sym c.in_ok-run_refusal.ensures.whole)))
