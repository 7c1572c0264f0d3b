use Rattle.std.proofs.Common.{sym}
use Rattle.std.proofs.lemmas.Result.{err_from_is_err_and}
use borrow.Author.Tests.{ne_eqb}
use Rattle.turn.proofs.Refusing.{number_some}
use Rattle.engine.proofs.Firsts.{firsts_none}
use Rattle.floor.proofs.Numbers.{says_in}
use Rattle.floor.proofs.list.turn_at.Goals as goal

pub returns-in_err-done : goal.returns-in_err-done
returns-in_err-done c =
    let p = err_from_is_err_and c.from_residual.result c.from_residual.ensures.1 in
    let step = c.in_err-done.ensures in
    rw (p.1, p.2)
    (says_in _ _ _ _ _ _ _ _ _ 0 step.0 (rw (ne_eqb _ 0 (number_some c.in_err-done.field-0.0))) (sym (firsts_none _ _)), step.1)

pub returns : goal.returns
returns c =
    let step = c.in_ok-done.ensures in
    (says_in _ _ _ _ _ _ _ _ _ _ step.0 c.step_at.auto.records c.sleep_beside.ensures, step.1)
