use Rattle.std.proofs.Common.{refl}
use Rattle.std.proofs.lemmas.Result.{err_from_is_err_and}
use borrow.Author.Tests.{eq-eqb, ne_eqb}
use Rattle.turn.proofs.Refusing.{number_some}
use Rattle.engine.specs.Calls.{open_call}
use Rattle.hall.specs.Refusals.{hall_open_number}
use Rattle.hall.specs.Calls.{hall_open}
use Rattle.hall.proofs.open_floor.Goals as goal

pub returns-in_default : goal.returns-in_default
unfolding hall_open hall_open_number
returns-in_default c = record { whole = rw (ne_eqb _ _ c.in_default.ensures.cases); kept = refl }

pub returns-in_err-opened : goal.returns-in_err-opened
unfolding hall_open hall_open_number open_call
returns-in_err-opened c =
    let p = err_from_is_err_and c.from_residual.result c.from_residual.ensures.1 in
    let is = c.in-Some.ensures.cases in
    record {
      whole = rw (p.1, p.2, eq-eqb _ _ is.long) c.in_err-opened.ensures.whole;
      kept = rw (p.1, p.2, ne_eqb _ 0 (number_some c.in_err-opened.field-0.0)) is.same;
    }

pub returns : goal.returns
unfolding hall_open hall_open_number open_call
returns c = record { whole = rw (eq-eqb _ _ c.in-Some.ensures.cases.long) c.in_ok-opened.ensures.whole; kept = c.clear.ensures }
