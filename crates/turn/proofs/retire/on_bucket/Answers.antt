use Rattle.std.proofs.Common.{sym}
use Rattle.std.proofs.lemmas.Result.{err_from_is_err_and}
use borrow.Author.Tests.{ne_eqb}
use Rattle.turn.specs.Retire.{retire_on}
use Rattle.turn.proofs.Refusing.{number_some}
use Rattle.turn.proofs.Retiring.{retirable}
use Rattle.turn.proofs.retire.on_bucket.Goals as goal

pub returns-in_err-retire_refusal : goal.returns-in_err-retire_refusal
unfolding retire_on
returns-in_err-retire_refusal c =
    let p = err_from_is_err_and c.from_residual.result c.from_residual.ensures.1 in
    rw (p.1, p.2, ← c.in_err-retire_refusal.ensures, ne_eqb _ 0 (number_some c.in_err-retire_refusal.field-0.0))

pub vacate-requires : goal.vacate-requires
vacate-requires c = λ holds. ((retirable _ _ (sym (c.in_ok-retire_refusal.ensures))).whole holds).eight

pub returns : goal.returns
unfolding retire_on
returns c = rw (← c.in_ok-retire_refusal.ensures, c.idle.ensures, c.vacate.ensures)
