use Rattle.std.proofs.Common.{rules, refl, ◌≡◌, Err}
use Rattle.schedule.proofs.Heard.{turns_none, turns_wrong, turns_many, turns_right}
use Rattle.schedule.proofs.line.turns.Goals as goal

pub returns-in_err-number : goal.returns-in_err-number
returns-in_err-number c =
    let r : c.from_residual.result ≡ Err c.in_err-number.field-0.0 = search rules in
    rw r (turns_none _ (rw c.from.ensures at c.in_err-number.ensures.takes) refl)

pub returns-in_err-count : goal.returns-in_err-count
returns-in_err-count c =
    let r : c.from_residual-in_err-count.result ≡ Err c.in_err-count.field-0.0 = search rules in
    rw r (turns_wrong (rw c.from.ensures at c.in_ok-number.ensures.takes) c.in_err-count.ensures)

pub returns-then-count : goal.returns-then-count
returns-then-count c = turns_many (rw c.from.ensures at c.in_ok-number.ensures.takes) c.in_ok-count.ensures c.if-count.true

pub returns : goal.returns
returns c = turns_right (rw c.from.ensures at c.in_ok-number.ensures.takes) c.in_ok-count.ensures c.if-count.false
