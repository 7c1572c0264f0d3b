use Rattle.std.proofs.Common.{rules, arith, ◌≡◌, Err}
use Rattle.schedule.proofs.Turning.{counting_starts, counting_over, counting_stops, counting_on}
use Rattle.schedule.proofs.turns.count.Goals as goal

pub loop-times-init : goal.loop-times-init
loop-times-init c = counting_starts _

pub returns-in_err-times : goal.returns-in_err-times
returns-in_err-times c =
    let r : c.from_residual.result ≡ Err c.in_err-times.field-0.0 = search rules in
    rw r (counting_stops c.loop-times.invariant c.in_err-times.ensures)

pub loop-times-smaller : goal.loop-times-smaller
loop-times-smaller c =
    let s = rw c.in-Some.is at c.in_ok-times.ensures in
    let inside = s.inside (λ e. cc) in
    let text = s.text in
    let ahead = s.ahead in
    rw text (omega (arith, inside, ahead))

pub loop-times-preserved : goal.loop-times-preserved
loop-times-preserved c =
    let s = rw c.in-Some.is at c.in_ok-times.ensures in
    counting_on c.loop-times.invariant s c.saturating_add-count.ensures

pub returns : goal.returns
returns c = counting_over c.loop-times.invariant (rw c.in_default.is at c.in_ok-times.ensures)
