use Rattle.mark.proofs.Choices.{choices}
use Rattle.engine.specs.Refusals.{seat_number}
use Rattle.engine.proofs.seat_refusal.Goals as goal

pub returns-then-are_wrong : goal.returns-then-are_wrong
unfolding seat_number
returns-then-are_wrong c = search choices

pub returns-then-floor-worker : goal.returns-then-floor-worker
unfolding seat_number
returns-then-floor-worker c = search choices

pub returns : goal.returns
unfolding seat_number
returns c = search choices
