use Rattle.mark.proofs.Choices.{choices}
use Rattle.turn.specs.Worker.{held_fits}
use Rattle.turn.proofs.record.insert_holds.Goals as goal

pub returns-then-place-eq6 : goal.returns-then-place-eq6
unfolding held_fits
returns-then-place-eq6 c = search choices

pub returns-then-place-ge7 : goal.returns-then-place-ge7
unfolding held_fits
returns-then-place-ge7 c = search choices

pub returns : goal.returns
unfolding held_fits
returns c = search choices
