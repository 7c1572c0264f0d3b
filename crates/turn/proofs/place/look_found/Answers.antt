use Rattle.mark.proofs.Choices.{choices}
use Rattle.turn.specs.Places.{look_found}
use Rattle.turn.proofs.place.look_found.Goals as goal

pub returns-then-w-eq-LOOK : goal.returns-then-w-eq-LOOK
unfolding look_found
returns-then-w-eq-LOOK c = search choices

pub returns-then-w-eq-NO_SLOT : goal.returns-then-w-eq-NO_SLOT
unfolding look_found
returns-then-w-eq-NO_SLOT c = search choices

pub returns : goal.returns
unfolding look_found
returns c = search choices
