use Rattle.mark.proofs.Choices.{choices}
use Rattle.turn.specs.Places.{look_empty}
use Rattle.turn.proofs.place.look_empty.Goals as goal

pub returns-then-w-eq-LOOK : goal.returns-then-w-eq-LOOK
unfolding look_empty
returns-then-w-eq-LOOK c = search choices

pub returns-then-w-eq-NO_SLOT : goal.returns-then-w-eq-NO_SLOT
unfolding look_empty
returns-then-w-eq-NO_SLOT c = search choices

pub returns : goal.returns
unfolding look_empty
returns c = search choices
