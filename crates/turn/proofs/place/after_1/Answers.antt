use Rattle.mark.proofs.Choices.{choices}
use Rattle.turn.specs.Places.{after1}
use Rattle.turn.proofs.place.after_1.Goals as goal

pub returns-then-w-eq-REMOVE : goal.returns-then-w-eq-REMOVE
unfolding after1
returns-then-w-eq-REMOVE c = search choices

pub returns : goal.returns
unfolding after1
returns c = search choices
