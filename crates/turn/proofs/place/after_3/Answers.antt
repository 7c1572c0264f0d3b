use Rattle.mark.proofs.Choices.{choices}
use Rattle.turn.specs.Places.{after3}
use Rattle.turn.proofs.place.after_3.Goals as goal

pub returns-then-mark_of-eq-VALID : goal.returns-then-mark_of-eq-VALID
unfolding after3
returns-then-mark_of-eq-VALID c = search choices

pub returns : goal.returns
unfolding after3
returns c = search choices
