use Rattle.mark.proofs.Choices.{choices}
use Rattle.turn.specs.Places.{after4}
use Rattle.turn.proofs.place.after_4.Goals as goal

pub returns-then-read-w : goal.returns-then-read-w
unfolding after4
returns-then-read-w c = search choices

pub returns : goal.returns
unfolding after4
returns c = search choices
