use Rattle.mark.proofs.Choices.{choices}
use Rattle.turn.specs.Places.{next_key}
use Rattle.turn.proofs.place.next_key.Goals as goal

pub returns-then-w-lt2 : goal.returns-then-w-lt2
unfolding next_key
returns-then-w-lt2 c = search choices

pub returns : goal.returns
unfolding next_key
returns c = search choices
