use Rattle.mark.proofs.Choices.{choices}
use Rattle.turn.specs.Places.{next_slot}
use Rattle.turn.proofs.place.next_slot.Goals as goal

pub returns-then-w-lt2 : goal.returns-then-w-lt2
unfolding next_slot
returns-then-w-lt2 c = search choices

pub returns : goal.returns
unfolding next_slot
returns c = search choices
