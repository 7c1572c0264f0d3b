use Rattle.engine.specs.Refusals.{wrong_floor}
use Rattle.engine.proofs.size.is_wrong.Goals as goal

pub returns : goal.returns
unfolding wrong_floor
returns c = c.has_wrong_words.ensures
