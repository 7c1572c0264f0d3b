use Rattle.view.proofs.Choosing.{tellings}
use Rattle.pen.specs.Words.{bytes}
use Rattle.view.specs.Telling.{meaning}
use Rattle.view.proofs.telling.means.Goals as goal

pub returns-in_default : goal.returns-in_default
unfolding bytes meaning
returns-in_default c = search tellings depth 12
