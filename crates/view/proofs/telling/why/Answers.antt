use Rattle.pen.specs.Words.{bytes}
use Rattle.view.specs.Telling.{why_told}
use Rattle.pen.proofs.Putting.{writes_then}
use Rattle.view.proofs.telling.why.Goals as goal

pub returns : goal.returns
unfolding bytes why_told
returns c = rw (c.from.ensures) at (writes_then c.told.ensures (writes_then c.words.ensures c.means.ensures))
