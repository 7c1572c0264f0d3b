use Rattle.pen.specs.Words.{bytes}
use Rattle.view.specs.Telling.{stop_told}
use Rattle.pen.proofs.Putting.{writes_then}
use Rattle.view.proofs.telling.stop.Goals as goal

pub returns : goal.returns
unfolding bytes stop_told
returns c = writes_then c.why.ensures (writes_then c.told.ensures (writes_then c.told-2.ensures (writes_then c.whose.ensures c.words.ensures)))
