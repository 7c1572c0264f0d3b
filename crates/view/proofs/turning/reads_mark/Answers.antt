use Rattle.pen.specs.Words.{bytes}
use Rattle.pen.proofs.Putting.{writes_then}
use Rattle.view.proofs.turning.reads_mark.Goals as goal

pub returns : goal.returns
unfolding bytes
returns c = rw (c.from.ensures) at (writes_then c.told.ensures c.slot_mark.ensures)
