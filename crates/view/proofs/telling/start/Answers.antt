use Rattle.pen.specs.Words.{bytes}
use Rattle.view.specs.Telling.{begin_told}
use Rattle.pen.proofs.Putting.{writes_then}
use Rattle.view.proofs.telling.start.Goals as goal

pub returns : goal.returns
unfolding bytes begin_told
returns c = rw (c.from.ensures) at (writes_then c.told.ensures (writes_then c.words.ensures (writes_then c.kind_name.ensures (writes_then c.told-2.ensures (writes_then c.ticket.ensures c.words-2.ensures)))))
