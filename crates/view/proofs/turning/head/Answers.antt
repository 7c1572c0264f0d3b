use Rattle.pen.specs.Words.{bytes}
use Rattle.view.specs.Telling.{head_told}
use Rattle.pen.proofs.Putting.{writes_then}
use Rattle.view.proofs.turning.head.Goals as goal

pub returns : goal.returns
unfolding bytes head_told
returns c = rw (c.from.ensures, c.from-2.ensures) at (writes_then c.told.ensures (writes_then c.told-2.ensures (writes_then c.words.ensures (writes_then c.does.ensures c.words-2.ensures))))
