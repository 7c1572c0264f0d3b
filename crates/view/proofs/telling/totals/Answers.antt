use Rattle.pen.specs.Words.{bytes}
use Rattle.view.specs.Telling.{totals_told}
use Rattle.pen.proofs.Putting.{writes_then}
use Rattle.view.proofs.telling.totals.Goals as goal

pub returns : goal.returns
unfolding bytes totals_told
returns c = rw (c.from.ensures, c.from-2.ensures, c.from-3.ensures, c.from-4.ensures) at (writes_then c.things.ensures (writes_then c.things-2.ensures (writes_then c.things-3.ensures c.things-4.ensures)))
