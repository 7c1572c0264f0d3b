use Rattle.view.proofs.Choosing.{tellings}
use Rattle.pen.specs.Words.{bytes}
use Rattle.view.specs.Telling.{whose_told}
use Rattle.pen.proofs.Putting.{writes_then}
use Rattle.view.proofs.telling.whose.Goals as goal

pub returns-then-turn-ne0 : goal.returns-then-turn-ne0
unfolding bytes whose_told
returns-then-turn-ne0 c = let both = rw (c.from.ensures, c.from-then-turn-ne0.ensures) at (writes_then c.told.ensures c.told-then-turn-ne0.ensures) in search (tellings, both)
