use Rattle.pen.specs.Words.{bytes}
use Rattle.view.specs.Telling.{blame_told}
use Rattle.pen.proofs.Putting.{writes_then}
use Rattle.view.proofs.turning.blames.Goals as goal

pub returns : goal.returns
unfolding bytes blame_told
returns c = rw (c.from.ensures, c.from-2.ensures) at (writes_then c.mark_word.ensures (writes_then c.told.ensures (writes_then c.told-2.ensures c.words.ensures)))
