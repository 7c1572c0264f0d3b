use Rattle.pen.specs.Words.{bytes}
use Rattle.view.specs.Telling.{slot_told}
use Rattle.pen.proofs.Putting.{writes_then}
use Rattle.view.proofs.marking.slot.Goals as goal

pub returns : goal.returns
unfolding bytes slot_told
returns c = writes_then c.slot_mark.ensures (writes_then c.cell_word.ensures (writes_then c.cell_word-2.ensures c.words.ensures))
