use Rattle.pen.specs.Words.{bytes}
use Rattle.view.specs.Telling.{word_told}
use Rattle.pen.proofs.Putting.{writes_then}
use Rattle.view.proofs.marking.mark_word.Goals as goal

pub returns : goal.returns
unfolding bytes word_told
returns c = writes_then c.version.ensures (writes_then c.slot_mark.ensures (writes_then c.slot_mark-2.ensures (writes_then c.slot_mark-3.ensures c.words.ensures)))
