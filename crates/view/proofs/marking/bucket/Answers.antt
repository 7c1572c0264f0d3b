use Rattle.pen.specs.Words.{bytes}
use Rattle.view.specs.Telling.{bucket_told, slots_told}
use Rattle.pen.proofs.Putting.{writes_then}
use Rattle.view.proofs.marking.bucket.Goals as goal

pub returns : goal.returns
unfolding bytes bucket_told slots_told
returns c = rw c.cell-word.ensures at (writes_then c.told.ensures (writes_then c.version.ensures (writes_then c.slot.ensures (writes_then c.slot-2.ensures (writes_then c.slot-3.ensures c.words.ensures)))))
