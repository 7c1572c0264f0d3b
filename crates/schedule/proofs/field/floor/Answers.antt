use Rattle.schedule.specs.Bytes.{high_first}
use Rattle.pen.proofs.Putting.{writes_then}
use Rattle.schedule.proofs.field.floor.Goals as goal

pub returns : goal.returns
unfolding high_first
returns c =
    rw c.from.ensures at (
    writes_then c.words.ensures (writes_then c.high_first.ensures (writes_then c.high_first-2.ensures c.high_first-3.ensures)))
