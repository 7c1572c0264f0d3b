use Rattle.pen.proofs.Putting.{writes_then}
use Rattle.sheet.proofs.line.totals.Goals as goal

pub returns : goal.returns
returns c =
    rw (← c.from.ensures, ← c.from-2.ensures, ← c.from-3.ensures, ← c.from-4.ensures)
    (writes_then c.told.ensures (writes_then c.told-2.ensures (writes_then c.told-3.ensures (writes_then c.told-4.ensures c.byte.ensures))))
