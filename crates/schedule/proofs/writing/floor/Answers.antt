use Rattle.pen.specs.Words.{bytes}
use Rattle.schedule.specs.Writing.{floor_text}
use Rattle.pen.proofs.Putting.{writes_then}
use Rattle.schedule.proofs.writing.floor.Goals as goal

pub returns : goal.returns
unfolding bytes floor_text
returns c =
    rw c.from.ensures at (writes_then (writes_then c.words.ensures c.things.ensures)
    (writes_then (writes_then c.words-2.ensures c.things-2.ensures) (writes_then c.told.ensures c.words-3.ensures)))
