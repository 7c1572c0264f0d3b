use Rattle.pen.specs.Words.{bytes}
use Rattle.schedule.specs.Writing.{call_text}
use Rattle.pen.proofs.Putting.{writes_then}
use Rattle.schedule.proofs.writing.call.Goals as goal

pub returns : goal.returns
unfolding bytes call_text
returns c = rw c.from.ensures at (writes_then c.told.ensures (writes_then c.verb.ensures c.words.ensures))
