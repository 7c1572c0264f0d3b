use Rattle.pen.specs.Words.{bytes}
use Rattle.view.specs.Telling.{call_told}
use Rattle.pen.proofs.Putting.{writes_then}
use Rattle.view.proofs.telling.at_call.Goals as goal

pub returns : goal.returns
unfolding bytes call_told
returns c = writes_then c.told.ensures (writes_then c.words.ensures (writes_then c.kind_name.ensures c.line.ensures))
