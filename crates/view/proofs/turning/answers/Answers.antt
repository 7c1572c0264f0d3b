use Rattle.pen.specs.Words.{bytes}
use Rattle.view.specs.Telling.{answer_told}
use Rattle.pen.proofs.Putting.{writes_then}
use Rattle.view.proofs.turning.answers.Goals as goal

pub returns : goal.returns
unfolding bytes answer_told
returns c = writes_then c.words.ensures (writes_then c.kind_name.ensures c.line.ensures)
