use Rattle.view.proofs.Choosing.{tellings}
use Rattle.pen.specs.Words.{bytes}
use Rattle.view.specs.Telling.{writes_told}
use Rattle.view.proofs.turning.writes.Goals as goal

pub returns-in-7 : goal.returns-in-7
unfolding bytes writes_told
returns-in-7 c = rw c.in-7.is c.stores.ensures

pub returns-in-9 : goal.returns-in-9
unfolding bytes writes_told
returns-in-9 c = rw c.in-9.is c.swaps-in-9.ensures

pub returns-in-10 : goal.returns-in-10
unfolding bytes writes_told
returns-in-10 c = rw c.in-10.is c.swaps-in-10.ensures

pub returns-in_default : goal.returns-in_default
unfolding bytes writes_told
returns-in_default c = search tellings depth 9
