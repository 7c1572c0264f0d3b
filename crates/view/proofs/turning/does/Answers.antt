use mathlib.Core.Logic.{inl, inr}
use Rattle.pen.specs.Words.{bytes}
use Rattle.view.specs.Telling.{does_told}
use Rattle.view.proofs.turning.does.Goals as goal

pub returns-in-4 : goal.returns-in-4
unfolding bytes does_told
returns-in-4 c = elim c.in-4.is [
  | inl fourth ↦ rw fourth c.reads-in-4.ensures
  | inr eleventh ↦ rw eleventh c.reads-in-4.ensures
]
