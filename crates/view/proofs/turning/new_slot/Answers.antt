use Rattle.std.proofs.Common.{ne_eqb}
use Rattle.pen.specs.Words.{bytes}
use Rattle.view.specs.Telling.{new_slot}
use Rattle.view.proofs.turning.new_slot.Goals as goal

pub returns-in-GoesOn : goal.returns-in-GoesOn
unfolding bytes new_slot
returns-in-GoesOn c = rw (c.in-GoesOn.is, ne_eqb c.args.v.slot c.args.w.slot c.if-v-w.true) (rw c.from.ensures at c.line.ensures)
