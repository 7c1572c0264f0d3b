use Rattle.std.proofs.Common.{arith}
use Rattle.mark.proofs.Choices.{choices}
use Rattle.engine.specs.Seating.{taken}
use Rattle.engine.proofs.moving.taken.Goals as goal

pub returns-then-from-at-eq-FREE : goal.returns-then-from-at-eq-FREE
unfolding taken
returns-then-from-at-eq-FREE c = (search choices, omega arith)

pub returns-then-from-at-eq-FREE-2 : goal.returns-then-from-at-eq-FREE-2
unfolding taken
returns-then-from-at-eq-FREE-2 c = (search choices, omega arith)

pub returns-then-from-at-eq-FREE-3 : goal.returns-then-from-at-eq-FREE-3
unfolding taken
returns-then-from-at-eq-FREE-3 c = (search choices, omega arith)

pub returns-else-from-at-eq-FREE-3 : goal.returns-else-from-at-eq-FREE-3
unfolding taken
returns-else-from-at-eq-FREE-3 c = (search choices, omega arith)
