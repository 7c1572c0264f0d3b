-- The records before this one have slept through the turn.
use Rattle.std.proofs.Common.{◌≡◌}
use Rattle.turn.specs.Asleep.{slept}
use Rattle.engine.specs.Firsts.{firsts}
use Rattle.view.proofs.Stage.sleep.Given as goal

abbrev pub invariant-loop-w : goal.invariant-loop-w
invariant-loop-w l = l.w-items ≡ firsts (λ k w. slept w) l.w-index l.initial.w-items
