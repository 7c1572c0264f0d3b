-- The records before this one have slept through the turn.
use Rattle.std.proofs.Common.{◌≡◌}
use Rattle.sheet.proofs.Sleeping.{firsts_slept}
use Rattle.sheet.proofs.Desk.turn.Given as goal

abbrev pub invariant-loop-sleeper : goal.invariant-loop-sleeper
invariant-loop-sleeper l = l.sleeper-items ≡ firsts_slept l.sleeper-index l.initial.sleeper-items
