-- The number is that of the records so far.
use Rattle.std.proofs.Common.{◌≡◌, take}
use Rattle.engine.specs.Move.{rest_number}
use Rattle.floor.proofs.list.rest_refusal.Given as goal

abbrev pub invariant-loop-w : goal.invariant-loop-w
invariant-loop-w l = l.number ≡ rest_number (take l.w-index l.records)
