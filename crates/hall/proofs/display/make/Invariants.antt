-- So many buckets are followed. Assumes nothing.
use Rattle.std.proofs.Common.{◌≡◌}
use Rattle.hall.specs.Calls.{fresh_index}
use Rattle.hall.proofs.display.make.Given as goal

abbrev pub invariant-loop-b : goal.invariant-loop-b
invariant-loop-b l = l.index ≡ fresh_index l.board l.b
