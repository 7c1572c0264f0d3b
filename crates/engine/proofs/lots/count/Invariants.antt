-- The buckets before this one are not broken, and their lots are counted. Assumes nothing.
use Rattle.std.proofs.Common.{◌≡◌, ◌*◌, ◌≤◌, false}
use Rattle.engine.specs.Board.{lots_on, any_broken}
use Rattle.engine.proofs.lots.count.Given as goal

abbrev pub invariant-loop-b : goal.invariant-loop-b
invariant-loop-b l = record { sound : any_broken l.board l.b ≡ false; counted : l.lots ≡ lots_on l.board l.b; few : l.lots ≤ 3 * l.b }
