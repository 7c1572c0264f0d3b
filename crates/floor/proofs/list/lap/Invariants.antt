-- The records so far are made by the leaf, and those that are left are as they were.
use Rattle.std.proofs.Common.{ℕ, ◌≡◌, ◌≤◌, ◌<◌, length, get_or}
use Rattle.engine.specs.Calls.{blank}
use Rattle.floor.proofs.list.lap.Given as goal

abbrev pub invariant-loop-at : goal.invariant-loop-at
invariant-loop-at g l =
    (length l.records ≡ length l.fn.records)
    × ((k : ℕ) → k < l.at → goal.F-post g l.leaf k (get_or l.fn.records k blank) (get_or l.records k blank))
    × ((k : ℕ) → l.at ≤ k → get_or l.records k blank ≡ get_or l.fn.records k blank)
