-- What the step asks of its caller: whatever a turn's own tests have let through.
use Rattle.std.specs.Prelude.{ℕ, ◌≤◌, ◌<◌, ◌≡◌, List, length}
use Rattle.turn.specs.declared.Worker.{Worker}

-- eight words, a slot, and a held slot where the place stores to one
pub record Ready (bucket : List ℕ) (w : Worker) : Type 0 where
  pub eight : length bucket ≡ 8
  pub slot : w.slot < 3
  pub holds : 7 ≤ w.place → w.place ≤ 10 → w.held < 3
