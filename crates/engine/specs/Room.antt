-- What private functions, here and in the crates above, ask of their callers. No public function asks for anything.
use Rattle.std.specs.Prelude.{ℕ, ◌*◌, ◌≤◌, ◌≡◌, List, length}
use Rattle.engine.specs.declared.Floor.{Floor}
use Rattle.engine.specs.declared.Totals.{Totals}

-- each of the totals is at most this
pub record Few (n : ℕ) (t : Totals) : Type 0 where
  pub turns : t.turns ≤ n
  pub changes : t.changes ≤ n
  pub lost : t.lost ≤ n
  pub full : t.full ≤ n

-- floor and board fit together
pub record Right (f : Floor) (board : List ℕ) : Type 0 where
  pub some_worker : 1 ≤ f.workers
  pub workers : f.workers ≤ 64
  pub some_bucket : 1 ≤ f.buckets
  pub buckets : f.buckets ≤ 256
  pub words : length board ≡ 8 * f.buckets
