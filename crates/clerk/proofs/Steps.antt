-- One step of a history, as every clause of the invariant takes it: what holds of the worker's own record and of each other one. On a board
-- of n buckets. Assumes nothing.
use Prim.Native.Nat.{ℕ}
use mathlib.Core.Bool.{true}
use mathlib.Core.List.{List}
use mathlib.Core.Path.{◌≡◌, refl, ap, subst, ◌∙◌}
use Rattle.mark.proofs.Choices.{not_both}
use Rattle.turn.specs.declared.Worker.{Worker}
use Rattle.turn.specs.Worker.{idle, may_stand}
use Rattle.turn.proofs.Outcomes.{Did}
use Rattle.engine.specs.Board.{bucket_of}
use Rattle.history.specs.Trace.{Turn, Retiring, acted, Continues}
use Rattle.history.specs.History.{State, record_of}
use Rattle.history.specs.Cells.{cells_at, home}
use Rattle.history.proofs.View.{each_worker}
use Rattle.history.proofs.States.{view}
use Rattle.history.proofs.Steps.{Begins, Turns, Retires, step_of}
use Rattle.history.proofs.Account.{turn_account, was_home, goes_busy, still_on}
use Rattle.clerk.specs.Calls.{asks}

-- a record that may have a turn is of a call
pub busy_kind : (k p : ℕ) → may_stand k p ≡ true → k ≡ 0 → ⊥
unfolding may_stand
busy_kind k p stands none = not_both _ refl (rw none at stands)

-- a state whose board has n buckets
abbrev pub Sized : ℕ → State → Type 0
Sized n s = s.floor.buckets ≡ n

module _ {s t : State} {e : Turn} (act : Turns s e t) where
  -- what holds of the record that a turn leaves, and of each other one, holds of each
  pub each_turn :
      (P : ℕ → Worker → Type 0) → P e.worker (step_of s e).stepped.worker → ((j : ℕ) → (j ≡ e.worker → ⊥) → P j (record_of s j))
      → (j : ℕ) → P j (record_of t j)
  each_turn P = each_worker (view s) (view t) e.worker (step_of s e).stepped.worker act.acts.records P act.acts.within

  module _ {n : ℕ} (sized : Sized n s) where
    -- a turn is in the bucket of its worker's lot
    pub own_home : e.report.bucket ≡ home n e.was
    own_home = was_home act ∙ ap (λ (k : ℕ). bucket_of e.was.key k) sized

    -- what a turn did in the bucket of its worker's lot
    pub own_did : Did (cells_at s (home n e.was)) e.was (cells_at t (home n e.was)) (step_of s e).stepped
    own_did = subst (λ (b : ℕ). Did (cells_at s b) e.was (cells_at t b) (step_of s e).stepped) own_home (turn_account act)

    -- a worker that is still busy is in the bucket that it was in
    pub still_there : ((step_of s e).stepped.worker ≡ idle → ⊥) → home n (step_of s e).stepped.worker ≡ home n e.was
    still_there busy = ap (λ (k : ℕ). bucket_of k n) (still_on act busy).call.key

  -- a worker whose turn goes on asks what it asked before
  pub goes_asks : Continues (acted e) → asks (step_of s e).stepped.worker ≡ asks e.was
  goes_asks goes = let call = (still_on act (goes_busy act goes)).call in rw (call.kind, call.key, call.ticket)

  -- what held of the record of the worker whose turn it is holds of the record that the entry has
  pub was_known : (P : Worker → Type 0) → P (record_of s e.worker) → P e.was
  was_known P known = rw act.acts.was known

module _ {s t : State} {r : Retiring} (act : Retires s r t) where
  -- what holds of the idle record that a retiring leaves, and of each other one, holds of each
  pub each_retiring :
      (P : ℕ → Worker → Type 0) → P r.worker idle → ((j : ℕ) → (j ≡ r.worker → ⊥) → P j (record_of s j)) → (j : ℕ) → P j (record_of t j)
  each_retiring P = each_worker (view s) (view t) r.worker idle act.acts.records P act.acts.within

module _ {s t : State} {v : Worker} {spent : List ℕ} (start : Begins s v spent t) where
  -- what holds of the record that a start leaves, and of each other one, holds of each
  pub each_start :
      (P : ℕ → Worker → Type 0) → P start.starts.who v → ((j : ℕ) → (j ≡ start.starts.who → ⊥) → P j (record_of s j))
      → (j : ℕ) → P j (record_of t j)
  each_start P = each_worker (view s) (view t) start.starts.who v start.starts.records P start.starts.within

  -- a start leaves every cell as it was
  pub start_cells : (b k : ℕ) → cells_at t b k ≡ cells_at s b k
  start_cells b k = rw start.board
