-- Where a stretch can begin: what an opening or a move leaves. Every worker is at no call there, so none holds a slot or has a word in mind.
-- Assumes nothing.
use Prim.Native.Nat.{ℕ, zero, suc, ◌^◌, ◌≤◌, ◌<◌}
use mathlib.Core.List.{List, ◌∷◌, map}
use mathlib.Core.Logic.{◌⊎◌, inl, inr}
use mathlib.Core.Path.{◌≡◌, refl, ap}
use native.Mathlib.Decide.{dec_le}
use native.Mathlib.Omega.{arith}
use lib.ListN.{length, replicate, length-replicate, get_or-replicate, get_or-eq_default}
use Rattle.turn.specs.declared.Worker.{Worker}
use Rattle.turn.specs.Worker.{idle}
use Rattle.turn.specs.Asleep.{awake}
use Rattle.engine.specs.Calls.{blank, record_in}
use Rattle.engine.specs.Room.{Right}
use Rattle.engine.proofs.Sizes.{right_sizes, right_listed}
use Rattle.history.specs.Trace.{total}
use Rattle.history.specs.History.{State, workers_of}
use Rattle.history.specs.Values.{value_at}
use Rattle.history.specs.Cells.{mark_at, Holds, Stands}
use Rattle.history.specs.Unbroken.{Unbroken}
use Rattle.history.proofs.Sums.{total_none}
use Rattle.history.proofs.View.{worker, Aware}
use Rattle.history.proofs.States.{view}

-- a state in which a stretch can begin
pub record Ready (s : State) : Type 0 where
  -- nothing is broken, the sizes are right, and the index is the full reading of the board
  pub unbroken : Unbroken s
  -- every worker is idle
  pub idle : s.records ≡ replicate (workers_of s) idle
  pub version_fits : s.floor.version < 2 ^ 32
  -- no slot is being inserted
  pub unheld : (b p : ℕ) → mark_at s b p ≡ 2 → ⊥
  -- what is valid has a lot of its bucket and a ticket
  pub stands : (b p : ℕ) → mark_at s b p ≡ 1 → Stands s b p
  -- no value is above the last ticket
  pub values : (b p : ℕ) → value_at s b p ≤ s.floor.last

-- a worker that is at no call
pub record Rests (w : Worker) : Type 0 where
  pub kind : w.kind ≡ 0
  pub place : w.place ≡ 0
  pub slot : w.slot ≡ 0

-- an idle record, or none
idle_in : (n i : ℕ) → Dec (n ≤ i) → (record_in (replicate n idle) i ≡ idle) ⊎ (record_in (replicate n idle) i ≡ blank)
idle_in n i (yes past) = inr (get_or-eq_default (replicate n idle) blank {n = i} (omega (arith, length-replicate n idle)))
idle_in n i (no under) = inl (get_or-replicate n i idle blank (omega arith))

-- idle records have slept for no turn
idle_awake : (n : ℕ) → map awake (replicate n idle) ≡ replicate n idle
idle_awake zero = refl
idle_awake (suc n) = ap (λ (ws : List Worker). idle ∷ ws) (idle_awake n)

module _ {first : State} (ready : Ready first) where
  -- the numbers of workers and buckets are in range, and the board fits them
  pub ready_right : Right first.floor first.board
  ready_right = right_sizes _ _ _ ready.unbroken.sized

  -- there is a record for each worker
  pub ready_listed : length first.records ≡ workers_of first
  ready_listed = right_listed _ _ _ ready.unbroken.sized

  -- which is idle; past the end of the list there is none
  ready_idle : (i : ℕ) → (worker (view first) i ≡ idle) ⊎ (worker (view first) i ≡ blank)
  ready_idle i = rw (ready.idle, idle_awake (workers_of first)) (idle_in (workers_of first) i (dec_le (workers_of first) i))

  -- every worker is at no call
  pub rests : (i : ℕ) → Rests (worker (view first) i)
  rests i = by (ready_idle i)
    where
      by : (worker (view first) i ≡ idle) ⊎ (worker (view first) i ≡ blank) → Rests (worker (view first) i)
      by (inl is) = rw is (record { kind = refl; place = refl; slot = refl })
      by (inr is) = rw is (record { kind = refl; place = refl; slot = refl })

  -- no worker has a word in mind
  pub ready_unaware : (i : ℕ) → Aware (worker (view first) i) → ⊥
  ready_unaware i aware = omega (arith, (rests i).place, aware.from)

  -- no worker holds a slot
  pub holds_none : (i : ℕ) → Holds (worker (view first) i) → ⊥
  holds_none i holds = omega (arith, (rests i).kind, holds.0)

  -- no record counts for anything
  pub counts_none : (f : Worker → ℕ) → f idle ≡ 0 → total f (view first).records ≡ 0
  counts_none f none = rw (ready.idle, idle_awake (workers_of first)) (total_none f idle none (workers_of first))
