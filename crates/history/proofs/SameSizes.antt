-- No call changes the numbers of workers and buckets, nor the version that a board was opened at, nor what the floor has to spare: they stay as at
-- first. Assumes nothing.
use Prim.Native.Nat.{ℕ}
use mathlib.Core.Bool.{Bool}
use mathlib.Core.List.{List, [], ◌∷◌}
use mathlib.Core.Path.{◌≡◌, refl, ◌∙◌}
use lib.Dec.{eqb}
use lib.ListN.{length}
use Rattle.mark.proofs.Choices.{by_cases}
use Rattle.turn.specs.declared.Worker.{Worker}
use Rattle.engine.specs.declared.Floor.{Floor}
use Rattle.engine.specs.Calls.{Started}
use Rattle.engine.specs.Refusals.{start_number}
use Rattle.engine.specs.Calls.{spending, start_call}
use Rattle.history.specs.History.{State, Call, look, insert, remove, turn, retire, run, show, count, orders, ask_total, ask_next, listed_of, seat_of}
use Rattle.history.specs.History.{workers_of, buckets_of, after, state_from, state}

-- a number of the floor that is not the last ticket
module _ (size : Floor → ℕ) (other : (f : Floor) (t : ℕ) → size (spending f t) ≡ size f) where
  start_size :
      (s : State) (i : ℕ) (late : Bool) (v : Worker) (g : Floor)
      → size g ≡ size s.floor
      → size (start_call s.board (seat_of s i) (listed_of s i) late v g).floor ≡ size s.floor
  unfolding start_call
  start_size s i late v g same =
      let number = start_number s.floor s.board (length s.records) i (listed_of s i) late in
      by_cases (λ (x : Started). size x.floor ≡ size s.floor) (eqb number 0) _ _ (λ is. same) (λ isnot. refl)

  call_size_lem : (s : State) (c : Call) → size (after s c).floor ≡ size s.floor
  call_size_lem s (look i lot) = start_size s i _ _ _ refl
  call_size_lem s (insert i lot t) = start_size s i _ _ _ (other s.floor t.number)
  call_size_lem s (remove i lot) = start_size s i _ _ _ refl
  call_size_lem s (turn i) = refl
  call_size_lem s (retire i) = refl
  call_size_lem s (run turns) = refl
  call_size_lem s (show lot) = refl
  call_size_lem s count = refl
  call_size_lem s (orders depth) = refl
  call_size_lem s ask_total = refl
  call_size_lem s (ask_next from) = refl

  calls_size : (s : State) (calls : List Call) → size (state_from s calls).floor ≡ size s.floor
  unfolding state_from
  calls_size s [] = refl
  calls_size s (c ∷ calls) = calls_size (after s c) calls ∙ call_size_lem s c

-- §2.1: a call hands on what the floor has to spare
pub call_spare : (s : State) (c : Call) → (after s c).floor.spare ≡ s.floor.spare
call_spare = call_size_lem (λ f. f.spare) (λ f t. refl)

-- a call leaves the number of buckets
pub call_buckets : (s : State) (c : Call) → (after s c).floor.buckets ≡ s.floor.buckets
call_buckets = call_size_lem (λ f. f.buckets) (λ f t. refl)

module _ (first : State) (calls : List Call) where
  -- there are always as many workers as at first
  pub state_workers : workers_of (state first calls) ≡ workers_of first
  state_workers = calls_size (λ f. f.workers) (λ f t. refl) first calls

  -- there are always as many buckets as at first
  pub state_buckets : buckets_of (state first calls) ≡ buckets_of first
  state_buckets = calls_size (λ f. f.buckets) (λ f t. refl) first calls

  -- and the version stays the one at first
  pub state_version : (state first calls).floor.version ≡ first.floor.version
  state_version = calls_size (λ f. f.version) (λ f t. refl) first calls
