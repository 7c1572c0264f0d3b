-- A start of a call, accepted or refused, on what demand 3 goes by. Assumes nothing.
use Prim.Native.Nat.{ℕ, ◌*◌, ◌<◌}
use mathlib.Core.Bool.{Bool, false, not}
use mathlib.Core.List.{List, []}
use mathlib.Core.Path.{◌≡◌, refl, ap, ◌∙◌}
use native.Mathlib.Omega.{arith}
use lib.Dec.{eqb}
use lib.ListN.{length, length-map}
use borrow.Author.Tests.{eqb-true, leb-false, not-false}
use Rattle.mark.proofs.Choices.{by_cases, passes}
use Rattle.turn.specs.declared.Worker.{Worker}
use Rattle.turn.specs.Worker.{idle, look_for, insert_of, remove_of, is_idle, broken}
use Rattle.turn.specs.Asleep.{awake}
use Rattle.turn.proofs.Effects.{Aimed, start_aimed}
use Rattle.turn.proofs.Kept.{idle_is}
use Rattle.engine.specs.declared.Floor.{Floor}
use Rattle.engine.specs.Calls.{Started}
use Rattle.engine.specs.Refusals.{wrong_sizes, no_worker, start_number}
use Rattle.engine.specs.Calls.{start_call}
use Rattle.engine.proofs.Sizes.{right_listed}
use Rattle.engine.proofs.Sleeping.{record_awake, put_awake}
use Rattle.history.specs.History.{State, listed_of, seat_of, started_as, begun}
use Rattle.history.proofs.View.{left, Aware, Starts, Walk, stays, starts}
use Rattle.history.proofs.States.{view, same_walk, recount}

-- ---- the three starts

-- the records that a start leaves
pub data StartOf : Worker → Type 0 where
  of_look : (lot : ℕ) → StartOf (look_for lot)
  of_insert : (lot t : ℕ) → StartOf (insert_of lot t)
  of_remove : (lot : ℕ) → StartOf (remove_of lot)

-- what holds of such a record: it holds nothing, has read nothing and aims at nothing, and is awake
record Fresh (v : Worker) : Type 0 where
  pub held : v.held ≡ 3
  pub up : v.asleep ≡ 0
  pub unaware : Aware v → ⊥
  pub aimed : Aimed v

fresh : {v : Worker} → StartOf v → Fresh v
fresh (of_look lot) = record { held = refl; up = refl; unaware = λ aware. aware.other refl; aimed = start_aimed _ _ _ _ (omega arith) }
fresh (of_insert lot t) =
    record { held = refl; up = refl; unaware = λ aware. omega (arith, aware.from); aimed = start_aimed _ _ _ _ (omega arith) }
fresh (of_remove lot) =
    record { held = refl; up = refl; unaware = λ aware. omega (arith, aware.from); aimed = start_aimed _ _ _ _ (omega arith) }

-- ---- any of them

-- what it says that a start has no number of refusal
pub record Startable (listed i : ℕ) (w : Worker) (late : Bool) : Type 0 where
  pub within : i < listed
  pub was : w ≡ idle
  pub early : late ≡ false

pub not_refused :
    (f : Floor) (board : List ℕ) (listed i : ℕ) (w : Worker) (late : Bool)
    → start_number f board listed i w late ≡ 0
    → Startable listed i w late
unfolding start_number wrong_sizes
not_refused f board listed i w late none =
    let sizes = passes (wrong_sizes f board listed) 0 _ none in
    let there = passes (no_worker f i) 1 _ sizes.1 in
    let kept = passes (broken w) 2 _ there.1 in
    let rest = passes (not (is_idle w)) 3 _ kept.1 in
    record {
      within = omega (arith, right_listed f board listed sizes.0, leb-false f.workers i there.0);
      was = idle_is w (not-false _ rest.0);
      early = (passes late 4 0 rest.1).0;
    }

-- an accepted start finds its worker idle, so that a call begins only where the one before it has ended
pub start_finds_idle :
    (f : Floor) (board : List ℕ) (listed i : ℕ) (w : Worker) (late : Bool) → start_number f board listed i w late ≡ 0 → w ≡ idle
start_finds_idle f board listed i w late none = (not_refused f board listed i w late none).was

module _ (s : State) (i : ℕ) (late : Bool) {v : Worker} (g : Floor) (of : StartOf v) where
  -- its number of refusal
  abbrev number : ℕ
  number = start_number s.floor s.board (length s.records) i (listed_of s i) late

  -- what the engine says of it
  abbrev start_by : Started
  start_by = start_call s.board (seat_of s i) (listed_of s i) late v g

  -- which is this where it is accepted
  abbrev taken : Started
  taken = record { refusal = 0; floor = g; worker = v }

  -- and this where it is not
  abbrev refused : Started
  refused = record { refusal = number; floor = s.floor; worker = listed_of s i }

  -- an accepted start puts its record there
  pub accepted_starts : number ≡ 0 → Starts (view s) v (view (started_as s i taken))
  accepted_starts none =
      let known = not_refused s.floor s.board (length s.records) i (listed_of s i) late none in
      record {
        who = i;
        within = rw (length-map s.records awake) known.within;
        was = record_awake s.records i ∙ ap awake known.was;
        records = put_awake s.records i v (fresh of).up;
        marks = λ c. refl;
        held = (fresh of).held;
        unaware = (fresh of).unaware;
        aimed = (fresh of).aimed;
      }

  -- accepted or refused, a start is a walk of no entries
  pub start_walk : (n : ℕ) → Walk n (view s) [] (left v * begun 1 start_by) (view (started_as s i start_by))
  unfolding start_call
  start_walk n =
      by_cases (λ (x : Started). Walk n (view s) [] (left v * begun 1 x) (view (started_as s i x))) (eqb number 0) taken refused
      (λ is. recount _ _ (omega arith) (starts (accepted_starts (eqb-true _ 0 is)) stays))
      (λ isnot. rw isnot (recount 0 _ (omega arith) (same_walk n s i s.index)))
