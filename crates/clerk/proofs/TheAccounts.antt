-- What is so on every opened board however many inserts there were, through all moves: the slots that are held, the starts and what became of
-- the calls that they began, what an answer tells, and what is so of the clerk's list. Assumes nothing.
use Prim.Native.Nat.{ℕ, zero, suc, ◌<◌}
use mathlib.Core.Bool.{false}
use mathlib.Core.List.{List, [], ◌∷◌, ◌++◌, map, append-nil}
use mathlib.Core.Logic.{◌↔◌}
use mathlib.Core.Path.{◌≡◌, refl, sym, ap, subst, ◌∙◌}
use native.Mathlib.Decide.{ℕ_discrete}
use native.Mathlib.Omega.{arith}
use lib.ListN.{replicate}
use Rattle.turn.specs.declared.Worker.{Worker}
use Rattle.turn.specs.Worker.{idle}
use Rattle.turn.specs.Asleep.{awake}
use Rattle.engine.specs.Calls.{record_in}
use Rattle.engine.specs.Refusals.{wrong_floor}
use Rattle.engine.specs.Move.{moved_floor}
use Rattle.history.specs.Trace.{Entry, retired}
use Rattle.history.specs.History.{State, Opening, retire, opened, record_of, workers_of}
use Rattle.history.specs.Moves.{Lent, Step, calls, moves, move_number_of, state_through, trace_through}
use Rattle.history.specs.Moved.{AllIdle, NoneInserted, Crowds, MoveRefusals}
use Rattle.history.specs.Openings.{ledger_of}
use Rattle.history.specs.Openings as Openings
use Rattle.history.specs.Cells.{mark_at, home}
use Rattle.history.proofs.MoveTells.{move_refusals}
use Rattle.history.proofs.Ledger.{ledger_noted}
use Rattle.history.proofs.Ready.{Ready}
use Rattle.history.proofs.Opened.{opening_ready}
use Rattle.history.proofs.SameSizes.{state_workers}
use Rattle.history.proofs.Through.{Stretch, stretch_first, stretch_on, by_move, steps_last, trace_through_then}
use Rattle.history.proofs.Steps.{by_retiring}
use Rattle.history.proofs.Cells.{Known, state_known}
use Rattle.clerk.specs.Calls.{list_after}
use Rattle.clerk.specs.Clerk.{IsHeldBy, Accounts}
use Rattle.clerk.proofs.Listed.{listed_once}
use Rattle.clerk.proofs.ListAfter.{list_quiet}
use Rattle.clerk.proofs.Marked.{stretch_held}
use Rattle.clerk.proofs.Started.{calls_started, retirings_started}
use Rattle.clerk.proofs.Accounted.{starts_accounted}
use Rattle.clerk.proofs.Told.{calls_told, lots_ticketed}
use Rattle.clerk.proofs.Paired.{one_start, one_call, not_ended, never_done, not_still, one_retiring, one_retired}

-- where every worker is idle none is at a call
all_rest : (s : State) → AllIdle s → (i : ℕ) → (record_of s i).kind ≡ 0
all_rest s idles i = ap (λ (ws : List Worker). (record_in (map awake ws) i).kind) idles ∙ by (workers_of s) i
  where
    by : (n i : ℕ) → (record_in (map awake (replicate n idle)) i).kind ≡ 0
    by zero i = refl
    by (suc n) zero = refl
    by (suc n) (suc i) = by n i

-- ---- held slots

-- on a floor of so many workers: the stretch that a state is of
record Seated (workers : ℕ) (s : State) : Type 0 where
  pub stretch : Stretch s
  pub listed : workers_of stretch.first ≡ workers

-- calls and moves leave a state of a stretch with as many workers
seated_through : {first : State} → Ready first → (steps : List Step) → Seated (workers_of first) (state_through first steps)
seated_through {first} ready steps =
    steps_last (λ s past. Seated (workers_of first) s)
    (λ s c past at. record { stretch = stretch_on c at.stretch; listed = at.listed })
    (λ s m past at.
    let stretch = at.stretch in
    by_move stretch m (Seated (workers_of first))
    (λ t moved.
    record {
      stretch = stretch_first moved.ready;
      listed =
          moved.workers
          ∙ ap workers_of stretch.is
          ∙ state_workers stretch.first stretch.since
          ∙ at.listed;
    })
    at)
    steps first [] (record { stretch = stretch_first ready; listed = refl })

module _ {workers : ℕ} {s : State} (seated : Seated workers s) where
  abbrev at : Stretch s
  at = seated.stretch

  known : Known s
  known = rw at.is (state_known at.ready at.since)

  held_by : (b p : ℕ) → mark_at s b p ≡ 2 → (i : ℕ) × (i < workers) × IsHeldBy s b p i
  held_by b p two =
      let held = stretch_held at b p two in (held.0, subst (λ (k : ℕ). held.0 < k) seated.listed held.1, held.2)

  held_two : (b p i : ℕ) → IsHeldBy s b p i → mark_at s b p ≡ 2
  held_two b p i held =
      let two = (known.kept.sure i held.holds).board in
      ap (λ (bucket : ℕ). mark_at s bucket p) (sym held.bucket) ∙ ap (mark_at s (home s.floor.buckets (record_of s i))) (sym held.slot) ∙ two

  held_once : (b p i j : ℕ) → IsHeldBy s b p i → IsHeldBy s b p j → i ≡ j
  held_once b p i j one two = by (ℕ_discrete i j)
    where
      by : Dec (i ≡ j) → i ≡ j
      by (yes is) = is
      by (no other) =
          absurd (known.kept.apart i j other one.holds two.holds (one.bucket ∙ sym two.bucket) (one.slot ∙ sym two.slot))

-- ---- a history

module _ (o : Opening) (steps : List Step) where
  abbrev first : State
  first = opened o

  abbrev now : State
  now = state_through first steps

  abbrev done : List Entry
  done = trace_through first steps

  -- a retiring has no turn that commits or closes
  list_stays : (i : ℕ) → list_after (trace_through first (steps ++ (calls (retire i) ∷ []))) ≡ list_after done
  list_stays i =
      ap list_after (trace_through_then first steps (calls (retire i)))
      ∙ by_retiring now i (λ (t : State) (es : List Entry). list_after (done ++ es) ≡ list_after done)
      (λ r t act. list_quiet done (retired r) (λ turn. turn)) (ap list_after (append-nil done))

  -- a move has no turn
  move_leaves : (m : Lent) → list_after (trace_through first (steps ++ (moves m ∷ []))) ≡ list_after done
  move_leaves m = ap list_after (trace_through_then first steps (moves m) ∙ append-nil done)

  seated_now : Seated (workers_of first) now
  seated_now = seated_through (opening_ready o) steps

  -- where every worker is idle nobody holds a slot, so that none is being inserted
  unheld : AllIdle now → (b p : ℕ) → mark_at now b p ≡ 2 → ⊥
  unheld idles b p two = let held = held_by seated_now b p two in omega (arith, held.2.holds.0, all_rest now idles held.0)

  -- so a move is refused for want of room alone
  idle_moves :
      AllIdle now
      → (m : Lent)
      → wrong_floor (moved_floor now.floor m.buckets) m.words ≡ false
      → ((move_number_of now m ≡ 13) ↔ Crowds now m) × ((Crowds now m → ⊥) → move_number_of now m ≡ 0)
  idle_moves idles m sized =
      let stretch = seated_now.stretch in
      let refusals = subst (λ (s : State). MoveRefusals s m) (sym stretch.is) (move_refusals stretch.ready stretch.since m) in
      let settled : NoneInserted now = λ b p under two. unheld idles b p two in
      (refusals.crowded idles settled sized, refusals.accepted idles settled sized)

  -- all of it is so, whatever the number of inserts
  pub the_accounts : Accounts first steps
  the_accounts =
      let ready = opening_ready o in
      record {
        held = λ b p. (held_by seated_now b p, λ some. held_two seated_now b p some.0 some.2);
        held_once = held_once seated_now;
        rested = unheld;
        idle_moves = idle_moves;
        started = calls_started ready steps;
        accounted = starts_accounted ready steps;
        one_start = one_start ready steps;
        one_call = one_call ready steps;
        not_ended = not_ended ready steps;
        never_done = never_done ready steps;
        not_still = not_still ready steps;
        retired_from = retirings_started ready steps;
        one_retiring = one_retiring ready steps;
        one_retired = one_retired ready steps;
        told = calls_told ready steps;
        listed_once = listed_once done;
        ticketed = lots_ticketed ready steps;
        retiring_leaves = list_stays;
        move_leaves = move_leaves;
      }

-- so whatever is asked, openings among it: of the last opening that was accepted, and the calls and moves since (`ledger_noted`)
pub the_accounts_since : (o : Opening) (asked : List Openings.Asked) → Accounts (ledger_of o asked).first (ledger_of o asked).steps
the_accounts_since o asked =
    let noted = ledger_noted o asked in
    subst (λ (first : State). Accounts first (ledger_of o asked).steps) (sym noted.begun) (the_accounts noted.opening (ledger_of o asked).steps)
