-- Calls and moves one after another (§22). What every call and every move keep holds after all of them; and every state that they leave is one of
-- a stretch: it began where a stretch can begin, with the opening or with the last move that was done, and has had only calls since.
-- Assumes nothing.
use mathlib.Core.List.{List, [], ◌∷◌, ◌++◌, append_assoc, append-nil}
use mathlib.Core.Path.{◌≡◌, refl, sym, ap, subst, ◌∙◌}
use native.Mathlib.Decide.{ℕ_discrete}
use Rattle.history.specs.Trace.{Entry}
use Rattle.history.specs.History.{State, Call, after, entries, state_from, trace_from, state}
use Rattle.history.specs.Moves.{Lent, Step, calls, moves, move_number_of, after_step, entries_by, state_through, trace_through}
use Rattle.history.specs.Moved.{moved_to}
use Rattle.history.specs.Values.{tickets_from}
use Rattle.history.proofs.Histories.{state_from_then}
use Rattle.history.proofs.Ready.{Ready}
use Rattle.history.proofs.Moved.{InStretch, Moves, moves_refused, move_spare, move_done, state_in_stretch}
use Rattle.history.proofs.SameSizes.{call_spare}
use Rattle.history.proofs.Steps.{Lasts, calls_last}

-- ---- one after another

-- what comes later starts from the state that the earlier ones leave
pub state_through_append : (s : State) (early later : List Step) → state_through s (early ++ later) ≡ state_through (state_through s early) later
unfolding state_through
state_through_append s [] later = refl
state_through_append s (a ∷ early) later = state_through_append (after_step s a) early later

-- its entries come after the earlier ones' entries
pub trace_through_append :
    (s : State) (early later : List Step) → trace_through s (early ++ later) ≡ trace_through s early ++ trace_through (state_through s early) later
unfolding state_through trace_through
trace_through_append s [] later = refl
trace_through_append s (a ∷ early) later =
    ap (λ (es : List Entry). entries_by s a ++ es) (trace_through_append (after_step s a) early later) ∙ sym (append_assoc (entries_by s a) _ _)

module _ (s : State) (steps : List Step) (a : Step) where
  -- the state that one call or move more leaves
  pub state_through_then : state_through s (steps ++ (a ∷ [])) ≡ after_step (state_through s steps) a
  unfolding state_through
  state_through_then = state_through_append s steps (a ∷ [])

  -- its entries come last
  pub trace_through_then : trace_through s (steps ++ (a ∷ [])) ≡ trace_through s steps ++ entries_by (state_through s steps) a
  unfolding trace_through
  trace_through_then =
      trace_through_append s steps (a ∷ []) ∙ ap (λ (es : List Entry). trace_through s steps ++ es) (append-nil (entries_by (state_through s steps) a))

-- §2.1: on whatever board, calls and moves hand on what the floor has to spare
pub spare_stays : (steps : List Step) (s : State) → (state_through s steps).floor.spare ≡ s.floor.spare
unfolding state_through
spare_stays [] s = refl
spare_stays (calls c ∷ more) s = spare_stays more (after s c) ∙ call_spare s c
spare_stays (moves m ∷ more) s = spare_stays more (moved_to s m) ∙ move_spare s m

-- ---- what all of them keep

-- a property of a state and of the entries so far, which every call and every move keep
module _ (P : State → List Entry → Type 0) where
  -- what every accepted start, every turn done and every retiring done keep, a call keeps
  pub call_keeps : Lasts (λ s past ts. P s past) → (s : State) (c : Call) (past : List Entry) → P s past → P (after s c) (past ++ entries s c)
  unfolding state_from trace_from tickets_from
  call_keeps lasts s c past h =
      subst (λ (es : List Entry). P (after s c) (past ++ es)) (append-nil (entries s c))
      (calls_last (λ s past ts. P s past) lasts (c ∷ []) s past [] h)

  module _
      (call : (s : State) (c : Call) (past : List Entry) → P s past → P (after s c) (past ++ entries s c))
      (move : (s : State) (m : Lent) (past : List Entry) → P s past → P (moved_to s m) past) where
    -- what every call and every move keep, calls and moves one after another keep
    pub steps_last : (steps : List Step) (s : State) (past : List Entry) → P s past → P (state_through s steps) (past ++ trace_through s steps)
    unfolding state_through trace_through
    steps_last [] s past h = rw (append-nil past) h
    steps_last (calls c ∷ more) s past h =
        rw (← append_assoc past (entries s c) (trace_through (after s c) more)) (steps_last more (after s c) (past ++ entries s c) (call s c past h))
    steps_last (moves m ∷ more) s past h = steps_last more (moved_to s m) past (move s m past h)

-- ---- the present stretch

-- a state of a stretch: where it began, and the calls since
pub record Stretch (s : State) : Type 0 where
  pub first : State
  pub ready : Ready first
  pub since : List Call
  pub is : s ≡ state first since

-- no call leaves the state
pub state_none : (s : State) → s ≡ state s []
unfolding state_from
state_none s = refl

-- one that has just begun
abbrev pub stretch_first : {s : State} → Ready s → Stretch s
stretch_first {s} ready = record { first = s; ready = ready; since = []; is = state_none s }

-- what a move goes by holds of it
pub in_stretch : {s : State} → Stretch s → InStretch s
in_stretch at = rw at.is (state_in_stretch at.ready at.since)

-- a call goes on with it
abbrev pub stretch_on : {s : State} (c : Call) → Stretch s → Stretch (after s c)
stretch_on {s} c at =
    record {
      first = at.first;
      ready = at.ready;
      since = at.since ++ (c ∷ []);
      is = ap (λ (t : State). after t c) at.is ∙ sym (state_from_then at.first at.since c);
    }

-- what holds after a move that is done, and of nothing done, holds after every move
pub by_move :
    {s : State} (at : Stretch s) (m : Lent) (Q : State → Type 0)
    → ((t : State) → Moves s t → Q t)
    → Q s
    → Q (moved_to s m)
by_move {s} at m Q done same = by (ℕ_discrete (move_number_of s m) 0)
  where
    by : Dec (move_number_of s m ≡ 0) → Q (moved_to s m)
    by (yes accepted) = done _ (move_done s m (in_stretch at) accepted)
    by (no refused) = subst Q (sym (moves_refused s m refused)) same

-- calls and moves leave a state of a stretch
pub stretch_through : {first : State} → Ready first → (steps : List Step) → Stretch (state_through first steps)
stretch_through {first} ready steps =
    steps_last (λ s past. Stretch s) (λ s c past at. stretch_on c at)
    (λ s m past at. by_move at m Stretch (λ t moved. stretch_first moved.ready) at) steps first [] (stretch_first ready)
