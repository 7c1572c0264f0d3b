-- A history without runs has the state and the trace of the one that it is made from. Assumes nothing.
use Prim.Native.Nat.{ℕ}
use mathlib.Core.List.{List, [], ◌∷◌, ◌++◌, map, append-nil}
use mathlib.Core.Path.{◌≡◌, refl, sym, ap, ap₂, ◌∙◌}
use lib.ListN.{take}
use Rattle.history.specs.Trace.{Entry}
use Rattle.history.specs.History.{State, Call, look, insert, remove, turn, retire, run, show, count, orders, ask_total, ask_next, run_of, after}
use Rattle.history.specs.History.{entries, state_from, trace_from, state, trace}
use Rattle.history.specs.Singly.{single, singly_from, singly, NoRuns}
use Rattle.history.proofs.Histories.{state_from_append, trace_from_append}
use Rattle.history.proofs.Runs.{run_state, run_trace}

-- ---- one call

-- what one call comes to: its state and its entries, and no run
record Comes (s : State) (c : Call) (cs : List Call) : Type 0 where
  to_state : state_from s cs ≡ after s c
  to_trace : trace_from s cs ≡ entries s c
  no_run : NoRuns cs

turns_no_run : (turns : List ℕ) → NoRuns (map turn turns)
turns_no_run [] = tt
turns_no_run (i ∷ turns) = turns_no_run turns

comes : (s : State) (c : Call) → Comes s c (single s c)
unfolding state_from trace_from
comes s (look i lot) = record { to_state = refl; to_trace = refl; no_run = tt }
comes s (insert i lot t) = record { to_state = refl; to_trace = refl; no_run = tt }
comes s (remove i lot) = record { to_state = refl; to_trace = refl; no_run = tt }
comes s (turn i) = record { to_state = refl; to_trace = append-nil _; no_run = tt }
comes s (retire i) = record { to_state = refl; to_trace = append-nil _; no_run = tt }
comes s (run turns) =
    record {
      to_state = sym (run_state s turns);
      to_trace = sym (run_trace s turns);
      no_run = turns_no_run (take (run_of s turns).handed.totals.turns turns);
    }
comes s (show lot) = record { to_state = refl; to_trace = refl; no_run = tt }
comes s count = record { to_state = refl; to_trace = refl; no_run = tt }
comes s (orders depth) = record { to_state = refl; to_trace = refl; no_run = tt }
comes s ask_total = record { to_state = refl; to_trace = refl; no_run = tt }
comes s (ask_next from) = record { to_state = refl; to_trace = refl; no_run = tt }

-- ---- calls

no_runs_append : (cs ds : List Call) → NoRuns cs → NoRuns ds → NoRuns (cs ++ ds)
no_runs_append [] ds none more = more
no_runs_append (look i lot ∷ cs) ds none more = no_runs_append cs ds none more
no_runs_append (insert i lot t ∷ cs) ds none more = no_runs_append cs ds none more
no_runs_append (remove i lot ∷ cs) ds none more = no_runs_append cs ds none more
no_runs_append (turn i ∷ cs) ds none more = no_runs_append cs ds none more
no_runs_append (retire i ∷ cs) ds none more = no_runs_append cs ds none more
no_runs_append (run turns ∷ cs) ds none more = none
no_runs_append (show lot ∷ cs) ds none more = no_runs_append cs ds none more
no_runs_append (count ∷ cs) ds none more = no_runs_append cs ds none more
no_runs_append (orders depth ∷ cs) ds none more = no_runs_append cs ds none more
no_runs_append (ask_total ∷ cs) ds none more = no_runs_append cs ds none more
no_runs_append (ask_next from ∷ cs) ds none more = no_runs_append cs ds none more

from_state : (s : State) (calls : List Call) → state_from s (singly_from s calls) ≡ state_from s calls
unfolding state_from singly_from
from_state s [] = refl
from_state s (c ∷ calls) =
    state_from_append s (single s c) (singly_from (after s c) calls)
    ∙ ap (λ (t : State). state_from t (singly_from (after s c) calls)) (comes s c).to_state
    ∙ from_state (after s c) calls

from_trace : (s : State) (calls : List Call) → trace_from s (singly_from s calls) ≡ trace_from s calls
unfolding trace_from singly_from
from_trace s [] = refl
from_trace s (c ∷ calls) =
    trace_from_append s (single s c) (singly_from (after s c) calls)
    ∙ ap₂ (λ (es : List Entry) (t : State). es ++ trace_from t (singly_from (after s c) calls)) (comes s c).to_trace (comes s c).to_state
    ∙ ap (λ (es : List Entry). entries s c ++ es) (from_trace (after s c) calls)

from_no_runs : (s : State) (calls : List Call) → NoRuns (singly_from s calls)
unfolding singly_from
from_no_runs s [] = tt
from_no_runs s (c ∷ calls) = no_runs_append (single s c) (singly_from (after s c) calls) (comes s c).no_run (from_no_runs (after s c) calls)

module _ (first : State) (calls : List Call) where
  -- without its runs a history leaves the same state
  pub singly_state : state first (singly first calls) ≡ state first calls
  singly_state = from_state first calls

  -- without its runs it has the same trace
  pub singly_trace : trace first (singly first calls) ≡ trace first calls
  singly_trace = from_trace first calls

  -- and it has none
  pub singly_no_runs : NoRuns (singly first calls)
  singly_no_runs = from_no_runs first calls
