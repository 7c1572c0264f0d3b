-- Calls after calls: the state that they leave and the turns that they do, cut between any two of them. Assumes nothing.
use Prim.Native.Nat.{ℕ, ◌+◌}
use mathlib.Core.List.{List, [], ◌∷◌, ◌++◌, append_assoc, append-nil}
use mathlib.Core.Path.{◌≡◌, refl, sym, ap, ◌∙◌}
use native.Mathlib.Omega.{arith}
use Rattle.history.specs.Trace.{Entry}
use Rattle.turn.specs.Worker.{insert_kind}
use Rattle.history.specs.History.{State, Call, after, entries, state_from, trace_from, sum_from, is_start, state, inserts}

-- the later calls start from the state that the earlier ones leave
pub state_from_append : (s : State) (cs ds : List Call) → state_from s (cs ++ ds) ≡ state_from (state_from s cs) ds
unfolding state_from
state_from_append s [] ds = refl
state_from_append s (c ∷ cs) ds = state_from_append (after s c) cs ds

-- their entries come after the earlier ones' entries
pub trace_from_append : (s : State) (cs ds : List Call) → trace_from s (cs ++ ds) ≡ trace_from s cs ++ trace_from (state_from s cs) ds
unfolding state_from trace_from
trace_from_append s [] ds = refl
trace_from_append s (c ∷ cs) ds =
    ap (λ (es : List Entry). entries s c ++ es) (trace_from_append (after s c) cs ds) ∙ sym (append_assoc (entries s c) _ _)

-- what is added up of them comes to that of the earlier ones
pub sum_from_append :
    (f : State → Call → ℕ) (s : State) (cs ds : List Call) → sum_from f s (cs ++ ds) ≡ sum_from f s cs + sum_from f (state_from s cs) ds
unfolding state_from sum_from
sum_from_append f s [] ds = omega arith
sum_from_append f s (c ∷ cs) ds = omega (arith, sum_from_append f (after s c) cs ds)

-- no calls come to nothing
pub sum_none : (f : State → Call → ℕ) (s : State) → sum_from f s [] ≡ 0
unfolding sum_from
sum_none f s = refl

-- ---- one call more

module _ (s : State) (cs : List Call) (c : Call) where
  -- the state that it leaves
  pub state_from_then : state_from s (cs ++ (c ∷ [])) ≡ after (state_from s cs) c
  unfolding state_from
  state_from_then = state_from_append s cs (c ∷ [])

  -- its entries come last
  pub trace_from_then : trace_from s (cs ++ (c ∷ [])) ≡ trace_from s cs ++ entries (state_from s cs) c
  unfolding trace_from
  trace_from_then =
      trace_from_append s cs (c ∷ []) ∙ ap (λ (es : List Entry). trace_from s cs ++ es) (append-nil (entries (state_from s cs) c))

  -- it may be one insert more
  pub inserts_then : inserts s (cs ++ (c ∷ [])) ≡ inserts s cs + is_start insert_kind (state s cs) c
  unfolding sum_from
  inserts_then = omega (arith, sum_from_append (is_start insert_kind) s cs (c ∷ []))
