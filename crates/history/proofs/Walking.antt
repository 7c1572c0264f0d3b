-- Every call and every history is a walk: accepted starts, and turns and retirings that are done, one after another. Assumes nothing.
use Prim.Native.Nat.{ℕ, ◌+◌, ◌*◌}
use mathlib.Core.Bool.{Bool, true, false, cond}
use mathlib.Core.List.{List, [], ◌∷◌, ◌++◌, map}
use mathlib.Core.Path.{◌≡◌, refl, sym, subst, ◌∙◌}
use native.Mathlib.Omega.{arith}
use lib.Dec.{eqb}
use lib.ListN.{take}
use Rattle.engine.specs.Calls.{Started}
use Rattle.engine.specs.Refusals.{spent}
use Rattle.engine.specs.Calls.{spending}
use Rattle.history.specs.Trace.{Entry}
use Rattle.history.specs.History.{State, Call, look, insert, remove, turn, retire, run, show, count, orders, ask_total, ask_next, look_by, insert_by, remove_by, run_of}
use Rattle.history.specs.History.{after, entries, state_from, trace_from, sum_from, begun, is_start, buckets_of, state, trace, inserts, removes}
use Rattle.history.proofs.Runs.{run_state, run_trace}
use Rattle.history.proofs.View.{View, Walk, stays, starts, acts}
use Rattle.history.proofs.States.{view, recount}
use Rattle.history.proofs.Starting.{of_look, of_insert, of_remove, start_walk}
use Rattle.history.proofs.Acting.{turn_walk}
use Rattle.history.proofs.Retiring.{retire_walk}
use Rattle.history.proofs.SameSizes.{call_buckets}

-- a walk after a walk is one, and their changes add up
walk_append :
    {n : ℕ} {s t u : View} {es fs : List Entry} {i j : ℕ} → Walk n s es i t → Walk n t fs j u → Walk n s (es ++ fs) (i + j) u
walk_append stays rest = recount _ _ (omega arith) rest
walk_append (starts start walk) rest = recount _ _ (omega arith) (starts start (walk_append walk rest))
walk_append (acts act walk) rest = acts act (walk_append walk rest)

-- ---- one call

-- 2I + R grows by what a start of this kind may change, if it is accepted
module _ (kind changes : ℕ) where
  abbrev Paid : ℕ → ℕ → Type 0
  Paid one k = changes * one ≡ 2 * cond (eqb k 2) 1 0 + cond (eqb k 3) 1 0

  counted : Paid 1 kind → Paid 0 0 → (x : Started) → Paid (begun 1 x) (begun kind x)
  counted some none x = by (eqb x.refusal 0)
    where
      by : (t : Bool) → Paid (cond t 1 0) (cond t kind 0)
      by true = some
      by false = none

module _ (n : ℕ) where
  turn_at : (s : State) (i : ℕ) → s.floor.buckets ≡ n → Walk n (view s) (entries s (turn i)) 0 (view (after s (turn i)))
  turn_at s i is = subst (λ (n : ℕ). Walk n (view s) (entries s (turn i)) 0 (view (after s (turn i)))) is (turn_walk s i)

  retire_at : (s : State) (i : ℕ) → s.floor.buckets ≡ n → Walk n (view s) (entries s (retire i)) 0 (view (after s (retire i)))
  retire_at s i is = subst (λ (n : ℕ). Walk n (view s) (entries s (retire i)) 0 (view (after s (retire i)))) is (retire_walk s i)

  -- turns one by one
  turns_walk :
      (s : State) (turns : List ℕ)
      → s.floor.buckets ≡ n
      → Walk n (view s) (trace_from s (map turn turns)) 0 (view (state_from s (map turn turns)))
  unfolding trace_from state_from
  turns_walk s [] is = stays
  turns_walk s (i ∷ turns) is = walk_append (turn_at s i is) (turns_walk (after s (turn i)) turns is)

  run_walk : (s : State) (turns : List ℕ) → s.floor.buckets ≡ n → Walk n (view s) (entries s (run turns)) 0 (view (after s (run turns)))
  run_walk s turns is =
      subst (λ (t : State). Walk n (view s) (entries s (run turns)) 0 (view t)) (sym (run_state s turns))
      (rw (run_trace s turns) (turns_walk s (take (run_of s turns).handed.totals.turns turns) is))

  -- a call is a walk, with two changes for an insert and one for a remove
  call_walk :
      (s : State) (c : Call) → s.floor.buckets ≡ n → Walk n (view s) (entries s c) (2 * is_start 2 s c + is_start 3 s c) (view (after s c))
  call_walk s (look i lot) is = recount _ _ (counted 1 0 refl refl (look_by s i lot)) (start_walk s i false s.floor (of_look lot) n)
  call_walk s (insert i lot t) is =
      recount _ _ (counted 2 2 refl refl (insert_by s i lot t)) (start_walk s i (spent s.floor t.number) (spending s.floor t.number) (of_insert lot t.number) n)
  call_walk s (remove i lot) is = recount _ _ (counted 3 1 refl refl (remove_by s i lot)) (start_walk s i false s.floor (of_remove lot) n)
  call_walk s (turn i) is = turn_at s i is
  call_walk s (retire i) is = retire_at s i is
  call_walk s (run turns) is = run_walk s turns is
  call_walk s (show lot) is = stays
  call_walk s count is = stays
  call_walk s (orders depth) is = stays
  call_walk s ask_total is = stays
  call_walk s (ask_next from) is = stays

  -- ---- calls

  -- calls one after another are a walk
  calls_walk :
      (s : State) (cs : List Call)
      → s.floor.buckets ≡ n
      → Walk n (view s) (trace_from s cs) (2 * sum_from (is_start 2) s cs + sum_from (is_start 3) s cs) (view (state_from s cs))
  unfolding trace_from state_from sum_from
  calls_walk s [] is = stays
  calls_walk s (c ∷ cs) is =
      recount _ _ (omega arith) (walk_append (call_walk s c is) (calls_walk (after s c) cs (call_buckets s c ∙ is)))

-- and so is every history
pub history_walk :
    (first : State) (calls : List Call)
    → Walk (buckets_of first) (view first) (trace first calls) (2 * inserts first calls + removes first calls) (view (state first calls))
history_walk first calls = calls_walk (buckets_of first) first calls refl
