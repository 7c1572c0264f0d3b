-- All orders from where an opened board stands: each is a run that the history can go on with, so demand 3 holds of it. Assumes nothing.
use Prim.Native.Nat.{ℕ, ◌+◌, ◌≤◌}
use mathlib.Core.Bool.{false}
use mathlib.Core.Path.{◌≡◌, refl, ap, subst}
use mathlib.Core.List.{List, [], ◌∷◌, ◌++◌}
use native.Mathlib.Omega.{arith}
use Rattle.turn.specs.Turn.{After}
use Rattle.engine.specs.Calls.{Ran}
use Rattle.hall.proofs.Same.{run_same}
use Rattle.walks.specs.Orders.{orders, lost_in}
use Rattle.walks.specs.Calls.{not_small}
use Rattle.walks.proofs.Lists.{each_all, each_has}
use Rattle.walks.proofs.TheOrders.{all_orders_lem}
use Rattle.history.specs.Counts.{one_if, is_lost, lost_swaps}
use Rattle.history.specs.History.{State, Call, run, is_start, run_of, entries, after, state_from, sum_from, state, trace, most_lost}
use Rattle.history.specs.AllOrders.{most_in_one, OrdersFrom}
use Rattle.history.proofs.Ready.{Ready}
use Rattle.history.proofs.Histories.{trace_from_then}
use Rattle.history.proofs.Counts.{total_append}
use Rattle.history.proofs.Runs.{run_lost}
use Rattle.history.proofs.Unbroken.{state_unbroken}
use Rattle.history.proofs.Unrefused.{orders_accepted}
use Rattle.history.proofs.DemandThree.{demand_three}

-- a run begins no call
sum_run : (kind : ℕ) (s : State) (calls : List Call) (turns : List ℕ)
    → (is_start kind (state_from s calls) (run turns) ≡ 0) → sum_from (is_start kind) s (calls ++ (run turns ∷ [])) ≡ sum_from (is_start kind) s calls
unfolding sum_from state_from
sum_run kind s [] turns none = omega arith
sum_run kind s (c ∷ calls) turns none = ap (λ (n : ℕ). is_start kind s c + n) (sum_run kind (after s c) calls turns none)

module _ {first : State} (ready : Ready first) (calls : List Call) (turns : List ℕ) where
  same_bound : most_lost first (calls ++ (run turns ∷ [])) ≡ most_lost first calls
  same_bound = rw (sum_run 2 first calls turns refl, sum_run 3 first calls turns refl)

  -- with a run of any turns more, no more swaps are lost than without it may be
  run_bound : lost_swaps (trace first calls) + (run_of (state first calls) turns).handed.totals.lost ≤ most_lost first calls
  run_bound =
      let then = run turns in
      let bound = (demand_three ready (calls ++ (then ∷ []))).bound in
      let trace_is : trace first (calls ++ (then ∷ [])) ≡ trace first calls ++ entries (state first calls) then = trace_from_then first calls then in
      let lost = total_append (λ e. one_if (is_lost e)) (trace first calls) (entries (state first calls) then) in
      let of-run = run_lost (state first calls) turns in
      let limit : lost_swaps (trace first calls ++ entries (state first calls) then) ≤ most_lost first calls = rw (same_bound, trace_is) at bound in
      omega (arith, limit, lost, of-run)

-- and so it is of the engine's run, which all orders go by
order_bound :
    {first : State} (ready : Ready first) (calls : List Call) (turns : List ℕ)
    → lost_swaps (trace first calls) + lost_in (state first calls).floor (state first calls).board (state first calls).records turns ≤ most_lost first calls
order_bound {first} ready calls turns =
    let s = state first calls in
    subst (λ (x : After Ran). lost_swaps (trace first calls) + x.handed.totals.lost ≤ most_lost first calls)
    (run_same s.floor s.records turns (state_unbroken ready calls).reads) (run_bound ready calls turns)

pub orders_from_lem : {first : State} (ready : Ready first) (calls : List Call) (depth : ℕ) → not_small (state first calls).floor depth ≡ false → OrdersFrom first calls depth
orders_from_lem {first} ready calls depth small =
    let s = state first calls in
    let none = orders_accepted s (state_unbroken ready calls) depth small in
    let all = all_orders_lem s.floor s.board s.records depth none in
    let those = orders s.floor depth s.board s.records in
    let lost : List ℕ → ℕ = lost_in s.floor s.board s.records in
    let Bounded : List ℕ → Type 0 = λ turns. lost_swaps (trace first calls) + lost turns ≤ most_lost first calls in
    let Most : List ℕ → Type 0 = λ turns. lost turns ≡ most_in_one s depth in
    record {
      accepted = none;
      listed = all;
      bound = (let one = each_has Bounded Most those (each_all Bounded (order_bound ready calls) those) all.reached in rw (← one.2) one.1);
    }
