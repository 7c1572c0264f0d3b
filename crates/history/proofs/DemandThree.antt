-- Demand 3 holds wherever a stretch can begin and for every list of calls. Only a swap that wins asks that inserts be few. Assumes nothing.
use Prim.Native.Nat.{ℕ, ◌+◌, ◌*◌, ◌-◌, ◌≤◌}
use mathlib.Core.List.{List, [], ◌∷◌, ◌++◌, append_assoc}
use mathlib.Core.Path.{ap, ◌∙◌}
use mathlib.Core.Logic.{◌⊎◌, inl, inr}
use native.Mathlib.Nat.{mul-le-mul_left}
use native.Mathlib.Omega.{arith}
use Rattle.history.specs.Trace.{Turn, Entry, acted, Wins, Loses, Swaps, Some, None, total}
use Rattle.history.specs.Counts.{lost_swaps, changes_in}
use Rattle.history.specs.Moment.{AtTurn, AtMoment, HasMoment, ChangedByAnother, CommittedOrClosedByAnother}
use Rattle.history.specs.History.{State, Call, workers_of, buckets_of, state, trace, inserts, FewInserts, removes, most_lost}
use Rattle.history.specs.Demand.{DemandThree}
use Rattle.history.proofs.View.{View, Walk}
use Rattle.history.proofs.Counts.{loss_of, onto, total_onto}
use Rattle.history.proofs.Cuts.{cut_at}
use Rattle.history.proofs.Remembers.{Still, back}
use Rattle.history.proofs.Swaps.{swap_aware, lost_since, won_since}
use Rattle.history.proofs.States.{view}
use Rattle.history.proofs.Ready.{Ready, ready_right, ready_unaware}
use Rattle.history.proofs.Walking.{history_walk}
use Rattle.history.proofs.Beginning.{ready_good, history_good}
use Rattle.history.proofs.Paid.{few_bumps}

module _ {first : State} (ready : Ready first) (calls : List Call) where
  abbrev n : ℕ
  n = buckets_of first

  -- the history as a walk
  abbrev walk : Walk n (view first) (trace first calls) (2 * inserts first calls + removes first calls) (view (state first calls))
  walk = history_walk first calls

  seen : (before : List Entry) (y : Turn) (u : View) → HasMoment before y ⊎ Still n (view first) before u y → HasMoment before y
  seen before y u (inl has) = has
  seen before y u (inr still) = absurd (ready_unaware ready y.worker still.aware)

  the_moment_exists : (at : AtTurn (trace first calls)) → Swaps at.turn → HasMoment at.before at.turn
  the_moment_exists at swap =
      let c = cut_at n (acted at.turn) at.after at.before walk at.cut in
      seen at.before at.turn c.here (back n at.turn c.first (swap_aware c.act swap) c.act.bucket)

  a_swap_loses_only_if : (at : AtMoment (trace first calls)) → Loses at.turn → Some (ChangedByAnother at.turn) at.between
  a_swap_loses_only_if at lost = lost_since (workers_of first) n (view first).marks walk (ready_good ready) at (inr lost) lost

  a_swap_wins_only_if :
      FewInserts first calls
      → (at : AtMoment (trace first calls))
      → Wins at.turn
      → None (CommittedOrClosedByAnother at.turn) at.between
  a_swap_wins_only_if few at won =
      won_since (workers_of first) n (view first).marks walk (ready_good ready) at (inl won) (omega (arith, (ready_right ready).some_bucket))
      (few_bumps ready calls few) won

  lost_swaps_bound : lost_swaps (trace first calls) ≤ most_lost first calls
  unfolding total
  lost_swaps_bound =
      let good = history_good ready calls in
      let lost = total_onto loss_of (trace first calls) [] in
      let changes = changes_in (onto (trace first calls) []) in
      let allowed = 2 * inserts first calls + removes first calls in
      let paid = mul-le-mul_left {m = changes} {n = allowed} (workers_of first - 1) (omega (arith, good.budget)) in
      omega (arith, good.charge, lost, paid)

  -- §11.3: demand 3
  pub demand_three : DemandThree first calls
  demand_three = record { moment = the_moment_exists; loses = a_swap_loses_only_if; wins = a_swap_wins_only_if; bound = lost_swaps_bound }

  -- ---- every swap of the trace, with the moment that it has

  module _ (at : AtTurn (trace first calls)) where
    abbrev pub at_moment_lem : HasMoment at.before at.turn → AtMoment (trace first calls)
    at_moment_lem has =
        record {
          before = has.older;
          moment = has.moment;
          between = has.newer;
          turn = at.turn;
          after = at.after;
          cut =
              at.cut
              ∙ ap (λ (l : List Entry). l ++ (acted at.turn ∷ at.after)) has.cut
              ∙ append_assoc has.older (acted has.moment ∷ has.newer) (acted at.turn ∷ at.after);
          is = has.is;
        }

    -- a lost swap has a moment, and from there to the swap another worker changed that mark word
    pub every_lost_swap :
        Loses at.turn → (has : HasMoment at.before at.turn) × Some (ChangedByAnother at.turn) has.newer
    every_lost_swap lost =
        let has = demand_three.moment at (inr lost) in
        (has, demand_three.loses (at_moment_lem has) lost)

    -- where inserts are few, a won swap has a moment, and from there to the swap no other worker made a commit or a close in its bucket
    pub every_won_swap :
        FewInserts first calls → Wins at.turn → (has : HasMoment at.before at.turn) × None (CommittedOrClosedByAnother at.turn) has.newer
    every_won_swap few won =
        let has = demand_three.moment at (inl won) in
        (has, demand_three.wins few (at_moment_lem has) won)
