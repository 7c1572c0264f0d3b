-- Demand 3, whole. That it holds wherever a stretch can begin and for every list of calls is `demand_three`, in proofs/DemandThree; that it
-- goes on to hold where openings and moves stand among the calls is `any_order`, in proofs/Openings.
use Rattle.std.specs.Prelude.{◌≤◌, List}
use Rattle.history.specs.Trace.{Wins, Loses, Swaps, Some, None}
use Rattle.history.specs.Counts.{lost_swaps}
use Rattle.history.specs.Moment.{AtTurn, AtMoment, HasMoment, ChangedByAnother, CommittedOrClosedByAnother}
use Rattle.history.specs.History.{State, Call, trace, FewInserts, most_lost}

-- §11.3: what is demanded of a stretch: of the state in which it begins and the calls since
pub record DemandThree (first : State) (calls : List Call) : Type 0 where
  -- a swap, won or lost, has a moment, in its bucket and in its call: the last turn of its worker that read the mark word whole or changed it
  pub moment : (at : AtTurn (trace first calls)) → Swaps at.turn → HasMoment at.before at.turn
  -- where a swap is lost, another worker has changed that mark word since its moment
  pub loses : (at : AtMoment (trace first calls)) → Loses at.turn → Some (ChangedByAnother at.turn) at.between
  -- §3.8: where it is won, and inserts are few, no other worker has committed or closed in its bucket since then
  pub wins :
      FewInserts first calls
      → (at : AtMoment (trace first calls))
      → Wins at.turn
      → None (CommittedOrClosedByAnother at.turn) at.between
  -- no more swaps of the trace are lost than (W - 1)(2I + R)
  pub bound : lost_swaps (trace first calls) ≤ most_lost first calls
