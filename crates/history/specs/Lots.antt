-- What a count tells on an opened board. That it does so wherever a stretch can begin, after every list of calls, is `count_tells`, in
-- proofs/Lots.
use Rattle.std.specs.Prelude.{◌+◌, ◌-◌, ◌≤◌, List, ◌≡◌}
use Rattle.engine.specs.Calls.{Lots}
use Rattle.engine.specs.Board.{lots_on}
use Rattle.engine.specs.Calls.{count_call}
use Rattle.history.specs.Counts.{commits_in, closes_in}
use Rattle.history.specs.History.{State, Call, buckets_of, state, trace}

-- §2.9: as many lots are on the board as there were at first, with those that were committed since and without those that were closed
pub record CountTells (first : State) (calls : List Call) : Type 0 where
  -- there are no more closes than lots at first and commits, so that nothing is lost in the difference
  pub covered : closes_in (trace first calls) ≤ lots_on first.board (buckets_of first) + commits_in (trace first calls)
  -- a count is accepted, and tells the lots at first and the commits, less the closes, of all buckets
  pub told :
      count_call (state first calls).board (state first calls).floor
      ≡ Lots (lots_on first.board (buckets_of first) + commits_in (trace first calls) - closes_in (trace first calls))
