-- §4.10: a turn of a run that is done, and the call for one turn. That a run is its turns up to the first that is refused is shown of the run that
-- takes the index, in `hall`. Assumes nothing.
use Prim.Native.Nat.{ℕ}
use mathlib.Core.Bool.{false}
use mathlib.Core.Path.{◌≡◌}
use mathlib.Core.List.{List, ◌∷◌}
use lib.ListN.{get_or}
use Rattle.turn.specs.declared.Worker.{Worker}
use Rattle.turn.specs.Asleep.{awake}
use Rattle.turn.specs.Places.{turn}
use Rattle.turn.specs.Turn.{After}
use Rattle.engine.specs.declared.Floor.{Floor}
use Rattle.engine.specs.declared.Seat.{Seat}
use Rattle.engine.specs.Refusals.{bucket_for, wrong_sizes, each_number, turn_number}
use Rattle.engine.specs.Calls.{Ran, report_on, turn_done, turned, turn_call, standing, blank, after_turn, tallied, run_from}

-- the record of the worker whose turn it is
abbrev pub mover : ℕ → After Ran → Worker
mover t s = get_or s.handed.records t blank

module _ (f : Floor) where
  -- the number of refusal of a turn of worker t, as the run stands
  abbrev pub number_at : ℕ → After Ran → ℕ
  number_at t s = each_number f s.words t (mover t s)

  -- the turn of worker t is done: it is the place table's, and it is counted
  abbrev pub done_by : ℕ → After Ran → After Ran
  done_by t s =
      let w = mover t s in
      let step = turn (bucket_for f s.words w.key) (awake w) in
      let report = report_on f s.words w step in
      standing (turn_done f s.words w step).words (after_turn s.handed.records t step.stepped.worker)
      (tallied w.place report s.handed.totals) report 0

  -- the next turn is done
  pub next_done : (t : ℕ) (ts : List ℕ) (s : After Ran) → number_at t s ≡ 0 → run_from f (t ∷ ts) s ≡ run_from f ts (done_by t s)
  unfolding run_from turned
  next_done t ts s none = rw none

-- each turn of a run is the turn that the call for one turn does, where the sizes are right
pub run_turn_is_turn :
    (board : List ℕ) (s : Seat) (w : Worker)
    → wrong_sizes s.floor board s.listed ≡ false
    → turned (each_number s.floor board s.worker w) s.floor board w ≡ turn_call board s w
unfolding turn_call turn_number
run_turn_is_turn board s w right = rw right
