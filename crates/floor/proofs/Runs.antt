-- A turn of a run on the list is the turn that the call for one turn does there. Assumes nothing.
use Prim.Native.Nat.{ℕ}
use mathlib.Core.Bool.{false}
use mathlib.Core.Path.{◌≡◌, refl}
use mathlib.Core.List.{List}
use lib.ListN.{length}
use Rattle.turn.specs.declared.Worker.{Worker}
use Rattle.turn.specs.declared.Report.{Report}
use Rattle.turn.specs.Turn.{after}
use Rattle.engine.specs.declared.Floor.{Floor}
use Rattle.engine.specs.declared.Totals.{Totals}
use Rattle.engine.specs.Refusals.{wrong_sizes}
use Rattle.engine.specs.Calls.{record_in, seat_in, turned, standing}
use Rattle.hall.specs.Refusals.{wrong_index, hall_each_number}
use Rattle.hall.specs.Calls.{hall_turn, index_left, indexed}
use Rattle.floor.specs.Told.{report_told}
use Rattle.floor.specs.Calls.{turn_in}
use Rattle.hall.proofs.Plain.{hall_each_is}
use Rattle.hall.proofs.Stops.{hall_done_by}

-- what a turn of worker t that is not refused leaves of the board, of the list and of the index, and its report as it goes to C, where the sizes are
-- right
pub desk_run_turn_is_turn :
    (board : List ℕ) (records : List Worker) (index : List ℕ) (f : Floor) (t : ℕ) (totals : Totals) (last : Report)
    → wrong_index (length index) ≡ false
    → wrong_sizes f board (length records) ≡ false
    → hall_each_number f board index t (record_in records t) ≡ 0
    → let run = hall_done_by f t (indexed index (standing board records totals last 0)) in
    let turn = turn_in board records index f t in
    (after run.left.words run.left.handed.records ≡ after turn.words turn.handed.records)
    × (report_told run.left.handed.last ≡ turn.handed.answer.report)
    × (run.index ≡ index_left index (hall_turn board index (seat_in f records t) (record_in records t)).handed.answer)
unfolding hall_turn turned
desk_run_turn_is_turn board records index f t totals last five right none =
    rw (hall_each_is f board index (length records) t (record_in records t) five right, none) (refl, refl, refl)
