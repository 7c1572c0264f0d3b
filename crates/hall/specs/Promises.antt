-- What each call that takes the index promises (§12.1). Each part is an equation with a function of what the call is given, and of what it hands
-- back.
use Rattle.std.specs.Prelude.{ℕ, ◌≡◌, List, Result, Option}
use Rattle.turn.specs.declared.Worker.{Worker}
use Rattle.turn.specs.declared.TurnDone.{TurnDone}
use Rattle.turn.specs.declared.refusal.Refusal.{Refusal}
use Rattle.turn.specs.Number.{result_number}
use Rattle.turn.specs.Turn.{after, answer_of, tried_as}
use Rattle.turn.specs.Retire.{retired_as}
use Rattle.engine.specs.declared.Floor.{Floor}
use Rattle.engine.specs.declared.Plan.{Plan}
use Rattle.engine.specs.declared.Seat.{Seat}
use Rattle.engine.specs.Calls.{laid_as}
use Rattle.engine.specs.declared.Moved.{Moved}
use Rattle.hall.specs.Totalled.{totalled_as}
use Rattle.hall.specs.Next.{next_as}
use Rattle.hall.specs.Refusals.{hall_retire_number, hall_run_refusal, hall_move_number, question_number}
use Rattle.hall.specs.Calls.{hall_lay, opened_index, hall_try, index_left, hall_retire, retired_index, hall_move, moved_index, total_call, next_call}

-- an opening: the board and the index before and after, and what is laid out beside them
pub record FloorKept (board index : List ℕ) (f : Floor) (listed : ℕ) (p : Plan) (board' index' : List ℕ) (r : Result Floor Refusal) : Type 0 where
  pub whole : after board' (laid_as f listed r) ≡ hall_lay board index f listed p
  pub kept : index' ≡ opened_index index (result_number r)

-- one turn: the board and the index before and after, and what is handed back
pub record TurnKept (board index : List ℕ) (s : Seat) (w : Worker) (board' index' : List ℕ) (r : Result TurnDone Refusal) : Type 0 where
  pub whole : after board' (tried_as w r) ≡ hall_try board index s w
  pub kept : index' ≡ index_left index (answer_of (tried_as w r).said)

-- a retiring: the board and the index before and after, and what is handed back
pub record RetireKept (board index : List ℕ) (s : Seat) (w : Worker) (board' index' : List ℕ) (r : Result Worker Refusal) : Type 0 where
  pub whole : after board' (retired_as w r) ≡ hall_retire board index s w
  pub kept : index' ≡ retired_index s.floor board index w (result_number r)
  pub number : result_number r ≡ hall_retire_number s.floor board index s.listed s.worker w

-- whether a run is refused as a whole: the number, or 0
pub record HallRunTested (f : Floor) (words listed entries count : ℕ) (r : Result (Unit {0}) Refusal) : Type 0 where
  pub whole : result_number r ≡ hall_run_refusal f words listed entries count

-- a move: the old board, the new board and the index before and after, and what is handed back, where the records give this number, or 0
pub record MoveKept (old board index : List ℕ) (f : Floor) (listed rest n : ℕ) (board' index' : List ℕ) (r : Moved) : Type 0 where
  pub whole : after board' r ≡ hall_move old board index f listed rest n
  pub kept : index' ≡ moved_index index board' n r.refusal
  pub number : r.refusal ≡ hall_move_number f old index listed rest n board

-- the total
pub record TotalTold (board index : List ℕ) (f : Floor) (r : Result ℕ Refusal) : Type 0 where
  pub whole : totalled_as r ≡ total_call board index f
  pub number : result_number r ≡ question_number f board index

-- the next occupied bucket
pub record NextTold (board index : List ℕ) (f : Floor) (from : ℕ) (r : Result (Option ℕ) Refusal) : Type 0 where
  pub whole : next_as r ≡ next_call board index f from
  pub number : result_number r ≡ question_number f board index
