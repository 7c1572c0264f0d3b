-- What each call on the lent list promises (§12.1); a show promises what the engine's does. Each part is an equation with
-- a function of what the call is given.
use Rattle.std.specs.Prelude.{ℕ, ◌≡◌, List, length}
use Rattle.turn.specs.declared.Worker.{Worker}
use Rattle.turn.specs.Turn.{after}
use Rattle.engine.specs.declared.Floor.{Floor}
use Rattle.engine.specs.declared.Plan.{Plan}
use Rattle.engine.specs.declared.Seat.{Seat}
use Rattle.engine.specs.Calls.{Started}
use Rattle.engine.specs.Refusals.{show_number, count_number}
use Rattle.engine.specs.Calls.{record_in, seat_in, show_call, show_start, count_call}
use Rattle.engine.specs.Move.{rest_number}
use Rattle.hall.specs.Refusals.{hall_turn_number, hall_retire_number, hall_move_number, question_number}
use Rattle.hall.specs.Calls.{hall_open, opened_index, hall_turn, index_left, retired_index, indexed, hall_move, moved_index, total_call, next_call}
use Rattle.floor.specs.declared.Outcome.{Outcome}
use Rattle.floor.specs.declared.TurnOutcome.{TurnOutcome}
use Rattle.floor.specs.declared.RunOutcome.{RunOutcome}
use Rattle.floor.specs.declared.Part.{Part}
use Rattle.floor.specs.declared.CountOutcome.{CountOutcome}
use Rattle.floor.specs.declared.TotalOutcome.{TotalOutcome}
use Rattle.floor.specs.declared.NextOutcome.{NextOutcome}
use Rattle.floor.specs.Told.{count_told, total_told, next_told}
use Rattle.floor.specs.Calls.{on_list, start_in, turn_in, retire_in, run_in}

-- an opening: the board, the list and the index before and after, and what is handed back
pub record FloorOpened (board : List ℕ) (records : List Worker) (index : List ℕ) (f : Floor) (p : Plan) (board' : List ℕ) (records' : List Worker)
    (index' : List ℕ) (r : Outcome) : Type 0 where
  pub whole :
      after board' (record { refusal = r.refusal; floor = r.floor; records = records' }) ≡ hall_open board index f records (length records) p
  pub kept : index' ≡ opened_index index r.refusal

-- a start, by the engine's function of its kind and what it brings, a lot or a bid: the list before and after, and what is handed back
pub record StartLeft {B : Type 0} (start : List ℕ → Seat → Worker → B → Started) (board : List ℕ) (records : List Worker) (f : Floor) (i : ℕ) (b : B)
    (records' : List Worker) (r : Outcome) : Type 0 where
  pub whole : on_list records' r ≡ start_in (λ s w. start board s w b) records f i

-- a turn: the board, the list and the index before and after, and what is handed back
pub record TurnLeft (board : List ℕ) (records : List Worker) (index : List ℕ) (f : Floor) (i : ℕ) (board' : List ℕ) (records' : List Worker)
    (index' : List ℕ) (r : TurnOutcome) : Type 0 where
  pub whole : after board' (on_list records' r) ≡ turn_in board records index f i
  pub kept : index' ≡ index_left index (hall_turn board index (seat_in f records i) (record_in records i)).handed.answer
  pub number : r.refusal ≡ hall_turn_number f board index (length records) i (record_in records i)

-- a retiring: the board, the list and the index before and after, and the number that is handed back
pub record RetireLeft (board : List ℕ) (records : List Worker) (index : List ℕ) (f : Floor) (i : ℕ) (board' : List ℕ) (records' : List Worker)
    (index' : List ℕ) (r : ℕ) : Type 0 where
  pub whole : after board' (on_list records' r) ≡ retire_in board records index f i
  pub kept : index' ≡ retired_index f board index (record_in records i) r
  pub number : r ≡ hall_retire_number f board index (length records) i (record_in records i)

-- a run: the board, the list and the index before and after, and what is handed back
pub record RunLeft (board : List ℕ) (records : List Worker) (index : List ℕ) (f : Floor) (turns board' : List ℕ) (records' : List Worker)
    (index' : List ℕ) (r : RunOutcome) : Type 0 where
  pub whole : indexed index' (after board' (on_list records' r)) ≡ run_in board records index f turns

-- a move: the old board and the list, the new board and the index before and after, and what is handed back
pub record MoveLeft (old board : List ℕ) (records : List Worker) (index : List ℕ) (f : Floor) (n : ℕ) (board' index' : List ℕ) (r : Outcome) :
    Type 0 where
  pub whole : after board' (record { floor = r.floor; refusal = r.refusal }) ≡ hall_move old board index f (length records) (rest_number records) n
  pub kept : index' ≡ moved_index index board' n r.refusal
  pub number : r.refusal ≡ hall_move_number f old index (length records) (rest_number records) n board

-- a show, where no reference can be handed back: which words of the lent board are the part
pub record PartShown (board : List ℕ) (f : Floor) (lot : ℕ) (p : Part) : Type 0 where
  pub start : p.start ≡ show_start board f lot
  pub words : p.words ≡ length (show_call board f lot)

-- the number of refusal of a show, or 0
pub record ShowNumbered (board : List ℕ) (f : Floor) (lot r : ℕ) : Type 0 where
  pub whole : r ≡ show_number f board lot

-- a count
pub record CountLeft (board : List ℕ) (f : Floor) (r : CountOutcome) : Type 0 where
  pub whole : r ≡ count_told (count_call board f)
  pub number : r.refusal ≡ count_number f board

-- a total
pub record TotalLeft (board index : List ℕ) (f : Floor) (r : TotalOutcome) : Type 0 where
  pub whole : r ≡ total_told (total_call board index f)
  pub number : r.refusal ≡ question_number f board index

-- a next occupied bucket
pub record NextLeft (board index : List ℕ) (f : Floor) (from : ℕ) (r : NextOutcome) : Type 0 where
  pub whole : r ≡ next_told (next_call board index f from)
  pub number : r.refusal ≡ question_number f board index
