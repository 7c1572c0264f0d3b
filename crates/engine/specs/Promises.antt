-- What each call promises (§12.1). Each part is an equation with a function of what the call is given.
use Rattle.std.specs.Prelude.{ℕ, ◌≡◌, List, Result}
use Rattle.std.specs.Borrow.{Bor}
use Rattle.turn.specs.declared.Worker.{Worker}
use Rattle.turn.specs.declared.Report.{Report}
use Rattle.turn.specs.declared.TurnDone.{TurnDone}
use Rattle.turn.specs.declared.refusal.Refusal.{Refusal}
use Rattle.turn.specs.Number.{result_number}
use Rattle.turn.specs.Turn.{after, tried_as}
use Rattle.turn.specs.Retire.{retired_as}
use Rattle.engine.specs.declared.Floor.{Floor}
use Rattle.engine.specs.declared.Plan.{Plan}
use Rattle.engine.specs.declared.Seat.{Seat}
use Rattle.engine.specs.declared.Begun.{Begun}
use Rattle.engine.specs.declared.Totals.{Totals}
use Rattle.engine.specs.declared.Touched.{Touched}
use Rattle.engine.specs.declared.Moved.{Moved}
use Rattle.engine.specs.Refusals.{turn_number, retire_number, run_refusal, show_number, count_number}
use Rattle.engine.specs.Move.{rest_with, move_number, move_call}
use Rattle.engine.specs.Calls.{Started, blank, laid_as, lay_call, started_as, counted_as, try_call, retire_call, touched_by, no_turns, tallied, capped_totals, show_call, show_start, words_on, count_call}

-- a move: the old board, the new board before and after, and what is handed back, where the records give this number, or 0
pub record LotsMoved (old board : List ℕ) (f : Floor) (listed rest n : ℕ) (board' : List ℕ) (r : Moved) : Type 0 where
  pub whole : after board' r ≡ move_call old board f listed rest n
  pub number : r.refusal ≡ move_number f old listed rest n board

-- the number that the records give a move, with one more
pub record RestTested (number : ℕ) (w : Worker) (r : ℕ) : Type 0 where
  pub whole : r ≡ rest_with number w

-- what stands for a record past the end of a list
pub record BlankMade (r : Worker) : Type 0 where
  pub whole : r ≡ blank

-- an opening: the board before and after, and what is laid out beside it
pub record FloorLaid (board : List ℕ) (f : Floor) (listed : ℕ) (p : Plan) (board' : List ℕ) (r : Result Floor Refusal) : Type 0 where
  pub whole : after board' (laid_as f listed r) ≡ lay_call board f listed p

-- a start, by the function of its kind and what it brings, a lot or a bid: the record, the floor and the number that are handed back
pub record StartDone {B : Type 0} (start : List ℕ → Seat → Worker → B → Started) (board : List ℕ) (s : Seat) (w : Worker) (b : B) (r : Result Begun Refusal) :
    Type 0 where
  pub whole : started_as s.floor w r ≡ start board s w b

-- one turn: the board before and after, and what is handed back
pub record TurnTried (board : List ℕ) (s : Seat) (w : Worker) (board' : List ℕ) (r : Result TurnDone Refusal) : Type 0 where
  pub whole : after board' (tried_as w r) ≡ try_call board s w

-- whether a turn is refused: the number, or 0
pub record TurnTested (board : List ℕ) (s : Seat) (w : Worker) (r : Result (Unit {0}) Refusal) : Type 0 where
  pub whole : result_number r ≡ turn_number s.floor board s.listed s.worker w

-- a retiring: the board before and after, and what is handed back
pub record WorkerRetired (board : List ℕ) (s : Seat) (w : Worker) (board' : List ℕ) (r : Result Worker Refusal) : Type 0 where
  pub whole : after board' (retired_as w r) ≡ retire_call board s w
  pub number : result_number r ≡ retire_number s.floor board s.listed s.worker w

-- whether a retiring is refused: the number, or 0
pub record RetireTested (board : List ℕ) (s : Seat) (w : Worker) (r : Result (Unit {0}) Refusal) : Type 0 where
  pub whole : result_number r ≡ retire_number s.floor board s.listed s.worker w

-- the bucket of a lot, and its mark word
pub record BucketTouched (board : List ℕ) (f : Floor) (lot : ℕ) (r : Touched) : Type 0 where
  pub whole : r ≡ touched_by board f lot

-- no turn is counted yet
pub record NoneCounted (r : Totals) : Type 0 where
  pub whole : r ≡ no_turns

-- one turn more is counted, done at a place
pub record TurnCounted (t : Totals) (place : ℕ) (report : Report) (r : Totals) : Type 0 where
  pub whole : r ≡ capped_totals (tallied place report t)

-- whether a run is refused as a whole: the number, or 0
pub record RunTested (f : Floor) (words listed count : ℕ) (r : Result (Unit {0}) Refusal) : Type 0 where
  pub whole : result_number r ≡ run_refusal f words listed count

-- whether a show is refused: the number, or 0
pub record ShowTested (board : List ℕ) (f : Floor) (lot : ℕ) (r : Result (Unit {0}) Refusal) : Type 0 where
  pub whole : result_number r ≡ show_number f board lot

-- where the part that is shown starts, in words
pub record ShowPlaced (board : List ℕ) (f : Floor) (lot : ℕ) (r : ℕ) : Type 0 where
  pub whole : r ≡ show_start board f lot

-- a show: the lent board, and the part of it that is handed back; both are references, with what they point at and where
pub record Shown (board : Bor (List ℕ)) (f : Floor) (lot : ℕ) (part : Bor (List ℕ)) : Type 0 where
  pub words : part.now ≡ show_call board.now f lot
  pub start : part.ref_ptr ≡ words_on board.ref_ptr (show_start board.now f lot)

-- a count
pub record CountDone (board : List ℕ) (f : Floor) (r : Result ℕ Refusal) : Type 0 where
  pub whole : counted_as r ≡ count_call board f
  pub number : result_number r ≡ count_number f board
