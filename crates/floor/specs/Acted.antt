-- An act of one worker of the lent list, whatever its core is.
use Rattle.std.specs.Prelude.{ℕ, ◌≡◌, List, set, Result, Ok, Err}
use denote.Ref.{MutBor}
use Rattle.turn.specs.declared.Worker.{Worker}
use Rattle.turn.specs.declared.refusal.Refusal.{Refusal as Why}
use Rattle.engine.specs.declared.Begun.{Begun}
use Rattle.engine.specs.declared.Floor.{Floor}
use Rattle.engine.specs.declared.Seat.{Seat}
use Rattle.engine.specs.Calls.{record_in, seat_in}

module _ {T : Type 0} where
  -- what the core makes of the record goes back into the list; where it refuses, the list stays
  abbrev pub put_as : List Worker → ℕ → Result (Worker × T) Why → List Worker
  put_as records i (Ok both) = set records i both.0
  put_as records i (Err why) = records

  -- and what it tells beside the record is handed on
  abbrev pub told_as : Result (Worker × T) Why → Result T Why
  told_as (Ok both) = Ok both.1
  told_as (Err why) = Err why

  -- a call of the core at a board, an index, a seat and a record, by what its calls come to: what it hands back, and what it leaves of the two
  pub record Comes (came : MutBor (List ℕ) → MutBor (List ℕ) → Seat → Worker → Result (Worker × T) Why → MutBor (List ℕ) → MutBor (List ℕ) → Type 0)
      (board index : List ℕ) (s : Seat) (w : Worker) (r : Result (Worker × T) Why) (board' index' : List ℕ) : Type 0 where
    pub lent-board : MutBor (List ℕ)
    pub lent-index : MutBor (List ℕ)
    pub left-board : MutBor (List ℕ)
    pub left-index : MutBor (List ℕ)
    pub met : came lent-board lent-index s w r left-board left-index
    pub shows : (lent-board.now ≡ board) × (lent-index.now ≡ index)
    pub leaves : (left-board.now ≡ board') × (left-index.now ≡ index')

  -- an act: the core goes on with the worker's record in the worker's seat
  pub record Acted (came : MutBor (List ℕ) → MutBor (List ℕ) → Seat → Worker → Result (Worker × T) Why → MutBor (List ℕ) → MutBor (List ℕ) → Type 0)
      (board : List ℕ) (records : List Worker) (index : List ℕ) (f : Floor) (i : ℕ) (board' : List ℕ) (records' : List Worker) (index' : List ℕ)
      (r : Result T Why) : Type 0 where
    pub made : Result (Worker × T) Why
    pub core : Comes came board index (seat_in f records i) (record_in records i) made board' index'
    pub put : records' ≡ put_as records i made
    pub told : r ≡ told_as made

-- what a start's core makes of the record goes back into the list; where it refuses, the list stays
abbrev pub begun_as : List Worker → ℕ → Result Begun Why → List Worker
begun_as records i (Ok b) = set records i b.worker
begun_as records i (Err why) = records

-- and the floor after it is handed on
abbrev pub floor_as : Result Begun Why → Result Floor Why
floor_as (Ok b) = Ok b.floor
floor_as (Err why) = Err why

-- what may come of what begins at a board, a seat and a record
abbrev pub Beginning : Type 1
Beginning = List ℕ → Seat → Worker → Result Begun Why → Type 0

-- a start, by what begins
pub record Began (begins : Beginning) (board : List ℕ) (records : List Worker) (f : Floor) (i : ℕ)
    (records' : List Worker) (r : Result Floor Why) : Type 0 where
  pub made : Result Begun Why
  pub core : begins board (seat_in f records i) (record_in records i) made
  pub put : records' ≡ begun_as records i made
  pub told : r ≡ floor_as made
