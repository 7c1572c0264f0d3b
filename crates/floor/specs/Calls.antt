-- The calls on the lent list: what they leave on the board and in the list, and what they answer. An opening is the hall's hallOpen on
-- the list; what is left of the index is the hall's too, but for a run.
use Rattle.std.specs.Prelude.{ℕ, cond, List, eqb, length, set, Result, Ok, Err}
use Rattle.turn.specs.declared.Worker.{Worker}
use Rattle.turn.specs.declared.refusal.Refusal.{Refusal as Why}
use Rattle.turn.specs.Number.{number}
use Rattle.turn.specs.Turn.{Answer, Refused, Done, Said, After, after, no_report, answer_of}
use Rattle.engine.specs.declared.Floor.{Floor}
use Rattle.engine.specs.declared.Seat.{Seat}
use Rattle.engine.specs.Calls.{Started}
use Rattle.engine.specs.Calls.{Ran, record_in, seat_in, records_left}
use Rattle.hall.specs.Calls.{hall_try, hall_turn, hall_retire, Indexed, indexed, hall_run}
use Rattle.floor.specs.declared.list.Done.{Done as TurnDone}
use Rattle.floor.specs.declared.Outcome.{Outcome}
use Rattle.floor.specs.declared.TurnOutcome.{TurnOutcome}
use Rattle.floor.specs.declared.RunOutcome.{RunOutcome}
use Rattle.floor.specs.Told.{start_told, turn_told, run_told}

-- what a call leaves of the list, and what it answers
pub record OnList (A : Type 0) : Type 0 where
  pub records : List Worker
  pub answer : A

-- this list, and this answer
abbrev pub on_list : {A : Type 0} → List Worker → A → OnList A
on_list records answer = record { records = records; answer = answer }

-- a start: the record goes back into the list, and the number and the floor are handed back
abbrev pub start_in : (Seat → Worker → Started) → List Worker → Floor → ℕ → OnList Outcome
start_in start records f i =
    let x = start (seat_in f records i) (record_in records i) in
    on_list (set records i x.worker) (start_told x)

-- what a turn says that has this answer, tried at this place
abbrev pub said_as : ℕ → Result TurnDone Why → Said
said_as place (Ok d) = record { report = d.report; refusal = 0; place = d.place }
said_as place (Err why) = record { report = no_report; refusal = number why; place = place }

-- and the answer in it
abbrev pub answered_as : Result TurnDone Why → Answer
answered_as (Ok d) = Done d.report
answered_as (Err why) = Refused (number why)

-- one turn as far as it concerns its own worker: the record goes back into the list
abbrev pub step_in : List ℕ → List Worker → List ℕ → Floor → ℕ → After (OnList Said)
step_in board records index f i =
    let x = hall_try board index (seat_in f records i) (record_in records i) in
    after x.words (on_list (set records i x.handed.worker) x.handed.said)

-- §20.2: of so many records those that a turn with this number of refusal, or 0, goes over: all, or none
abbrev pub sleepers : ℕ → ℕ → ℕ
sleepers number listed = cond (eqb number 0) listed 0

-- one turn as it is tried
abbrev pub say_in : List ℕ → List Worker → List ℕ → Floor → ℕ → After (OnList Said)
say_in board records index f i =
    let x = hall_try board index (seat_in f records i) (record_in records i) in
    after x.words (on_list (records_left records i x.handed.worker (answer_of x.handed.said)) x.handed.said)

-- one turn
abbrev pub turn_in : List ℕ → List Worker → List ℕ → Floor → ℕ → After (OnList TurnOutcome)
turn_in board records index f i =
    let x = hall_turn board index (seat_in f records i) (record_in records i) in
    after x.words (on_list (records_left records i x.handed.worker x.handed.answer) (turn_told x.handed.answer))

-- a retiring: the record goes back into the list, and the number is handed back
abbrev pub retire_in : List ℕ → List Worker → List ℕ → Floor → ℕ → After (OnList ℕ)
retire_in board records index f i =
    let x = hall_retire board index (seat_in f records i) (record_in records i) in
    after x.words (on_list (set records i x.handed.worker) x.handed.refusal)

-- what a run came to, as it goes out to C
abbrev pub ran_told : After Ran → After (OnList RunOutcome)
ran_told x = after x.words (on_list x.handed.records (run_told x.handed.last x.handed.totals x.handed.stop))

-- a run: it leaves the board, the list and the index, and tells the last report, the totals and the number that stopped it
abbrev pub run_in : List ℕ → List Worker → List ℕ → Floor → List ℕ → Indexed (After (OnList RunOutcome))
run_in board records index f turns =
    let x = hall_run board index f records (length records) turns in
    indexed x.index (ran_told x.left)
