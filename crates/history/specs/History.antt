-- What an opened board is. A history is a state in which a stretch begins, as an opening or a move that is accepted leaves it, and any
-- list of calls since, accepted or refused. What each call does is said in the engine's Calls and the hall's, and nowhere else.
use Rattle.std.specs.Prelude.{ℕ, ◌+◌, ◌-◌, ◌*◌, ◌%◌, ◌^◌, ◌<◌, cond, List, [], ◌∷◌, ◌++◌, map, ◌≡◌, eqb, length, set}
use Rattle.std.proofs.Common.{arith}
use Rattle.turn.specs.declared.Worker.{Worker}
use Rattle.turn.specs.Worker.{look_kind, insert_kind, remove_kind}
use Rattle.turn.specs.Asleep.{awake}
use Rattle.turn.specs.Turn.{Answer, Refused, Done, Turned, After}
use Rattle.turn.specs.Retire.{Retired}
use Rattle.engine.specs.declared.Floor.{Floor}
use Rattle.engine.specs.declared.Plan.{Plan}
use Rattle.engine.specs.declared.Seat.{Seat}
use Rattle.engine.specs.Calls.{Started}
use Rattle.engine.specs.Board.{bucket_of}
use Rattle.engine.specs.Calls.{Opened, Ran, planned, look_call, insert_call, remove_call, records_left, record_in, seat_in}
use Rattle.hall.specs.Refusals.{hall_open_number, hall_run_number}
use Rattle.hall.specs.Calls.{hall_open, opened_index, hall_turn, index_left, hall_retire, retired_index, Indexed, hall_run}
use Rattle.history.specs.Trace.{Entry, acted, retired}

-- ---- the state, and the opening that it comes from

-- §2.11: board, floor, records and index, as one call leaves them and the next one takes them
pub record State : Type 0 where
  pub board : List ℕ
  pub floor : Floor
  pub records : List Worker
  pub index : List ℕ

-- W
abbrev pub workers_of : State → ℕ
workers_of s = s.floor.workers

-- N
abbrev pub buckets_of : State → ℕ
buckets_of s = s.floor.buckets

-- a worker's record, as it stands in the list
abbrev pub listed_of : State → ℕ → Worker
listed_of s i = record_in s.records i

-- the same without how long it has slept, which no step of a call goes by
abbrev pub record_of : State → ℕ → Worker
record_of s i = record_in (map awake s.records) i

-- a worker's seat
abbrev pub seat_of : State → ℕ → Seat
seat_of s i = seat_in s.floor s.records i

-- §2.11: an opening that is accepted, with anything on the board, in the list and in the index that are lent to it: so W is 1 to 64, and N 1 to 256
pub record Opening : Type 0 where
  pub lent : State
  pub plan : Plan
  pub accepted : hall_open_number (planned plan) lent.board lent.index (length lent.records) ≡ 0
  -- §2.10: a version has 32 bits
  pub version_fits : plan.version < 2 ^ 32

-- what an opening of a state hands back, with the board and the index that it leaves
abbrev pub opened_as : State → After Opened → State
opened_as s x =
    record { board = x.words; floor = x.handed.floor; records = x.handed.records; index = opened_index s.index x.handed.refusal }

-- what the engine says of an opening of a state
abbrev pub open_by : State → Plan → After Opened
open_by s plan = hall_open s.board s.index s.floor s.records (length s.records) plan

-- §2.10: the state that the opening leaves
abbrev pub opened : Opening → State
opened o = opened_as o.lent (open_by o.lent o.plan)

-- ---- calls

-- §3.5: a ticket has 64 bits
pub record Ticket : Type 0 where
  pub number : ℕ
  pub fits : number < 2 ^ 64

-- the ticket that stands in the low 64 bits of a number
abbrev pub ticket : ℕ → Ticket
ticket n = record { number = n % 2 ^ 64; fits = omega arith }

-- §1.1: the calls of the library on an opened board, with any numbers
pub data Call : Type 0 where
  -- a worker starts a look for a lot
  look : ℕ → ℕ → Call
  -- a worker starts an insert of a lot, with a ticket
  insert : ℕ → ℕ → Ticket → Call
  -- a worker starts a remove of a lot
  remove : ℕ → ℕ → Call
  -- a worker has one turn
  turn : ℕ → Call
  -- a worker is retired
  retire : ℕ → Call
  -- workers have their turns in this order
  run : List ℕ → Call
  -- the bucket of a lot is shown
  show : ℕ → Call
  -- the lots on the board are counted
  count : Call
  -- all orders of turns are walked, to a depth
  orders : ℕ → Call
  -- the display asks for the number of valid slots
  ask_total : Call
  -- and for the first occupied bucket at or after one
  ask_next : ℕ → Call

module _ (s : State) where
  -- what the engine says of the start of a look
  abbrev pub look_by : ℕ → ℕ → Started
  look_by i lot = look_call s.board (seat_of s i) (listed_of s i) lot

  -- what it says of the start of an insert
  abbrev pub insert_by : ℕ → ℕ → Ticket → Started
  insert_by i lot t = insert_call s.board (seat_of s i) (listed_of s i) (record { lot = lot; ticket = t.number })

  -- what it says of the start of a remove
  abbrev pub remove_by : ℕ → ℕ → Started
  remove_by i lot = remove_call s.board (seat_of s i) (listed_of s i) lot

  -- what it says of one turn
  abbrev pub turn_by : ℕ → After Turned
  turn_by i = hall_turn s.board s.index (seat_of s i) (listed_of s i)

  -- what it says of a retiring
  abbrev pub retire_by : ℕ → After Retired
  retire_by i = hall_retire s.board s.index (seat_of s i) (listed_of s i)

  -- what it says of a run, and the index that the run leaves
  abbrev pub ran_by : List ℕ → Indexed (After Ran)
  ran_by turns = hall_run s.board s.index s.floor s.records (length s.records) turns

  -- what it says of a run
  abbrev pub run_of : List ℕ → After Ran
  run_of turns = (ran_by turns).left

-- ---- what a call leaves

-- a start leaves the board and the index; the floor and the worker's record are what it hands back
abbrev pub started_as : State → ℕ → Started → State
started_as s i x = record { board = s.board; floor = x.floor; records = set s.records i x.worker; index = s.index }

-- a turn leaves the floor; the board and the worker's record are what it leaves and hands back, the others sleep through it, and the index
-- follows its report
abbrev pub turned_as : State → ℕ → After Turned → State
turned_as s i x =
    record {
      board = x.words;
      floor = s.floor;
      records = records_left s.records i x.handed.worker x.handed.answer;
      index = index_left s.index x.handed.answer;
    }

-- a retiring leaves the floor; the board and the worker's record are what it leaves and hands back, and the index follows the bucket
abbrev pub retired_as : State → ℕ → After Retired → State
retired_as s i x =
    record {
      board = x.words;
      floor = s.floor;
      records = set s.records i x.handed.worker;
      index = retired_index s.floor s.board s.index (listed_of s i) x.handed.refusal;
    }

-- a run leaves the floor; the board, all records and the index are what it leaves and hands back
abbrev pub ran_as : State → Indexed (After Ran) → State
ran_as s x = record { board = x.left.words; floor = s.floor; records = x.left.handed.records; index = x.index }

-- §2.11, §12.5, §18.5, §21.2: the state after a call, by the engine's own; a show, a count, all orders and the questions change nothing
abbrev pub after : State → Call → State
after s (look i lot) = started_as s i (look_by s i lot)
after s (insert i lot t) = started_as s i (insert_by s i lot t)
after s (remove i lot) = started_as s i (remove_by s i lot)
after s (turn i) = turned_as s i (turn_by s i)
after s (retire i) = retired_as s i (retire_by s i)
after s (run turns) = ran_as s (ran_by s turns)
after s (show lot) = s
after s count = s
after s (orders depth) = s
after s ask_total = s
after s (ask_next from) = s

-- ---- what a call does: turns, and retirings

-- the entry of a turn that is done; one that is refused has none
abbrev pub entry_of : State → ℕ → Answer → List Entry
entry_of s i (Refused number) = []
entry_of s i (Done report) = acted (record { worker = i; was = record_of s i; report = report }) ∷ []

-- the entry of one turn
abbrev pub turn_entry : State → ℕ → List Entry
turn_entry s i = entry_of s i (turn_by s i).handed.answer

-- the entry of a retiring, if worker i is retired
abbrev pub retiring_of : State → ℕ → Entry
retiring_of s i =
    retired (record { worker = i; was = record_of s i; bucket = bucket_of (record_of s i).key s.floor.buckets })

-- §19.4: the entry of a retiring that is done; one that is refused has none
abbrev pub retire_entry : State → ℕ → After Retired → List Entry
retire_entry s i x = cond (eqb x.handed.refusal 0) (retiring_of s i ∷ []) []

-- §4.10: the first turn's entry, and then the rest's; a turn that is refused has none, and none comes after it
abbrev pub and_then : List Entry → List Entry → List Entry
and_then [] rest = []
and_then (e ∷ es) rest = e ∷ rest

-- the entries of turns one after another, each on what the one before left
unfoldable pub turn_entries : State → List ℕ → List Entry
turn_entries s [] = []
turn_entries s (i ∷ turns) = and_then (turn_entry s i) (turn_entries (turned_as s i (turn_by s i)) turns)

-- the entries of a run; one that is refused as a whole, by 1 or 9, has none
abbrev pub run_entries : State → List ℕ → List Entry
run_entries s turns = cond (eqb (hall_run_number s.floor s.board s.index (length s.records) turns) 0) (turn_entries s turns) []

-- the entries of a call
abbrev pub entries : State → Call → List Entry
entries s (look i lot) = []
entries s (insert i lot t) = []
entries s (remove i lot) = []
entries s (turn i) = turn_entry s i
entries s (retire i) = retire_entry s i (retire_by s i)
entries s (run turns) = run_entries s turns
entries s (show lot) = []
entries s count = []
entries s (orders depth) = []
entries s ask_total = []
entries s (ask_next from) = []

-- ---- histories

-- the state after calls, from a state
unfoldable pub state_from : State → List Call → State
state_from s [] = s
state_from s (c ∷ cs) = state_from (after s c) cs

-- what calls do, one after another
unfoldable pub trace_from : State → List Call → List Entry
trace_from s [] = []
trace_from s (c ∷ cs) = entries s c ++ trace_from (after s c) cs

-- a number for each call, from the state that it takes, added up
unfoldable pub sum_from : (State → Call → ℕ) → State → List Call → ℕ
sum_from f s [] = 0
sum_from f s (c ∷ cs) = f s c + sum_from f (after s c) cs

-- the kind of call that a start begins, if it is accepted
abbrev pub begun : ℕ → Started → ℕ
begun kind x = cond (eqb x.refusal 0) kind 0

-- the kind of the call that a call of the library begins; 0 where it begins none
abbrev pub begins : State → Call → ℕ
begins s (look i lot) = begun look_kind (look_by s i lot)
begins s (insert i lot t) = begun insert_kind (insert_by s i lot t)
begins s (remove i lot) = begun remove_kind (remove_by s i lot)
begins s (turn i) = 0
begins s (retire i) = 0
begins s (run turns) = 0
begins s (show lot) = 0
begins s count = 0
begins s (orders depth) = 0
begins s ask_total = 0
begins s (ask_next from) = 0

-- 1 for a call of the library that begins one of this kind
abbrev pub is_start : ℕ → State → Call → ℕ
is_start kind s c = cond (eqb (begins s c) kind) 1 0

-- a stretch: it begins in this state, and these are the calls since
module _ (first : State) (calls : List Call) where
  -- §2.11: the state that they leave
  abbrev pub state : State
  state = state_from first calls

  -- what was done: turns, and retirings
  abbrev pub trace : List Entry
  trace = trace_from first calls

  -- §11.3: I, the inserts that were accepted
  abbrev pub inserts : ℕ
  inserts = sum_from (is_start insert_kind) first calls

  -- §3.8: inserts are few: no version can have come round
  abbrev pub FewInserts : Type 0
  FewInserts = inserts < 2 ^ 32

  -- §11.3: R, the removes that were accepted
  abbrev pub removes : ℕ
  removes = sum_from (is_start remove_kind) first calls

  -- §11.3: (W - 1)(2I + R), the most swaps that may be lost
  abbrev pub most_lost : ℕ
  most_lost = (workers_of first - 1) * (2 * inserts + removes)
