-- Openings and moves among the calls. One that is refused leaves everything as it was. One that is accepted begins a new history: what is said
-- of the trace, of I and of R is then said of the calls since. What was done through all moves since the last opening is a ledger.
use Rattle.std.specs.Prelude.{ℕ, ◌^◌, ◌<◌, List, [], ◌∷◌, ◌++◌, ◌≡◌, length}
use Rattle.std.proofs.Math.Decide.{ℕ_discrete}
use Rattle.engine.specs.declared.Plan.{Plan}
use Rattle.engine.specs.Calls.{planned}
use Rattle.hall.specs.Refusals.{hall_open_number}
use Rattle.history.specs.Trace.{Entry}
use Rattle.history.specs.History.{State, Opening, Call, opened, opened_as, open_by, state, trace}
use Rattle.history.specs.Moves.{Lent, Step, calls, moves, move_number_of, after_step, entries_by, state_through, trace_through}
use Rattle.history.specs.Demand.{DemandThree}
use Rattle.history.specs.Values.{NoValueComesBack}
use Rattle.history.specs.Lots.{CountTells}
use Rattle.history.specs.Reports.{ReportsChain}
use Rattle.history.specs.Cells.{Cells}
use Rattle.history.specs.HowLong.{HowLong}
use Rattle.history.specs.Asleep.{Sleeps}
use Rattle.history.specs.Unbroken.{Unbroken}
use Rattle.history.specs.Retirings.{Retirings}
use Rattle.history.specs.Display.{Displays}
use Rattle.history.specs.Moved.{MoveTells, MoveRefusals}

-- whatever may be asked of the library, with any numbers
pub data Asked : Type 0 where
  -- a call on the floor that stands open, or a move of it to a second board
  asks : Step → Asked
  -- an opening of the same board, list and index, at a version of 32 bits
  opens : (plan : Plan) → plan.version < 2 ^ 32 → Asked

-- its number, if an opening is asked of a state
abbrev pub reopen_number : State → Plan → ℕ
reopen_number s plan = hall_open_number (planned plan) s.board s.index (length s.records)

-- the state that it leaves, by the engine's own calls
abbrev pub leaves : State → Asked → State
leaves s (asks a) = after_step s a
leaves s (opens plan fits) = opened_as s (open_by s plan)

-- the turns that it does
abbrev pub turns_by : State → Asked → List Entry
turns_by s (asks a) = entries_by s a
turns_by s (opens plan fits) = []

-- the state after all that was asked
unfoldable pub leaves_all : State → List Asked → State
leaves_all s [] = s
leaves_all s (a ∷ more) = leaves_all (leaves s a) more

-- all turns that were done
unfoldable pub turns_by_all : State → List Asked → List Entry
turns_by_all s [] = []
turns_by_all s (a ∷ more) = turns_by s a ++ turns_by_all (leaves s a) more

-- ---- histories

-- the state in which a stretch begins, and the calls since
pub record History : Type 0 where
  pub first : State
  pub calls : List Call

-- where it stands
abbrev pub state_since : History → State
state_since h = state h.first h.calls

-- its turns
abbrev pub turns_since : History → List Entry
turns_since h = trace h.first h.calls

-- a history that has just begun
abbrev pub from_opening : Opening → History
from_opening o = record { first = opened o; calls = [] }

-- an opening that is accepted begins a new history, and one that is refused leaves the old one
abbrev pub reopened : (h : History) (plan : Plan) → plan.version < 2 ^ 32 → Dec (reopen_number (state_since h) plan ≡ 0) → History
reopened h plan fits (yes accepted) = from_opening (record { lent = state_since h; plan = plan; accepted = accepted; version_fits = fits })
reopened h plan fits (no refused) = h

-- §22.6: so a move that is accepted begins a new history, and one that is refused leaves the old one
abbrev pub moved_on : (h : History) (m : Lent) → Dec (move_number_of (state_since h) m ≡ 0) → History
moved_on h m (yes accepted) = record { first = after_step (state_since h) (moves m); calls = [] }
moved_on h m (no refused) = h

-- the history after what is asked of it
abbrev pub goes_on : History → Asked → History
goes_on h (asks (calls c)) = record { first = h.first; calls = h.calls ++ (c ∷ []) }
goes_on h (asks (moves m)) = moved_on h m (ℕ_discrete (move_number_of (state_since h) m) 0)
goes_on h (opens plan fits) = reopened h plan fits (ℕ_discrete (reopen_number (state_since h) plan) 0)

-- §2.11, §22.6: after all that was asked: what the last opening or move that was accepted left, and the calls since
unfoldable pub since : History → List Asked → History
since h [] = h
since h (a ∷ more) = since (goes_on h a) more

-- so of an opening and all that was asked after it
abbrev pub history_of : Opening → List Asked → History
history_of o asked = since (from_opening o) asked

-- ---- through all moves

-- §22.7: the state that an opening left, and the calls and moves since
pub record Ledger : Type 0 where
  pub first : State
  pub steps : List Step

-- where it stands
abbrev pub state_by : Ledger → State
state_by l = state_through l.first l.steps

-- its turns
abbrev pub turns_in : Ledger → List Entry
turns_in l = trace_through l.first l.steps

-- a ledger that has just begun
abbrev pub begun_by : Opening → Ledger
begun_by o = record { first = opened o; steps = [] }

-- an opening that is accepted begins a new one, and one that is refused leaves the old one
abbrev pub reopens : (l : Ledger) (plan : Plan) → plan.version < 2 ^ 32 → Dec (reopen_number (state_by l) plan ≡ 0) → Ledger
reopens l plan fits (yes accepted) = begun_by (record { lent = state_by l; plan = plan; accepted = accepted; version_fits = fits })
reopens l plan fits (no refused) = l

-- the ledger after what is asked: a call or a move is its next step, accepted or refused
abbrev pub notes : Ledger → Asked → Ledger
notes l (asks a) = record { first = l.first; steps = l.steps ++ (a ∷ []) }
notes l (opens plan fits) = reopens l plan fits (ℕ_discrete (reopen_number (state_by l) plan) 0)

-- §22.7: after all that was asked: what the last opening that was accepted left, and the calls and moves since
unfoldable pub notes_all : Ledger → List Asked → Ledger
notes_all l [] = l
notes_all l (a ∷ more) = notes_all (notes l a) more

-- so of an opening and all that was asked after it
abbrev pub ledger_of : Opening → List Asked → Ledger
ledger_of o asked = notes_all (begun_by o) asked

-- what was asked is what the ledger says
pub record Noted (o : Opening) (asked : List Asked) : Type 0 where
  -- the opening that it begins with
  pub opening : Opening
  pub begun : (ledger_of o asked).first ≡ opened opening
  -- board, floor, records and index stand as it leaves them
  pub stands : leaves_all (opened o) asked ≡ state_by (ledger_of o asked)
  -- the last turns that were done are its own
  pub older : List Entry
  pub turns : turns_by_all (opened o) asked ≡ older ++ turns_in (ledger_of o asked)

-- ---- what holds

-- what holds under any order of calls, openings and moves among them
pub record AnyOrder (o : Opening) (asked : List Asked) : Type 0 where
  -- board, floor, records and index stand as the history since the last opening or move that was accepted leaves them
  pub stands : leaves_all (opened o) asked ≡ state_since (history_of o asked)
  -- the last turns that were done are that history's
  pub older : List Entry
  pub turns : turns_by_all (opened o) asked ≡ older ++ turns_since (history_of o asked)
  -- demand 3 holds of it
  pub demand : DemandThree (history_of o asked).first (history_of o asked).calls
  -- no value comes back in it
  pub values : NoValueComesBack (history_of o asked).first (history_of o asked).calls
  -- a count tells the lots at first and the commits, less the closes, of its turns
  pub counted : CountTells (history_of o asked).first (history_of o asked).calls
  -- reports chain, and tell who made a swap lose
  pub reports : ReportsChain (history_of o asked).first (history_of o asked).calls
  -- calls take as long as is said
  pub lasting : HowLong (history_of o asked).first (history_of o asked).calls
  -- whoever is at a call can be retired, and one that comes back after all finds its word never again while inserts are few
  pub retires : Retirings (history_of o asked).first (history_of o asked).calls
  -- each record tells how many turns of others its worker has slept through
  pub sleeping : Sleeps (history_of o asked).first (history_of o asked).calls
  -- the hall display is told what stands on the board
  pub displayed : Displays (history_of o asked).first (history_of o asked).calls
  -- a move that comes next and is accepted takes the same lots and tickets with it
  pub moving : (m : Lent) → move_number_of (leaves_all (opened o) asked) m ≡ 0 → MoveTells (leaves_all (opened o) asked) m
  -- and one that is refused is so by these numbers alone
  pub unmoved : (m : Lent) → MoveRefusals (leaves_all (opened o) asked) m
  -- held slots are filled, and valid ones have a lot of their bucket and a ticket
  pub cells : Cells (leaves_all (opened o) asked)
  -- and nothing is broken
  pub unbroken : Unbroken (leaves_all (opened o) asked)
