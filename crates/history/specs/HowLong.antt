-- How long a call can keep its worker: the figures, and all that is claimed of them. Of the place table that is `look_takes`, in proofs/Looking;
-- of every stretch, wherever it can begin, `how_long`, in proofs/HowLong; that the figures are met is in proofs/Figures.
use Rattle.std.specs.Prelude.{ℕ, zero, suc, ◌+◌, ◌≤◌, ◌<◌, List, [], ◌∷◌, ◌⊎◌, ◌≡◌, replicate}
use Rattle.turn.specs.declared.Worker.{Worker}
use Rattle.turn.specs.declared.Progress.{Progress}
use Rattle.turn.specs.declared.Progress.TheVariants.{GoesOn, Ended}
use Rattle.turn.specs.declared.Report.{Report}
use Rattle.turn.specs.Worker.{look_kind, idle, look_for}
use Rattle.turn.specs.Places as Places
use Rattle.turn.specs.Turn.{Done, Turned, After}
use Rattle.engine.specs.Calls.{Started}
use Rattle.engine.specs.Board.{bucket_of}
use Rattle.history.specs.Numbers.{OneOf}
use Rattle.history.specs.Trace.{Entry, acted, retired, Changes, Ends, OwnEnd, None}
use Rattle.history.specs.Moment.{AtTurn}
use Rattle.history.specs.InCall.{InCall, own_turns, number_in_call}
use Rattle.history.specs.Cells.{mark_at, key_at}
use Rattle.history.specs.History.{State, Call, Ticket, run, workers_of, listed_of, look_by, insert_by, remove_by, turn_by, run_of}
use Rattle.history.specs.History.{started_as, after, trace_from, state, trace}

-- ---- the figures

-- §15.1: a look ends with its fourth turn at the earliest
abbrev pub look_least : ℕ
look_least = 4

-- §15.1: a look ends with its tenth turn at the latest
abbrev pub look_most : ℕ
look_most = 10

-- §15.2: a remove alone ends with its sixth turn at the latest
abbrev pub remove_most : ℕ
remove_most = 6

-- §15.3: an insert alone ends with its thirteenth at the latest, where it can end
abbrev pub insert_most : ℕ
insert_most = 13

-- ---- a look, of the place table alone

-- a worker's turns one after another, where at each of them other words may stand in the bucket; turns count from 0 here
module _ (words : ℕ → List ℕ) (w : Worker) where
  -- the record before a turn
  unfoldable pub record_at : ℕ → Worker
  record_at zero = w
  record_at (suc k) = (Places.turn (words k) (record_at k)).stepped.worker

  -- whether the call goes on after a turn, or has ended
  abbrev pub progress_at : ℕ → Progress
  progress_at k = (Places.turn (words k) (record_at k)).stepped.progress

-- §15.1: so many turns are those of a look: the last one ends it, and none before does
pub record LookTakes (lot : ℕ) (words : ℕ → List ℕ) : Type 0 where
  pub turns : ℕ
  pub least : look_least ≤ turns
  pub most : turns ≤ look_most
  pub goes_on : (k : ℕ) → k + 1 < turns → progress_at words (look_for lot) k ≡ GoesOn
  pub answer : ℕ
  pub ends : (k : ℕ) → k + 1 ≡ turns → progress_at words (look_for lot) k ≡ Ended answer

-- ---- alone

-- by which worker i is not alone: a turn of another worker, or the retiring of itself or of one that held a slot
abbrev pub Disturbs : ℕ → Entry → Type 0
Disturbs i (acted e) = e.worker ≡ i → ⊥
Disturbs i (retired r) = (r.worker ≡ i) ⊎ Changes (retired r)

-- worker i is alone with these entries
abbrev pub Alone : ℕ → List Entry → Type 0
Alone i es = None (Disturbs i) es

-- worker i is idle
abbrev pub IsIdle : State → ℕ → Type 0
IsIdle s i = listed_of s i ≡ idle

-- §15.2, §15.3: the call that worker i is at in s ends within so many turns of it, if it is alone
pub record EndsAlone (s : State) (i most : ℕ) : Type 0 where
  -- the worker is busy
  pub busy : IsIdle s i → ⊥
  -- a run of so many turns leaves it idle
  pub idles : IsIdle (after s (run (replicate most i))) i
  -- having done no more than that
  pub within : (run_of s (replicate most i)).handed.totals.turns ≤ most
  -- and none was refused but one that found it idle already (6)
  pub stops : OneOf (0 ∷ 6 ∷ []) (run_of s (replicate most i)).handed.stop
  -- whatever else is called meanwhile: as long as its call has not ended it has had fewer
  pub meanwhile :
      (rest : List Call) → Alone i (trace_from s rest) → None (OwnEnd i) (trace_from s rest) → own_turns i (trace_from s rest) < most

-- a run of n turns of worker i in s: all are done, and it is busy still
pub record GoesOnFor (s : State) (i n : ℕ) : Type 0 where
  pub turns : (run_of s (replicate n i)).handed.totals.turns ≡ n
  pub stops : (run_of s (replicate n i)).handed.stop ≡ 0
  pub busy : IsIdle (after s (run (replicate n i))) i → ⊥

-- §15.3: the call that worker i is at in s never ends, if it is alone
pub record NeverEndsAlone (s : State) (i : ℕ) : Type 0 where
  -- it goes on for as many turns as a run may have
  pub runs : (n : ℕ) → n ≤ 65535 → GoesOnFor s i n
  -- whatever else is called meanwhile: no turn of it ends the call
  pub meanwhile : (rest : List Call) → Alone i (trace_from s rest) → None (OwnEnd i) (trace_from s rest)

-- ---- what an insert finds

-- the bucket of a lot has an empty slot
pub record HasRoom (s : State) (lot : ℕ) : Type 0 where
  pub slot : ℕ
  pub few : slot ≤ 2
  pub empty : mark_at s (bucket_of lot s.floor.buckets) slot ≡ 0

-- the bucket of a lot has a valid slot with that lot
pub record HasLot (s : State) (lot : ℕ) : Type 0 where
  pub slot : ℕ
  pub valid : mark_at s (bucket_of lot s.floor.buckets) slot ≡ 1
  pub key : key_at s (bucket_of lot s.floor.buckets) slot ≡ lot

-- ---- all that is claimed

-- a start of worker i in s is accepted, and P holds of what it leaves
pub record StartsSo (s : State) (i : ℕ) (start : Started) (P : State → Type 0) : Type 0 where
  pub accepted : start.refusal ≡ 0
  pub leaves : P (started_as s i start)

-- the calls that an idle worker can start in s; others may be busy there, and have no turn
pub record CallsAlone (s : State) : Type 0 where
  -- §15.1: a look ends within ten turns
  pub look_ends : (i lot : ℕ) → IsIdle s i → StartsSo s i (look_by s i lot) (λ t. EndsAlone t i look_most)
  -- §15.2: a remove ends within six
  pub remove_ends : (i lot : ℕ) → IsIdle s i → StartsSo s i (remove_by s i lot) (λ t. EndsAlone t i remove_most)
  -- §15.3: an insert with a ticket above the last one ends within thirteen, if a slot is empty or one is valid with its lot
  pub insert_ends :
      (i lot : ℕ) (ticket : Ticket)
      → IsIdle s i
      → s.floor.last < ticket.number
      → HasRoom s lot ⊎ HasLot s lot
      → StartsSo s i (insert_by s i lot ticket) (λ t. EndsAlone t i insert_most)
  -- §15.3: if no slot is either it never ends
  pub insert_never :
      (i lot : ℕ) (ticket : Ticket)
      → IsIdle s i
      → s.floor.last < ticket.number
      → (HasRoom s lot ⊎ HasLot s lot → ⊥)
      → StartsSo s i (insert_by s i lot ticket) (λ t. NeverEndsAlone t i)

-- a turn that is done, and so not refused
abbrev pub IsDone : After Turned → Type 0
IsDone x = (report : Report) × (x.handed.answer ≡ Done report)

-- what holds where a stretch begins in this state and these are the calls since
pub record HowLong (first : State) (calls : List Call) : Type 0 where
  -- §15.4: a turn of a busy worker is never refused
  pub busy_moves : (i : ℕ) → i < workers_of first → (IsIdle (state first calls) i → ⊥) → IsDone (turn_by (state first calls) i)
  -- every turn of the trace is one of a call, so that it has its number there
  pub in_call : (at : AtTurn (trace first calls)) → (call : InCall (trace first calls)) × (call.turn ≡ at.turn) × (call.after ≡ at.after)
  -- §15.1: wherever the trace is cut into the call of a look, that has no more than ten turns
  pub look_at_most : (at : InCall (trace first calls)) → at.turn.was.kind ≡ look_kind → number_in_call at ≤ look_most
  -- §15.1: and where it has ended it has had four at least
  pub look_at_least : (at : InCall (trace first calls)) → at.turn.was.kind ≡ look_kind → Ends (acted at.turn) → look_least ≤ number_in_call at
  -- what a worker alone does from here on
  pub alone : CallsAlone (state first calls)

-- a history has a call of this kind that has ended with just so many turns, its worker being alone meanwhile
pub record Takes (first : State) (calls : List Call) (kind turns : ℕ) : Type 0 where
  pub at : InCall (trace first calls)
  pub of_kind : at.turn.was.kind ≡ kind
  pub ends : Ends (acted at.turn)
  pub number : number_in_call at ≡ turns
  pub alone : Alone at.turn.worker at.between
