-- The trace: an entry for each turn done and for each worker retired, in the order in which it was done, and what the rules call such an
-- entry. Everything is told from the entry alone: whose it was, where, and what a turn reported.
use Rattle.std.specs.Prelude.{ℕ, ◌+◌, List, [], ◌∷◌, ◌++◌, ◌⊎◌, ◌≡◌}
use Rattle.turn.specs.declared.Worker.{Worker}
use Rattle.turn.specs.Worker.{read_place, claim_place, commit_place, free_place, close_place, no_slot}
use Rattle.turn.specs.declared.Action.TheVariants.{Store, Won, Lost}
use Rattle.turn.specs.declared.Progress.TheVariants.{GoesOn}
use Rattle.turn.specs.declared.Report.{Report}

-- a turn that was done: the worker, its record as it was before the turn but for how long it had slept, and the turn's report, which has
-- the bucket
pub record Turn : Type 0 where
  pub worker : ℕ
  pub was : Worker
  pub report : Report

-- §19.4: a worker that was retired: its number, its record so, and the bucket of its lot; there is no report
pub record Retiring : Type 0 where
  pub worker : ℕ
  pub was : Worker
  pub bucket : ℕ

-- what was done: a turn, or a retiring
pub data Entry : Type 0 where
  acted : Turn → Entry
  retired : Retiring → Entry

-- ---- what a turn is

-- §4.8: a swap that won
abbrev pub Wins : Turn → Type 0
Wins e = e.report.action ≡ Won

-- §4.8: a swap that lost
abbrev pub Loses : Turn → Type 0
Loses e = e.report.action ≡ Lost

-- a swap, won or lost
abbrev pub Swaps : Turn → Type 0
Swaps e = Wins e ⊎ Loses e

-- §4.11: a won swap by which an insert makes its slot valid
abbrev pub Commits : Turn → Type 0
Commits e = (e.was.place ≡ commit_place) × Wins e

-- §4.11: a won swap by which a remove empties a valid slot
abbrev pub Closes : Turn → Type 0
Closes e = (e.was.place ≡ close_place) × Wins e

-- §4.11: the store by which an insert gives its slot back
abbrev pub Frees : Turn → Type 0
Frees e = (e.was.place ≡ free_place) × (e.report.action ≡ Store)

-- §4.11: a won swap by which an insert takes an empty slot
abbrev pub Claims : Turn → Type 0
Claims e = (e.was.place ≡ claim_place) × Wins e

-- §5.1: the mark word is read whole, which no other place does
abbrev pub ReadsWhole : Turn → Type 0
ReadsWhole e = e.was.place ≡ read_place

-- ---- what an entry is

-- whose it was
abbrev pub who : Entry → ℕ
who (acted e) = e.worker
who (retired r) = r.worker

-- that worker's record before it
abbrev pub was_of : Entry → Worker
was_of (acted e) = e.was
was_of (retired r) = r.was

-- the bucket of that worker's lot
abbrev pub bucket_in : Entry → ℕ
bucket_in (acted e) = e.report.bucket
bucket_in (retired r) = r.bucket

-- it is a turn, and P holds of it
abbrev pub IsTurn : (Turn → Type 0) → Entry → Type 0
IsTurn P (acted e) = P e
IsTurn P (retired r) = ⊥

-- §4.9, §19.4: a change of the mark word; a retiring is one if the worker held a slot
abbrev pub Changes : Entry → Type 0
Changes (acted e) = Wins e ⊎ Frees e
Changes (retired r) = r.was.held ≡ no_slot → ⊥

-- §4.8: a turn by which the call goes on
abbrev pub Continues : Entry → Type 0
Continues e = IsTurn (λ t. t.report.progress ≡ GoesOn) e

-- §4.8, §19.1: the call is over: it has ended, or its worker was retired
abbrev pub Ends : Entry → Type 0
Ends e = Continues e → ⊥

-- it is worker i's
abbrev pub By : ℕ → Entry → Type 0
By i e = who e ≡ i

-- it is worker i's, and its call is over with it
abbrev pub OwnEnd : ℕ → Entry → Type 0
OwnEnd i e = By i e × Ends e

-- it was in bucket b
abbrev pub In : ℕ → Entry → Type 0
In b e = bucket_in e ≡ b

-- ---- entries of a trace

-- a trace is cut at an entry, so that P holds of the entry and of what comes after it
pub record Cut (P : Entry → List Entry → Type 0) (trace : List Entry) : Type 0 where
  pub older : List Entry
  pub entry : Entry
  pub newer : List Entry
  pub cut : trace ≡ older ++ (entry ∷ newer)
  pub holds : P entry newer

-- an entry of which P holds stands somewhere in a trace
abbrev pub Some : (Entry → Type 0) → List Entry → Type 0
Some P trace = Cut (λ e newer. P e) trace

-- no entry of which P holds does
abbrev pub None : (Entry → Type 0) → List Entry → Type 0
None P trace = Some P trace → ⊥

-- a number for each entry of a list, added up
unfoldable pub total : {A : Type 0} → (A → ℕ) → List A → ℕ
total count [] = 0
total count (e ∷ es) = count e + total count es
