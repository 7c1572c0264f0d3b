-- What a scene can come to, as the sheet's own play has it. Assumes nothing.
use Prim.Native.Nat.{ℕ, ◌+◌, ◌≤◌, ◌<◌}
use mathlib.Core.Bool.{true, false}
use mathlib.Core.Path.{◌≡◌, subst}
use mathlib.Core.List.{List, [], ◌++◌}
use native.Mathlib.Omega.{arith}
use lib.ListN.{length, get_or}
use Rattle.turn.specs.declared.Worker.{Worker}
use Rattle.turn.specs.declared.Report.{Report}
use Rattle.turn.specs.Turn.{Done, After, after}
use Rattle.engine.specs.declared.Plan.{Plan}
use Rattle.engine.specs.Calls.{changes, tallied, record_in, turn_call}
use Rattle.engine.specs.Room.{Few}
use Rattle.sheet.specs.declared.Call.{Call}
use Rattle.sheet.specs.declared.Field.TheVariants.{Opening, Calling}
use Rattle.sheet.specs.Fields.{Whole, read_field}
use Rattle.sheet.specs.declared.Desk.{Desk}
use Rattle.sheet.specs.Play.{desk_of, outcome, seat_at, ended_line, open_field, call_field, turn_at_desk, turns_done}
use Rattle.sheet.specs.Listing.{after_field, fields_from}
use Rattle.sheet.proofs.Turns.{turns_from}
use Rattle.view.specs.declared.Cursor.{Cursor}
use Rattle.view.specs.declared.Change.{Change}
use Rattle.view.specs.declared.Acted.{Acted}
use Rattle.view.specs.declared.Scene.TheVariants.{Opened, Began, Turned}
use Rattle.view.specs.declared.Stage.{Stage}
use Rattle.view.specs.Stage.{unchanged, noted}
use Rattle.view.specs.Scenes.{scene_listed}
use Rattle.view.specs.Naming.{IsTurn}

-- the sheet's desk at a stage
abbrev pub desk_in : After Stage → After Desk
desk_in s = after s.words (desk_of s.handed.floor s.handed.records s.handed.totals)

-- where a stage stands in the sheet
abbrev pub place : After Stage → Cursor
place s = s.handed.cursor

-- the line that the scene of a stage is listed by
abbrev pub line_of : After Stage → List ℕ
line_of s = scene_listed s.handed.totals s.handed.scene

-- ---- where a sheet stands

-- what is counted at a stage, and the places in the sheet
pub record Placed (sheet : List ℕ) (s : After Stage) : Type 0 where
  pub few : Few (place s).turn s.handed.totals
  pub all : length s.handed.records ≡ 64
  pub left : (place s).turn ≤ (place s).end
  pub inside : (place s).end ≤ length sheet

-- a field is begun, and so many fields are enough for what is left
pub record Stands (sheet : List ℕ) (more : ℕ) (s : After Stage) : Type 0 where
  pub placed : Placed sheet s
  pub begun : 1 ≤ (place s).field
  pub some : 1 ≤ (place s).end
  pub enough : length sheet < (place s).end + more
  pub goes_on : (place s).over ≡ false

-- the lines that are still to be listed at a stage
abbrev pub due : List ℕ → ℕ → After Stage → List ℕ
due sheet more s =
    (after_field (fields_from more sheet) (length sheet) (place s).at (place s).end
    (turns_done (turns_from sheet (place s).end (place s).turn) (desk_in s))
    ).handed.lines

-- ---- what was done

-- what is not so, so that anything is
pub apart : {A : Type 0} → ◌≡◌ {A = ℕ} 0 1 → A
apart is = absurd (omega arith)

-- a scene is no turn
abbrev pub Quiet : After Stage → Type 0
Quiet x = IsTurn (λ a. Unit {0}) x → ⊥

-- a turn, as it is told where these changes are noted
abbrev pub acted_at : List Change → ℕ → Worker → Worker → Report → Acted
acted_at all i w later report =
    record { before = w; after = later; report = report; change = get_or all report.bucket unchanged; worker = i }

-- a turn of worker i with record w was done at a desk, where these changes were noted, and has left a stage
pub record Turns (d : After Desk) (all : List Change) (i : ℕ) (w : Worker) (x : After Stage) : Type 0 where
  pub later : Worker
  pub report : Report
  -- it is told with the change that was noted last in its bucket, and noted if it is one
  pub scene : x.handed.scene ≡ Turned (acted_at all i w later report)
  pub notes : x.handed.changes ≡ noted all report.bucket (changes w.place report.action) x.handed.totals.turns i
  pub bucket : report.bucket < 256
  -- it is the sheet's own
  pub counted : x.handed.totals ≡ tallied w.place report d.handed.totals
  pub answer : (turn_call d.words (seat_at d.handed.floor i) w).handed.answer ≡ Done report
  pub is : turn_at_desk i d ≡ outcome (ended_line x.handed.totals.turns i w.kind report.progress) (desk_in x) 0

-- a scene after which others come, by what was done at the desk before it: the field at a place, or a turn
pub data Does (sheet : List ℕ) (at : ℕ) (d : After Desk) (all : List Change) (x : After Stage) : Type 0 where
  opens :
      (next : ℕ) (p : Plan)
      → read_field sheet at ≡ Whole (Opening p) next
      → x.handed.scene ≡ Opened p
      → x.handed.changes ≡ all
      → open_field p d ≡ outcome [] (desk_in x) 0
      → Does sheet at d all x
  begins :
      (next : ℕ) (c : Call)
      → read_field sheet at ≡ Whole (Calling c) next
      → x.handed.scene ≡ Began c
      → x.handed.changes ≡ all
      → call_field c d ≡ outcome [] (desk_in x) 0
      → Does sheet at d all x
  turns : (i : ℕ) → Turns d all i (record_in d.handed.records i) x → Does sheet at d all x

-- a scene after which there are these lines in all, with its own: it is the last and no turn, or it leaves a stage further on
pub data Leads (sheet : List ℕ) (from at : ℕ) (d : After Desk) (all : List Change) (lines : List ℕ) (x : After Stage) : Type 0 where
  ends : (place x).over ≡ true → Quiet x → line_of x ≡ lines → Leads sheet from at d all lines x
  goes :
      (more : ℕ)
      → Stands sheet more x
      → from < (place x).turn
      → line_of x ++ due sheet more x ≡ lines
      → Does sheet at d all x
      → Leads sheet from at d all lines x

-- what the next scene of a stage leads to
abbrev pub Next : List ℕ → After Stage → List ℕ → After Stage → Type 0
Next sheet s lines x = Leads sheet (place s).turn (place s).end (desk_in s) s.handed.changes lines x

-- what holds of the turn that a scene is holds of that turn
pub turn_is : (P : Acted → Type 0) {x : After Stage} {a : Acted} → x.handed.scene ≡ Turned a → IsTurn P x → P a
turn_is P {a = a} is t = let same : t.turn ≡ a = cc in subst P same t.holds
