-- What a field does: the lines that it lists, and the board, the records, the floor and the totals that it leaves. It goes by the
-- engine's own calls.
use Rattle.std.specs.Prelude.{ℕ, ◌-◌, cond, List, [], ◌∷◌, ◌++◌, set, take, drop, replicate, eqb}
use Rattle.turn.specs.declared.Worker.{Worker}
use Rattle.turn.specs.declared.Progress.{Progress}
use Rattle.turn.specs.declared.Progress.TheVariants.{GoesOn, Ended}
use Rattle.turn.specs.Worker.{look_kind, insert_kind, idle}
use Rattle.turn.specs.Turn.{Answer, Refused, Done, Turned, After, after}
use Rattle.engine.specs.declared.Asked.{Asked}
use Rattle.engine.specs.declared.Asked.TheVariants.{Look, Insert, Remove}
use Rattle.engine.specs.declared.Floor.{Floor}
use Rattle.engine.specs.declared.Plan.{Plan}
use Rattle.engine.specs.declared.Seat.{Seat}
use Rattle.engine.specs.Calls.{Started}
use Rattle.engine.specs.declared.Totals.{Totals}
use Rattle.engine.specs.Calls.{Opened, open_call, look_call, insert_call, remove_call, turn_call, tallied, no_turns, record_in, after_turn}
use Rattle.sheet.specs.declared.Call.{Call}
pub use Rattle.sheet.specs.declared.Desk.{Desk}
use Rattle.sheet.specs.declared.Span.{Span}
use Rattle.sheet.specs.declared.Field.{Field}
use Rattle.sheet.specs.declared.Field.TheVariants.{Opening, Calling, Turning}
use Rattle.sheet.specs.Line.{end_line}

-- the desk with this floor, these records and these totals
abbrev pub desk_of : Floor → List Worker → Totals → Desk
desk_of f ws t = record { floor = f; records = ws; totals = t }

-- a floor that was just opened
abbrev pub opened_desk : Floor → Desk
opened_desk f = desk_of f (replicate 64 idle) no_turns

-- no floor is open
abbrev pub shut_floor : Floor
shut_floor = record { workers = 0; buckets = 0; last = 0; version = 0; spare = 0 }

-- the desk before any field
abbrev pub shut_desk : Desk
shut_desk = opened_desk shut_floor

-- what a field comes to: its lines, the board and the desk that it leaves, and the number that refused it, or 0
pub record Outcome : Type 0 where
  pub lines : List ℕ
  pub left : After Desk
  pub stop : ℕ

-- these lines, this left, this number
abbrev pub outcome : List ℕ → After Desk → ℕ → Outcome
outcome lines left stop = record { lines = lines; left = left; stop = stop }

-- a worker's seat on a floor: the list has a record for each worker
abbrev pub seat_at : Floor → ℕ → Seat
seat_at f i = record { floor = f; listed = f.workers; worker = i }

-- a worker's seat at a desk
abbrev pub seat_of : Desk → ℕ → Seat
seat_of d i = seat_at d.floor i

-- a worker's record, and a blank for a number that has none
abbrev pub record_of : Desk → ℕ → Worker
record_of d i = record_in d.records i

-- ---- floor

-- a floor is the engine's opening; it lists nothing
abbrev pub opened : List ℕ → Opened → Totals → Outcome
opened board o totals = outcome [] (after board (record { floor = o.floor; records = o.records; totals = totals })) o.refusal

-- §2.10, §8.2: the opening that a plan asks for, with as many records as workers
unfoldable pub open_field : Plan → After Desk → Outcome
open_field p s =
    let x : After Opened = open_call s.words s.handed.floor s.handed.records p.workers p in
    opened x.words x.handed s.handed.totals

-- ---- call

-- what a call asks of the engine, by its kind
abbrev pub asked_of : Call → Asked
asked_of c = cond (eqb c.kind look_kind) (Look c.lot) (cond (eqb c.kind insert_kind) (Insert (record { lot = c.lot; ticket = c.ticket })) (Remove c.lot))

-- §3.4, §8.3: a call is the engine's start of its kind
unfoldable pub asked : List ℕ → Seat → Worker → Call → Started
asked board seat w c =
    cond (eqb c.kind look_kind) (look_call board seat w c.lot)
    (cond (eqb c.kind insert_kind) (insert_call board seat w (record { lot = c.lot; ticket = c.ticket }))
    (remove_call board seat w c.lot))

-- what a start leaves is put back at the worker's number; a start lists nothing
abbrev pub started_at : ℕ → Started → After Desk → Outcome
started_at i x s =
    outcome []
    (after s.words (record { floor = x.floor; records = set s.handed.records i x.worker; totals = s.handed.totals }))
    x.refusal

-- the start that a call asks for
unfoldable pub call_field : Call → After Desk → Outcome
call_field c s =
    started_at c.worker (asked s.words (seat_of s.handed c.worker) (record_of s.handed c.worker) c) s

-- ---- turns

-- §9.1: the line of a call that has ended; one that goes on has none
abbrev pub ended_line : ℕ → ℕ → ℕ → Progress → List ℕ
ended_line turn worker kind GoesOn = []
ended_line turn worker kind (Ended answer) = end_line turn worker kind answer

-- §9.1, §20.2: what a turn of worker i came to; its number is how many turns are done with it, and whoever else is busy slept through it
abbrev pub turn_listed : ℕ → Worker → List ℕ → Worker → Answer → Desk → Outcome
turn_listed i w board v (Refused number) d = outcome [] (after board d) number
turn_listed i w board v (Done report) d =
    let t : Totals = tallied w.place report d.totals in
    outcome (ended_line t.turns i w.kind report.progress)
    (after board (record { floor = d.floor; records = after_turn d.records i v; totals = t }))
    0

-- one turn is the engine's
unfoldable pub turn_at_desk : ℕ → After Desk → Outcome
turn_at_desk i s =
    let w : Worker = record_of s.handed i in
    let x : After Turned = turn_call s.words (seat_of s.handed i) w in
    turn_listed i w x.words x.handed.worker x.handed.answer s.handed

-- one thing after another: nothing comes after a refusal
abbrev pub and_then : Outcome → (After Desk → Outcome) → Outcome
and_then o rest =
    cond (eqb o.stop 0) (outcome (o.lines ++ (rest o.left).lines) (rest o.left).left (rest o.left).stop) o

-- turns, one after another
unfoldable pub turns_done : List ℕ → After Desk → Outcome
turns_done [] s = outcome [] s 0
turns_done (i ∷ is) s = and_then (turn_at_desk i s) (turns_done is)

-- §8.4: the turns that stand in the sheet
abbrev pub turns_in : List ℕ → Span → List ℕ
turns_in sheet span = take (span.end - span.start) (drop span.start sheet)

-- ---- a field

-- §8.5: what each field does
abbrev pub field_done : List ℕ → Field → After Desk → Outcome
field_done sheet (Opening p) s = open_field p s
field_done sheet (Calling c) s = call_field c s
field_done sheet (Turning span) s = turns_done (turns_in sheet span) s
