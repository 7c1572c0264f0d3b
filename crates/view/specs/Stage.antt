-- A sheet played scene by scene. A scene is the opening of the floor, the start of a call, a turn, a refusal, or the end.
use Rattle.std.specs.Prelude.{ℕ, ◌+◌, Bool, true, false, cond, ◌&&◌, not, List, length, get_or, set, replicate, eqb, ltb}
use Rattle.turn.specs.declared.Worker.{Worker}
use Rattle.turn.specs.declared.Report.{Report}
use Rattle.turn.specs.Turn.{Tried}
use Rattle.turn.specs.Worker.{idle}
use Rattle.turn.specs.Asleep.{capped}
use Rattle.turn.specs.Turn.{After, after}
use Rattle.engine.specs.declared.Plan.{Plan}
use Rattle.engine.specs.Calls.{Laid}
use Rattle.engine.specs.Calls.{Started}
use Rattle.engine.specs.declared.Totals.{Totals}
use Rattle.engine.specs.Calls.{Counted}
use Rattle.engine.specs.Calls.{Refusal, Lots}
use Rattle.engine.specs.Calls.{lay_call, try_call, changes, tallied, capped_totals, no_turns, record_in, after_turn, count_call}
use Rattle.sheet.specs.declared.Call.{Call}
use Rattle.sheet.specs.declared.Span.{Span}
use Rattle.sheet.specs.declared.Field.TheVariants.{Opening, Calling, Turning}
use Rattle.sheet.specs.Fields.{Read, Whole, Refused, read_field}
use Rattle.sheet.specs.Play.{shut_floor, seat_at, asked}
use Rattle.view.specs.declared.Change.{Change}
use Rattle.view.specs.declared.Acted.{Acted}
use Rattle.view.specs.declared.Cursor.{Cursor}
use Rattle.view.specs.declared.Scene.{Scene}
use Rattle.view.specs.declared.Scene.TheVariants.{Nothing, Opened, Began, Turned, Stopped, Over}
use Rattle.view.specs.declared.Stage.{Stage}

-- ---- where it begins

-- nobody has changed a mark word yet
abbrev pub unchanged : Change
unchanged = record { turn = 0; worker = 0 }

-- before any field of the sheet
abbrev pub at_start : Cursor
at_start = record { field = 0; at = 0; turn = 0; end = 0; over = false }

-- no floor is open
abbrev pub shut : Stage
shut =
    record {
      records = replicate 64 idle;
      changes = replicate 256 unchanged;
      floor = shut_floor;
      totals = no_turns;
      cursor = at_start;
      scene = Nothing;
    }

-- ---- refused, or at the end

-- the same place, and nothing comes after it
abbrev pub over : Cursor → Cursor
over c = record { field = c.field; at = c.at; turn = c.turn; end = c.end; over = true }

-- everything as it is, and this as the last scene
abbrev pub last_scene : Scene → Stage → Stage
last_scene scene s =
    record { records = s.records; changes = s.changes; floor = s.floor; totals = s.totals; cursor = over s.cursor; scene = scene }

-- §9.3, §23.7: a refusal by a number, of the field at an offset; of a turn, which it would have been and whose, and else 0 and 0
abbrev pub stopped : ℕ → ℕ → ℕ → ℕ → Stage → Stage
stopped number offset turn worker s =
    last_scene (Stopped (record { offset = offset; field = s.cursor.field; turn = turn; number = number; worker = worker })) s

-- the lots that a count answers
abbrev pub lots_in : Counted → ℕ
lots_in (Refusal number) = 0
lots_in (Lots lots) = lots

-- §2.9: the end of the sheet, with the number of lots that stand
abbrev pub ended : List ℕ → Stage → Stage
ended board s = last_scene (Over (lots_in (count_call board s.floor))) s

-- ---- a turn

-- a worker's seat
abbrev pub seat_of : Stage → ℕ → Rattle.engine.specs.declared.Seat.Seat
seat_of s i = seat_at s.floor i

-- one turn further in the field
abbrev pub next_turn : Cursor → Cursor
next_turn c = record { field = c.field; at = c.at; turn = c.turn + 1; end = c.end; over = c.over }

-- §4.9, §23.4: who has changed the mark word of each bucket last, and at which turn
abbrev pub noted : List Change → ℕ → ℕ → ℕ → ℕ → List Change
noted all bucket changed turn worker = cond (eqb changed 0) all (set all bucket (record { turn = turn; worker = worker }))

-- a turn of worker i that was done: its record before and after, its report, and who had changed the mark word of its bucket last
abbrev pub acted : Stage → ℕ → Worker → Worker → Report → Acted
acted s i w v report =
    record { before = w; after = v; report = report; change = get_or s.changes report.bucket unchanged; worker = i }

-- what it leaves: its number is how many turns are done with it
abbrev pub turned : Stage → ℕ → Worker → Worker → Report → Stage
turned s i w v report =
    let t : Totals = capped_totals (tallied w.place report s.totals) in
    record {
      records = after_turn s.records i v;
      changes = noted s.changes report.bucket (changes w.place report.action) t.turns i;
      floor = s.floor;
      totals = t;
      cursor = next_turn s.cursor;
      scene = Turned (acted s i w v report);
    }

-- a turn of worker i that was tried
abbrev pub turn_tried : Stage → ℕ → Worker → After Tried → After Stage
turn_tried s i w x =
    let t : Tried = x.handed in
    after x.words
    (cond (eqb t.said.refusal 0)
    (turned s i w t.worker t.said.report)
    (stopped t.said.refusal s.cursor.at (capped (s.totals.turns + 1)) i s))

-- a turn of worker i is the engine's
unfoldable pub turn_scene : ℕ → After Stage → After Stage
turn_scene i s =
    let w : Worker = record_in s.handed.records i in
    turn_tried s.handed i w (try_call s.words (seat_of s.handed i) w)

-- ---- a field

-- the field at a place was read, and ends at another; its turns, if it has any, are from `turn` on
abbrev pub in_field : Cursor → ℕ → ℕ → Cursor
in_field c turn next = record { field = c.field + 1; at = c.end; turn = turn; end = next; over = false }

-- the same with the cursor in the field that was just read, whatever it comes to
abbrev pub reading : Cursor → ℕ → ℕ → Stage → Stage
reading c turn next s =
    record { records = s.records; changes = s.changes; floor = s.floor; totals = s.totals; cursor = in_field c turn next; scene = Nothing }

-- an opening that was laid, or refused
abbrev pub opened_by : Plan → Stage → After Laid → After Stage
opened_by p s x =
    after x.words
    (cond (eqb x.handed.refusal 0)
    (record {
      records = replicate 64 idle;
      changes = s.changes;
      floor = x.handed.floor;
      totals = s.totals;
      cursor = s.cursor;
      scene = Opened p;
    })
    (stopped x.handed.refusal s.cursor.at 0 0 s))

-- a call that was started, or refused
abbrev pub begun_by : Call → Stage → Started → Stage
begun_by c s x =
    cond (eqb x.refusal 0)
    (record {
      records = set s.records c.worker x.worker;
      changes = s.changes;
      floor = x.floor;
      totals = s.totals;
      cursor = s.cursor;
      scene = Began c;
    })
    (stopped x.refusal s.cursor.at 0 c.worker s)

-- §8.2: a floor is the engine's opening
unfoldable pub open_scene : Plan → After Stage → After Stage
open_scene p s = opened_by p s.handed (lay_call s.words s.handed.floor p.workers p)

-- §8.3: a call is the engine's start of its kind
unfoldable pub call_scene : Call → After Stage → After Stage
call_scene c s =
    after s.words
    (begun_by c s.handed (asked s.words (seat_of s.handed c.worker) (record_in s.handed.records c.worker) c))

-- §8.4: turns: the first of them, since there is one
abbrev pub first_turn : List ℕ → Span → After Stage → After Stage
first_turn sheet span s = turn_scene (get_or sheet span.start 0) s

-- §8.5: what was read where the field before it ends
abbrev pub field_scene : List ℕ → After Stage → Read → After Stage
field_scene sheet s (Refused place) = after s.words (stopped 8 place 0 0 (reading s.handed.cursor place place s.handed))
field_scene sheet s (Whole (Opening p) next) = open_scene p (after s.words (reading s.handed.cursor next next s.handed))
field_scene sheet s (Whole (Calling c) next) = call_scene c (after s.words (reading s.handed.cursor next next s.handed))
field_scene sheet s (Whole (Turning span) next) =
    first_turn sheet span (after s.words (reading s.handed.cursor span.start next s.handed))

-- ---- the next scene

-- the end of the sheet, which is not before its first field
abbrev pub at_end : Cursor → ℕ → Bool
at_end c long = eqb c.end long && not (eqb c.field 0)

-- §23.1: a turn of the field if one is left; the end of the sheet; or the next field
unfoldable pub next_scene : List ℕ → After Stage → After Stage
next_scene sheet s =
    let c : Cursor = s.handed.cursor in
    cond (ltb 16384 (length sheet)) (after s.words (stopped 9 0 0 0 s.handed))
    (cond (ltb c.turn c.end) (turn_scene (get_or sheet c.turn 0) s)
    (cond (at_end c (length sheet)) (after s.words (ended s.words s.handed))
    (field_scene sheet s (read_field sheet c.end))))
