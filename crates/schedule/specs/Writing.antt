-- From a sheet to its text: a field of the sheet is a line of the text.
unfoldable pub use Rattle.pen.specs.Words.{things}
use Rattle.std.specs.Prelude.{ℕ, zero, suc, ◌+◌, ◌-◌, Bool, true, false, cond, ◌&&◌, List, [], ◌∷◌, ◌++◌, length, drop, eqb, leb}
use Rattle.turn.specs.Worker.{look_kind, insert_kind}
use Rattle.engine.specs.declared.Plan.{Plan}
use Rattle.sheet.specs.declared.Call.{Call}
use Rattle.sheet.specs.declared.Field.{Field}
use Rattle.sheet.specs.declared.Field.TheVariants.{Opening, Calling, Turning}
use Rattle.sheet.specs.Fields.{Read, Whole, Refused, read_field}
use Rattle.sheet.specs.Play.{turns_in}
use Rattle.pen.specs.Words.{bytes}
use Rattle.pen.specs.Decimal.{decimal}

-- words, and then a number
abbrev pub told : List ℕ → ℕ → List ℕ
told words n = words ++ decimal n

-- the line of a floor
unfoldable pub floor_text : Plan → List ℕ
floor_text p =
    (bytes "floor " ++ things p.workers (bytes " worker")) ++
    ((bytes " " ++ things p.buckets (bytes " bucket")) ++ (told (bytes " version ") p.version ++ bytes "\n"))

-- an insert's ticket; one of eight bytes that four would hold is called long
unfoldable pub ticket_text : Call → Bool → List ℕ
ticket_text c long = cond (long && leb c.ticket 4294967295) (told (bytes " long ticket ") c.ticket) (told (bytes " ticket ") c.ticket)

-- what a worker does, by the kind of its call
unfoldable pub verb_text : Call → Bool → List ℕ
verb_text c long =
    cond (eqb c.kind look_kind) (told (bytes " looks for lot ") c.lot)
    (cond (eqb c.kind insert_kind) (told (bytes " inserts lot ") c.lot ++ ticket_text c long)
    (told (bytes " removes lot ") c.lot))

-- the line of a call
unfoldable pub call_text : Call → Bool → List ℕ
call_text c long = told (bytes "worker ") c.worker ++ (verb_text c long ++ bytes "\n")

-- how many turns at the head of a list are this worker's
unfoldable pub same_as : ℕ → List ℕ → ℕ
same_as i [] = 0
same_as i (j ∷ js) = cond (eqb j i) (1 + same_as i js) 0

-- turns of one worker, one after another
unfoldable pub run_text : ℕ → ℕ → List ℕ
run_text i times = told (bytes " ") i ++ cond (eqb times 1) [] (told (bytes " x") times)

-- turns, so many runs at most
unfoldable pub runs_text : ℕ → List ℕ → List ℕ
runs_text zero turns = []
runs_text (suc more) [] = []
runs_text (suc more) (i ∷ is) = run_text i (1 + same_as i is) ++ runs_text more (drop (same_as i is) is)

-- the line of turns
unfoldable pub turns_text : List ℕ → List ℕ
turns_text turns = bytes "turns" ++ (runs_text (length turns) turns ++ bytes "\n")

-- the line of a field that goes from a place to the next; only an insert with a long ticket takes 21 bytes
abbrev pub field_text : List ℕ → ℕ → Field → ℕ → List ℕ
field_text sheet at (Opening p) next = floor_text p
field_text sheet at (Calling c) next = call_text c (eqb (next - at) 21)
field_text sheet at (Turning span) next = turns_text (turns_in sheet span)

-- what a sheet comes to: its text; or the part of it before the field that is malformed, and where that is
pub record Text : Type 0 where
  pub lines : List ℕ
  pub at : ℕ
  pub whole : Bool

-- this line first
abbrev pub line_first : List ℕ → Text → Text
line_first line rest = record { lines = line ++ rest.lines; at = rest.at; whole = rest.whole }

-- the end of the sheet, or the next field
abbrev pub then_text : (ℕ → Text) → ℕ → ℕ → Text
then_text rest long next = cond (eqb next long) (record { lines = []; at = next; whole = true }) (rest next)

-- what was read at a place, and the rest
abbrev pub read_text : (ℕ → Text) → List ℕ → ℕ → Read → Text
read_text rest sheet at (Refused place) = record { lines = []; at = place; whole = false }
read_text rest sheet at (Whole field next) = line_first (field_text sheet at field next) (then_text rest (length sheet) next)

-- field after field from a place on, so many at most
unfoldable pub text_from : ℕ → List ℕ → ℕ → Text
text_from zero sheet at = record { lines = []; at = at; whole = true }
text_from (suc more) sheet at = read_text (text_from more sheet) sheet at (read_field sheet at)

-- §24.6: THE TEXT OF A SHEET
unfoldable pub text_of : List ℕ → Text
text_of sheet = text_from (suc (length sheet)) sheet 0
