-- The fields of a sheet.
use Rattle.std.specs.Prelude.{ℕ, zero, suc, ◌+◌, ◌*◌, ◌-◌, ◌≤◌, ◌<◌, Bool, false, cond, ◌&&◌, ◌||◌, not, Option, Some, None, List, length, get_or, eqb, leb}
use Rattle.turn.specs.Worker.{look_kind, insert_kind, remove_kind}
use Rattle.engine.specs.declared.Plan.{Plan}
use Rattle.sheet.specs.declared.Call.{Call}
use Rattle.sheet.specs.declared.Span.{Span}
use Rattle.sheet.specs.declared.Field.{Field}
use Rattle.sheet.specs.declared.Found.{Found}
use Rattle.sheet.specs.declared.Field.TheVariants.{Opening, Calling, Turning}

-- the byte at a place
abbrev pub byte_at : List ℕ → ℕ → ℕ
byte_at sheet at = get_or sheet at 0

-- each number of a sheet is a byte
abbrev pub Bytes : List ℕ → Type 0
Bytes sheet = (at : ℕ) → byte_at sheet at < 256

-- §8.1: so many bytes from a place on as a number, the high byte first
unfoldable pub number_at : List ℕ → ℕ → ℕ → ℕ
number_at sheet at zero = 0
number_at sheet at (suc n) = 256 * number_at sheet at n + byte_at sheet (at + n)

-- ---- tag, length and value

-- §8.1: the length that stands behind the tag
abbrev pub length_at : List ℕ → ℕ → ℕ
length_at sheet at = number_at sheet (at + 1) 2

-- §8.5: nothing of the field is cut off: tag and length are there, and as many bytes as the length says
unfoldable pub is_whole : List ℕ → ℕ → Bool
is_whole sheet at = leb (at + 3 + length_at sheet at) (length sheet)

-- ---- the values

-- §8.2: what a floor asks for
abbrev pub plan_at : List ℕ → ℕ → Plan
plan_at sheet at = record { workers = byte_at sheet (at + 3); buckets = number_at sheet (at + 4) 2; version = number_at sheet (at + 6) 4 }

-- §8.3: whether a call of this kind has this length; an insert's ticket has four bytes or eight
unfoldable pub call_fits : ℕ → ℕ → Bool
call_fits kind long =
    cond (eqb kind look_kind) (eqb long 10)
    (cond (eqb kind insert_kind) (eqb long 14 || eqb long 18)
    (cond (eqb kind remove_kind) (eqb long 10) false))

-- §8.3: an insert's ticket, which takes what its value has beyond 10 bytes; another call has none
unfoldable pub ticket_at : List ℕ → ℕ → ℕ → ℕ → ℕ
ticket_at sheet at kind long = cond (eqb kind insert_kind) (number_at sheet (at + 13) (long - 10)) 0

-- §8.3: lot, ticket, worker and kind, from a value of this length
abbrev pub call_at : List ℕ → ℕ → ℕ → Call
call_at sheet at long =
    record {
      lot = number_at sheet (at + 5) 8;
      ticket = ticket_at sheet at (byte_at sheet (at + 4)) long;
      worker = byte_at sheet (at + 3);
      kind = byte_at sheet (at + 4);
    }

-- §8.4: where the turns stand
abbrev pub span_at : ℕ → ℕ → Span
span_at at long = record { start = at + 3; end = at + 3 + long }

-- ---- a field whole with the place after it, or refused with its own

-- §8.5, §14.6: a field that was read, with the place after it, or the place of one that cannot be
pub data Read : Type 0 where
  Whole : Field → ℕ → Read
  Refused : ℕ → Read

-- what the code hands back of a reading at a place: the field that it found, or none
abbrev pub read_of : ℕ → Option Found → Read
read_of at (Some found) = Whole found.field found.next
read_of at None = Refused at

-- a field of this length where it is right, and else the refusal
abbrev pub whole_if : Bool → Field → ℕ → ℕ → Read
whole_if right field at long = cond right (Whole field (at + 3 + long)) (Refused at)

-- §8.2: a floor, where the sheet begins and nowhere else
unfoldable pub opening_at : List ℕ → ℕ → ℕ → Read
opening_at sheet at long = whole_if (eqb at 0 && eqb long 7) (Opening (plan_at sheet at)) at long

-- §8.3: a call, and not where the sheet begins
unfoldable pub calling_at : List ℕ → ℕ → ℕ → Read
calling_at sheet at long = whole_if (not (eqb at 0) && call_fits (byte_at sheet (at + 4)) long) (Calling (call_at sheet at long)) at long

-- §8.4: turns, at least one, and not where the sheet begins
unfoldable pub turning_at : ℕ → ℕ → Read
turning_at at long = whole_if (not (eqb at 0) && not (eqb long 0)) (Turning (span_at at long)) at long

-- §8.5: a field by its tag; there is no fourth
unfoldable pub field_of : ℕ → List ℕ → ℕ → ℕ → Read
field_of tag sheet at long =
    cond (eqb tag 1) (opening_at sheet at long)
    (cond (eqb tag 2) (calling_at sheet at long)
    (cond (eqb tag 3) (turning_at at long) (Refused at)))

-- §8.5: the field whose tag stands at a place
unfoldable pub read_field : List ℕ → ℕ → Read
read_field sheet at = cond (is_whole sheet at) (field_of (byte_at sheet at) sheet at (length_at sheet at)) (Refused at)

-- the place that a reading comes with
abbrev pub place_in : Read → ℕ
place_in (Whole field next) = next
place_in (Refused at) = at

-- ---- what the private functions ask of their callers

-- the value of the field at a place is there, and has this length
pub record Value (sheet : List ℕ) (at long : ℕ) : Type 0 where
  pub fits : at + 3 + long ≤ length sheet
