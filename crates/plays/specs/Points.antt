-- The points of a sheet's play: where it stands once its floor is open, and after each start and each turn that is done. What is done
-- between two points is said by the sheet's own definitions of a field, a start and a turn, and nowhere else.
use Rattle.std.specs.Prelude.{ℕ, ◌≤◌, ◌<◌, cond, ◌≡◌, List, [], ◌∷◌, ◌++◌, eqb, length}
use Rattle.turn.specs.Worker.{look_kind, insert_kind}
use Rattle.turn.specs.Turn.{After, after}
use Rattle.engine.specs.declared.Plan.{Plan}
use Rattle.sheet.specs.declared.Call as Field
use Rattle.sheet.specs.declared.Field.TheVariants.{Opening, Calling, Turning}
use Rattle.sheet.specs.Fields.{Read, Whole, Refused, byte_at, read_field}
use Rattle.sheet.specs.declared.Desk.{Desk}
use Rattle.sheet.specs.Play.{Outcome, shut_desk, open_field, call_field, turn_at_desk, turns_in}
use Rattle.history.specs.History.{Call, look, insert, remove, turn, ticket}

-- ---- the calls of a history that a sheet asks for

-- the start that a field asks for, by its kind
abbrev pub call_of : Field.Call → Call
call_of c =
    cond (eqb c.kind look_kind) (look c.worker c.lot)
    (cond (eqb c.kind insert_kind) (insert c.worker c.lot (ticket c.ticket)) (remove c.worker c.lot))

-- ---- points

-- a point of a play
pub record Point : Type 0 where
  -- the offset of the field that is being done, and of the one after it
  pub field : ℕ
  pub next : ℕ
  -- the turns of that field that are still to come
  pub turns : List ℕ
  -- the board and the desk
  pub left : After Desk
  -- what is listed so far
  pub lines : List ℕ

-- what comes next
pub data Next : Type 0 where
  -- another point, and what was called on the way there
  goes : List Call → Point → Next
  -- the end of the sheet
  over : Next
  -- a refusal, with its number and its offset
  refused : ℕ → ℕ → Next

-- a start or a turn of the field at an offset came to this: the play goes on to a point, or is refused
abbrev pub took : Outcome → ℕ → Call → Point → Next
took o field call q = cond (eqb o.stop 0) (goes (call ∷ []) q) (refused o.stop field)

-- the next turn of the field
abbrev pub after_turn : Point → ℕ → List ℕ → Next
after_turn p i ts =
    let o = turn_at_desk i p.left in
    took o p.field (turn i) (record { field = p.field; next = p.next; turns = ts; left = o.left; lines = p.lines ++ o.lines })

-- the next field, as it is read; a later floor never is, so that its arm is out of reach
abbrev pub after_read : List ℕ → Point → Read → Next
after_read sheet p (Refused place) = refused 8 place
after_read sheet p (Whole (Opening plan) n) = refused 8 p.next
after_read sheet p (Whole (Calling c) n) =
    let o = call_field c p.left in
    took o p.next (call_of c) (record { field = p.next; next = n; turns = []; left = o.left; lines = p.lines ++ o.lines })
after_read sheet p (Whole (Turning span) n) =
    goes [] (record { field = p.next; next = n; turns = turns_in sheet span; left = p.left; lines = p.lines })

-- what comes next where these turns are still to come
abbrev pub ahead : List ℕ → Point → List ℕ → Next
ahead sheet p [] = cond (eqb p.next (length sheet)) over (after_read sheet p (read_field sheet p.next))
ahead sheet p (i ∷ ts) = after_turn p i ts

-- what comes next
abbrev pub next_of : List ℕ → Point → Next
next_of sheet p = ahead sheet p p.turns

-- from a point to a point, by these calls
pub data Steps (sheet : List ℕ) : Point → List Call → Point → Type 0 where
  stays : {p : Point} → Steps sheet p [] p
  steps : {p q r : Point} {cs ds : List Call} → next_of sheet p ≡ goes cs q → Steps sheet q ds r → Steps sheet p (cs ++ ds) r

-- ---- where a play begins

-- each number of a sheet is a byte
abbrev pub Bytes : List ℕ → Type 0
Bytes sheet = (at : ℕ) → byte_at sheet at < 256

-- a sheet whose floor is accepted on a board
pub record FloorAccepted (sheet board : List ℕ) : Type 0 where
  pub short : length sheet ≤ 16384
  pub plan : Plan
  pub next : ℕ
  pub read : read_field sheet 0 ≡ Whole (Opening plan) next
  pub accepted : (open_field plan (after board shut_desk)).stop ≡ 0

-- its first point, with the floor just opened
abbrev pub first_point : {sheet board : List ℕ} → FloorAccepted sheet board → Point
first_point {sheet} {board} f =
    let o = open_field f.plan (after board shut_desk) in
    record { field = 0; next = f.next; turns = []; left = o.left; lines = o.lines }
