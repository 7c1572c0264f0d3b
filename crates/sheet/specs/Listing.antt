-- The whole listing, as a function of the sheet.
use Rattle.std.specs.Prelude.{ℕ, zero, suc, ◌*◌, cond, List, [], ◌++◌, length, replicate, eqb, leb, ltb}
use Rattle.turn.specs.Turn.{After, after}
use Rattle.sheet.specs.declared.Field.TheVariants.{Opening, Calling, Turning}
use Rattle.sheet.specs.Fields.{Read, Whole, Refused, read_field}
use Rattle.sheet.specs.Line.{totals_line, refusal_line}
use Rattle.sheet.specs.Play.{Desk, Outcome, shut_desk, field_done}

-- what a sheet comes to beside the board: the listing, the desk from which it can go on, and the number that refused it, or 0
pub record Told : Type 0 where
  pub lines : List ℕ
  pub desk : Desk
  pub stop : ℕ

-- these lines, this desk, this number
abbrev pub told : List ℕ → Desk → ℕ → Told
told lines d stop = record { lines = lines; desk = d; stop = stop }

-- the board that is left, and what is told
abbrev pub Ending : Type 0
Ending = After Told

-- the board that is left, and the listing
abbrev pub listed_in : Ending → After (List ℕ)
listed_in e = after e.words e.handed.lines

-- these lines before what is told
abbrev pub told_first : List ℕ → Told → Told
told_first lines t = told (lines ++ t.lines) t.desk t.stop

-- these lines first
abbrev pub listed_first : List ℕ → Ending → Ending
listed_first lines x = after x.words (told_first lines x.handed)

-- §9.3: a refusal is the last line; nothing goes on from there, so the desk is the shut one
abbrev pub told_refusal : ℕ → ℕ → Told
told_refusal number offset = told (refusal_line number offset) shut_desk number

-- §9.3: a refusal, and the board as it is left
abbrev pub refused : ℕ → ℕ → After Desk → Ending
refused number offset s = after s.words (told_refusal number offset)

-- §9.2: at the end of the sheet the totals are
abbrev pub told_totals : Desk → Told
told_totals d = told (totals_line d.totals) d 0

-- §9.2: the totals, and the board as it is left
abbrev pub over : After Desk → Ending
over s = after s.words (told_totals s.handed)

-- after the field at a place: its refusal, the end of the sheet, or the next field
abbrev pub after_field : (ℕ → After Desk → Ending) → ℕ → ℕ → ℕ → Outcome → Ending
after_field rest long at next o =
    listed_first o.lines
    (cond (eqb o.stop 0)
    (cond (eqb next long) (over o.left) (rest next o.left))
    (refused o.stop at o.left))

-- §6.8, §8.6: what was read at a place; the engine is asked only where it is whole
abbrev pub one_field : (ℕ → After Desk → Ending) → List ℕ → ℕ → After Desk → Read → Ending
one_field rest sheet at s (Refused place) = refused 8 place s
one_field rest sheet at s (Whole field next) = after_field rest (length sheet) at next (field_done sheet field s)

-- field after field from a place on, so many at most
unfoldable pub fields_from : ℕ → List ℕ → ℕ → After Desk → Ending
fields_from zero sheet at s = after s.words (told [] s.handed 0)
fields_from (suc more) sheet at s = one_field (fields_from more sheet) sheet at s (read_field sheet at)

-- §6.9, §8.6: the sheet on a lent board; its size comes first. A sheet has no more fields than bytes, or one that is refused
unfoldable pub played : List ℕ → List ℕ → Ending
played sheet board =
    cond (ltb 16384 (length sheet)) (refused 9 0 (after board shut_desk)) (fields_from (suc (length sheet)) sheet 0 (after board shut_desk))

-- §2.2: the words of board that a reading asks for
abbrev pub words_for : Read → ℕ
words_for (Refused place) = 0
words_for (Whole (Opening p) next) = cond (leb p.buckets 256) (8 * p.buckets) 0
words_for (Whole (Calling c) next) = 0
words_for (Whole (Turning t) next) = 0

-- §2.2: what a sheet's floor asks for, of the program's own words
unfoldable pub words_asked : List ℕ → ℕ
words_asked sheet = words_for (read_field sheet 0)

-- §1.2: a sheet on as much of the program's own board as its floor asks for
unfoldable pub own_play : List ℕ → Ending
own_play sheet = played sheet (replicate (words_asked sheet) 0)

-- §1.2: THE LISTING OF A SHEET
unfoldable pub listing : List ℕ → List ℕ
listing sheet = (own_play sheet).handed.lines
