-- A listing is E lines, then one last line, T or R, and nothing after it. Assumes nothing.
use Prim.Native.Nat.{ℕ, zero, suc, ◌+◌, ◌≤◌, ◌<◌}
use mathlib.Core.Path.{◌≡◌, refl, sym, ap, subst, ◌∙◌}
use mathlib.Core.List.{List, [], ◌∷◌, ◌++◌, append-nil, append_assoc}
use native.Mathlib.Nat.{not-suc-le-zero}
use native.Mathlib.Omega.{arith}
use lib.Dec.{eqb, ltb}
use lib.ListN.{length, replicate}
use Rattle.mark.proofs.Choices.{by_cases}
use Rattle.turn.specs.declared.Worker.{Worker}
use Rattle.turn.specs.declared.Progress.{Progress}
use Rattle.turn.specs.declared.Progress.TheVariants.{GoesOn, Ended}
use Rattle.turn.specs.Turn.{Answer, Refused, Done, After}
use Rattle.engine.specs.declared.Totals.{Totals}
use Rattle.engine.specs.Calls.{turn_call}
use Rattle.sheet.specs.declared.Field.{Field}
use Rattle.sheet.specs.declared.Field.TheVariants.{Opening, Calling, Turning}
use Rattle.sheet.specs.Fields.{Read, Whole, Refused, read_field}
use Rattle.sheet.specs.Line.{end_line, totals_line, refusal_line}
use Rattle.sheet.specs.Play.{Desk, Outcome, seat_of, record_of, open_field, call_field, ended_line, turn_listed, turn_at_desk, turns_done, turns_in, field_done}
use Rattle.sheet.specs.Listing.{Ending, one_field, fields_from, played, words_asked, own_play, listing}
use Rattle.sheet.proofs.Fielding.{whole_next}

-- E lines, one after another
pub data Ends : List ℕ → Type 0 where
  none : Ends []
  ended : (turn worker kind answer : ℕ) (rest : List ℕ) → Ends rest → Ends (end_line turn worker kind answer ++ rest)

-- a T line, or an R line
pub data Last : List ℕ → Type 0 where
  totals : (t : Totals) → Last (totals_line t)
  refusal : (number offset : ℕ) → Last (refusal_line number offset)

-- E lines, and then one last line
pub record Listing (bytes : List ℕ) : Type 0 where
  pub before : List ℕ
  pub last : List ℕ
  pub ends : Ends before
  pub one : Last last
  pub whole : bytes ≡ before ++ last

-- ---- E lines

-- E lines after E lines are E lines
ends_then : {before later : List ℕ} → Ends before → Ends later → Ends (before ++ later)
ends_then none more = more
ends_then {later = later} (ended turn worker kind answer rest es) more =
    subst Ends (sym (append_assoc (end_line turn worker kind answer) rest later)) (ended turn worker kind answer _ (ends_then es more))

ended_ends : (turn worker kind : ℕ) (p : Progress) → Ends (ended_line turn worker kind p)
ended_ends turn worker kind GoesOn = none
ended_ends turn worker kind (Ended answer) =
    subst Ends (append-nil (end_line turn worker kind answer)) (ended turn worker kind answer [] none)

listed_ends : (i : ℕ) (w : Worker) (board : List ℕ) (v : Worker) (a : Answer) (d : Desk) → Ends (turn_listed i w board v a d).lines
listed_ends i w board v (Refused number) d = none
listed_ends i w board v (Done report) d = ended_ends _ i w.kind report.progress

turn_ends : (i : ℕ) (s : After Desk) → Ends (turn_at_desk i s).lines
unfolding turn_at_desk
turn_ends i s =
    let w = record_of s.handed i in
    let x = turn_call s.words (seat_of s.handed i) w in
    listed_ends i w x.words x.handed.worker x.handed.answer s.handed

turns_end : (is : List ℕ) (s : After Desk) → Ends (turns_done is s).lines
unfolding turns_done
turns_end [] s = none
turns_end (i ∷ is) s =
    by_cases (λ (o : Outcome). Ends o.lines) (eqb (turn_at_desk i s).stop 0) _ _
    (λ done. ends_then (turn_ends i s) (turns_end is (turn_at_desk i s).left)) (λ not. turn_ends i s)

-- a field lists nothing but E lines
pub field_ends : (sheet : List ℕ) (f : Field) (s : After Desk) → Ends (field_done sheet f s).lines
unfolding open_field call_field
field_ends sheet (Opening p) s = none
field_ends sheet (Calling c) s = none
field_ends sheet (Turning span) s = turns_end (turns_in sheet span) s

-- ---- and the last

last_alone : {bytes : List ℕ} → Last bytes → Listing bytes
last_alone {bytes} one = record { before = []; last = bytes; ends = none; one = one; whole = refl }

ends_first : {lines bytes : List ℕ} → Ends lines → Listing bytes → Listing (lines ++ bytes)
ends_first {lines} es l =
    record {
      before = lines ++ l.before;
      last = l.last;
      ends = ends_then es l.ends;
      one = l.one;
      whole = ap (λ (x : List ℕ). lines ++ x) l.whole ∙ sym (append_assoc lines l.before l.last);
    }

module _ (sheet : List ℕ) where
  field_last :
      (rest : ℕ → After Desk → Ending) (at : ℕ) (s : After Desk) (r : Read)
      → ((f : Field) (next : ℕ) → r ≡ Whole f next → (x : After Desk) → Listing (rest next x).handed.lines)
      → Listing (one_field rest sheet at s r).handed.lines
  field_last rest at s (Refused place) others = last_alone (refusal 8 place)
  field_last rest at s (Whole f next) others =
      let o = field_done sheet f s in
      let P : Ending → Type 0 = λ e. Listing e.handed.lines in
      ends_first (field_ends sheet f s)
      (by_cases P (eqb o.stop 0) _ _
      (λ done. by_cases P (eqb next (length sheet)) _ _ (λ end. last_alone (totals _)) (λ not. others f next refl o.left))
      (λ not. last_alone (refusal o.stop at)))

  -- where there are enough fields, the end of their count is never reached
  pub fields_last : (more at : ℕ) (s : After Desk) → 1 ≤ more → length sheet < at + more → Listing (fields_from more sheet at s).handed.lines
  unfolding fields_from
  fields_last zero at s some enough = absurd (not-suc-le-zero some)
  fields_last (suc more) at s some enough =
      field_last (fields_from more sheet) at s (read_field sheet at)
      (λ f next is x. let w = whole_next sheet at f next is in fields_last more next x (omega arith) (omega arith))

-- whatever the sheet and the board, E lines are listed, then one last line, and nothing after it
pub one_last_line : (sheet board : List ℕ) → Listing (played sheet board).handed.lines
unfolding played
one_last_line sheet board =
    by_cases (λ (e : Ending). Listing e.handed.lines) (ltb 16384 (length sheet)) _ _
    (λ long. last_alone (refusal 9 0)) (λ not. fields_last sheet (suc (length sheet)) 0 _ (omega arith) (omega arith))

-- so it is with the listing of a sheet
pub listing_last : (sheet : List ℕ) → Listing (listing sheet)
unfolding listing own_play
listing_last sheet = one_last_line sheet (replicate (words_asked sheet) 0)
