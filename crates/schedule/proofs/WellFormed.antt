-- The sheets that have a text are the well-formed ones, among them each that can be played to its end; what they have is a text. Assumes nothing.
use Prim.Native.Nat.{ℕ, zero, suc, ◌-◌, ◌≤◌, ◌<◌}
use mathlib.Core.Bool.{Bool, true, false, cond}
use mathlib.Core.Path.{◌≡◌, refl, ap, ◌∙◌}
use mathlib.Core.List.{List, [], ◌∷◌}
use native.Mathlib.Omega.{arith}
use lib.Dec.{eqb, ltb}
use lib.ListN.{length}
use borrow.Author.Tests.{eqb-true, eqb-false, eq-eqb, ne_eqb, ltb-false}
use Rattle.mark.proofs.Choices.{by_cases, not_both}
use Rattle.turn.specs.Turn.{After, after}
use Rattle.sheet.specs.Fields.{Read, Whole, Refused, plan_at, read_field}
use Rattle.sheet.specs.declared.Desk.{Desk}
use Rattle.sheet.specs.Play.{Outcome, shut_desk, field_done}
use Rattle.sheet.specs.Listing.{Ending, over, refused, one_field, fields_from, played}
use Rattle.sheet.proofs.Fielding.{whole_next, first_field}
use Rattle.pen.specs.Words.{bytes}
use Rattle.schedule.specs.Writing.{Text, then_text, read_text, text_from, text_of}
use Rattle.schedule.specs.WellFormed.{WholeFrom, the_last, and_more, WellFormed}
use Rattle.schedule.specs.Promises.{is_text}
use Rattle.schedule.proofs.FloorLine.{floor_shape}

-- what begins with f is a text
f_text : (l : List ℕ) → is_text (102 ∷ l) ≡ true
unfolding is_text
f_text l = rw (ne_eqb (suc (length l)) 0 (omega arith))

module _ (sheet : List ℕ) where
  -- ---- a text that is whole

  -- a field, and what comes after it
  field_whole :
      (g at : ℕ)
      → ((next : ℕ) → length sheet - next < g → (text_from g sheet next).whole ≡ true → WholeFrom sheet next)
      → length sheet - at < suc g
      → (r : Read)
      → read_field sheet at ≡ r
      → (read_text (text_from g sheet) sheet at r).whole ≡ true
      → WholeFrom sheet at
  field_whole g at further left (Refused place) is whole = not_both false refl whole
  field_whole g at further left (Whole f next) is whole = by_end (eqb next (length sheet)) refl whole
    where
      by_end :
          (t : Bool)
          → eqb next (length sheet) ≡ t
          → let rest : Text = cond t (record { lines = []; at = next; whole = true }) (text_from g sheet next) in
          rest.whole ≡ true → WholeFrom sheet at
      by_end true last whole = the_last f (is ∙ ap (Whole f) (eqb-true next (length sheet) last))
      by_end false goes whole = and_more f next is (further next (omega (arith, whole_next sheet at f next is)) whole)

  whole_from : (g at : ℕ) → length sheet - at < g → (text_from g sheet at).whole ≡ true → WholeFrom sheet at
  unfolding text_from
  whole_from zero at left whole = absurd (omega arith)
  whole_from (suc g) at left whole = field_whole g at (whole_from g) left (read_field sheet at) refl whole

  -- ---- fields that are whole

  from_whole : (g at : ℕ) → WholeFrom sheet at → (text_from g sheet at).whole ≡ true
  unfolding text_from
  from_whole zero at fields = refl
  from_whole (suc g) at (the_last f is) = rw (is, eq-eqb (length sheet) (length sheet) refl)
  from_whole (suc g) at (and_more f next is fields) =
      rw is
      (by_cases (λ (t : Text). t.whole ≡ true) (eqb next (length sheet)) (record { lines = []; at = next; whole = true }) (text_from g sheet next)
      (λ last. refl) (λ goes. from_whole g next fields))

  -- A SHEET HAS A WHOLE TEXT JUST WHERE IT IS WELL FORMED
  pub whole_text : ((text_of sheet).whole ≡ true → WellFormed sheet) × (WellFormed sheet → (text_of sheet).whole ≡ true)
  unfolding text_of
  whole_text = (whole_from (suc (length sheet)) 0 (omega arith), from_whole (suc (length sheet)) 0)

  -- ---- a sheet that is played to its end

  field_played :
      (g at : ℕ) (s : After Desk)
      → ((next : ℕ) (later : After Desk) → length sheet - next < g → (fields_from g sheet next later).handed.stop ≡ 0 → WholeFrom sheet next)
      → length sheet - at < suc g
      → (r : Read)
      → read_field sheet at ≡ r
      → (one_field (fields_from g sheet) sheet at s r).handed.stop ≡ 0
      → WholeFrom sheet at
  field_played g at s further left (Refused place) is none = absurd (omega arith)
  field_played g at s further left (Whole f next) is none = by_stop (eqb (field_done sheet f s).stop 0) (eqb next (length sheet)) refl refl none
    where
      by_stop :
          (t u : Bool)
          → eqb (field_done sheet f s).stop 0 ≡ t
          → eqb next (length sheet) ≡ u
          → let o : Outcome = field_done sheet f s in
          let e : Ending = cond t (cond u (over o.left) (fields_from g sheet next o.left)) (refused o.stop at o.left) in
          e.handed.stop ≡ 0 → WholeFrom sheet at
      by_stop true true done last none = the_last f (is ∙ ap (Whole f) (eqb-true next (length sheet) last))
      by_stop true false done goes none =
          and_more f next is (further next (field_done sheet f s).left (omega (arith, whole_next sheet at f next is)) none)
      by_stop false u stopped end none = absurd (eqb-false (field_done sheet f s).stop 0 stopped none)

  fields_played : (g at : ℕ) (s : After Desk) → length sheet - at < g → (fields_from g sheet at s).handed.stop ≡ 0 → WholeFrom sheet at
  unfolding fields_from
  fields_played zero at s left none = absurd (omega arith)
  fields_played (suc g) at s left none = field_played g at s (fields_played g) left (read_field sheet at) refl none

  -- what no field refuses is well formed, and within the size of a sheet
  pub played_whole : (board : List ℕ) → (played sheet board).handed.stop ≡ 0 → WellFormed sheet × (length sheet ≤ 16384)
  unfolding played
  played_whole board =
      by_cases (λ (e : Ending). e.handed.stop ≡ 0 → WellFormed sheet × (length sheet ≤ 16384)) (ltb 16384 (length sheet)) _ _
      (λ long none. absurd (omega arith))
      (λ fits none.
      (fields_played (suc (length sheet)) 0 (after board shut_desk) (omega arith) none, ltb-false 16384 (length sheet) fits))

  -- ---- what it has is a text

  first_text :
      (g : ℕ) (r : Read)
      → read_field sheet 0 ≡ r
      → (read_text (text_from g sheet) sheet 0 r).whole ≡ true
      → is_text (read_text (text_from g sheet) sheet 0 r).lines ≡ true
  unfolding bytes
  first_text g (Refused place) is whole = not_both false refl whole
  first_text g (Whole f next) is whole =
      let p = plan_at sheet 0 in
      let rest : Text = then_text (text_from g sheet) (length sheet) next in
      rw (first_field sheet f next is, floor_shape p rest.lines) (f_text _)

  -- it begins with floor, and so it is taken for a text and not for a sheet
  pub is_text_lem : (text_of sheet).whole ≡ true → is_text (text_of sheet).lines ≡ true
  unfolding text_of text_from
  is_text_lem whole = first_text (length sheet) (read_field sheet 0) refl whole
