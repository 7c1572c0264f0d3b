-- Every well-formed sheet has a text that comes back as just that sheet. Assumes nothing.
use Prim.Native.Nat.{ℕ, zero, suc, ◌+◌, ◌-◌, ◌≤◌, ◌<◌}
use mathlib.Core.Bool.{Bool, true, false, cond}
use mathlib.Core.Path.{◌≡◌, refl, sym, ap, ◌∙◌}
use mathlib.Core.List.{List, [], ◌∷◌, ◌++◌}
use native.Mathlib.Omega.{arith}
use lib.Dec.{eqb}
use lib.ListN.{length, drop, take-append-drop, length-append}
use lib.Seq.{drop-drop, drop-length}
use borrow.Author.Tests.{eqb-true, eq-eqb, ne_eqb, le-leb, lt-leb, le-ltb}
use Rattle.mark.proofs.Choices.{not_both}
use Rattle.sheet.specs.declared.Field.{Field}
use Rattle.sheet.specs.declared.Field.TheVariants.{Opening, Calling, Turning}
use Rattle.sheet.specs.Fields.{Read, Whole, Refused, read_field, Bytes}
use Rattle.sheet.proofs.Fielding.{whole_next}
use Rattle.pen.specs.Words.{bytes}
use Rattle.schedule.specs.Tokens.{span, word_at}
use Rattle.schedule.specs.Reading.{right, whole_line, before, lines_from, sheet_of}
use Rattle.schedule.specs.Writing.{floor_text, call_text, turns_text, field_text, Text, then_text, read_text, text_from, text_of}
use Rattle.schedule.proofs.Places.{At, at_start_lem, along, no_word}
use Rattle.schedule.proofs.Tokens.{at_line_end}
use Rattle.schedule.proofs.FieldBytes.{part, length_part}
use Rattle.schedule.proofs.FieldAt.{way}
use Rattle.schedule.proofs.ReadBack.{LineRead, ReadBack, read_back}

-- ---- from line to line

-- a part of a sheet, and what comes after it
part_rest : (sheet : List ℕ) (at long next : ℕ) → at + long ≡ next → part sheet at long ++ drop next sheet ≡ drop at sheet
part_rest sheet at long next is = rw (← is, ← drop-drop long at sheet) (take-append-drop long (drop at sheet))

-- a line has at least a letter and its end
line_long : (sheet : List ℕ) (at : ℕ) (f : Field) (next : ℕ) → 2 ≤ length (field_text sheet at f next)
unfolding floor_text call_text turns_text bytes
line_long sheet at (Opening p) next = omega arith
line_long sheet at (Calling c) next = omega arith
line_long sheet at (Turning t) next = omega arith

module _ (text : List ℕ) where
  -- past the end of a line
  past_end : (q more wrote : ℕ) (rest : List ℕ) → At text q (10 ∷ rest) → lines_from (suc more) text q wrote ≡ lines_from more text (q + 1) wrote
  unfolding lines_from
  past_end q more wrote rest a =
      let inside = a.within in
      rw (at_line_end text q rest a, eq-eqb q q refl, lt-leb (length text) q (omega arith))

  -- nothing is left
  at_the_end : (q more wrote : ℕ) → At text q [] → 1 ≤ wrote → lines_from more text q wrote ≡ right [] (length text)
  unfolding lines_from span
  at_the_end q zero wrote a some = let last : q ≡ length text = omega (arith, a.within) in rw last
  at_the_end q (suc more) wrote a some =
      let last : q ≡ length text = omega (arith, a.within) in
      rw (no_word text q [] a refl refl refl, eq-eqb q q refl, le-leb (length text) q (omega arith), ne_eqb wrote 0 (omega arith), last)

  -- a line that is read, and what comes after it
  line_first :
      (q more wrote : ℕ) (made rest : List ℕ)
      → LineRead text q (eqb wrote 0) made rest
      → wrote + length made ≤ 16384
      → lines_from (suc more) text q wrote
      ≡ before made (lines_from more text (whole_line (eqb wrote 0) text (word_at text q)).at (wrote + length made))
  unfolding lines_from
  line_first q more wrote made rest l fits =
      rw (l.some, l.reads.fine, l.reads.bytes, le-ltb 16384 (wrote + length made) fits)

  module _ (sheet : List ℕ) (short : length sheet ≤ 16384) where
    -- from here on the text is read as the sheet is from there on
    abbrev ReadsOn : ℕ → ℕ → ℕ → Type 0
    ReadsOn more q at = lines_from more text q at ≡ right (drop at sheet) (length text)

    line_then_lem :
        (q more at next : ℕ) (rest : List ℕ)
        → LineRead text q (eqb at 0) (part sheet at (next - at)) rest
        → at ≤ next
        → next ≤ length sheet
        → ((p : ℕ) → At text p rest → ReadsOn more p next)
        → ReadsOn (suc (suc more)) q at
    line_then_lem q more at next rest l on fits later =
        let p = (whole_line (eqb at 0) text (word_at text q)).at in
        let long = length_part sheet at (next - at) (omega arith) in
        let place : at + length (part sheet at (next - at)) ≡ next = omega arith in
        let all = part_rest sheet at (next - at) next (omega arith) in
        line_first q (suc more) at (part sheet at (next - at)) rest l (omega arith)
        ∙ rw (place, past_end p more next rest l.reads.left, later (p + 1) (along (10 ∷ []) l.reads.left), all)

    -- a text that is whole, where it stands from here on
    abbrev ReadAs : Text → ℕ → ℕ → ℕ → Type 0
    ReadAs t more q at = t.whole ≡ true → At text q t.lines → suc (length t.lines) ≤ more → ReadsOn more q at

    -- behind a field: the end of the sheet, or the next field
    rest_read :
        (g more q next : ℕ)
        → 1 ≤ next
        → ReadAs (text_from g sheet next) more q next
        → (t : Bool)
        → eqb next (length sheet) ≡ t
        → ReadAs (cond t (record { lines = []; at = next; whole = true }) (text_from g sheet next)) more q next
    rest_read g more q next some further true ends whole a room =
        at_the_end q more next a some
        ∙ ap (λ (l : List ℕ). right l (length text)) (sym (rw (eqb-true next (length sheet) ends) (drop-length sheet)))
    rest_read g more q next some further false goes whole a room = further whole a room

    module _ (are : Bytes sheet) where
      -- a field that is read, and the rest
      field_read :
          (g more q at : ℕ)
          → ((fewer p next : ℕ) → length sheet - next < g → ReadAs (text_from g sheet next) fewer p next)
          → length sheet - at < suc g
          → (r : Read)
          → read_field sheet at ≡ r
          → ReadAs (read_text (text_from g sheet) sheet at r) more q at
      field_read g more q at further left (Refused place) is whole a room = not_both false refl whole
      field_read g zero q at further left (Whole f next) is whole a room = absurd (omega arith)
      field_read g (suc zero) q at further left (Whole f next) is whole a room =
          let long = line_long sheet at f next in
          let rest : Text = then_text (text_from g sheet) (length sheet) next in
          absurd (omega (arith, length-append (field_text sheet at f next) rest.lines))
      field_read g (suc (suc more)) q at further left (Whole f next) is whole a room =
          let long = line_long sheet at f next in
          let rest : Text = then_text (text_from g sheet) (length sheet) next in
          let both = length-append (field_text sheet at f next) rest.lines in
          let ends = whole_next sheet at f next is in
          let back : ReadBack sheet at (Whole f next) = rw is at (read_back sheet are short at (way sheet at)) in
          line_then_lem q more at next rest.lines (back text q rest.lines a) (omega arith) (omega arith)
          (λ p b. rest_read g more p next (omega arith) (further more p next (omega arith)) (eqb next (length sheet)) refl whole b (omega arith))

      -- field after field, with as many turns of each reading as there are bytes left, or more
      text_read : (g more q at : ℕ) → length sheet - at < g → ReadAs (text_from g sheet at) more q at
      unfolding text_from
      text_read zero more q at left whole a room = absurd (omega arith)
      text_read (suc g) more q at left whole a room = field_read g more q at (text_read g) left (read_field sheet at) refl whole a room

-- §24.6: THE ROUND TRIP: the text of a sheet comes back as just that sheet
pub round_trip :
    (sheet : List ℕ)
    → Bytes sheet
    → length sheet ≤ 16384
    → (text_of sheet).whole ≡ true
    → sheet_of (text_of sheet).lines ≡ right sheet (length (text_of sheet).lines)
unfolding sheet_of text_of
round_trip sheet are short whole =
    let text = (text_from (suc (length sheet)) sheet 0).lines in
    text_read text sheet short are (suc (length sheet)) (suc (length text)) 0 0 (omega arith) whole (at_start_lem text) (omega arith)
