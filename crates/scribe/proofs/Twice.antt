-- The program taken twice: the text of a sheet that is well formed comes back as just that sheet. Assumes nothing.
use Prim.Native.Nat.{ℕ, ◌≤◌}
use mathlib.Core.Bool.{false}
use mathlib.Core.Path.{◌≡◌}
use mathlib.Core.List.{List}
use native.Mathlib.Omega.{arith}
use lib.ListN.{length, get_or}
use borrow.Author.Tests.{le-ltb, ne_eqb}
use Rattle.sheet.specs.declared.Field.{Field}
use Rattle.sheet.specs.Fields.{Read, Whole, read_field, Bytes}
use Rattle.schedule.specs.WellFormed.{the_last, and_more, WellFormed}
use Rattle.schedule.specs.Writing.{text_of}
use Rattle.schedule.specs.Promises.{is_text}
use Rattle.schedule.proofs.FieldAt.{Way, floor_way, call_way, turns_way, no_way, way}
use Rattle.schedule.proofs.RoundTrip.{round_trip}
use Rattle.schedule.proofs.Width.{text_fits}
use Rattle.schedule.proofs.WellFormed.{whole_text, is_text_lem}
use Rattle.scribe.specs.Answers.{writes, text_answer, sheet_answer, answer}

-- an input that begins with 1 is no text
begins : (input : List ℕ) → 1 ≤ length input → get_or input 0 0 ≡ 1 → is_text input ≡ false
unfolding is_text
begins input some one = rw (ne_eqb (length input) 0 (omega arith), one)

module _ (sheet : List ℕ) where
  -- a first field that is read whole is a floor, which begins with 1
  no_text : (f : Field) (next : ℕ) → read_field sheet 0 ≡ Whole f next → is_text sheet ≡ false
  no_text f next is = of_way (way sheet 0) is
    where
      of_way : {r : Read} → Way sheet 0 r → r ≡ Whole f next → is_text sheet ≡ false
      of_way (floor_way first one seven fits) e = begins sheet (omega arith) one
      of_way (call_way later two right fits) e = absurd (omega arith)
      of_way (turns_way later three some fits) e = absurd (omega arith)
      of_way no_way e = absurd (let z : ◌≡◌ {A = ℕ} 0 1 = cc in omega arith)

  well_formed_no_text : WellFormed sheet → is_text sheet ≡ false
  well_formed_no_text (the_last f is) = no_text f _ is
  well_formed_no_text (and_more f next is more) = no_text f next is

  module _ (are : Bytes sheet) (short : length sheet ≤ 16384) (well : WellFormed sheet) where
    -- a sheet becomes its text
    pub sheet_written : answer sheet ≡ writes (text_of sheet).lines
    unfolding answer sheet_answer
    sheet_written = rw (well_formed_no_text well, le-ltb 16384 (length sheet) short, (whole_text sheet).1 well)

    -- THE ROUND TRIP: and that text becomes the sheet
    pub text_written : answer (text_of sheet).lines ≡ writes sheet
    unfolding answer text_answer
    text_written =
        let whole = (whole_text sheet).1 well in
        let fits = text_fits sheet are in
        rw (is_text_lem sheet whole, le-ltb 262144 (length (text_of sheet).lines) (omega arith), round_trip sheet are short whole)
