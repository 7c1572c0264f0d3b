-- Line after line: the lines that are left from here, after the bytes so far, come to the whole sheet. Assumes nothing.
use Prim.Native.Nat.{ℕ, suc, ◌+◌, ◌-◌, ◌≤◌, ◌<◌}
use mathlib.Core.Bool.{Bool, true, false, cond}
use mathlib.Core.Path.{◌≡◌, refl, sym, ap, ◌∙◌}
use mathlib.Core.List.{List, [], ◌++◌, append-nil, append_assoc}
use native.Mathlib.Omega.{arith}
use lib.Dec.{eqb, leb}
use lib.ListN.{length}
use borrow.Author.Tests.{eq-eqb, ne_eqb, le-leb, lt-leb, lt-ltb, le-ltb, leb-true, leb-false}
use Rattle.pen.specs.Written.{Wrote, Puts}
use Rattle.pen.proofs.Putting.{puts_all}
use Rattle.pen.proofs.Writing.{wrote_none, wrote_then}
use Rattle.turn.specs.Worker.{insert_kind}
use Rattle.sheet.specs.declared.Call.{Call as Asked}
use Rattle.schedule.specs.declared.Word.{Word}
use Rattle.schedule.specs.declared.Entry.{Entry}
use Rattle.schedule.specs.declared.Entry.TheVariants.{Floor, Call, Turns}
use Rattle.schedule.specs.Tokens.{word_at}
use Rattle.schedule.specs.Bytes.{high_first, call_bytes}
use Rattle.schedule.specs.Reading.{Line, right, wrong, before, line_then, whole_line, lines_from, sheet_of}
use Rattle.schedule.specs.Promises.{Words, SheetMade, written_of, end_of, wrong_of}
use Rattle.schedule.specs.Saids.{nothing, entry_bytes, call_size, entry_size, Counts, LineSaid}
use Rattle.std.proofs.Common.{Result, Ok, Err}
use Rattle.schedule.specs.declared.Wrong.{Wrong}
use Rattle.schedule.specs.declared.expected.Expected.TheVariants.{Floor as TheFloor, Room}
use Rattle.schedule.specs.Numbers.{expected_number}
use Rattle.schedule.specs.Results.{made_of}
use Rattle.schedule.proofs.NumberOf.{some_number}

-- ---- how long a field is

call_long : (c : Asked) (insert long : Bool) → eqb c.kind insert_kind ≡ insert → length (call_bytes c long) ≡ call_size c.kind long
unfolding high_first
call_long c true true e = rw e
call_long c true false e = rw e
call_long c false long e = rw e

pub entry_long : (text : List ℕ) (e : Entry) → Counts text e → length (entry_bytes text e) ≡ entry_size e
unfolding high_first
entry_long text (Floor p) k = refl
entry_long text (Call c long) k = call_long c (eqb c.kind insert_kind) long refl
entry_long text (Turns from count) k = omega (arith, k.1)

-- ---- bytes before a line

-- nothing more
abbrev stopped : ℕ → ℕ → Line
stopped at what = record { bytes = []; at = at; what = what }

before_before : (l m : List ℕ) (rest : Line) → before l (before m rest) ≡ before (l ++ m) rest
before_before l m rest = rw append_assoc

-- ---- one step

module _ (text : List ℕ) (more at wrote : ℕ) {w : Word} (word : w ≡ word_at text at) where
  -- the end of the text
  step_over : w.start ≡ w.end → length text ≤ w.start → lines_from (suc more) text at wrote ≡ cond (eqb wrote 0) (wrong w.start 1) (right [] w.start)
  unfolding lines_from
  step_over none past = rw (← word, eq-eqb w.start w.end none, le-leb (length text) w.start past)

  -- a line with no word
  step_blank : w.start ≡ w.end → w.start < length text → lines_from (suc more) text at wrote ≡ lines_from more text (w.start + 1) wrote
  unfolding lines_from
  step_blank none inside = rw (← word, eq-eqb w.start w.end none, lt-leb (length text) w.start inside)

  -- a line
  step_line :
      (w.start ≡ w.end → ⊥) → lines_from (suc more) text at wrote ≡ line_then (lines_from more text) w.start wrote (whole_line (eqb wrote 0) text w)
  unfolding lines_from
  step_line some = rw (← word, ne_eqb w.start w.end some)

-- ---- where the text stands

pub record Standing (text out₀ out : List ℕ) (at written : ℕ) : Type 0 where
  pub more : ℕ
  pub so_far : List ℕ
  pub bytes : Wrote out₀ 0 so_far out written
  pub same : before so_far (lines_from more text at written) ≡ sheet_of text
  pub enough : length text < at + more
  pub inside : at ≤ length text
  pub fits : written ≤ 16384

pub standing_starts : (text out : List ℕ) → Standing text out out 0 0
unfolding sheet_of
standing_starts text out =
    record {
      more = suc (length text);
      so_far = [];
      bytes = wrote_none out 0;
      same = refl;
      enough = omega arith;
      inside = omega arith;
      fits = omega arith;
    }

written_is : (written : ℕ) (r : Result ℕ Wrong) → written_of (made_of written r) ≡ written
written_is written (Ok at) = refl
written_is written (Err w) = refl

module _ {text out₀ out : List ℕ} {at written : ℕ} (g : Standing text out₀ out at written) where
  -- the lines that are left
  here : (l : Line) → lines_from (suc (g.more - 1)) text at written ≡ l → before g.so_far l ≡ sheet_of text
  here l e =
      let back : suc (g.more - 1) ≡ g.more = omega (arith, g.enough, g.inside) in
      rw (← e, back) g.same

  -- nothing more is written
  made :
      (r : Result ℕ Wrong)
      → lines_from (suc (g.more - 1)) text at written ≡ stopped (end_of (made_of written r)) (wrong_of (made_of written r))
      → SheetMade text out₀ out (made_of written r)
  made r e =
      let all = here _ e in
      record {
        bytes = rw (written_is written r, ← ap (λ (l : Line). l.bytes) all, append-nil g.so_far) g.bytes;
        at = ap (λ (l : Line). l.at) all;
        what = ap (λ (l : Line). l.what) all;
        fits = rw (written_is written r) g.fits;
      }

  module _ {w : Word} (word : Words text at w) where
    module _ (none : w.start ≡ w.end) where
      -- the end of the text
      pub sheet_over : length text ≤ w.start → (written ≡ 0 → ⊥) → SheetMade text out₀ out (made_of written (Ok w.start))
      sheet_over past some = made (Ok w.start) (rw (step_over text (g.more - 1) at written word.is none past, ne_eqb written 0 some))

      -- one without a floor
      pub sheet_none : length text ≤ w.start → written ≡ 0 → SheetMade text out₀ out (made_of written (Err (record { at = w.start; what = TheFloor })))
      sheet_none past none_yet =
          made (Err (record { at = w.start; what = TheFloor }))
          (rw (step_over text (g.more - 1) at written word.is none past, eq-eqb written 0 none_yet))

      -- a line with no word
      pub sheet_blank : w.start < length text → Standing text out₀ out (w.start + 1) written
      sheet_blank inside =
          record {
            more = g.more - 1;
            so_far = g.so_far;
            bytes = g.bytes;
            same = here _ (step_blank text (g.more - 1) at written word.is none inside);
            enough = omega (arith, g.enough, g.inside, word.start.onward);
            inside = omega arith;
            fits = g.fits;
          }

    module _ (some : w.start ≡ w.end → ⊥) where
      -- a line that is wrong
      pub sheet_wrong : {wrong_there : Wrong} → LineSaid text w (whole_line (eqb written 0) text w) (nothing wrong_there.at (expected_number wrong_there.what)) → SheetMade text out₀ out (made_of written (Err wrong_there))
      sheet_wrong {wrong_there} line =
          let other = ne_eqb (expected_number wrong_there.what) 0 (some_number wrong_there.what) in
          made (Err wrong_there)
          (step_line text (g.more - 1) at written word.is some
          ∙ ap (λ (l : Line). line_then (lines_from (g.more - 1) text) w.start written l) (sym line.is)
          ∙ (rw other))

      module _ {entry : Entry} {next : ℕ} (line : LineSaid text w (whole_line (eqb written 0) text w) (record { entry = entry; at = next; what = 0 })) where
        this :
            lines_from (suc (g.more - 1)) text at written
            ≡ line_then (lines_from (g.more - 1) text) w.start written (right (entry_bytes text entry) next)
        this =
            step_line text (g.more - 1) at written word.is some
            ∙ ap (λ (l : Line). line_then (lines_from (g.more - 1) text) w.start written l) (sym line.is)

        long : length (entry_bytes text entry) ≡ entry_size entry
        long = entry_long text entry line.counts

        -- one with which the sheet would be too long
        pub sheet_long : leb (entry_size entry) (16384 - written) ≡ false → SheetMade text out₀ out (made_of written (Err (record { at = w.start; what = Room })))
        sheet_long over =
            let more : 16384 < written + length (entry_bytes text entry) = omega (arith, long, leb-false (entry_size entry) (16384 - written) over, g.fits) in
            made (Err (record { at = w.start; what = Room })) (this ∙ (rw (lt-ltb 16384 (written + length (entry_bytes text entry)) more)))

        -- one that fits
        pub sheet_next :
            {later : List ℕ} {put_to : ℕ}
            → leb (entry_size entry) (16384 - written) ≡ true
            → length out ≡ 16385
            → Puts out written (entry_bytes text entry) later put_to
            → Standing text out₀ later next put_to
        sheet_next {later} {put_to} room size puts =
            let less : written + length (entry_bytes text entry) ≤ 16384 = omega (arith, long, leb-true (entry_size entry) (16384 - written) room, g.fits) in
            let put = puts_all puts (omega (arith, size, less)) in
            let reach = line.reach refl in
            let bytes : List ℕ = entry_bytes text entry in
            let others : Line = lines_from (g.more - 1) text next (written + length bytes) in
            let then_lines = here (before bytes others) (this ∙ (rw (le-ltb 16384 (written + length bytes) less))) in
            record {
              more = g.more - 1;
              so_far = g.so_far ++ bytes;
              bytes = wrote_then g.bytes put;
              same = rw put.place (sym (before_before g.so_far bytes others) ∙ then_lines);
              enough = omega (arith, g.enough, g.inside, some, word.start.onward, word.end.onward, reach.onward);
              inside = omega (arith, some, word.start.onward, word.end.onward, word.end.within, reach.within);
              fits = omega (arith, less, put.place);
            }
