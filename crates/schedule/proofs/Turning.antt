-- The turns that a line lists, one worker's after another's: those that are left from here, after those so far, are all of them.
-- Assumes nothing.
use Prim.Native.Nat.{ℕ, zero, suc, ◌+◌, ◌-◌, ◌≤◌, ◌<◌, min}
use mathlib.Core.Bool.{Bool, true, false, cond}
use mathlib.Core.Path.{◌≡◌, refl, sym, ap, ◌∙◌}
use mathlib.Core.List.{List, [], ◌++◌, append-nil, append_assoc}
use native.Mathlib.Omega.{arith}
use lib.Dec.{eqb}
use lib.ListN.{length, take, drop, replicate, length-append, length-replicate}
use borrow.Author.Tests.{ne_eqb, eqb-true, eqb-false}
use Rattle.mark.proofs.Choices.{by_cases}
use Rattle.schedule.specs.declared.Word.{Word}
use Rattle.schedule.specs.Tokens.{Got}
use Rattle.schedule.specs.Tokens.{found, word_at, is_number, number_at}
use Rattle.schedule.specs.Reading.{Line, right, wrong, times_at, turns_from}
use Rattle.schedule.specs.Promises.{Reaches, Words}
use Rattle.std.proofs.Common.{Result, Option, Ok, Err, Some, None}
use Rattle.pen.specs.declared.Pen.{Pen}
use Rattle.pen.specs.Written.{Writes}
use Rattle.pen.proofs.Putting.{writes_none, writes_then}
use Rattle.schedule.specs.declared.Wrong.{Wrong}
use Rattle.schedule.specs.declared.token.Reader.{Reader}
use Rattle.schedule.specs.Numbers.{expected_number}
use Rattle.schedule.specs.Results.{Steps, Counted}
use Rattle.schedule.proofs.NumberOf.{some_number}
use Rattle.schedule.proofs.Spans.{reach_here, reach_then}

-- turns before those of the rest, where that is right
abbrev pub first : List ℕ → Line → Line
first l rest = cond (eqb rest.what 0) (right (l ++ rest.bytes) rest.at) rest

-- no turns before it
first_nothing : (rest : Line) → first [] rest ≡ rest
first_nothing rest = by_test (eqb rest.what 0) refl
  where
    line : ℕ → Line
    line what = record { bytes = rest.bytes; at = rest.at; what = what }

    by_test : (b : Bool) → eqb rest.what 0 ≡ b → first [] rest ≡ rest
    by_test true e = rw e (ap line (sym (eqb-true rest.what 0 e)))
    by_test false e = rw e

first_none : (l : List ℕ) (at : ℕ) → first l (right [] at) ≡ right l at
first_none l at = rw append-nil

first_wrong : (l : List ℕ) (at what : ℕ) → (what ≡ 0 → ⊥) → first l (wrong at what) ≡ wrong at what
first_wrong l at what some = rw (ne_eqb what 0 some)

first_first : (l m : List ℕ) (rest : Line) → first l (first m rest) ≡ first (l ++ m) rest
first_first l m rest = by_test (eqb rest.what 0) refl
  where
    by_test : (b : Bool) → eqb rest.what 0 ≡ b → first l (first m rest) ≡ first (l ++ m) rest
    by_test true e = rw (e, append_assoc)
    by_test false e = rw (e, e)

-- a number that is right ends where its word does
pub number_ends :
    (text : List ℕ) (from most what : ℕ) → (what ≡ 0 → ⊥) → (number_at text from most what).what ≡ 0 → (number_at text from most what).at ≡ (word_at text from).end
unfolding number_at
number_ends text from most what some =
    let w : Word = word_at text from in
    by_cases (λ (g : Got). g.what ≡ 0 → g.at ≡ w.end) (is_number 0 most (take (w.end - w.start) (drop w.start text))) _ _ (λ is none. refl) (λ other none. absurd (some none))

-- ---- one step

-- where a word stands, the text goes on
pub word_inside : {text : List ℕ} {from : ℕ} {w : Word} → Words text from w → eqb w.start w.end ≡ false → from < length text
word_inside {w = w} word some =
    let other = eqb-false w.start w.end some in
    omega (arith, other, word.start.onward, word.end.onward, word.end.within)

module _ {text : List ℕ} {from : ℕ} {w : Word} (word : Words text from w) (some : eqb w.start w.end ≡ false) (worker times next end : ℕ) where
  -- turns of one worker, and the rest
  pub step_on :
      found worker next ≡ number_at text from 255 17
      → found times end ≡ times_at text next
      → (more : ℕ)
      → turns_from (suc more) text from ≡ first (replicate times worker) (turns_from more text end)
  unfolding turns_from
  step_on number often more = rw (← word.is, some, ← number, ← often) refl

  -- the place behind them is further on
  pub step_ahead : found worker next ≡ number_at text from 255 17 → next ≤ end → from < end
  step_ahead number on =
      let other = eqb-false w.start w.end some in
      let ends : next ≡ (word_at text from).end =
      ap (λ (g : Got). g.at) number
      ∙ number_ends text from 255 17 (λ e. absurd (omega arith)) (sym (ap (λ (g : Got). g.what) number)) in
      let is = ap (λ (v : Word). v.end) word.is in
      omega (arith, ends, is, other, on, word.start.onward, word.end.onward)

-- ---- where the reading stands

-- `all` being what all of it comes to
pub record Going (text : List ℕ) (all : Line) (so_far : List ℕ) (from : ℕ) : Type 0 where
  pub more : ℕ
  pub same : first so_far (turns_from more text from) ≡ all
  pub enough : length text ≤ from + more

-- at the start
pub going_starts : (text : List ℕ) (at : ℕ) → Going text (turns_from (length text) text at) [] at
going_starts text at = record { more = length text; same = first_nothing _; enough = omega arith }

-- what is left, where the text goes on
here :
    {text : List ℕ} {all : Line} {so_far : List ℕ} {from : ℕ} (g : Going text all so_far from)
    → from < length text
    → (l : Line)
    → turns_from (suc (g.more - 1)) text from ≡ l
    → first so_far l ≡ all
here g inside l e =
    let back : suc (g.more - 1) ≡ g.more = omega (arith, inside, g.enough) in
    rw (← e, back) g.same

over :
    {before after : Reader}
    → Steps before after (Ok None)
    → (more : ℕ)
    → length before.text.now ≤ before.at + more
    → turns_from more before.text.now before.at ≡ right [] after.at
unfolding turns_from
over {before} {after} s zero enough = let same : before.at ≡ after.at = omega (arith, enough, s.reach.onward, s.reach.within) in ap (right []) same
over s (suc more) enough = s.is more

module _ {before after : Reader} {all : Line} {so_far : List ℕ} (g : Going before.text.now all so_far before.at) where
  -- no word is left
  pub going_over : Steps before after (Ok None) → right so_far after.at ≡ all
  going_over s = sym (first_none so_far after.at) ∙ ap (first so_far) (sym (over s g.more g.enough)) ∙ g.same

  -- something else stands there
  pub going_stops : {w : Wrong} → Steps before after (Err w) → wrong w.at (expected_number w.what) ≡ all
  going_stops {w} s =
      sym (first_wrong so_far w.at (expected_number w.what) (some_number w.what)) ∙ here g (s.inside (λ e. cc)) _ (s.is (g.more - 1))

  -- turns of one worker
  pub going_on : {run : ℕ × ℕ} → Steps before after (Ok (Some run)) → Going before.text.now all (so_far ++ replicate run.1 run.0) after.at
  going_on {run} s =
      let inside = s.inside (λ e. cc) in
      record {
        more = g.more - 1;
        same = sym (first_first so_far (replicate run.1 run.0) (turns_from (g.more - 1) before.text.now after.at)) ∙ here g inside _ (s.is (g.more - 1));
        enough = (let ahead = s.ahead in omega (arith, ahead, inside, g.enough));
      }

-- ---- how many there are

-- what all of a line's turns come to from a reader's place on
abbrev pub all_turns : Reader → Line
all_turns start = turns_from (length start.text.now) start.text.now start.at

-- so many were counted, as many as they are or more than a sheet holds
pub record Counting (start at : Reader) (count : ℕ) : Type 0 where
  pub text : at.text ≡ start.text
  pub so_far : List ℕ
  pub going : Going at.text.now (all_turns start) so_far at.at
  pub tally : min count 16385 ≡ min (length so_far) 16385
  pub reach : Reaches start.text.now start.at at.at

pub counting_starts : (start : Reader) → Counting start start 0
counting_starts start =
    record { text = refl; so_far = []; going = going_starts _ _; tally = refl; reach = reach_here _ _ }

-- a reach from its place
on : {start at : Reader} {count to : ℕ} → Counting start at count → Reaches at.text.now at.at to → Reaches start.text.now start.at to
on k reach = reach_then k.reach (rw k.text at reach)

module _ {start at after : Reader} {count : ℕ} (k : Counting start at count) where
  pub counting_over : Steps at after (Ok None) → Counted start (all_turns start) after (Ok count)
  counting_over s =
      let all = going_over k.going s in
      record {
        text = s.text ∙ k.text;
        tallies = record {
          at = ap (λ (x : Line). x.at) all;
          what = ap (λ (x : Line). x.what) all;
          stops = λ some. absurd (some refl);
          tally = k.tally ∙ ap (λ (x : Line). min (length x.bytes) 16385) all;
          reach = on k s.reach;
        };
      }

  pub counting_stops : {w : Wrong} → Steps at after (Err w) → Counted start (all_turns start) after (Err w)
  counting_stops {w} s =
      let all = going_stops k.going s in
      record {
        text = s.text ∙ k.text;
        tallies = record {
          at = ap (λ (x : Line). x.at) all;
          what = ap (λ (x : Line). x.what) all;
          stops = λ some. all;
          tally = ap (λ (x : Line). min (length x.bytes) 16385) all;
          reach = on k s.reach;
        };
      }

  pub counting_on : {run : ℕ × ℕ} {more : ℕ} → Steps at after (Ok (Some run)) → more ≡ min (count + run.1) 18446744073709551615 → Counting start after more
  counting_on {run} {more} s is =
      let longer : length (k.so_far ++ replicate run.1 run.0) ≡ length k.so_far + run.1 =
      length-append k.so_far (replicate run.1 run.0) ∙ ap (λ (n : ℕ). length k.so_far + n) (length-replicate run.1 run.0) in
      record {
        text = s.text ∙ k.text;
        so_far = k.so_far ++ replicate run.1 run.0;
        going = (let g = going_on k.going s in rw (← s.text) at g);
        tally = omega (arith, longer, is, k.tally);
        reach = on k s.reach;
      }

-- ---- the turns themselves

-- the turns so far are written
pub record Listing (start : Reader) (first : Pen) (at : Reader) (pen : Pen) : Type 0 where
  pub text : at.text ≡ start.text
  pub so_far : List ℕ
  pub going : Going at.text.now (all_turns start) so_far at.at
  pub wrote : Writes first so_far pen

pub listing_starts : (start : Reader) (pen : Pen) → Listing start pen start pen
listing_starts start pen = record { text = refl; so_far = []; going = going_starts _ _; wrote = writes_none pen }

module _ {start at after : Reader} {first pen : Pen} (k : Listing start first at pen) where
  pub listing_on :
      {run : ℕ × ℕ} {later : Pen}
      → Steps at after (Ok (Some run))
      → Writes pen (replicate run.1 run.0) later
      → Listing start first after later
  listing_on s wrote =
      record {
        text = s.text ∙ k.text;
        so_far = _;
        going = (let g = going_on k.going s in rw (← s.text) at g);
        wrote = writes_then k.wrote wrote;
      }

  -- where the turns are right, the line ends
  pub listing_over :
      (r : Result (Option (ℕ × ℕ)) Wrong)
      → Steps at after r
      → ((run : ℕ × ℕ) → r ≡ Ok (Some run) → ⊥)
      → (all_turns start).what ≡ 0
      → Writes first (all_turns start).bytes pen
  listing_over (Ok None) s no_run right_all = rw (← ap (λ (x : Line). x.bytes) (going_over k.going s)) k.wrote
  listing_over (Ok (Some run)) s no_run right_all = absurd (no_run run refl)
  listing_over (Err w) s no_run right_all = absurd (some_number w.what (ap (λ (x : Line). x.what) (going_stops k.going s) ∙ right_all))
