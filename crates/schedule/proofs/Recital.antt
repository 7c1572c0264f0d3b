-- Field after field of a sheet, line after line of its text. Assumes nothing.
use Prim.Native.Nat.{ℕ, zero, suc, ◌+◌, ◌-◌, ◌≤◌, ◌<◌}
use mathlib.Core.Path.{◌≡◌, refl, sym, ap, subst, ◌∙◌}
use mathlib.Core.List.{List, [], ◌++◌, append_assoc}
use native.Mathlib.Omega.{arith}
use lib.ListN.{length}
use borrow.Author.Tests.{eq-eqb, ne_eqb}
use Rattle.pen.specs.declared.Pen.{Pen}
use Rattle.pen.specs.Written.{Writes}
use Rattle.pen.proofs.Putting.{writes_none, writes_then}
use Rattle.std.proofs.Common.{Result, Ok, Err}
use Rattle.schedule.specs.Results.{Tells, end_at, is_whole}
use Rattle.sheet.specs.declared.Field.{Field}
use Rattle.sheet.specs.Fields.{Read, Whole, Refused, read_field}
use Rattle.sheet.proofs.Fielding.{whole_next}
use Rattle.schedule.specs.Writing.{Text, field_text, line_first, read_text, text_from, text_of}

-- the field at a place, and then the others
pub text_here :
    (more : ℕ) (sheet : List ℕ) (at : ℕ) → 1 ≤ more → text_from more sheet at ≡ read_text (text_from (more - 1) sheet) sheet at (read_field sheet at)
unfolding text_from
text_here zero sheet at some = absurd (omega arith)
text_here (suc more) sheet at some = let back : suc more - 1 ≡ more = omega arith in rw back

-- where a text stands: its lines so far, and the place of the next field
pub record Standing (sheet : List ℕ) (first pen : Pen) (at : ℕ) : Type 0 where
  pub more : ℕ
  pub so_far : List ℕ
  pub lines : Writes first so_far pen
  pub same : line_first so_far (text_from more sheet at) ≡ text_of sheet
  pub enough : length sheet < at + more
  pub inside : at ≤ length sheet

-- nothing is written
pub standing_starts : (sheet : List ℕ) (pen : Pen) → Standing sheet pen pen 0
unfolding text_of
standing_starts sheet pen =
    record { more = suc (length sheet); so_far = []; lines = writes_none pen; same = refl; enough = omega arith; inside = omega arith }

-- what was written is the text
ended :
    {sheet : List ℕ} {first pen : Pen} (so_far : List ℕ) (l : List ℕ) (r : Result ℕ ℕ)
    → line_first so_far (record { lines = l; at = end_at r; whole = is_whole r }) ≡ text_of sheet
    → Writes first (so_far ++ l) pen
    → Tells sheet first pen r
ended {sheet} {first} {pen} so_far l r same writes =
    record {
      lines = subst (λ (x : Text). Writes first x.lines pen) same writes;
      at = ap (λ (x : Text). x.at) same;
      whole = ap (λ (x : Text). x.whole) same;
    }

module _ {sheet : List ℕ} {first pen : Pen} {at : ℕ} (g : Standing sheet first pen at) where
  -- what the field that is read here comes to
  here : (r : Read) → read_field sheet at ≡ r → line_first g.so_far (read_text (text_from (g.more - 1) sheet) sheet at r) ≡ text_of sheet
  here r is =
      ap (λ (x : Read). line_first g.so_far (read_text (text_from (g.more - 1) sheet) sheet at x)) (sym is)
      ∙ ap (line_first g.so_far) (sym (text_here g.more sheet at (omega (arith, g.enough, g.inside))))
      ∙ g.same

  -- it is malformed
  pub standing_refused : (place : ℕ) → read_field sheet at ≡ Refused place → Tells sheet first pen (Err place)
  standing_refused place is =
      ended g.so_far [] (Err place) (here (Refused place) is) (writes_then g.lines (writes_none pen))

  module _ (f : Field) (next : ℕ) (is : read_field sheet at ≡ Whole f next) {later : Pen} (line : Writes pen (field_text sheet at f next) later) where
    -- it is the last
    pub standing_over : next ≡ length sheet → Tells sheet first later (Ok next)
    standing_over over =
        ended g.so_far (field_text sheet at f next ++ []) (Ok next)
        (rw (eq-eqb next (length sheet) over) at (here (Whole f next) is))
        (writes_then g.lines (writes_then line (writes_none later)))

    -- others come
    pub standing_next : (next ≡ length sheet → ⊥) → Standing sheet first later next
    standing_next more =
        let n = whole_next sheet at f next is in
        let text = field_text sheet at f next in
        let rest = text_from (g.more - 1) sheet next in
        record {
          more = g.more - 1;
          so_far = g.so_far ++ text;
          lines = writes_then g.lines line;
          same =
              ap (λ (l : List ℕ). record { lines = l; at = rest.at; whole = rest.whole }) (append_assoc g.so_far text rest.lines)
              ∙ (rw (ne_eqb next (length sheet) more) at (here (Whole f next) is));
          enough = omega (arith, g.enough);
          inside = n.1;
        }
