-- From every point a play goes on, field by field and turn by turn, to a point where it stops; what is listed is what was listed so far,
-- and the last line. Assumes nothing.
use Prim.Native.Nat.{ℕ, zero, suc, ◌+◌, ◌≤◌}
use mathlib.Core.Bool.{Bool, true, false}
use mathlib.Core.Path.{◌≡◌, refl, sym, ap, ◌∙◌}
use mathlib.Core.List.{List, [], ◌∷◌, ◌++◌, append_assoc}
use native.Mathlib.Omega.{arith}
use lib.Dec.{eqb}
use lib.ListN.{length}
use borrow.Author.Tests.{eq-eqb}
use Rattle.mark.proofs.Choices.{by_cases, not_both}
use Rattle.turn.specs.Turn.{Turned, After, after}
use Rattle.engine.specs.Refusals.{turn_number}
use Rattle.engine.specs.Calls.{turned, turn_call}
use Rattle.sheet.specs.declared.Call as Field
use Rattle.sheet.specs.declared.Field.TheVariants.{Opening, Calling, Turning}
use Rattle.sheet.specs.Fields.{Read, Whole, Refused, read_field}
use Rattle.sheet.specs.declared.Desk.{Desk}
use Rattle.sheet.specs.Play.{Outcome, record_of, call_field, turn_listed, turn_at_desk, turns_done, turns_in}
use Rattle.sheet.specs.Listing.{Told, told, Ending, told_first, listed_first, told_refusal, told_totals, after_field, one_field, fields_from}
use Rattle.sheet.proofs.Fielding.{later_field, whole_next}
use Rattle.history.specs.History.{Call, turn}
use Rattle.plays.specs.Points.{Point, goes, over, refused, call_of, next_of, Steps, stays, steps}

-- what is told last, where the play stops at a point: its line, and the desk and the number with it
pub data LastTold (sheet : List ℕ) (p : Point) : Told → Type 0 where
  totals : next_of sheet p ≡ over → LastTold sheet p (told_totals p.left.handed)
  refusal : (number offset : ℕ) → next_of sheet p ≡ refused number offset → LastTold sheet p (told_refusal number offset)

-- a turn that is refused leaves the board and the desk, and lists nothing
turn_refused : (i : ℕ) (s : After Desk) → eqb (turn_at_desk i s).stop 0 ≡ false → ((turn_at_desk i s).left ≡ s) × ((turn_at_desk i s).lines ≡ [])
unfolding turn_at_desk turn_call turned
turn_refused i s =
    let d = s.handed in
    let w = record_of d i in
    let number = turn_number d.floor s.words d.floor.workers i w in
    by_cases
    (λ (x : After Turned).
    let o = turn_listed i w x.words x.handed.worker x.handed.answer d in
    eqb o.stop 0 ≡ false → (o.left ≡ s) × (o.lines ≡ []))
    (eqb number 0) _ _ (λ is isnot. not_both true isnot refl) (λ isnot same. (refl, refl))

-- what is told goes by its lines
same_lines : {words l m : List ℕ} {d : Desk} {stop : ℕ} → l ≡ m → after words (told l d stop) ≡ after words (told m d stop)
same_lines {words = words} {d = d} {stop = stop} same = ap (λ (x : List ℕ). after words (told x d stop)) same

module _ (sheet : List ℕ) where
  -- a point
  abbrev point : ℕ → ℕ → List ℕ → After Desk → List ℕ → Point
  point field next ts left lines = record { field = field; next = next; turns = ts; left = left; lines = lines }

  -- what the sheet comes to from a point on, with so many fields more at most, and the lines so far before it
  abbrev pub comes_to : ℕ → Point → Ending
  comes_to k p = listed_first p.lines (after_field (fields_from k sheet) (length sheet) p.field p.next (turns_done p.turns p.left))

  -- the play goes on from a point to one where it stops, and comes to this
  pub record Finishes (p : Point) (e : Ending) : Type 0 where
    pub calls : List Call
    pub end : Point
    pub reached : Steps sheet p calls end
    pub tells : Told
    pub last : LastTold sheet end tells
    pub listed : e ≡ after end.left.words (told_first end.lines tells)

  -- a play finishes from a point if it does from the next
  on : (p : Point) (cs : List Call) (q : Point) (e f : Ending) → next_of sheet p ≡ goes cs q → e ≡ f → Finishes q f → Finishes p e
  on p cs q e f step same rest =
      record {
        calls = cs ++ rest.calls;
        end = rest.end;
        reached = steps step rest.reached;
        tells = rest.tells;
        last = rest.last;
        listed = same ∙ rest.listed;
      }

  -- where a play stops at a point, it finishes there
  here : (p : Point) (t : Told) (e : Ending) → LastTold sheet p t → e ≡ after p.left.words (told_first p.lines t) → Finishes p e
  here p t e last listed = record { calls = []; end = p; reached = stays; tells = t; last = last; listed = listed }

  -- ---- the turns of a field

  module _ (k field next : ℕ) where
    -- the next turn is done, and the play finishes from there; or it is refused
    module _ (i : ℕ) (ts : List ℕ) (left : After Desk) (lines : List ℕ) where
      abbrev o : Outcome
      o = turn_at_desk i left

      abbrev p : Point
      p = point field next (i ∷ ts) left lines

      abbrev q : Point
      q = point field next ts o.left (lines ++ o.lines)

      turn_finish : Finishes q (comes_to k q) → (t : Bool) → eqb o.stop 0 ≡ t → Finishes p (comes_to k p)
      unfolding turns_done
      turn_finish rest true is =
          let r = turns_done ts o.left in
          on p (turn i ∷ []) q _ _ (rw is)
          (rw is
          (same_lines
          (ap (λ (l : List ℕ). lines ++ l) (append_assoc o.lines r.lines _) ∙ sym (append_assoc lines o.lines _))))
          rest
      turn_finish rest false isnot =
          let same = turn_refused i left isnot in
          here p (told_refusal o.stop field) _ (refusal o.stop field (rw isnot)) (rw (isnot, isnot, same.0, same.1))

    -- so it finishes from every turn of a field, if it does where none is left
    turns_finish :
        ((left : After Desk) (lines : List ℕ) → Finishes (point field next [] left lines) (comes_to k (point field next [] left lines)))
        → (ts : List ℕ) (left : After Desk) (lines : List ℕ)
        → Finishes (point field next ts left lines) (comes_to k (point field next ts left lines))
    turns_finish none [] left lines = none left lines
    turns_finish none (i ∷ ts) left lines =
        turn_finish i ts left lines (turns_finish none ts (turn_at_desk i left).left (lines ++ (turn_at_desk i left).lines)) _ refl

  -- ---- field after field

  -- from every point with so many fields more at most, if that is enough
  abbrev Finishing : ℕ → Type 0
  Finishing k =
      (field next : ℕ) (ts : List ℕ) (left : After Desk) (lines : List ℕ)
      → 1 ≤ next
      → next ≤ length sheet
      → length sheet ≤ next + k
      → Finishes (point field next ts left lines) (comes_to k (point field next ts left lines))

  -- no turn of a field is left
  module _ (field next : ℕ) (left : After Desk) (lines : List ℕ) where
    abbrev at : Point
    at = point field next [] left lines

    -- at the end of the sheet
    over_finish : (k : ℕ) → eqb next (length sheet) ≡ true → Finishes at (comes_to k at)
    unfolding turns_done
    over_finish k is = here at _ _ (totals (rw is)) (rw is)

    -- before another field
    module _
        (more : ℕ) (others : Finishing more) (isnot : eqb next (length sheet) ≡ false) (some : 1 ≤ next)
        (enough : length sheet ≤ next + suc more) where
      -- what is listed so far, and what comes of a reading
      abbrev first : Read → Ending
      first r = listed_first lines (listed_first [] (one_field (fields_from more sheet) sheet next left r))

      module _ (c : Field.Call) (n : ℕ) (is : read_field sheet next ≡ Whole (Calling c) n) where
        call_finish : (t : Bool) → eqb (call_field c left).stop 0 ≡ t → Finishes at (first (Whole (Calling c) n))
        unfolding call_field turns_done
        call_finish true done =
            let known = whole_next sheet next _ n is in
            let o = call_field c left in
            on at (call_of c ∷ []) (point next n [] o.left (lines ++ [])) _ _ (rw (isnot, is, done))
            (rw done (same_lines (sym (append_assoc lines [] _))))
            (others next n [] o.left (lines ++ []) (omega arith) known.1 (omega arith))
        call_finish false stopped =
            here at (told_refusal (call_field c left).stop next) _ (refusal (call_field c left).stop next (rw (isnot, is, stopped))) (rw stopped)

      read_finish : (r : Read) → read_field sheet next ≡ r → Finishes at (first r)
      read_finish (Refused place) is = here at (told_refusal 8 place) _ (refusal 8 place (rw (isnot, is))) refl
      read_finish (Whole (Opening plan) n) is = absurd (let none = later_field sheet next plan n is in omega arith)
      read_finish (Whole (Calling c) n) is = call_finish c n is _ refl
      read_finish (Whole (Turning span) n) is =
          let known = whole_next sheet next _ n is in
          on at [] (point next n (turns_in sheet span) left lines) _ _ (rw (isnot, is)) refl
          (others next n (turns_in sheet span) left lines (omega arith) known.1 (omega arith))

      field_finish : Finishes at (comes_to (suc more) at)
      unfolding turns_done fields_from
      field_finish = rw isnot (read_finish (read_field sheet next) refl)

  none_more : (field next : ℕ) (left : After Desk) (lines : List ℕ) → next ≤ length sheet → length sheet ≤ next + zero
      → Finishes (point field next [] left lines) (comes_to zero (point field next [] left lines))
  none_more field next left lines within enough = over_finish field next left lines zero (eq-eqb next (length sheet) (omega arith))

  some_more : (more field next : ℕ) → Finishing more → 1 ≤ next → length sheet ≤ next + suc more → (left : After Desk) (lines : List ℕ)
      → (t : Bool) → eqb next (length sheet) ≡ t
      → Finishes (point field next [] left lines) (comes_to (suc more) (point field next [] left lines))
  some_more more field next others some enough left lines true is = over_finish field next left lines (suc more) is
  some_more more field next others some enough left lines false isnot = field_finish field next left lines more others isnot some enough

  -- every play finishes
  pub finish : (k : ℕ) → Finishing k
  finish zero field next ts left lines some within enough =
      turns_finish zero field next (λ left lines. none_more field next left lines within enough) ts left lines
  finish (suc more) field next ts left lines some within enough =
      turns_finish (suc more) field next (λ left lines. some_more more field next (finish more) some enough left lines _ refl) ts left lines
