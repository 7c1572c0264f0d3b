-- Every point that a play comes to stands as its calls so far leave an opened board, and nothing there is refused by another number than
-- 2, 4, 5, 6 or 8. Assumes nothing.
use Prim.Native.Nat.{ℕ}
use mathlib.Core.Path.{◌≡◌, refl, sym, subst}
use mathlib.Core.List.{List, [], ◌∷◌, ◌++◌, append-nil, append_assoc}
use mathlib.Core.Logic.{inl, inr}
use lib.Dec.{eqb}
use lib.ListN.{length}
use borrow.Author.Tests.{eqb-true, eqb-false}
use Rattle.mark.proofs.Choices.{by_cases}
use Rattle.sheet.specs.declared.Field.TheVariants.{Opening, Calling, Turning}
use Rattle.sheet.specs.Fields.{Read, Whole, Refused, read_field}
use Rattle.sheet.specs.Play.{call_field, turn_at_desk, turns_in}
use Rattle.history.specs.History as History
use Rattle.history.specs.History.{Call}
use Rattle.history.specs.Numbers.{OneOf}
use Rattle.history.proofs.Later.{one_each}
use Rattle.plays.specs.Points.{Point, Next, goes, over, refused, after_read, ahead, next_of, Steps, stays, steps, Bytes}
use Rattle.plays.specs.Plays.{refusals}
use Rattle.plays.proofs.Readings.{call_ticket}
use Rattle.plays.proofs.Standing.{Stands, elsewhere, turn_number_is}
use Rattle.plays.proofs.Turning.{turn_stop, turn_stands}
use Rattle.plays.proofs.Calling.{call_number_is, call_stands}

module _ (o : History.Opening) (sheet : List ℕ) (bytes : Bytes sheet) where
  -- what comes next stands so, or is refused by one of these numbers
  abbrev pub Fine : List Call → Next → Type 0
  Fine done (goes cs q) = Stands o (done ++ cs) q
  Fine done over = Unit {0}
  Fine done (refused number offset) = OneOf refusals number

  -- where a number is no acceptance, it is one of those by which a sheet is refused
  abbrev Told : ℕ → Type 0
  Told n = (n ≡ 0 → ⊥) → OneOf refusals n

  module _ (done : List Call) (p : Point) (so : Stands o done p) where
    turn_fine : (i : ℕ) (ts : List ℕ) → Fine done (ahead sheet p (i ∷ ts))
    turn_fine i ts =
        by_cases (Fine done) (eqb (turn_at_desk i p.left).stop 0) _ _
        (λ is. turn_stands o done p so i (eqb-true _ 0 is) p.field p.next ts)
        (λ isnot. one_each Told (0 ∷ 2 ∷ 6 ∷ []) ((λ some. absurd (some refl)), ((λ some. inl refl), ((λ some. inr (inr (inr (inl refl)))), tt))) _
        (subst (OneOf (0 ∷ 2 ∷ 6 ∷ [])) (sym (turn_stop i p.left)) (turn_number_is o done p so i)) (eqb-false _ 0 isnot))

    read_fine : (r : Read) → read_field sheet p.next ≡ r → Fine done (after_read sheet p r)
    read_fine (Refused place) is = inr (inr (inr (inr (inl refl))))
    read_fine (Whole (Opening plan) n) is = inr (inr (inr (inr (inl refl))))
    read_fine (Whole (Calling c) n) is =
        by_cases (Fine done) (eqb (call_field c p.left).stop 0) _ _
        (λ accepted. call_stands o done p so c (call_ticket sheet bytes p.next n c is) (eqb-true _ 0 accepted) p.next n)
        (λ isnot. one_each Told (0 ∷ 2 ∷ 4 ∷ 5 ∷ []) ((λ some. absurd (some refl)), ((λ some. inl refl), ((λ some. inr (inl refl)), ((λ some. inr (inr (inl refl))), tt))))
        _ (call_number_is o done p so c) (eqb-false _ 0 isnot))
    read_fine (Whole (Turning span) n) is = rw (append-nil done) (elsewhere o done p so p.next n (turns_in sheet span))

    -- whatever comes next is fine
    pub fine : Fine done (next_of sheet p)
    fine = by p.turns
      where
        by : (ts : List ℕ) → Fine done (ahead sheet p ts)
        by [] = by_cases (Fine done) (eqb p.next (length sheet)) _ _ (λ end. tt) (λ isnot. read_fine (read_field sheet p.next) refl)
        by (i ∷ ts) = turn_fine i ts

  -- so is every point that is reached
  pub points_stand : {p q : Point} {cs : List Call} → Steps sheet p cs q → (done : List Call) → Stands o done p → Stands o (done ++ cs) q
  points_stand {p} stays done so = subst (λ (l : List Call). Stands o l p) (sym (append-nil done)) so
  points_stand {p} {q} (steps {q = r} {cs = cs} {ds = ds} next rest) done so =
      subst (λ (l : List Call). Stands o l q) (append_assoc done cs ds)
      (points_stand rest (done ++ cs) (subst (Fine done) next (fine done p so)))
