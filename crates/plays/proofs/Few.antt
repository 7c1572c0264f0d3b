-- Inserts are few in every play: each call takes one byte of the sheet at least, and a sheet has 16,384 at most. Assumes nothing.
use Prim.Native.Nat.{ℕ, ◌+◌, ◌-◌, ◌≤◌}
use mathlib.Core.Path.{◌≡◌, refl, subst}
use mathlib.Core.List.{List, [], ◌∷◌, map}
use native.Mathlib.Omega.{arith}
use lib.Dec.{eqb}
use lib.ListN.{length, drop, length-append, length-drop, length-map}
use lib.Seq.{length-take-le}
use Rattle.mark.proofs.Choices.{by_cases}
use Rattle.sheet.specs.declared.Span.{Span}
use Rattle.sheet.specs.declared.Field.TheVariants.{Opening, Calling, Turning}
use Rattle.sheet.specs.Fields.{Read, Whole, Refused, read_field}
use Rattle.sheet.specs.Play.{call_field, turn_at_desk, turns_in}
use Rattle.sheet.proofs.Fielding.{whole_next, whole_turns}
use Rattle.history.specs.History.{State, Call, FewInserts}
use Rattle.history.specs.Moves.{calls, FewThrough}
use Rattle.history.proofs.Paid.{few_calls, few_steps}
use Rattle.plays.specs.Points.{Point, Next, goes, over, refused, after_read, ahead, next_of, Steps, stays, steps, FloorAccepted, first_point}

module _ (sheet : List ℕ) where
  -- the bytes that are not read yet, and the turns of the field that are still to come
  abbrev still : Point → ℕ
  still p = length sheet - p.next + length p.turns

  -- what comes next is paid for: each call takes a byte or a turn of them
  abbrev Paid : Point → Next → Type 0
  Paid p (goes cs q) = length cs + still q ≤ still p
  Paid p over = Unit {0}
  Paid p (refused number offset) = Unit {0}

  -- a field has no more turns than bytes
  span_turns :
      (at next : ℕ) (span : Span) → read_field sheet at ≡ Whole (Turning span) next → length (turns_in sheet span) + at ≤ next
  span_turns at next span is =
      let ends = whole_next sheet at _ next is in
      let turns = whole_turns sheet at span next is in
      let rest = length-drop span.start sheet in
      let long = length-take-le (span.end - span.start) (drop span.start sheet) (omega (arith, rest, ends.1, turns.1)) in
      omega (arith, long, turns.0, turns.1, turns.2)

  module _ (p : Point) where
    -- a call by its field, turns by theirs
    read_paid : (r : Read) → read_field sheet p.next ≡ r → Paid p (after_read sheet p r)
    read_paid (Refused place) is = tt
    read_paid (Whole (Opening plan) n) is = tt
    read_paid (Whole (Calling c) n) is =
        let ends = whole_next sheet p.next _ n is in
        by_cases (Paid p) (eqb (call_field c p.left).stop 0) _ _ (λ accepted. omega (arith, ends.0, ends.1)) (λ isnot. tt)
    read_paid (Whole (Turning span) n) is =
        let ends = whole_next sheet p.next _ n is in
        omega (arith, ends.0, ends.1, span_turns p.next n span is)

    -- a turn by itself, one less being to come
    turn_paid : (i : ℕ) (ts : List ℕ) → p.turns ≡ i ∷ ts → Paid p (ahead sheet p (i ∷ ts))
    turn_paid i ts are =
        by_cases (Paid p) (eqb (turn_at_desk i p.left).stop 0) _ _ (λ done. rw are (omega arith)) (λ isnot. tt)

    -- whatever comes next is paid for
    paid : Paid p (next_of sheet p)
    paid = by p.turns refl
      where
        by : (ts : List ℕ) → p.turns ≡ ts → Paid p (ahead sheet p ts)
        by [] are = by_cases (Paid p) (eqb p.next (length sheet)) _ _ (λ end. tt) (λ isnot. read_paid (read_field sheet p.next) refl)
        by (i ∷ ts) are = turn_paid i ts are

  -- so are all calls from a point to a point
  calls_paid : {p q : Point} {cs : List Call} → Steps sheet p cs q → length cs + still q ≤ still p
  calls_paid stays = omega arith
  calls_paid {p} (steps {cs = cs} {ds = ds} step rest) =
      omega (arith, length-append cs ds, subst (Paid p) step (paid p), calls_paid rest)

module _ {sheet board : List ℕ} (f : FloorAccepted sheet board) {done : List Call} {p : Point} (reached : Steps sheet (first_point f) done p) where
  -- a play has no more calls than its sheet has bytes
  calls_most : length done ≤ 16384
  calls_most = omega (arith, calls_paid sheet reached, f.short)

  -- §3.8: inserts are few at every point that a play comes to, from whatever state they are counted
  pub few_played : (first : State) → FewInserts first done
  few_played first = few_calls first done (omega (arith, calls_most))

  -- and at all times until then
  pub few_through : (first : State) → FewThrough first (map calls done)
  few_through first = few_steps first (map calls done) (omega (arith, calls_most, length-map done calls))
