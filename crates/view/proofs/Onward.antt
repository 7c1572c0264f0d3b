-- The next scene is the last one, or stands further on in the sheet and is no refusal. Assumes nothing.
use Prim.Native.Nat.{ℕ, ◌+◌, ◌≤◌, ◌<◌}
use mathlib.Core.Bool.{true, false}
use mathlib.Core.Path.{◌≡◌, refl}
use mathlib.Core.List.{List, []}
use native.Mathlib.Omega.{arith}
use lib.Dec.{eqb, ltb}
use lib.ListN.{length, get_or}
use borrow.Author.Tests.{ltb-true}
use Rattle.mark.proofs.Choices.{by_cases, not_both}
use Rattle.turn.specs.Turn.{After, after}
use Rattle.engine.specs.declared.Plan.{Plan}
use Rattle.engine.specs.Calls.{lay_call, try_call, record_in}
use Rattle.sheet.specs.declared.Call.{Call}
use Rattle.sheet.specs.declared.Field.TheVariants.{Opening, Calling, Turning}
use Rattle.sheet.specs.Fields.{Read, Whole, Refused, read_field}
use Rattle.sheet.specs.Play.{asked}
use Rattle.sheet.proofs.Fielding.{whole_next, whole_turns}
use Rattle.view.specs.declared.Cursor.{Cursor}
use Rattle.view.specs.declared.Stage.{Stage}
use Rattle.view.specs.Stage.{seat_of, at_end, in_field, turn_scene, open_scene, call_scene, field_scene, next_scene}
use Rattle.view.specs.Scenes.{refusal_in}

-- a cursor stands in the sheet, and behind a byte of it for each field
pub record Within (sheet : List ℕ) (c : Cursor) : Type 0 where
  pub fields : c.field ≤ c.turn
  pub turns : c.turn ≤ c.end
  pub inside : c.end ≤ length sheet

-- a stage stands behind a place in the sheet, and its scene is no refusal
pub record Beyond (sheet : List ℕ) (turn : ℕ) (s : Stage) : Type 0 where
  pub within : Within sheet s.cursor
  pub further : turn < s.cursor.turn
  pub accepted : refusal_in s.scene ≡ []

-- it does, if it is not the last
abbrev pub Onward : List ℕ → ℕ → Stage → Type 0
Onward sheet turn s = s.cursor.over ≡ false → Beyond sheet turn s

module _ (sheet : List ℕ) (turn : ℕ) where
  -- a turn
  turn_onward :
      (i : ℕ) (s : After Stage)
      → Within sheet s.handed.cursor
      → s.handed.cursor.turn < s.handed.cursor.end
      → turn ≤ s.handed.cursor.turn
      → Onward sheet turn (turn_scene i s).handed
  unfolding turn_scene
  turn_onward i s in-it left before =
      let inside = in-it.inside in
      let fields = in-it.fields in
      by_cases (Onward sheet turn) (eqb (try_call s.words (seat_of s.handed i) (record_in s.handed.records i)).handed.said.refusal 0) _ _
      (λ done goes_on.
      record {
        within = record { fields = omega arith; turns = omega arith; inside = inside };
        further = omega arith;
        accepted = refl;
      })
      (λ refused goes_on. not_both true goes_on refl)

  -- a floor
  open_onward :
      (p : Plan) (s : After Stage) → Within sheet s.handed.cursor → turn < s.handed.cursor.turn → Onward sheet turn (open_scene p s).handed
  unfolding open_scene
  open_onward p s in-it behind =
      by_cases (Onward sheet turn) (eqb (lay_call s.words s.handed.floor p.workers p).handed.refusal 0) _ _
      (λ done goes_on. record { within = in-it; further = behind; accepted = refl }) (λ refused goes_on. not_both true goes_on refl)

  -- a call
  call_onward :
      (c : Call) (s : After Stage) → Within sheet s.handed.cursor → turn < s.handed.cursor.turn → Onward sheet turn (call_scene c s).handed
  unfolding call_scene
  call_onward c s in-it behind =
      let started = asked s.words (seat_of s.handed c.worker) (record_in s.handed.records c.worker) c in
      by_cases (Onward sheet turn) (eqb started.refusal 0) _ _
      (λ done goes_on. record { within = in-it; further = behind; accepted = refl }) (λ refused goes_on. not_both true goes_on refl)

module _ (sheet : List ℕ) (s : After Stage) (in-it : Within sheet s.handed.cursor) where
  abbrev c : Cursor
  c = s.handed.cursor

  -- the cursor in a field that was read whole, at a place in it
  read_within :
      (turn next : ℕ) → c.end + 3 ≤ turn → turn ≤ next → next ≤ length sheet → Within sheet (in_field c turn next)
  read_within turn next after before inside =
      let fields = in-it.fields in
      let turns = in-it.turns in
      record { fields = omega arith; turns = before; inside = inside }

  -- a field
  field_onward : (r : Read) → read_field sheet c.end ≡ r → Onward sheet c.turn (field_scene sheet s r).handed
  field_onward (Refused place) read = λ goes_on. not_both true goes_on refl
  field_onward (Whole (Opening p) next) read =
      let ends = whole_next sheet c.end (Opening p) next read in
      let turns = in-it.turns in
      open_onward sheet c.turn p _ (read_within next next (omega (arith, ends.0)) (omega arith) ends.1) (omega (arith, ends.0))
  field_onward (Whole (Calling d) next) read =
      let ends = whole_next sheet c.end (Calling d) next read in
      let turns = in-it.turns in
      call_onward sheet c.turn d _ (read_within next next (omega (arith, ends.0)) (omega arith) ends.1) (omega (arith, ends.0))
  field_onward (Whole (Turning span) next) read =
      let ends = whole_next sheet c.end (Turning span) next read in
      let starts = (whole_turns sheet c.end span next read).0 in
      let turns = in-it.turns in
      turn_onward sheet c.turn (get_or sheet span.start 0) _
      (read_within span.start next (omega arith) (omega (arith, ends.0)) ends.1) (omega (arith, ends.0)) (omega arith)

  -- so it is with every scene
  pub next_onward : Onward sheet c.turn (next_scene sheet s).handed
  unfolding next_scene
  next_onward =
      let P : After Stage → Type 0 = λ x. Onward sheet c.turn x.handed in
      by_cases P (ltb 16384 (length sheet)) _ _ (λ long goes_on. not_both true goes_on refl)
      (λ short.
      by_cases P (ltb c.turn c.end) _ _ (λ left. turn_onward sheet c.turn (get_or sheet c.turn 0) s in-it (ltb-true _ _ left) (omega arith))
      (λ none.
      by_cases P (at_end c (length sheet)) _ _ (λ over goes_on. not_both true goes_on refl) (λ more. field_onward (read_field sheet c.end) refl)))
