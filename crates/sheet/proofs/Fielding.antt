-- What the reading of a field says of it, of its place and of the place after it. Assumes nothing.
use Prim.Native.Nat.{ℕ, ◌+◌, ◌≤◌}
use mathlib.Core.Bool.{true, not, and-eq-true_iff}
use mathlib.Core.Path.{◌≡◌, sym, ap, ◌∙◌}
use mathlib.Core.List.{List}
use native.Mathlib.Omega.{arith}
use lib.ListN.{length}
use lib.Dec.{eqb}
use borrow.Author.Tests.{eqb-true, eqb-false, leb-true, not-true}
use Rattle.mark.proofs.Choices.{by_cases}
use Rattle.engine.specs.declared.Plan.{Plan}
use Rattle.sheet.specs.declared.Call.{Call}
use Rattle.sheet.specs.declared.Span.{Span}
use Rattle.sheet.specs.declared.Field.{Field}
use Rattle.sheet.specs.declared.Found.{Found}
use Rattle.sheet.specs.declared.Field.TheVariants.{Opening, Calling, Turning}
use Rattle.std.specs.Prelude.{Option, Some, None}
use Rattle.sheet.specs.Fields.{Read, Whole, Refused, read_of, byte_at, length_at, is_whole, plan_at, call_at, span_at, opening_at, calling_at, turning_at, field_of, read_field}
use Rattle.sheet.proofs.Keyed.{by_key}
use Rattle.sheet.proofs.Fitting.{CallFits, call_fits_lem, fits_long}

-- ---- what the code hands back of a reading

-- what was found is what stands there
pub found_here :
    (sheet : List ℕ) (at : ℕ) {r : Option Found} {x : Found} {f : Field}
    → read_of at r ≡ read_field sheet at
    → r ≡ Some x
    → x.field ≡ f
    → read_field sheet at ≡ Whole f x.next
found_here sheet at {x = x} read is field = sym read ∙ ap (read_of at) is ∙ ap (λ (f : Field). Whole f x.next) field

-- where nothing was found nothing can be read
pub none_here : (sheet : List ℕ) (at : ℕ) {r : Option Found} → read_of at r ≡ read_field sheet at → r ≡ None → read_field sheet at ≡ Refused at
none_here sheet at read is = sym read ∙ ap (read_of at) is

-- ---- each way that a reading can come out

-- each way that a reading at a place can come out
pub data Reading (sheet : List ℕ) (at : ℕ) : Read → Type 0 where
  opening_read :
      (long : ℕ) → at ≡ 0 → long ≡ 7 → at + 3 + long ≤ length sheet → Reading sheet at (Whole (Opening (plan_at sheet at)) (at + 3 + long))
  calling_read :
      (long : ℕ)
      → 1 ≤ at
      → CallFits (byte_at sheet (at + 4)) long
      → at + 3 + long ≤ length sheet
      → Reading sheet at (Whole (Calling (call_at sheet at long)) (at + 3 + long))
  turning_read : (long : ℕ) → 1 ≤ at → 1 ≤ long → at + 3 + long ≤ length sheet → Reading sheet at (Whole (Turning (span_at at long)) (at + 3 + long))
  not_read : Reading sheet at (Refused at)

apart : {A : Type 0} → ◌≡◌ {A = ℕ} 0 1 → A
apart e = absurd (omega arith)

not_zero : (n : ℕ) → not (eqb n 0) ≡ true → 1 ≤ n
not_zero n is = let other = eqb-false n 0 (not-true _ is) in omega arith

module _ (sheet : List ℕ) (at : ℕ) where
  module _ (long : ℕ) (fits : at + 3 + long ≤ length sheet) where
    opening_reading : Reading sheet at (opening_at sheet at long)
    unfolding opening_at
    opening_reading =
        by_cases (Reading sheet at) _ _ _
        (λ right. let a = (and-eq-true_iff _ _).0 right in opening_read long (eqb-true at 0 a.0) (eqb-true long 7 a.1) fits)
        (λ wrong. not_read)

    calling_reading : Reading sheet at (calling_at sheet at long)
    unfolding calling_at
    calling_reading =
        by_cases (Reading sheet at) _ _ _
        (λ right. let a = (and-eq-true_iff _ _).0 right in calling_read long (not_zero at a.0) (call_fits_lem _ long a.1) fits)
        (λ wrong. not_read)

    turning_reading : Reading sheet at (turning_at at long)
    unfolding turning_at
    turning_reading =
        by_cases (Reading sheet at) _ _ _
        (λ right. let a = (and-eq-true_iff _ _).0 right in turning_read long (not_zero at a.0) (not_zero long a.1) fits)
        (λ wrong. not_read)

    field_reading : (tag : ℕ) → Reading sheet at (field_of tag sheet at long)
    unfolding field_of
    field_reading tag = by_key (Reading sheet at) tag _ _ _ _ opening_reading calling_reading turning_reading not_read

  whole_fits : is_whole sheet at ≡ true → at + 3 + length_at sheet at ≤ length sheet
  unfolding is_whole
  whole_fits whole = leb-true _ (length sheet) whole

  -- the field at a place is read in one of them
  pub reading : Reading sheet at (read_field sheet at)
  unfolding read_field
  reading =
      by_cases (Reading sheet at) (is_whole sheet at) _ _ (λ whole. field_reading (length_at sheet at) (whole_fits whole) (byte_at sheet at))
      (λ cut. not_read)

  -- a refusal comes with the field's place
  pub refused_place : (place : ℕ) → read_field sheet at ≡ Refused place → place ≡ at
  refused_place place is = of_reading reading is
    where
      of_reading : {r : Read} → Reading sheet at r → r ≡ Refused place → place ≡ at
      of_reading (opening_read long first seven fits) e = cc
      of_reading (calling_read long later right fits) e = cc
      of_reading (turning_read long later some fits) e = cc
      of_reading not_read e = cc

  -- only the first field is a floor
  pub later_field : (p : Plan) (next : ℕ) → read_field sheet at ≡ Whole (Opening p) next → at ≡ 0
  later_field p next is = of_reading reading is
    where
      of_reading : {r : Read} → Reading sheet at r → r ≡ Whole (Opening p) next → at ≡ 0
      of_reading (opening_read long first seven fits) e = first
      of_reading (calling_read long later right fits) e = cc
      of_reading (turning_read long later some fits) e = cc
      of_reading not_read e = cc

  -- a field that is whole is 4 bytes long or more, and ends within the sheet
  pub whole_next : (f : Field) (next : ℕ) → read_field sheet at ≡ Whole f next → (at + 4 ≤ next) × (next ≤ length sheet)
  whole_next f next is = of_reading reading is
    where
      ends : {g : Field} {end : ℕ} → Whole g end ≡ Whole f next → end ≡ next
      ends e = cc

      of_reading : {r : Read} → Reading sheet at r → r ≡ Whole f next → (at + 4 ≤ next) × (next ≤ length sheet)
      of_reading (opening_read long first seven fits) e = let end = ends e in (omega arith, omega arith)
      of_reading (calling_read long later right fits) e = let end = ends e in let more = fits_long right in (omega arith, omega arith)
      of_reading (turning_read long later some fits) e = let end = ends e in (omega arith, omega arith)
      of_reading not_read e = apart (cc)

  -- a call's field is 13 bytes long or more
  pub whole_call : (c : Call) (next : ℕ) → read_field sheet at ≡ Whole (Calling c) next → at + 13 ≤ next
  whole_call c next is = of_reading reading is
    where
      of_reading : {r : Read} → Reading sheet at r → r ≡ Whole (Calling c) next → at + 13 ≤ next
      of_reading (opening_read long first seven fits) e = apart (cc)
      of_reading (calling_read long later right fits) e =
          let end : at + 3 + long ≡ next = cc in
          let more = fits_long right in
          omega arith
      of_reading (turning_read long later some fits) e = apart (cc)
      of_reading not_read e = apart (cc)

  -- turns stand from behind tag and length to the end of their field
  pub whole_turns :
      (span : Span) (next : ℕ)
      → read_field sheet at ≡ Whole (Turning span) next
      → (span.start ≡ at + 3) × (span.end ≡ next) × (span.start ≤ span.end)
  whole_turns span next is = of_reading reading is
    where
      of_reading :
          {r : Read}
          → Reading sheet at r
          → r ≡ Whole (Turning span) next
          → (span.start ≡ at + 3) × (span.end ≡ next) × (span.start ≤ span.end)
      of_reading (opening_read long first seven fits) e = apart (cc)
      of_reading (calling_read long later right fits) e = apart (cc)
      of_reading (turning_read long later some fits) e =
          let end : at + 3 + long ≡ next = cc in
          let same : span_at at long ≡ span = cc in
          (rw (← same), rw (← same) end, rw (← same) (omega arith))
      of_reading not_read e = apart (cc)

-- the first field is a floor
pub first_field : (sheet : List ℕ) (f : Field) (next : ℕ) → read_field sheet 0 ≡ Whole f next → f ≡ Opening (plan_at sheet 0)
first_field sheet f next is = of_reading (reading sheet 0) is
  where
    of_reading : {r : Read} → Reading sheet 0 r → r ≡ Whole f next → f ≡ Opening (plan_at sheet 0)
    of_reading (opening_read long first seven fits) e = cc
    of_reading (calling_read long later right fits) e = absurd (omega arith)
    of_reading (turning_read long later some fits) e = absurd (omega arith)
    of_reading not_read e = apart (cc)
