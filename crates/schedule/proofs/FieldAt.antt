-- A field that was read: its tag, its length, and its bytes, which are the sheet's. Assumes nothing.
use Prim.Native.Nat.{ℕ, zero, suc, ◌+◌, ◌-◌, ◌≤◌}
use mathlib.Core.Bool.{Bool, true, false, not, and-eq-true_iff}
use mathlib.Core.Path.{◌≡◌, refl, ap, ◌∙◌}
use mathlib.Core.List.{List, [], ◌∷◌, ◌++◌}
use native.Mathlib.Omega.{arith}
use lib.Dec.{eqb, leb}
use lib.ListN.{length, take, drop}
use lib.Seq.{get_or-drop}
use borrow.Author.Tests.{eqb-true, eqb-false, leb-true, not-true, eq-eqb, ne_eqb}
use Rattle.mark.proofs.Choices.{by_cases, not_both}
use Rattle.sheet.specs.declared.Field.TheVariants.{Opening, Calling, Turning}
use Rattle.sheet.specs.Fields.{Read, Whole, Refused, byte_at, number_at, length_at, is_whole, plan_at, call_fits, ticket_at, call_at, span_at, opening_at, calling_at, turning_at, field_of, read_field, Bytes}
use Rattle.sheet.specs.Play.{turns_in}
use Rattle.sheet.proofs.Fitting.{CallFits, fits_short, fits_four, fits_eight}
use Rattle.schedule.specs.Bytes.{high_first, floor_bytes, ticket_bytes, call_bytes, turns_bytes}
use Rattle.sheet.proofs.HighFirst.{number_small}
use Rattle.schedule.proofs.FieldBytes.{part, part_then, part_cons, length_part, number_bytes, byte_bytes, field_bytes}

-- each way that a reading at a place can come out, by the tests that it passed
pub data Way (sheet : List ℕ) (at : ℕ) : Read → Type 0 where
  floor_way :
      at ≡ 0
      → byte_at sheet at ≡ 1
      → length_at sheet at ≡ 7
      → at + 3 + length_at sheet at ≤ length sheet
      → Way sheet at (Whole (Opening (plan_at sheet at)) (at + 3 + length_at sheet at))
  call_way :
      1 ≤ at
      → byte_at sheet at ≡ 2
      → call_fits (byte_at sheet (at + 4)) (length_at sheet at) ≡ true
      → at + 3 + length_at sheet at ≤ length sheet
      → Way sheet at (Whole (Calling (call_at sheet at (length_at sheet at))) (at + 3 + length_at sheet at))
  turns_way :
      1 ≤ at
      → byte_at sheet at ≡ 3
      → 1 ≤ length_at sheet at
      → at + 3 + length_at sheet at ≤ length sheet
      → Way sheet at (Whole (Turning (span_at at (length_at sheet at))) (at + 3 + length_at sheet at))
  no_way : Way sheet at (Refused at)

not_zero : (n : ℕ) → not (eqb n 0) ≡ true → 1 ≤ n
not_zero n is = let other = eqb-false n 0 (not-true (eqb n 0) is) in omega arith

-- the field at a place is read in one of them
pub way : (sheet : List ℕ) (at : ℕ) → Way sheet at (read_field sheet at)
unfolding read_field is_whole field_of opening_at calling_at turning_at
way sheet at =
    let tag = byte_at sheet at in
    let long = length_at sheet at in
    by_cases (Way sheet at) (leb (at + 3 + long) (length sheet)) _ _
    (λ whole. let fits = leb-true (at + 3 + long) (length sheet) whole in
    by_cases (Way sheet at) (eqb tag 1) _ _
    (λ one. by_cases (Way sheet at) _ _ _
    (λ right. let a = (and-eq-true_iff _ _).0 right in floor_way (eqb-true at 0 a.0) (eqb-true tag 1 one) (eqb-true long 7 a.1) fits) (λ wrong. no_way))
    (λ other. by_cases (Way sheet at) (eqb tag 2) _ _
    (λ two. by_cases (Way sheet at) _ _ _
    (λ right. let a = (and-eq-true_iff _ _).0 right in call_way (not_zero at a.0) (eqb-true tag 2 two) a.1 fits) (λ wrong. no_way))
    (λ others. by_cases (Way sheet at) (eqb tag 3) _ _
    (λ three. by_cases (Way sheet at) _ _ _
    (λ right. let a = (and-eq-true_iff _ _).0 right in turns_way (not_zero at a.0) (eqb-true tag 3 three) (not_zero long a.1) fits) (λ wrong. no_way))
    (λ none. no_way))))
    (λ cut. no_way)

-- a call is a look, an insert or a remove
pub kind_known : (kind long : ℕ) → call_fits kind long ≡ true → (1 ≤ kind) × (kind ≤ 3)
unfolding call_fits
kind_known kind long =
    by_cases Known _ _ _ (λ look is. known 1 look (omega arith) (omega arith))
    (λ other. by_cases Known _ _ _ (λ insert is. known 2 insert (omega arith) (omega arith))
    (λ others. by_cases Known _ _ _ (λ remove is. known 3 remove (omega arith) (omega arith)) (λ none is. not_both false refl is)))
  where
    Known : Bool → Type 0
    Known t = t ≡ true → (1 ≤ kind) × (kind ≤ 3)

    known : (n : ℕ) → eqb kind n ≡ true → 1 ≤ n → n ≤ 3 → (1 ≤ kind) × (kind ≤ 3)
    known n is low high = let k = eqb-true kind n is in (omega arith, omega arith)

module _ (sheet : List ℕ) (bytes : Bytes sheet) (at : ℕ) where
  -- ---- a floor

  -- workers, buckets and version
  plan_bytes :
      at + 10 ≤ length sheet
      → high_first 1 (byte_at sheet (at + 3)) ++ (high_first 2 (number_at sheet (at + 4) 2) ++ high_first 4 (number_at sheet (at + 6) 4))
      ≡ part sheet (at + 3) 7
  plan_bytes fits =
      rw (byte_bytes sheet bytes (at + 3) (omega arith), number_bytes sheet bytes (at + 4) 2 (omega arith))
      (rw (number_bytes sheet bytes (at + 6) 4 (omega arith), part_then sheet (at + 4) 2 (at + 6) 4 (omega arith))
      (part_then sheet (at + 3) 1 (at + 4) 6 (omega arith)))

  pub floor_bytes_lem :
      byte_at sheet at ≡ 1 → length_at sheet at ≡ 7 → at + 3 + 7 ≤ length sheet → floor_bytes (plan_at sheet at) ≡ part sheet at (3 + 7)
  floor_bytes_lem tag says fits = field_bytes sheet bytes 1 at 7 _ tag says fits (plan_bytes (omega arith))

  -- ---- a call

  module _ (tag : byte_at sheet at ≡ 2) where
    -- worker, kind and lot, and what the ticket has
    value_bytes :
        (long : ℕ) (more : List ℕ)
        → at + 13 + long ≤ length sheet
        → more ≡ part sheet (at + 13) long
        → byte_at sheet (at + 3) ∷ (byte_at sheet (at + 4) ∷ (high_first 8 (number_at sheet (at + 5) 8) ++ more)) ≡ part sheet (at + 3) (suc (suc (8 + long)))
    value_bytes long more fits is =
        rw (is, number_bytes sheet bytes (at + 5) 8 (omega arith), part_then sheet (at + 5) 8 (at + 13) long (omega arith))
        (rw (part_cons sheet (at + 4) (at + 5) (8 + long) (omega arith) (omega arith))
        (part_cons sheet (at + 3) (at + 4) (suc (8 + long)) (omega arith) (omega arith)))

    module _ (long : ℕ) (says : length_at sheet at ≡ long) (fits : at + 3 + long ≤ length sheet) where
      -- with a ticket of so many bytes
      with_ticket :
          (more : ℕ)
          → long ≡ 10 + more
          → ticket_bytes (call_at sheet at long) (eqb (at + 3 + long - at) 21) ≡ part sheet (at + 13) more
          → call_bytes (call_at sheet at long) (eqb (at + 3 + long - at) 21) ≡ part sheet at (3 + long)
      with_ticket more is ticket =
          let size : suc (suc (8 + more)) ≡ long = omega arith in
          field_bytes sheet bytes 2 at long _ tag says fits (value_bytes more _ (omega arith) ticket ∙ ap (part sheet (at + 3)) size)

      pub call_bytes_lem :
          CallFits (byte_at sheet (at + 4)) long → call_bytes (call_at sheet at long) (eqb (at + 3 + long - at) 21) ≡ part sheet at (3 + long)
      unfolding ticket_at
      call_bytes_lem (fits_short ten other) = with_ticket 0 ten (rw (ne_eqb (byte_at sheet (at + 4)) 2 other))
      call_bytes_lem (fits_four insert is) =
          let four : long - 10 ≡ 4 = omega arith in
          with_ticket 4 is
          (rw (eq-eqb (byte_at sheet (at + 4)) 2 insert, ne_eqb (at + 3 + long - at) 21 (omega arith), four)
          (number_bytes sheet bytes (at + 13) 4 (omega arith)))
      call_bytes_lem (fits_eight insert is) =
          let eight : long - 10 ≡ 8 = omega arith in
          with_ticket 8 is
          (rw (eq-eqb (byte_at sheet (at + 4)) 2 insert, eq-eqb (at + 3 + long - at) 21 (omega arith), eight)
          (number_bytes sheet bytes (at + 13) 8 (omega arith)))

  -- a ticket has room in eight bytes, and in four where no more are said
  pub ticket_small :
      (long : ℕ)
      → CallFits (byte_at sheet (at + 4)) long
      → ((call_at sheet at long).ticket ≤ 18446744073709551615) × (eqb (at + 3 + long - at) 21 ≡ false → (call_at sheet at long).ticket ≤ 4294967295)
  unfolding ticket_at
  ticket_small long (fits_short ten other) = rw (ne_eqb (byte_at sheet (at + 4)) 2 other) (omega arith, λ short. omega arith)
  ticket_small long (fits_four insert is) =
      let four : long - 10 ≡ 4 = omega arith in
      let small = number_small sheet bytes (at + 13) 4 in
      rw (eq-eqb (byte_at sheet (at + 4)) 2 insert, four) (omega arith, λ short. omega arith)
  ticket_small long (fits_eight insert is) =
      let eight : long - 10 ≡ 8 = omega arith in
      let small = number_small sheet bytes (at + 13) 8 in
      rw (eq-eqb (byte_at sheet (at + 4)) 2 insert, eight)
      (omega arith, λ short. absurd (eqb-false (at + 3 + long - at) 21 short (omega arith)))

  -- ---- turns

  turns_are : (long : ℕ) → turns_in sheet (span_at at long) ≡ part sheet (at + 3) long
  turns_are long = let less : at + 3 + long - (at + 3) ≡ long = omega arith in rw less

  pub turns_bytes_lem :
      (long : ℕ)
      → byte_at sheet at ≡ 3
      → length_at sheet at ≡ long
      → at + 3 + long ≤ length sheet
      → turns_bytes (turns_in sheet (span_at at long)) ≡ part sheet at (3 + long)
  turns_bytes_lem long tag says fits = field_bytes sheet bytes 3 at long _ tag says fits (turns_are long)

  pub turns_long : (long : ℕ) → at + 3 + long ≤ length sheet → length (turns_in sheet (span_at at long)) ≡ long
  turns_long long fits = rw (turns_are long) (length_part sheet (at + 3) long fits)

  -- each is a byte
  pub turns_byte : (long : ℕ) → Bytes (turns_in sheet (span_at at long))
  turns_byte long k = rw (turns_are long) (taken long (drop (at + 3) sheet) (λ j. rw (get_or-drop (at + 3) sheet j 0) (bytes (at + 3 + j))) k)
    where
      taken : (n : ℕ) (l : List ℕ) → Bytes l → Bytes (take n l)
      taken zero l are j = omega arith
      taken (suc n) [] are j = omega arith
      taken (suc n) (b ∷ l) are zero = are 0
      taken (suc n) (b ∷ l) are (suc j) = taken n l (λ i. are (suc i)) j
