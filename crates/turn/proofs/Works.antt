-- Kind, place and held of a busy record, in one fact for each part of a call. Assumes nothing.
use Prim.Native.Nat.{ℕ, zero, suc, ◌+◌, ◌≤◌, ◌<◌}
use mathlib.Core.Bool.{Bool, true, false, ◌||◌, and-eq-true_iff}
use mathlib.Core.Path.{◌≡◌, refl, subst, ◌∙◌}
use mathlib.Core.Logic.{◌⊎◌, inl, inr}
use native.Mathlib.Decide.{ℕ_discrete, dec_le}
use native.Mathlib.Omega.{arith}
use lib.Dec.{eqb}
use borrow.Author.Tests.{eqb-true, leb-true, eq-eqb, ne_eqb, le-leb, lt-leb}
use Rattle.mark.proofs.Choices.{choices, chosen, passed, by_cases, not_both}
use Rattle.turn.specs.Worker.{within, may_stand, held_fits}
use Rattle.turn.proofs.Ranges.{inside}

-- a record of kind k that holds h may stand at place p
pub data Works (k p h : ℕ) : Type 0 where
  looking : k ≡ 1 → 2 ≤ p → p ≤ 5 → h ≡ 3 → Works k p h
  inserting : k ≡ 2 → 1 ≤ p → p ≤ 5 → h ≤ 3 → Works k p h
  claiming : k ≡ 2 → p ≡ 6 → h ≡ 3 → Works k p h
  filling : k ≡ 2 → 7 ≤ p → p ≤ 10 → h ≤ 2 → Works k p h
  beginning : k ≡ 3 → p ≡ 1 → h ≡ 3 → Works k p h
  removing : k ≡ 3 → 11 ≤ p → p ≤ 13 → h ≡ 3 → Works k p h

within_parts : (lo hi n : ℕ) → within lo hi n ≡ true → (lo ≤ n) × (n ≤ hi)
within_parts lo hi n is = let a = (and-eq-true_iff _ _).0 is in (leb-true lo n a.0, leb-true n hi a.1)

one_holds : (t u : Bool) → (t || u) ≡ true → (t ≡ true) ⊎ (u ≡ true)
one_holds true u is = inl refl
one_holds false u is = inr is

-- ---- the slot that a record holds

module _ (k p h : ℕ) (fits : held_fits k p h ≡ true) where
  tests : (x : Bool) → x ≡ held_fits k p h → x ≡ true
  tests x is = is ∙ fits

  held_none : (k ≡ 2 → ⊥) → h ≡ 3
  unfolding held_fits
  held_none other = eqb-true h 3 (tests _ (search choices))

  held_claim : k ≡ 2 → p ≡ 6 → h ≡ 3
  unfolding held_fits
  held_claim insert place = eqb-true h 3 (tests _ (search choices))

  held_some : k ≡ 2 → 7 ≤ p → h ≤ 2
  unfolding held_fits
  held_some insert place =
      leb-true h 2 (tests _
      (chosen _ _ _ _ (eq-eqb k 2 insert) (passed _ _ _ _ (ne_eqb p 6 (omega arith)) (chosen _ _ _ _ (le-leb 7 p place) refl))))

  held_any : k ≡ 2 → p ≤ 5 → h ≤ 3
  unfolding held_fits
  held_any insert place =
      leb-true h 3 (tests _
      (chosen _ _ _ _ (eq-eqb k 2 insert) (passed _ _ _ _ (ne_eqb p 6 (omega arith)) (passed _ _ _ _ (lt-leb 7 p (omega arith)) refl))))

-- ---- what the tests of place and held let through

module _ (k p h : ℕ) where
  module _ (fits : held_fits k p h ≡ true) where
    insert_works : k ≡ 2 → 1 ≤ p → p ≤ 10 → Dec (p ≤ 5) → Dec (p ≡ 6) → Works k p h
    insert_works kind from to (yes early) six = inserting kind from early (held_any k p h fits kind early)
    insert_works kind from to (no late) (yes six) = claiming kind six (held_claim k p h fits kind six)
    insert_works kind from to (no late) (no other) =
        let past : 7 ≤ p = omega arith in
        filling kind past to (held_some k p h fits kind past)

    remove_works : k ≡ 3 → (eqb p 1 ≡ true) ⊎ (within 11 13 p ≡ true) → Works k p h
    remove_works kind (inl is) = beginning kind (eqb-true p 1 is) (held_none k p h fits (omega arith))
    remove_works kind (inr is) =
        let r = within_parts 11 13 p is in
        removing kind r.0 r.1 (held_none k p h fits (omega arith))

    stands_works : may_stand k p ≡ true → Works k p h
    unfolding may_stand
    stands_works =
        by_cases (λ (t : Bool). t ≡ true → Works k p h) _ _ _
        (λ look is.
        let kind = eqb-true k 1 look in
        let r = within_parts 2 5 p is in
        looking kind r.0 r.1 (held_none k p h fits (omega arith)))
        (λ other. by_cases (λ (t : Bool). t ≡ true → Works k p h) _ _ _
        (λ insert is. let r = within_parts 1 10 p is in insert_works (eqb-true k 2 insert) r.0 r.1 (dec_le p 5) (ℕ_discrete p 6))
        (λ another. by_cases (λ (t : Bool). t ≡ true → Works k p h) _ _ _
        (λ remove is. remove_works (eqb-true k 3 remove) (one_holds _ _ is))
        (λ e is. not_both false refl is)))

  -- kind, place and held that pass the tests
  pub works : may_stand k p ≡ true → held_fits k p h ≡ true → Works k p h
  works stands fits = stands_works fits stands

  -- and they let it through
  pub works_stands : Works k p h → may_stand k p ≡ true
  unfolding may_stand
  works_stands (looking kind from to held) = rw kind (inside 2 5 p from to)
  works_stands (inserting kind from to held) = rw kind (inside 1 10 p from (omega arith))
  works_stands (claiming kind place held) = rw (kind, place)
  works_stands (filling kind from to held) = rw kind (inside 1 10 p (omega arith) to)
  works_stands (beginning kind place held) = rw (kind, place)
  works_stands (removing kind from to held) = rw (kind, ne_eqb p 1 (omega arith)) (inside 11 13 p from to)

  pub works_held : Works k p h → held_fits k p h ≡ true
  unfolding held_fits
  works_held (looking kind from to held) = rw (kind, held)
  works_held (inserting kind from to held) = rw (kind, ne_eqb p 6 (omega arith), lt-leb 7 p (omega arith)) (le-leb h 3 held)
  works_held (claiming kind place held) = rw (kind, place, held)
  works_held (filling kind from to held) = rw (kind, ne_eqb p 6 (omega arith), le-leb 7 p from) (le-leb h 2 held)
  works_held (beginning kind place held) = rw (kind, held)
  works_held (removing kind from to held) = rw (kind, held)

  -- no record works at place 0 or past 13
  pub works_within : Works k p h → (1 ≤ p) × (p ≤ 13)
  works_within (looking kind from to held) = omega arith
  works_within (inserting kind from to held) = omega arith
  works_within (claiming kind place held) = omega arith
  works_within (filling kind from to held) = omega arith
  works_within (beginning kind place held) = omega arith
  works_within (removing kind from to held) = omega arith

  -- what works at places 7 to 10 is an insert that holds a slot
  pub works_filled : Works k p h → 7 ≤ p → p ≤ 10 → (k ≡ 2) × (h ≤ 2)
  works_filled (looking kind low high held) from to = absurd (omega arith)
  works_filled (inserting kind low high held) from to = absurd (omega arith)
  works_filled (claiming kind place held) from to = absurd (omega arith)
  works_filled (filling kind low high held) from to = (kind, held)
  works_filled (beginning kind place held) from to = absurd (omega arith)
  works_filled (removing kind low high held) from to = absurd (omega arith)

  -- what holds a slot is an insert
  pub works_holder : Works k p h → (h ≡ 3 → ⊥) → (k ≡ 2) × (h ≤ 2)
  works_holder (looking kind from to held) some = absurd (some held)
  works_holder (inserting kind from to held) some = (kind, omega arith)
  works_holder (claiming kind place held) some = absurd (some held)
  works_holder (filling kind from to held) some = (kind, held)
  works_holder (beginning kind place held) some = absurd (some held)
  works_holder (removing kind from to held) some = absurd (some held)

-- ---- what is shown of each of n places from lo on

abbrev pub From : (ℕ → Type 0) → ℕ → ℕ → Type 0
From P lo zero = Unit {0}
From P lo (suc n) = P lo × From P (lo + 1) n

here_or_on : (P : ℕ → Type 0) (lo p : ℕ) → Dec (lo ≡ p) → P lo → ((lo ≡ p → ⊥) → P p) → P p
here_or_on P lo p (yes is) here on = subst P is here
here_or_on P lo p (no other) here on = on other

pub among : (P : ℕ → Type 0) (lo n p : ℕ) → From P lo n → lo ≤ p → p < lo + n → P p
among P lo zero p e from to = absurd (omega arith)
among P lo (suc n) p e from to =
    here_or_on P lo p (ℕ_discrete lo p) e.0 (λ other. among P (lo + 1) n p e.1 (omega arith) (omega arith))
