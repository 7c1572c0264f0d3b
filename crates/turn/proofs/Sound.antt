-- What the tests of a record, of a bucket and of a turn say when they let it through. Assumes nothing.
use Prim.Native.Nat.{ℕ, ◌≤◌}
use mathlib.Core.Bool.{Bool, true, false, cond, ◌||◌, not, and-eq-true_iff, or-true}
use mathlib.Core.Path.{◌≡◌, refl, sym, subst, ◌∙◌}
use mathlib.Core.List.{List}
use native.Mathlib.Omega.{arith}
use lib.ListN.{length}
use borrow.Author.Tests.{eqb-true, leb-true, eq-eqb, ne_eqb, le-leb, not-false}
use Rattle.mark.specs.Word.{well_formed}
use Rattle.mark.proofs.Choices.{passes, by_cases, not_both, first_fails}
use Rattle.turn.specs.declared.Worker.{Worker}
use Rattle.turn.specs.Worker.{is_idle, may_stand, ticket_fits, held_fits, word_fits, fits, sound, broken}
use Rattle.turn.specs.Bucket.{cell, mark_cell, spare_cell, broken_bucket}
use Rattle.turn.specs.Ready.{Ready}
use Rattle.turn.specs.Turn.{busy_refusal, turn_refusal}
use Rattle.turn.proofs.Works.{Works, works, works_filled}

-- ---- records

-- each part of the test of a busy record
pub record Sound (w : Worker) : Type 0 where
  pub stands : may_stand w.kind w.place ≡ true
  pub ticket : ticket_fits w.kind w.ticket ≡ true
  pub held : held_fits w.kind w.place w.held ≡ true
  pub slot : w.slot ≤ 2
  pub word : word_fits w.kind w.word ≡ true

-- the test says all of them
pub sound_parts : (w : Worker) → sound w ≡ true → Sound w
unfolding sound fits
sound_parts w is =
    let a = (and-eq-true_iff _ _).0 is in
    let b = (and-eq-true_iff _ _).0 a.1 in
    let c = (and-eq-true_iff _ _).0 b.1 in
    let d = (and-eq-true_iff _ _).0 c.1 in
    record { stands = b.0; ticket = c.0; held = d.0; slot = leb-true _ 2 a.0; word = d.1 }

-- and they say the test
pub sound_whole : (w : Worker) → Sound w → sound w ≡ true
unfolding sound fits
sound_whole w s = rw (le-leb w.slot 2 s.slot, s.stands, s.ticket, s.held, s.word)

-- a sound record is not idle
pub sound_busy : (w : Worker) → Sound w → is_idle w ≡ false
unfolding is_idle may_stand
sound_busy w s =
    first_fails _ _ (ne_eqb w.kind 0 (λ none. not_both _ refl (subst (λ (k : ℕ). may_stand k w.place ≡ true) none s.stands)))

other_holds : (t u : Bool) → not (t || u) ≡ false → t ≡ false → u ≡ true
other_holds t true h f = refl
other_holds true false h f = sym f
other_holds false false h f = sym h

-- a record that is not broken is idle or sound
pub not_broken : (w : Worker) → broken w ≡ false → is_idle w ≡ false → Sound w
unfolding broken
not_broken w is busy = sound_parts w (other_holds _ _ is busy)

-- and a sound one is not broken
pub sound_not_broken : (w : Worker) → Sound w → broken w ≡ false
unfolding broken
sound_not_broken w s = rw (sound_whole w s, or-true (is_idle w))

-- what is chosen of a broken, a busy and an idle record, by the test of an idle one first
pub by_idleness :
    (w : Worker) (x is-broken is-busy is_idle_lem : ℕ)
    → x ≡ cond (is_idle w) is_idle_lem (cond (sound w) is-busy is-broken)
    → x ≡ cond (broken w) is-broken (cond (not (is_idle w)) is-busy is_idle_lem)
unfolding broken
by_idleness w x is-broken is-busy is_idle_lem e = e ∙ sorts (is_idle w) (sound w)
  where
    sorts : (t u : Bool) → cond t is_idle_lem (cond u is-busy is-broken) ≡ cond (not (t || u)) is-broken (cond (not t) is-busy is_idle_lem)
    sorts true u = refl
    sorts false true = refl
    sorts false false = refl

-- ---- buckets

-- each part of the test of a bucket
pub record Whole (b : List ℕ) : Type 0 where
  pub eight : length b ≡ 8
  pub formed : well_formed (cell b mark_cell) ≡ true
  pub spare : cell b spare_cell ≡ 0

-- a bucket that is not broken has them all
pub whole_parts : (b : List ℕ) → broken_bucket b ≡ false → Whole b
unfolding broken_bucket
whole_parts b is =
    let a = (and-eq-true_iff _ _).0 (not-false _ is) in
    let c = (and-eq-true_iff _ _).0 a.1 in
    record { eight = eqb-true _ 8 a.0; formed = c.0; spare = eqb-true _ 0 c.1 }

-- and one that has them is not broken
pub whole_not_broken : (b : List ℕ) → Whole b → broken_bucket b ≡ false
unfolding broken_bucket
whole_not_broken b h = rw (eq-eqb _ 8 h.eight, h.formed, eq-eqb _ 0 h.spare)

-- ---- a turn that is accepted

-- a busy record that is sound, and a bucket that is whole
pub record Accepted (b : List ℕ) (w : Worker) : Type 0 where
  pub sound : Sound w
  pub whole : Whole b
  pub busy : is_idle w ≡ false

-- the number of refusal by the test that nearly every record passes first
pub by_soundness : (w : Worker) (follows x : ℕ) → x ≡ cond (sound w) follows (cond (is_idle w) 6 3) → x ≡ busy_refusal w follows
unfolding broken
by_soundness w follows x e = e ∙ by_cases (λ (n : ℕ). n ≡ busy_refusal w follows) (sound w) _ _
    (λ is. rw (is, sound_busy w (sound_parts w is)))
    (λ isnot. by_cases (λ (n : ℕ). n ≡ busy_refusal w follows) (is_idle w) _ _ (λ idle. rw idle) (λ busy. rw (busy, isnot)))

-- that is a turn with no number of refusal
pub accepted : (b : List ℕ) (w : Worker) → turn_refusal b w ≡ 0 → Accepted b w
unfolding turn_refusal
accepted b w is =
    let one = passes (broken w) 2 _ is in
    let two = passes (is_idle w) 5 _ one.1 in
    let three = passes (broken_bucket b) 6 0 two.1 in
    record { sound = not_broken w one.0 two.0; whole = whole_parts b three.0; busy = two.0 }

-- kind, place and held of an accepted turn's record
pub accepted_works : (b : List ℕ) (w : Worker) → Accepted b w → Works w.kind w.place w.held
accepted_works b w ok = works _ _ _ ok.sound.stands ok.sound.held

-- an accepted turn has all that the step asks for
pub ready : (b : List ℕ) (w : Worker) → Accepted b w → Ready b w
ready b w ok =
    let few = ok.sound.slot in
    let filled = works_filled _ _ _ (accepted_works b w ok) in
    record { eight = ok.whole.eight; slot = omega arith; holds = λ from to. let some = (filled from to).1 in omega arith }
