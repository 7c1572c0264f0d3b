-- A word is well formed exactly when no mark is over 2 and byte 7 is 0; setting a mark up to 2 and bumping keep it so. Assumes nothing.
use Rattle.std.proofs.Common.{◌≡◌, ℕ, ◌<◌, ◌≤◌, true, eqb, leb, ◌∙◌, arith, eq-eqb, eqb-true, le-leb, leb-true}
use mathlib.Core.Bool.{and-eq-true_iff}
use native.Mathlib.Decide.{ℕ_discrete}
use Rattle.mark.specs.Word.{mark_of, byte7, set_mark, bump, well_formed}
use Rattle.mark.proofs.Slots.{slots, mark_past}
use Rattle.mark.proofs.Fields.{mark_set, mark_set_other, byte7_set, mark_bump, byte7_bump}

pub well_formed_lem : (w : ℕ) → ((i : ℕ) → i < 3 → mark_of w i ≤ 2) → byte7 w ≡ 0 → well_formed w ≡ true
unfolding well_formed
well_formed_lem w marks top =
    let at : (i : ℕ) → i < 3 → leb (mark_of w i) 2 ≡ true = λ i slot. le-leb (mark_of w i) 2 (marks i slot) in
    rw (at 0 (omega arith), at 1 (omega arith), at 2 (omega arith), eq-eqb (byte7 w) 0 top)

module _ (w : ℕ) (is : well_formed w ≡ true) where
  tests : (leb (mark_of w 0) 2 ≡ true) × (leb (mark_of w 1) 2 ≡ true) × (leb (mark_of w 2) 2 ≡ true) × (eqb (byte7 w) 0 ≡ true)
  unfolding well_formed
  tests =
      let one = (and-eq-true_iff _ _).0 is in
      let two = (and-eq-true_iff _ _).0 one.1 in
      let three = (and-eq-true_iff _ _).0 two.1 in
      (one.0, two.0, three.0, three.1)

  pub well_formed_byte7 : byte7 w ≡ 0
  well_formed_byte7 = eqb-true (byte7 w) 0 tests.3

  pub well_formed_mark : (i : ℕ) → mark_of w i ≤ 2
  well_formed_mark =
      slots (λ (i : ℕ). mark_of w i ≤ 2) (leb-true _ 2 tests.0) (leb-true _ 2 tests.1) (leb-true _ 2 tests.2)
      (λ i past. rw (mark_past w i past) (omega arith))

  module _ (i m : ℕ) (known : m ≤ 2) where
    mark_in : (j : ℕ) → j < 3 → Dec (i ≡ j) → mark_of (set_mark w i m) j ≤ 2
    mark_in j slot (no other) = rw (mark_set_other w i m j (omega arith) other) (well_formed_mark j)
    mark_in j slot (yes e) = rw (e, mark_set w j m slot (omega arith)) known

    pub well_formed_set : well_formed (set_mark w i m) ≡ true
    well_formed_set =
        well_formed_lem (set_mark w i m) (λ j slot. mark_in j slot (ℕ_discrete i j)) (byte7_set w i m (omega arith) ∙ well_formed_byte7)

pub well_formed_bump : (w : ℕ) → well_formed (bump w) ≡ well_formed w
unfolding well_formed
well_formed_bump w = simp (mark_bump, byte7_bump)
