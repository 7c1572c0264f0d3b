-- How many of the three marks are n, and how a set and a bump change that. Assumes nothing.
use Rattle.std.proofs.Common.{◌≡◌, ℕ, ◌+◌, ◌<◌, ◌≤◌, eqb, arith}
use Rattle.mark.specs.Word.{mark_of, set_mark, bump, is_mark, count_marks}
use Rattle.mark.proofs.Choices.{by_cases}
use Rattle.mark.proofs.Slots.{slots}
use Rattle.mark.proofs.Fields.{mark_set, mark_set_other, mark_bump}

-- there are three of them
one_le : (n mark : ℕ) → is_mark n mark ≤ 1
one_le n mark = by_cases (λ (x : ℕ). x ≤ 1) (eqb mark n) 1 0 (λ is. omega arith) (λ isnot. omega arith)

pub count_le : (n w : ℕ) → count_marks n w ≤ 3
unfolding count_marks
count_le n w = omega (arith, one_le n (mark_of w 0), one_le n (mark_of w 1), one_le n (mark_of w 2))

module _ (n w m : ℕ) (byte : m < 256) where
  -- the mark of the slot that is set becomes m, and two others stay
  one_changes :
      (i j k : ℕ) → i < 3 → (i ≡ j → ⊥) → (i ≡ k → ⊥)
      → is_mark n (mark_of (set_mark w i m) i) + is_mark n (mark_of (set_mark w i m) j) + is_mark n (mark_of (set_mark w i m) k)
      ≡ is_mark n m + is_mark n (mark_of w j) + is_mark n (mark_of w k)
  one_changes i j k slot other-j other-k =
      rw (mark_set w i m slot byte, mark_set_other w i m j byte other-j, mark_set_other w i m k byte other-k)

-- the number of marks equal to n after a set: less the old mark, if it was n, and the new one more, if it is
pub count_set : (n w i m : ℕ) → i < 3 → m < 256 → count_marks n (set_mark w i m) + is_mark n (mark_of w i) ≡ count_marks n w + is_mark n m
unfolding count_marks
count_set n w i m slot byte =
    let changes = one_changes n w m byte in
    slots (λ (i : ℕ). i < 3 → count_marks n (set_mark w i m) + is_mark n (mark_of w i) ≡ count_marks n w + is_mark n m)
    (λ slot. omega (arith, changes 0 1 2 slot (omega arith) (omega arith)))
    (λ slot. omega (arith, changes 1 0 2 slot (omega arith) (omega arith)))
    (λ slot. omega (arith, changes 2 0 1 slot (omega arith) (omega arith)))
    (λ i past slot. absurd (omega arith))
    i
    slot

pub count_bump : (n w : ℕ) → count_marks n (bump w) ≡ count_marks n w
unfolding count_marks
count_bump n w = simp mark_bump
