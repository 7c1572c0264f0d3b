-- A remove and an insert turn by turn, by the place table, in a bucket where a lot stands alone in slot 0: four turns, of which the last is a
-- swap, and eleven. Together they leave the mark word at the next version, and 2^32 versions on it is the same. Assumes nothing.
use Prim.Native.Nat.{ℕ, zero, suc, ◌+◌, ◌%◌, ◌^◌}
use mathlib.Core.Bool.{false}
use mathlib.Core.List.{List, [], ◌∷◌}
use mathlib.Core.Path.{◌≡◌, refl, sym, ap, ◌∙◌}
use native.Mathlib.Omega.{arith}
use borrow.Author.Tests.{eq-eqb}
use Rattle.mark.specs.Word.{version, mark_of, byte7, set_mark, bump, first_empty}
use Rattle.mark.proofs.Fields.{same_fields, version_lt, set_set, set_same, version_bump, mark_bump, byte7_bump}
use Rattle.turn.specs.declared.Worker.{Worker}
use Rattle.turn.specs.declared.Action.TheVariants.{Read, Store, Won}
use Rattle.turn.specs.Worker.{idle, go_to, at_slot, saw, read_word, claimed, insert_of, remove_of}
use Rattle.turn.specs.Places.{leaves, goes_on, ends, turn, look_empty, find_slot, next_slot, after1, after2, after3, after11, after12}
use Rattle.history.proofs.RoundTurns.{Plays, rests, plays}

-- ---- the mark word

-- slot 0 is valid, and the others are empty
pub record Single (m : ℕ) : Type 0 where
  pub valid : mark_of m 0 ≡ 1
  pub empty1 : mark_of m 1 ≡ 0
  pub empty2 : mark_of m 2 ≡ 0

-- the mark word so many versions on
unfoldable pub raised : ℕ → ℕ → ℕ
raised zero m = m
raised (suc n) m = bump (raised n m)

module _ (m : ℕ) where
  -- its marks are the same
  raised_marks : (n i : ℕ) → mark_of (raised n m) i ≡ mark_of m i
  unfolding raised
  raised_marks zero i = refl
  raised_marks (suc n) i = mark_bump (raised n m) i ∙ raised_marks n i

  -- and so is what stands above them
  raised_byte7 : (n : ℕ) → byte7 (raised n m) ≡ byte7 m
  unfolding raised
  raised_byte7 zero = refl
  raised_byte7 (suc n) = byte7_bump (raised n m) ∙ raised_byte7 n

  -- the highest version is followed by 0
  raised_version : (n : ℕ) → version (raised n m) ≡ (version m + n) % 2 ^ 32
  unfolding raised
  raised_version zero = omega (arith, version_lt m)
  raised_version (suc n) = omega (arith, version_bump (raised n m), raised_version n)

  -- so 2^32 versions on it has come round
  pub raised_round : raised (2 ^ 32) m ≡ m
  raised_round =
      same_fields (raised (2 ^ 32) m) m (omega (arith, raised_version (2 ^ 32), version_lt m)) (λ i few. raised_marks (2 ^ 32) i) (raised_byte7 (2 ^ 32))

  module _ (single : Single m) where
    pub raised_single : (n : ℕ) → Single (raised n m)
    raised_single n =
        record {
          valid = raised_marks n 0 ∙ single.valid;
          empty1 = raised_marks n 1 ∙ single.empty1;
          empty2 = raised_marks n 2 ∙ single.empty2;
        }

    -- a slot that is closed and made valid again leaves the word as it was
    pub valid_again : set_mark (set_mark m 0 0) 0 1 ≡ m
    valid_again = set_set m 0 0 1 (omega arith) ∙ ap (set_mark m 0) (sym single.valid) ∙ set_same m 0

-- ---- the bucket

-- the words of a bucket but for its mark word and the ticket in slot 0: the lot, and whatever stands in slots 1 and 2 and to spare
pub record Beside : Type 0 where
  pub lot : ℕ
  pub key1 : ℕ
  pub key2 : ℕ
  pub value1 : ℕ
  pub value2 : ℕ
  pub to_spare : ℕ

module _ (k : Beside) where
  -- the bucket, with this mark word and this ticket
  abbrev pub cells : ℕ → ℕ → List ℕ
  cells m t = m ∷ k.lot ∷ k.key1 ∷ k.key2 ∷ t ∷ k.value1 ∷ k.value2 ∷ k.to_spare ∷ []

  -- ---- a remove

  -- it has read the mark word
  abbrev pub at_key : ℕ → Worker
  at_key m = read_word 11 m (remove_of k.lot)

  -- it has found its lot
  abbrev pub at_ticket : ℕ → Worker
  at_ticket m = go_to 12 (at_key m)

  -- it has seen the ticket, and is before its swap
  abbrev pub at_swap : ℕ → ℕ → Worker
  at_swap m x = saw 13 x (at_ticket m)

  module _ (m x : ℕ) where
    pub reads_mark : turn (cells m x) (remove_of k.lot) ≡ leaves (cells m x) (goes_on Read false (at_key m))
    unfolding turn after1
    reads_mark = refl

    pub reads_key : mark_of m 0 ≡ 1 → turn (cells m x) (at_key m) ≡ leaves (cells m x) (goes_on Read false (at_ticket m))
    unfolding turn after11
    reads_key valid = rw (eq-eqb k.lot k.lot refl, valid)

    pub reads_ticket : turn (cells m x) (at_ticket m) ≡ leaves (cells m x) (goes_on Read false (at_swap m x))
    unfolding turn after12
    reads_ticket = refl

    -- where the mark word is still the same the swap is won, whatever ticket stands there
    pub swaps : (y : ℕ) → turn (cells m y) (at_swap m x) ≡ leaves (cells (set_mark m 0 0) y) (ends Won x)
    unfolding turn
    swaps y = rw (eq-eqb m m refl)

  -- where the lot is valid, the first three turns of a remove read
  unfoldable pub reading : (i m x : ℕ) → mark_of m 0 ≡ 1 → Plays i 3 (cells m x) (remove_of k.lot) (cells m x) (at_swap m x)
  reading i m x valid =
      plays (reads_mark m x) (omega arith)
      (plays (reads_key m x valid) (omega arith)
      (plays (reads_ticket m x) (omega arith) rests))

  -- and the fourth closes the lot
  unfoldable pub closing : (i m x y : ℕ) → Plays i 1 (cells m y) (at_swap m x) (cells (set_mark m 0 0) y) idle
  closing i m x y = plays (swaps m x y) (omega arith) rests

  -- ---- an insert

  -- with the mark word m, where ticket x stood, and with ticket t
  module _ (m x t : ℕ) where
    -- it searches: at this place and slot, with this value seen
    abbrev pub searches : ℕ → ℕ → ℕ → Worker
    searches p slot y = saw p y (at_slot p slot (read_word 2 m (insert_of k.lot t)))

    -- it holds slot 0, and is at this place
    abbrev pub fills : ℕ → Worker
    fills p = go_to p (claimed (set_mark m 0 2) (searches 6 0 k.value2))

    pub insert1 : turn (cells m x) (insert_of k.lot t) ≡ leaves (cells m x) (goes_on Read false (searches 2 0 0))
    unfolding turn after1
    insert1 = refl

    pub insert2 : turn (cells m x) (searches 2 0 0) ≡ leaves (cells m x) (goes_on Read false (searches 3 0 x))
    unfolding turn after2
    insert2 = refl

    pub insert3 : mark_of m 0 ≡ 0 → turn (cells m x) (searches 3 0 x) ≡ leaves (cells m x) (goes_on Read false (searches 2 1 x))
    unfolding turn after3 next_slot
    insert3 empty = rw empty

    pub insert4 : turn (cells m x) (searches 2 1 x) ≡ leaves (cells m x) (goes_on Read false (searches 3 1 k.value1))
    unfolding turn after2
    insert4 = refl

    pub insert5 :
        mark_of m 1 ≡ 0 → turn (cells m x) (searches 3 1 k.value1) ≡ leaves (cells m x) (goes_on Read false (searches 2 2 k.value1))
    unfolding turn after3 next_slot
    insert5 empty = rw empty

    pub insert6 : turn (cells m x) (searches 2 2 k.value1) ≡ leaves (cells m x) (goes_on Read false (searches 3 2 k.value2))
    unfolding turn after2
    insert6 = refl

    pub insert7 :
        mark_of m 2 ≡ 0
        → mark_of m 0 ≡ 0
        → turn (cells m x) (searches 3 2 k.value2) ≡ leaves (cells m x) (goes_on Read false (searches 6 0 k.value2))
    unfolding turn after3 next_slot look_empty find_slot first_empty
    insert7 empty first = rw (empty, first)

    pub insert8 : turn (cells m x) (searches 6 0 k.value2) ≡ leaves (cells (set_mark m 0 2) x) (goes_on Won false (fills 7))
    unfolding turn
    insert8 = rw (eq-eqb m m refl)

    pub insert9 : turn (cells (set_mark m 0 2) x) (fills 7) ≡ leaves (cells (set_mark m 0 2) t) (goes_on Store false (fills 8))
    unfolding turn
    insert9 = refl

    pub insert10 : turn (cells (set_mark m 0 2) t) (fills 8) ≡ leaves (cells (set_mark m 0 2) t) (goes_on Store false (fills 9))
    unfolding turn
    insert10 = refl

    pub insert11 : turn (cells (set_mark m 0 2) t) (fills 9) ≡ leaves (cells (bump (set_mark m 0 1)) t) (ends Won 1)
    unfolding turn
    insert11 = rw (set_set m 0 2 2 (omega arith), eq-eqb (set_mark m 0 2) (set_mark m 0 2) refl, set_set m 0 2 1 (omega arith))

    -- where all slots are empty an insert reads seven times, claims slot 0, fills it, and commits
    unfoldable pub inserting :
        (i : ℕ)
        → mark_of m 0 ≡ 0
        → mark_of m 1 ≡ 0
        → mark_of m 2 ≡ 0
        → Plays i 11 (cells m x) (insert_of k.lot t) (cells (bump (set_mark m 0 1)) t) idle
    inserting i empty0 empty1 empty2 =
        plays insert1 (omega arith)
        (plays insert2 (omega arith)
        (plays (insert3 empty0) (omega arith)
        (plays insert4 (omega arith)
        (plays (insert5 empty1) (omega arith)
        (plays insert6 (omega arith)
        (plays (insert7 empty2 empty0) (omega arith)
        (plays insert8 (omega arith)
        (plays insert9 (omega arith)
        (plays insert10 (omega arith)
        (plays insert11 (omega arith) rests))))))))))
