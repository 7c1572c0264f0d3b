-- What each effect does to a mark word on which it is lawful: to the version, to the number of valid marks, to the word as a whole, and to
-- the mark of a slot that it does not touch. Assumes nothing.
use Prim.Native.Nat.{ℕ, ◌+◌, ◌%◌, ◌^◌, ◌≤◌}
use mathlib.Core.Path.{◌≡◌, refl, sym, ap, ◌∙◌}
use native.Mathlib.Decide.{ℕ_discrete}
use native.Mathlib.Omega.{arith}
use Rattle.mark.specs.Word.{version, mark_of, set_mark, next_version, is_mark, count_marks}
use Rattle.mark.proofs.Fields.{version_lt, version_set, version_bump, mark_set, mark_set_other, mark_bump}
use Rattle.mark.proofs.Counts.{count_set, count_bump}
use Rattle.turn.specs.Effects.{Effect, none, claim, commit, free, close, retire, effect_on}
use Rattle.turn.proofs.Retiring.{retire_version}

-- 1 for a commit
abbrev pub committed : Effect → ℕ
committed none = 0
committed (claim s) = 0
committed (commit s) = 1
committed (free s) = 0
committed (close s) = 0
committed (retire s) = 0

-- 1 for a close
abbrev pub closed : Effect → ℕ
closed none = 0
closed (claim s) = 0
closed (commit s) = 0
closed (free s) = 0
closed (close s) = 1
closed (retire s) = 0

-- 1 for a change
abbrev pub changed : Effect → ℕ
changed none = 0
changed (claim s) = 1
changed (commit s) = 1
changed (free s) = 1
changed (close s) = 1
changed (retire s) = 1

-- 1 for what moves the version: a commit, and a retiring
abbrev pub bumped : Effect → ℕ
bumped none = 0
bumped (claim s) = 0
bumped (commit s) = 1
bumped (free s) = 0
bumped (close s) = 0
bumped (retire s) = 1

-- a turn makes one change at most
pub changed_le : (e : Effect) → changed e ≤ 1
changed_le none = omega arith
changed_le (claim s) = omega arith
changed_le (commit s) = omega arith
changed_le (free s) = omega arith
changed_le (close s) = omega arith
changed_le (retire s) = omega arith

-- a claim is of an empty slot; a commit, a free and a retiring are of one that is being inserted; a close is of a valid one
abbrev pub Lawful : Effect → ℕ → Type 0
Lawful none m = Unit {0}
Lawful (claim s) m = (s ≤ 2) × (mark_of m s ≡ 0)
Lawful (commit s) m = (s ≤ 2) × (mark_of m s ≡ 2)
Lawful (free s) m = (s ≤ 2) × (mark_of m s ≡ 2)
Lawful (close s) m = (s ≤ 2) × (mark_of m s ≡ 1)
Lawful (retire s) m = (s ≤ 2) × (mark_of m s ≡ 2)

version_kept : (m s new : ℕ) → version (set_mark m s new) ≡ (version m + 0) % 2 ^ 32
version_kept m s new = omega (arith, version_set m s new, version_lt m)

-- a commit and a retiring move the version on by one, and nothing else moves it
pub version_effect : (e : Effect) (m : ℕ) → version (effect_on e m) ≡ (version m + bumped e) % 2 ^ 32
version_effect none m = omega (arith, version_lt m)
version_effect (claim s) m = version_kept m s _
version_effect (commit s) m = version_bump _ ∙ ap next_version (version_set m s _)
version_effect (free s) m = version_kept m s _
version_effect (close s) m = version_kept m s _
version_effect (retire s) m = retire_version s m

-- a set at a slot whose mark is known
valid_set :
    (m s old new : ℕ)
    → (s ≤ 2) × (mark_of m s ≡ old)
    → new ≤ 2
    → count_marks 1 (set_mark m s new) + is_mark 1 old ≡ count_marks 1 m + is_mark 1 new
valid_set m s old new known few = rw (← known.1) (count_set 1 m s new (omega arith) (omega arith))

-- a lawful commit makes one more slot valid, a lawful close one less, and nothing else does
pub valid_effect : (e : Effect) (m : ℕ) → Lawful e m → count_marks 1 (effect_on e m) + closed e ≡ count_marks 1 m + committed e
valid_effect none m law = refl
valid_effect (claim s) m law = valid_set m s 0 _ law (omega arith)
valid_effect (commit s) m law = omega (arith, count_bump 1 (set_mark m s 1), valid_set m s 2 1 law (omega arith))
valid_effect (free s) m law = valid_set m s 2 _ law (omega arith)
valid_effect (close s) m law = valid_set m s 1 _ law (omega arith)
valid_effect (retire s) m law = omega (arith, count_bump 1 (set_mark m s 0), valid_set m s 2 0 law (omega arith))

-- what is no change leaves the mark word
pub quiet_effect : (e : Effect) (m : ℕ) → changed e ≡ 0 → effect_on e m ≡ m
quiet_effect none m quiet = refl
quiet_effect (claim s) m quiet = absurd (omega arith)
quiet_effect (commit s) m quiet = absurd (omega arith)
quiet_effect (free s) m quiet = absurd (omega arith)
quiet_effect (close s) m quiet = absurd (omega arith)
quiet_effect (retire s) m quiet = absurd (omega arith)

-- a set of another mark leaves another word
another_set : (m s old new : ℕ) → (s ≤ 2) × (mark_of m s ≡ old) → new ≤ 2 → (new ≡ old → ⊥) → set_mark m s new ≡ m → ⊥
another_set m s old new known few other same =
    other (sym (mark_set m s new (omega arith) (omega arith)) ∙ ap (λ (x : ℕ). mark_of x s) same ∙ known.1)

-- a lawful change leaves another mark word than it finds
pub change_effect : (e : Effect) (m : ℕ) → Lawful e m → changed e ≡ 1 → effect_on e m ≡ m → ⊥
change_effect none m law one same = omega arith
change_effect (claim s) m law one same = another_set m s 0 2 law (omega arith) (omega arith) same
change_effect (commit s) m law one same = omega (arith, version_effect (commit s) m, ap version same, version_lt m)
change_effect (free s) m law one same = another_set m s 2 0 law (omega arith) (omega arith) same
change_effect (close s) m law one same = another_set m s 1 0 law (omega arith) (omega arith) same
change_effect (retire s) m law one same = omega (arith, version_effect (retire s) m, ap version same, version_lt m)

-- after a retiring of a held slot a mark that is not 0 is one that was there before
pub retired_mark : (s m p mark : ℕ) → s ≤ 2 → (mark ≡ 0 → ⊥) → mark_of (effect_on (retire s) m) p ≡ mark → mark_of m p ≡ mark
retired_mark s m p mark few some is = by (ℕ_discrete s p)
  where
    by : Dec (s ≡ p) → mark_of m p ≡ mark
    by (yes same) = absurd (some (sym is ∙ mark_bump _ p ∙ ap (mark_of (set_mark m s 0)) (sym same) ∙ mark_set m s 0 (omega arith) (omega arith)))
    by (no other) = sym (mark_bump _ p ∙ mark_set_other m s 0 p (omega arith) other) ∙ is

-- an effect at another slot, or none
abbrev pub Spares : ℕ → Effect → Type 0
Spares h none = Unit {0}
Spares h (claim s) = s ≡ h → ⊥
Spares h (commit s) = s ≡ h → ⊥
Spares h (free s) = s ≡ h → ⊥
Spares h (close s) = s ≡ h → ⊥
Spares h (retire s) = s ≡ h → ⊥

-- it leaves the slot's mark as it was
pub spared : (e : Effect) (m h : ℕ) → Spares h e → mark_of (effect_on e m) h ≡ mark_of m h
spared none m h other = refl
spared (claim s) m h other = mark_set_other m s _ h (omega arith) other
spared (commit s) m h other = mark_bump _ h ∙ mark_set_other m s _ h (omega arith) other
spared (free s) m h other = mark_set_other m s _ h (omega arith) other
spared (close s) m h other = mark_set_other m s _ h (omega arith) other
spared (retire s) m h other = mark_bump _ h ∙ mark_set_other m s _ h (omega arith) other
