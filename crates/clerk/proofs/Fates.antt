-- A valid slot, seen over a turn: where one after it comes from, and what becomes of one before it. Assumes nothing.
use Prim.Native.Nat.{ℕ}
use mathlib.Core.Logic.{◌⊎◌, inl, inr}
use mathlib.Core.Path.{◌≡◌}
use native.Mathlib.Decide.{ℕ_discrete}
use native.Mathlib.Omega.{arith}
use Rattle.history.specs.Trace.{Turn, Closes, Commits}
use Rattle.history.specs.History.{State}
use Rattle.history.specs.Values.{value_at}
use Rattle.history.specs.Cells.{cells_at, mark_at, key_at}
use Rattle.clerk.proofs.Deals.{SameSlot, Commit, Close, Deals, nothing, comes, goes}

module _ (s : State) (e : Turn) (t : State) (b p : ℕ) where
  -- where a slot that is valid after a turn comes from: it was valid with the same lot and ticket, or the turn committed it
  pub data From : Type 0 where
    old : mark_at s b p ≡ 1 → key_at t b p ≡ key_at s b p → value_at t b p ≡ value_at s b p → From
    new :
        Commits e
        → Commit s e t
        → b ≡ e.report.bucket
        → p ≡ e.was.held
        → key_at t b p ≡ e.was.key
        → value_at t b p ≡ e.was.ticket
        → From

  -- what becomes of a slot that is valid before a turn: it stays valid with the same lot and ticket, or the turn closed it
  pub data Fate : Type 0 where
    stays : mark_at t b p ≡ 1 → key_at t b p ≡ key_at s b p → value_at t b p ≡ value_at s b p → Fate
    closed : Closes e → Close s e t → b ≡ e.report.bucket → p ≡ e.was.slot → mark_at t b p ≡ 0 → Fate

-- where all slots but one stay, slot p is that one, or stays
one_or_same :
    (s t : State) (e : Turn) (b p q : ℕ)
    → ((c r : ℕ) → (c ≡ e.report.bucket → r ≡ q → ⊥) → SameSlot (cells_at s c) (cells_at t c) r)
    → ((b ≡ e.report.bucket) × (p ≡ q)) ⊎ SameSlot (cells_at s b) (cells_at t b) p
one_or_same s t e b p q others = by (ℕ_discrete b e.report.bucket) (ℕ_discrete p q)
  where
    by : Dec (b ≡ e.report.bucket) → Dec (p ≡ q) → ((b ≡ e.report.bucket) × (p ≡ q)) ⊎ SameSlot (cells_at s b) (cells_at t b) p
    by (yes here) (yes slot) = inl (here, slot)
    by (yes here) (no other) = inr (others b p (λ here same. other same))
    by (no elsewhere) slot = inr (others b p (λ here same. elsewhere here))

module _ {s : State} {e : Turn} {t : State} (b p : ℕ) where
  same_from : SameSlot (cells_at s b) (cells_at t b) p → mark_at t b p ≡ 1 → From s e t b p
  same_from same valid = let was = same.back valid in old was (same.key was) (same.value was)

  same_fate : SameSlot (cells_at s b) (cells_at t b) p → mark_at s b p ≡ 1 → Fate s e t b p
  same_fate same valid = stays (same.on valid) (same.key valid) (same.value valid)

  -- a slot that is valid after a turn comes from somewhere
  pub valid_from : Deals s e t → mark_at t b p ≡ 1 → From s e t b p
  valid_from (nothing unsettled slots) valid = same_from (slots b p) valid
  valid_from (comes commit did) valid = by (one_or_same s t e b p e.was.held did.others)
    where
      by : ((b ≡ e.report.bucket) × (p ≡ e.was.held)) ⊎ SameSlot (cells_at s b) (cells_at t b) p → From s e t b p
      by (inl is) = new commit did is.0 is.1 (rw (is.0, is.1) did.key) (rw (is.0, is.1) did.value)
      by (inr same) = same_from same valid
  valid_from (goes close did) valid = by (one_or_same s t e b p e.was.slot did.others)
    where
      by : ((b ≡ e.report.bucket) × (p ≡ e.was.slot)) ⊎ SameSlot (cells_at s b) (cells_at t b) p → From s e t b p
      by (inl is) = let gone : mark_at t b p ≡ 0 = rw (is.0, is.1) did.gone in absurd (omega arith)
      by (inr same) = same_from same valid

  -- a slot that is valid before a turn has its fate
  pub valid_then : Deals s e t → mark_at s b p ≡ 1 → Fate s e t b p
  valid_then (nothing unsettled slots) valid = same_fate (slots b p) valid
  valid_then (comes commit did) valid = by (one_or_same s t e b p e.was.held did.others)
    where
      by : ((b ≡ e.report.bucket) × (p ≡ e.was.held)) ⊎ SameSlot (cells_at s b) (cells_at t b) p → Fate s e t b p
      by (inl is) = let held : mark_at s b p ≡ 2 = rw (is.0, is.1) did.was in absurd (omega arith)
      by (inr same) = same_fate same valid
  valid_then (goes close did) valid = by (one_or_same s t e b p e.was.slot did.others)
    where
      by : ((b ≡ e.report.bucket) × (p ≡ e.was.slot)) ⊎ SameSlot (cells_at s b) (cells_at t b) p → Fate s e t b p
      by (inl is) = closed close did is.0 is.1 (rw (is.0, is.1) did.gone)
      by (inr same) = same_fate same valid

  -- where the turn does not commit in its bucket, a slot that is valid after it was valid before
  pub valid_before : Deals s e t → (Commits e → b ≡ e.report.bucket → ⊥) → mark_at t b p ≡ 1 → mark_at s b p ≡ 1
  valid_before deals none valid = by (valid_from deals valid)
    where
      by : From s e t b p → mark_at s b p ≡ 1
      by (old was key value) = was
      by (new commit did here slot key value) = absurd (none commit here)
