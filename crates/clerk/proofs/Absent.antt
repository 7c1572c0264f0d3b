-- Whether a lot stands in a slot of its bucket. Assumes nothing.
use Prim.Native.Nat.{ℕ, zero, suc, ◌<◌}
use mathlib.Core.Logic.Dec
use mathlib.Core.Logic.{◌⊎◌, inl, inr}
use mathlib.Core.Path.{◌≡◌}
use native.Mathlib.Decide.{ℕ_discrete}
use native.Mathlib.Omega.{arith}
use Rattle.mark.specs.Word.{mark_of}
use Rattle.turn.specs.Bucket.{mark_cell, key_cell}
use Rattle.engine.specs.Board.{bucket_of}
use Rattle.history.specs.History.{State}
use Rattle.history.specs.Cells.{cells_at}
use Rattle.history.proofs.Cells.{marked_few}
use Rattle.clerk.proofs.Knows.{HasLot}

-- a lot stands in no slot of its bucket
abbrev pub Absent : ℕ → State → ℕ → Type 0
Absent n s lot = (p : ℕ) → HasLot (cells_at s (bucket_of lot n)) lot p → ⊥

module _ (c : ℕ → ℕ) (lot : ℕ) where
  has? : (p : ℕ) → Dec (HasLot c lot p)
  has? p = Dec.and (ℕ_discrete (mark_of (c mark_cell) p) 1) (ℕ_discrete (c (key_cell p)) lot)

  some_below : (q : ℕ) → ((p : ℕ) × HasLot c lot p) ⊎ ((p : ℕ) → p < q → HasLot c lot p → ⊥)
  some_below zero = inr (λ p under has. omega arith)
  some_below (suc q) = by (some_below q) (has? q)
    where
      by :
          ((p : ℕ) × HasLot c lot p) ⊎ ((p : ℕ) → p < q → HasLot c lot p → ⊥)
          → Dec (HasLot c lot q)
          → ((p : ℕ) × HasLot c lot p) ⊎ ((p : ℕ) → p < suc q → HasLot c lot p → ⊥)
      by (inl some) test = inl some
      by (inr none) (yes has) = inl (q, has)
      by (inr none) (no isnot) = inr (λ p under has. here p under has (ℕ_discrete p q))
        where
          here : (p : ℕ) → p < suc q → HasLot c lot p → Dec (p ≡ q) → ⊥
          here p under has (yes is) = isnot (rw is at has)
          here p under has (no other) = none p (omega arith) has

  -- a lot is in a slot, or in none
  pub some_slot : ((p : ℕ) × HasLot c lot p) ⊎ ((p : ℕ) → HasLot c lot p → ⊥)
  some_slot = by (some_below 3)
    where
      by : ((p : ℕ) × HasLot c lot p) ⊎ ((p : ℕ) → p < 3 → HasLot c lot p → ⊥) → ((p : ℕ) × HasLot c lot p) ⊎ ((p : ℕ) → HasLot c lot p → ⊥)
      by (inl some) = inl some
      by (inr none) = inr (λ p has. none p (let few = marked_few _ p has.0 in omega arith) has)
