-- What a tally counts is what the report says: a lost swap and nothing else for a lost swap, a change and nothing else for a change.
-- Assumes nothing.
use Prim.Native.Nat.{ℕ}
use mathlib.Core.Logic.{◌⊎◌, inl, inr}
use mathlib.Core.Path.{◌≡◌, refl}
use borrow.Author.Tests.{ne_eqb}
use Rattle.turn.specs.declared.Action.{Action}
use Rattle.turn.specs.declared.Action.TheVariants.{Read, Store, Won, Lost}
use Rattle.turn.specs.Worker.{free_place}
use Rattle.engine.specs.Calls.{changes, losses}

-- a lost swap counts for one
pub losses_lost : (a : Action) → a ≡ Lost → losses a ≡ 1
losses_lost a is = rw is

-- every other action for none
pub losses_other : (a : Action) → (a ≡ Lost → ⊥) → losses a ≡ 0
losses_other Read other = refl
losses_other Store other = refl
losses_other Won other = refl
losses_other Lost other = absurd (other refl)

module _ (place : ℕ) where
  -- a won swap, or the store by which a slot is given back
  abbrev Changing : Action → Type 0
  Changing a = (a ≡ Won) ⊎ ((place ≡ free_place) × (a ≡ Store))

  -- a change counts for one
  pub changes_change : (a : Action) → Changing a → changes place a ≡ 1
  changes_change a (inl won) = rw won
  changes_change a (inr freed) = rw (freed.1, freed.0)

  -- every other turn for none
  pub changes_other : (a : Action) → (Changing a → ⊥) → changes place a ≡ 0
  changes_other Read other = refl
  changes_other Store other = rw (ne_eqb place free_place (λ is. other (inr (is, refl))))
  changes_other Won other = absurd (other (inl refl))
  changes_other Lost other = refl
