-- 11 comes after every other number: what the engine refuses is refused by the engine's number, whatever an index of five words says. Assumes
-- nothing.
use Prim.Native.Nat.{ℕ}
use mathlib.Core.Bool.{Bool}
use mathlib.Core.List.{List}
use mathlib.Core.Path.{◌≡◌}
use lib.ListN.{length}
use borrow.Author.Tests.{eq-eqb}
use Rattle.turn.specs.declared.Worker.{Worker}
use Rattle.engine.specs.declared.Floor.{Floor}
use Rattle.engine.specs.Refusals.{each_number, turn_number, retire_number}
use Rattle.hall.specs.Refusals.{untrue_after, untrue_for, untrue_if_held, hall_each_number, hall_turn_number, hall_retire_number}
use Rattle.hall.proofs.Numbers.{after_same}

-- a number that there is already stays
stays : (n : ℕ) (t : Bool) → (n ≡ 0 → ⊥) → untrue_after n t ≡ n
stays n t some = after_same n t (λ none. absurd (some none))

module _ (f : Floor) (board index : List ℕ) (i : ℕ) (w : Worker) where
  -- §7.2: a turn in a run
  pub each_some : (each_number f board i w ≡ 0 → ⊥) → hall_each_number f board index i w ≡ each_number f board i w
  unfolding hall_each_number
  each_some = stays (each_number f board i w) (untrue_for f board index w)

  module _ (listed : ℕ) (five : length index ≡ 5) where
    -- §7.2: a turn
    pub turn_some : (turn_number f board listed i w ≡ 0 → ⊥) → hall_turn_number f board index listed i w ≡ turn_number f board listed i w
    unfolding hall_turn_number
    turn_some some = rw (eq-eqb (length index) 5 five) (stays (turn_number f board listed i w) (untrue_for f board index w) some)

    -- §7.2: a retiring
    pub retire_some : (retire_number f board listed i w ≡ 0 → ⊥) → hall_retire_number f board index listed i w ≡ retire_number f board listed i w
    unfolding hall_retire_number
    retire_some some = rw (eq-eqb (length index) 5 five) (stays (retire_number f board listed i w) (untrue_if_held f board index w) some)
