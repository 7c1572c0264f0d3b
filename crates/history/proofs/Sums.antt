-- What is added up over a list of records, and how one record more or less changes it. Assumes nothing.
use Prim.Native.Nat.{ℕ, zero, suc, ◌+◌, ◌≤◌, ◌<◌}
use mathlib.Core.List.{List, [], ◌∷◌}
use mathlib.Core.Path.{◌≡◌, refl}
use native.Mathlib.Omega.{arith}
use lib.ListN.{length, set, replicate}
use Rattle.turn.specs.declared.Worker.{Worker}
use Rattle.engine.specs.Calls.{record_in}
use Rattle.history.specs.Trace.{total}

-- no number is larger
total_le : (f g : Worker → ℕ) → ((w : Worker) → g w ≤ f w) → (ws : List Worker) → total g ws ≤ total f ws
unfolding total
total_le f g less [] = omega arith
total_le f g less (w ∷ ws) = omega (arith, less w, total_le f g less ws)

-- no number is larger by more than one
total_grows : (f g : Worker → ℕ) → ((w : Worker) → g w ≤ f w + 1) → (ws : List Worker) → total g ws ≤ total f ws + length ws
unfolding total
total_grows f g less [] = omega arith
total_grows f g less (w ∷ ws) = omega (arith, less w, total_grows f g less ws)

-- one record becomes v, with d more at most and c to pay; the others' numbers do not grow
pub total_set :
    (f g : Worker → ℕ) (c d : ℕ) (v : Worker)
    → ((w : Worker) → g w ≤ f w)
    → (ws : List Worker) (i : ℕ)
    → i < length ws
    → c + g v ≤ f (record_in ws i) + d
    → c + total g (set ws i v) ≤ total f ws + d
unfolding total
total_set f g c d v less [] i within pays = absurd (omega arith)
total_set f g c d v less (w ∷ ws) zero within pays = omega (arith, pays, total_le f g less ws)
total_set f g c d v less (w ∷ ws) (suc i) within pays = omega (arith, less w, total_set f g c d v less ws i (omega arith) pays)

-- one record's number becomes 0; each of the others' grows by one at most
pub total_others :
    (f g : Worker → ℕ) (v : Worker)
    → ((w : Worker) → g w ≤ f w + 1)
    → g v ≡ 0
    → (ws : List Worker) (i : ℕ)
    → i < length ws
    → total g (set ws i v) + 1 ≤ total f ws + length ws
unfolding total
total_others f g v less none [] i within = absurd (omega arith)
total_others f g v less none (w ∷ ws) zero within = omega (arith, total_grows f g less ws)
total_others f g v less none (w ∷ ws) (suc i) within = omega (arith, less w, total_others f g v less none ws i (omega arith))

-- records that all count for nothing
pub total_none : (f : Worker → ℕ) (w : Worker) → f w ≡ 0 → (n : ℕ) → total f (replicate n w) ≡ 0
unfolding total
total_none f w none zero = refl
total_none f w none (suc n) = omega (arith, total_none f w none n)
