-- The number of busy workers, as records are put back and others sleep. Assumes nothing.
use Prim.Native.Nat.{ℕ, zero, suc, ◌+◌, ◌≤◌, ◌<◌}
use mathlib.Core.Bool.{Bool, true, false, cond}
use mathlib.Core.Path.{◌≡◌, refl}
use mathlib.Core.List.{List, [], ◌∷◌, map}
use native.Mathlib.Nat.{not-suc-le-zero, le_of_suc-le-suc}
use native.Mathlib.Omega.{arith}
use lib.ListN.{length, get_or, set, replicate, length-map, get_or-map}
use Rattle.turn.specs.declared.Worker.{Worker}
use Rattle.turn.specs.Worker.{idle, is_idle}
use Rattle.turn.specs.Asleep.{slept}
use Rattle.turn.proofs.Kept.{is_idle_lem}
use Rattle.turn.proofs.Asleep.{slept_idles}
use Rattle.engine.specs.Calls.{after_turn}
use Rattle.sheet.specs.Room.{busy}

-- 1 for a record that is not idle
abbrev pub is_busy : Worker → ℕ
is_busy w = cond (is_idle w) 0 1

one_at_most : (t : Bool) → cond t 0 1 ≤ 1
one_at_most true = omega arith
one_at_most false = omega arith

-- a record is busy once at most
pub busy_one : (w : Worker) → is_busy w ≤ 1
busy_one w = one_at_most (is_idle w)

-- a record that is put in the place of another
pub busy_set :
    (ws : List Worker) (i : ℕ) (w v : Worker) → i < length ws → busy (set ws i w) + is_busy (get_or ws i v) ≡ busy ws + is_busy w
unfolding busy
busy_set [] i w v h = absurd (not-suc-le-zero h)
busy_set (x ∷ xs) zero w v h = omega arith
busy_set (x ∷ xs) (suc i) w v h = let rest = busy_set xs i w v (le_of_suc-le-suc h) in omega (arith, rest)

-- sleep makes nobody busy, and nobody idle
busy_slept : (ws : List Worker) → busy (map slept ws) ≡ busy ws
unfolding busy
busy_slept [] = refl
busy_slept (w ∷ ws) = rw (slept_idles w, busy_slept ws)

-- so it is with the record that a turn puts back
pub busy_turn :
    (ws : List Worker) (i : ℕ) (w v : Worker) → i < length ws → busy (after_turn ws i w) + is_busy (get_or ws i v) ≡ busy ws + is_busy w
busy_turn ws i w v h =
    rw (get_or-map slept ws i v, slept_idles (get_or ws i v), busy_slept ws) at
    (busy_set (map slept ws) i w (slept v) (rw (length-map ws slept) h))

-- at whatever number, it makes at most one more
pub busy_set_le : (ws : List Worker) (i : ℕ) (w : Worker) → busy (set ws i w) ≤ busy ws + 1
unfolding busy
busy_set_le [] i w = omega arith
busy_set_le (x ∷ xs) zero w = let one = busy_one w in omega (arith, one)
busy_set_le (x ∷ xs) (suc i) w = let rest = busy_set_le xs i w in omega (arith, rest)

-- idle records are not busy
pub busy_none : (n : ℕ) → busy (replicate n idle) ≡ 0
unfolding busy
busy_none zero = refl
busy_none (suc n) = let rest = busy_none n in rw is_idle_lem (omega (arith, rest))
