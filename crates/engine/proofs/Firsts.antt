-- Records changed one after another, from the first on. Assumes nothing.
use Prim.Native.Nat.{ℕ, zero, suc, ◌+◌, ◌≤◌}
use mathlib.Core.Bool.{cond}
use mathlib.Core.Path.{◌≡◌, refl, sym, ap, ap₂}
use mathlib.Core.List.{List, [], ◌∷◌, map}
use native.Mathlib.Nat.{not-suc-le-zero, le_of_suc-le-suc}
use native.Mathlib.Numerals.{add-one}
use lib.Dec.{ltb}
use lib.ListN.{length, get_or, set, replicate}
use borrow.Author.Tests.{ltb-false}
use Rattle.mark.proofs.Choices.{by_cases}
use Rattle.turn.specs.declared.Worker.{Worker}
use Rattle.turn.specs.Asleep.{slept}
use Rattle.engine.specs.Calls.{blank}
use Rattle.engine.specs.Firsts.{firsts}

-- before the first of them the list is as it was
pub firsts_none : (g : ℕ → Worker → Worker) (ws : List Worker) → firsts g 0 ws ≡ ws
unfolding firsts
firsts_none g ws = refl

firsts_suc : (g : ℕ → Worker → Worker) (k : ℕ) (ws : List Worker) → set (firsts g k ws) k (g k (get_or (firsts g k ws) k blank)) ≡ firsts g (suc k) ws
unfolding firsts
firsts_suc g zero [] = refl
firsts_suc g zero (w ∷ ws) = refl
firsts_suc g (suc k) [] = refl
firsts_suc g (suc k) (w ∷ ws) = ap (λ (l : List Worker). g zero w ∷ l) (firsts_suc (λ k. g (suc k)) k ws)

-- one record more
pub firsts_next :
    (g : ℕ → Worker → Worker) (k : ℕ) (ws : List Worker) → set (firsts g k ws) k (g k (get_or (firsts g k ws) k blank)) ≡ firsts g (k + 1) ws
firsts_next g k ws = rw (add-one k) (firsts_suc g k ws)

-- past the end there is nothing to change
firsts_over : (g : ℕ → Worker → Worker) (n : ℕ) (ws : List Worker) → length ws ≤ n → firsts g n ws ≡ firsts g (length ws) ws
unfolding firsts
firsts_over g zero [] fits = refl
firsts_over g zero (w ∷ ws) fits = absurd (not-suc-le-zero fits)
firsts_over g (suc n) [] fits = refl
firsts_over g (suc n) (w ∷ ws) fits = ap (λ (l : List Worker). g zero w ∷ l) (firsts_over (λ k. g (suc k)) n ws (le_of_suc-le-suc fits))

-- no more of them than there are
pub firsts_least : (g : ℕ → Worker → Worker) (n : ℕ) (ws : List Worker) → firsts g (cond (ltb n (length ws)) n (length ws)) ws ≡ firsts g n ws
firsts_least g n ws =
    by_cases (λ (m : ℕ). firsts g m ws ≡ firsts g n ws) (ltb n (length ws)) _ _ (λ less. refl)
    (λ more. sym (firsts_over g n ws (ltb-false n (length ws) more)))

-- ---- all of them

-- become one
pub firsts_one : (w : Worker) (ws : List Worker) → firsts (λ k old. w) (length ws) ws ≡ replicate (length ws) w
unfolding firsts
firsts_one w [] = refl
firsts_one w (x ∷ xs) = ap (λ (l : List Worker). w ∷ l) (firsts_one w xs)

-- sleep
pub firsts_slept_lem : (ws : List Worker) → firsts (λ k w. slept w) (length ws) ws ≡ map slept ws
unfolding firsts
firsts_slept_lem [] = refl
firsts_slept_lem (w ∷ ws) = ap (λ (l : List Worker). slept w ∷ l) (firsts_slept_lem ws)

-- by the same
pub firsts_same :
    (g h : ℕ → Worker → Worker) → ((k : ℕ) (w : Worker) → g k w ≡ h k w) → (n : ℕ) (ws : List Worker) → firsts g n ws ≡ firsts h n ws
unfolding firsts
firsts_same g h same zero ws = refl
firsts_same g h same (suc n) [] = refl
firsts_same g h same (suc n) (w ∷ ws) =
    ap₂ (λ (x : Worker) (l : List Worker). x ∷ l) (same zero w) (firsts_same (λ k. g (suc k)) (λ k. h (suc k)) (λ k. same (suc k)) n ws)
