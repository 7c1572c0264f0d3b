-- A list whose records sleep through a turn one after another, but for its worker's own. Assumes nothing.
use Prim.Native.Nat.compare
use Prim.Native.Nat.{ℕ, zero, suc}
use mathlib.Core.Path.{◌≡◌, refl, ap, ap₂, ◌∙◌}
use mathlib.Core.List.{List, [], ◌∷◌}
use native.Mathlib.Omega.{arith}
use lib.ListN.{length, set}
use borrow.Author.Tests.{ne_eqb}
use Rattle.turn.specs.declared.Worker.{Worker}
use Rattle.turn.specs.Asleep.{slept}
use Rattle.engine.specs.Firsts.{firsts}
use Rattle.engine.specs.Calls.{after_turn}
use Rattle.engine.proofs.Firsts.{firsts_slept_lem, firsts_same}
use Rattle.floor.specs.Lent.{beside}

-- is left as a turn leaves it which put that record there
pub all_beside : (i : ℕ) (w : Worker) (ws : List Worker) → firsts (beside i) (length ws) (set ws i w) ≡ after_turn ws i w
unfolding firsts
all_beside i w [] = refl
all_beside zero w (x ∷ xs) =
    ap (λ (l : List Worker). w ∷ l)
    (firsts_same _ (λ k u. slept u) (λ k u. rw (ne_eqb (suc k) 0 (λ is. omega arith))) (length xs) xs ∙ firsts_slept_lem xs)
all_beside (suc i) w (x ∷ xs) =
    ap₂ (λ (u : Worker) (l : List Worker). u ∷ l) (rw (ne_eqb 0 (suc i) (λ is. omega arith)))
    (firsts_same _ (beside i) (λ k u. rw (compare.suc-suc k i)) (length xs) (set xs i w) ∙ all_beside i w xs)
