-- A list whose records are changed one after another, from the first on, by laps of a loop. Assumes nothing.
use Rattle.std.proofs.Common.{ℕ, suc, ◌+◌, ◌<◌, ◌≤◌, ◌≡◌, cond, ltb, List, [], ◌∷◌, length, get_or, set, refl, ap, ap₂, ◌∙◌, arith}
use Rattle.turn.specs.declared.Worker.{Worker}
use Rattle.engine.specs.Calls.{blank}
use Rattle.engine.specs.Firsts.{firsts}
use Rattle.engine.proofs.Firsts.{firsts_next, firsts_least}
use Rattle.floor.specs.Lent.{Lapped}

module _ (g : ℕ → Worker → Worker) where
  -- a lap changes the record that it has come to
  pub lap : (k : ℕ) (ys zs zs' : List Worker) → zs ≡ firsts g k ys → zs' ≡ set zs k (g k (get_or zs k blank)) → zs' ≡ firsts g (k + 1) ys
  lap k ys zs zs' e₁ e₂ = e₂ ∙ rw e₁ (firsts_next g k ys)

  -- past the last lap all of them are done
  pub all_of : (n k : ℕ) (ys zs : List Worker) → k ≤ n → n ≤ k → zs ≡ firsts g k ys → zs ≡ firsts g n ys
  all_of n k ys zs le ge e = e ∙ ap (λ (m : ℕ). firsts g m ys) (omega arith)

  -- and where there are no more of them than the list has, that is as many as were asked for
  pub all_asked :
      (count n k : ℕ) (ys zs : List Worker)
      → n ≡ cond (ltb count (length ys)) count (length ys) → k ≤ n → n ≤ k → zs ≡ firsts g k ys → zs ≡ firsts g count ys
  all_asked count n k ys zs least le ge e = all_of n k ys zs le ge e ∙ rw least (firsts_least g count ys)

-- a list each of whose records is what g makes of the one that was there
all_made :
    (g : ℕ → Worker → Worker) (ws ws' : List Worker)
    → length ws' ≡ length ws
    → ((k : ℕ) → k < length ws → get_or ws' k blank ≡ g k (get_or ws k blank))
    → ws' ≡ firsts g (length ws) ws
unfolding firsts
all_made g [] [] long each = refl
all_made g [] (x ∷ xs) long each = absurd (omega arith)
all_made g (w ∷ ws) [] long each = absurd (omega arith)
all_made g (w ∷ ws) (x ∷ xs) long each =
    ap₂ (λ (u : Worker) (l : List Worker). u ∷ l) (each 0 (omega arith))
    (all_made (λ k. g (suc k)) ws xs (omega arith) (λ k less. each (suc k) (omega arith)))

-- a list gone over in place, by a leaf that makes of the record at each number what g makes of it: that is every record by g
pub laps :
    (makes : ℕ → Worker → Worker → Type 0) (g : ℕ → Worker → Worker) (ws ws' : List Worker)
    → ((k : ℕ) (w u : Worker) → k < length ws → makes k w u → u ≡ g k w)
    → Lapped makes ws ws'
    → ws' ≡ firsts g (length ws) ws
laps makes g ws ws' made lapped = all_made g ws ws' lapped.long (λ k less. made k _ _ less (lapped.each k less))
