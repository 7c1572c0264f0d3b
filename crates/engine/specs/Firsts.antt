-- Records of a list that are changed one after another, from the first on.
use Rattle.std.specs.Prelude.{ℕ, zero, suc, List, [], ◌∷◌}
use Rattle.turn.specs.declared.Worker.{Worker}

-- the first so many records, as far as the list goes, each become what g makes of its number and the record
unfoldable pub firsts : (ℕ → Worker → Worker) → ℕ → List Worker → List Worker
firsts g zero ws = ws
firsts g (suc n) [] = []
firsts g (suc n) (w ∷ ws) = g zero w ∷ firsts (λ k. g (suc k)) n ws
