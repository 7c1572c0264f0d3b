-- Who is still at a call, one worker after another. Assumes nothing.
use Prim.Native.Nat.{ℕ, suc, ◌+◌}
use mathlib.Core.Path.{◌≡◌, sym, ap, ◌∙◌}
use mathlib.Core.List.{List, [], ◌∷◌, ◌++◌, append-nil, append_assoc}
use native.Mathlib.Omega.{arith}
use lib.ListN.{length}
use Rattle.turn.specs.declared.Worker.{Worker}
use Rattle.view.specs.Telling.{busy_told, busy_from}

-- one worker more is told after the others
pub busy_more : (i : ℕ) (ws : List Worker) (w : Worker) → busy_from i (ws ++ (w ∷ [])) ≡ busy_from i ws ++ busy_told (i + length ws) w
unfolding busy_from
busy_more i [] w =
    let same : i + 0 ≡ i = omega arith in
    rw same (append-nil (busy_told i w))
busy_more i (v ∷ ws) w =
    let same : i + suc (length ws) ≡ i + 1 + length ws = omega arith in
    rw same
    (ap (λ (l : List ℕ). busy_told i v ++ l) (busy_more (i + 1) ws w)
    ∙ sym (append_assoc (busy_told i v) (busy_from (i + 1) ws) (busy_told (i + 1 + length ws) w)))
