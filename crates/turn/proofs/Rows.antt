-- A turn at a known place is that place's row of the table. Assumes nothing.
use Prim.Native.Nat.{ℕ, ◌≤◌}
use mathlib.Core.Path.{◌≡◌, ap, sym, ◌∙◌}
use mathlib.Core.List.{List}
use lib.ListN.{get_or, get_or-eq_default}
use Rattle.turn.specs.declared.Worker.{Worker}
use Rattle.turn.specs.Places.{Step, rows, stays, does, turn}
use Rattle.turn.specs.Ready.{Ready}

-- at place p
pub at_row : {b : List ℕ} {w : Worker} (p : ℕ) → Ready b w → w.place ≡ p → {x : Step} → x ≡ does (get_or rows p stays) b w → x ≡ turn b w
unfolding turn
at_row {b} {w} p ready is h = h ∙ sym (ap (λ (k : ℕ). does (get_or rows k stays) b w) is)

-- past the last place
pub past_rows : {b : List ℕ} {w : Worker} → Ready b w → 14 ≤ w.place → {x : Step} → x ≡ does stays b w → x ≡ turn b w
unfolding turn
past_rows ready past h = rw (get_or-eq_default rows stays past) h
