-- §12.2: every promise of a call on lent words is one equation, of the words that it leaves with what it hands back. Two outcomes that meet
-- such a promise are equal in both. Assumes nothing.
use Prim.Native.Nat.{ℕ}
use mathlib.Core.Path.{◌≡◌, sym, ap, ◌∙◌}
use mathlib.Core.List.{List}
use Rattle.turn.specs.Turn.{After, after}

pub one_outcome :
    {A : Type 0} {words others : List ℕ} {x y : A} {promised : After A}
    → after words x ≡ promised
    → after others y ≡ promised
    → (words ≡ others) × (x ≡ y)
one_outcome {A} p q = let e = p ∙ sym q in (ap (λ (z : After A). z.words) e, ap (λ (z : After A). z.handed) e)
