-- §12.2: two outcomes that meet the promise of what writes into a buffer are equal. Assumes nothing.
use Prim.Native.Nat.{ℕ}
use mathlib.Core.Path.{◌≡◌, sym, ◌∙◌}
use mathlib.Core.List.{List}
use Rattle.pen.specs.declared.Pen.{Pen}
use Rattle.pen.specs.Written.{Wrote, Puts, Writes}

-- the buffer, and the place after what was written
pub wrote_determined :
    {out bytes later other : List ℕ} {at r t : ℕ} → Wrote out at bytes later r → Wrote out at bytes other t → (later ≡ other) × (r ≡ t)
wrote_determined p q = (p.buffer ∙ sym q.buffer, p.place ∙ sym q.place)

-- the same of what was put as far as there is room
pub puts_determined :
    {out bytes later other : List ℕ} {at r t : ℕ} → Puts out at bytes later r → Puts out at bytes other t → (later ≡ other) × (r ≡ t)
puts_determined p q = wrote_determined p.part q.part

-- the pen after it has written
pub writes_determined : {pen next other : Pen} {said : List ℕ} → Writes pen said next → Writes pen said other → next ≡ other
writes_determined p q = p.leaves ∙ sym q.leaves
