-- What was written to a buffer: nothing, one byte, and one thing after another. Assumes nothing.
use Prim.Native.Nat.{ℕ}
use mathlib.Core.Path.{◌≡◌, sym, ap}
use mathlib.Core.List.{List}
use Rattle.pen.specs.declared.Pen.{Pen}
use Rattle.pen.specs.Written.{Writes, written}
pub use Rattle.pen.proofs.Writing.{wrote_byte, wrote_then, wrote_none, wrote_within}

-- a pen keeps the buffer that it was lent
pub writes_lent : (a b : Pen) (l : List ℕ) → Writes a l b → a.out.ghost_name ≡ b.out.ghost_name
unfolding written
writes_lent a b l p = sym (ap (λ (x : Pen). x.out.ghost_name) p.leaves)
