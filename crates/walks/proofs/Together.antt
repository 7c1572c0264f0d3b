-- Counts of walks put together: in any order, and with none. Assumes nothing.
use mathlib.Core.Path.{◌≡◌}
use native.Mathlib.Omega.{arith}
use Rattle.walks.specs.declared.Walks.{Walks}
use Rattle.walks.specs.Orders.{no_walks, together}

-- counts are the same if each of the four is
same_walks :
    (a b : Walks) → a.finished ≡ b.finished → a.cut ≡ b.cut → a.lost ≡ b.lost → a.most ≡ b.most → a ≡ b
same_walks a b finished cut lost most = rw (finished, cut, lost, most)

pub together_none : (a : Walks) → together a no_walks ≡ a
together_none a = same_walks _ _ (omega arith) (omega arith) (omega arith) (omega arith)

pub none_together : (a : Walks) → together no_walks a ≡ a
none_together a = same_walks _ _ (omega arith) (omega arith) (omega arith) (omega arith)

pub together_assoc : (a b c : Walks) → together (together a b) c ≡ together a (together b c)
together_assoc a b c = same_walks _ _ (omega arith) (omega arith) (omega arith) (omega arith)

-- the first of three can come last
pub together_rotate : (a b c : Walks) → together (together a b) c ≡ together (together b c) a
together_rotate a b c = same_walks _ _ (omega arith) (omega arith) (omega arith) (omega arith)
