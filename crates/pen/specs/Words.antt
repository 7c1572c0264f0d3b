-- Words as they are written.
use Rattle.std.specs.Prelude.{ℕ, List, [] as none, ◌∷◌ as ◌then◌, ◌++◌, cond, eqb}
use Prim.Native.Char.{code}
use Prim.Native.String.{String, [], ◌∷◌}
use Rattle.pen.specs.Decimal.{decimal}

-- the bytes of plain words
unfoldable pub bytes : String → List ℕ
bytes [] = none
bytes (c ∷ s) = code c then bytes s

-- a number of things, by their name: one of it has the name without the s
unfoldable pub things : ℕ → List ℕ → List ℕ
things n name = decimal n ++ (name ++ cond (eqb n 1) none (bytes "s"))
