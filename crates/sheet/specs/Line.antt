-- The lines of the listing, as bytes.
use Rattle.std.specs.Prelude.{ℕ, List, [], ◌∷◌, ◌++◌}
unfoldable pub use Rattle.pen.specs.Decimal.{decimal_in}
pub use Rattle.pen.specs.Decimal.{decimal}
use Rattle.engine.specs.declared.Totals.{Totals}

-- §9.4: a number with the space before it
abbrev pub spaced : ℕ → List ℕ
spaced n = 32 ∷ decimal n

-- §9.4: numbers, each with its space, and the end of the line
abbrev pub numbers : List ℕ → List ℕ
numbers [] = 10 ∷ []
numbers (n ∷ ns) = spaced n ++ numbers ns

-- §9.1: E, and a call that has ended
abbrev pub end_line : ℕ → ℕ → ℕ → ℕ → List ℕ
end_line turn worker kind answer = 69 ∷ numbers (turn ∷ worker ∷ kind ∷ answer ∷ [])

-- §9.2: T, and the totals
abbrev pub totals_line : Totals → List ℕ
totals_line t = 84 ∷ numbers (t.turns ∷ t.changes ∷ t.lost ∷ t.full ∷ [])

-- §9.3: R, and a refusal
abbrev pub refusal_line : ℕ → ℕ → List ℕ
refusal_line number offset = 82 ∷ numbers (number ∷ offset ∷ [])
