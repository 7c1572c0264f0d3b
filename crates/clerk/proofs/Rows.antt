-- A table of what is known at each place: a row for each place from 0 on, and nothing past the last. Assumes nothing.
use Prim.Native.Nat.{ℕ, zero, suc, ◌+◌, ◌<◌}
use mathlib.Core.List.{List, [], ◌∷◌}
use mathlib.Core.Path.{◌≡◌}
use native.Mathlib.Omega.{arith}

-- a table: what is said of each place, from place 0 on
abbrev pub Rows : Type 1
Rows = List (Type 0)

-- a row that says nothing
abbrev pub silent : Type 0
silent = Unit {0}

-- what the row of a place says
abbrev pub row_at : Rows → ℕ → Type 0
row_at [] place = silent
row_at (T ∷ rest) zero = T
row_at (T ∷ rest) (suc place) = row_at rest place

-- what is so of one row, and of those after it
infixr 4 ◌▹◌
abbrev pub ◌▹◌ : {A B : Type 0} → A → B → A × B
a ▹ b = (a, b)

-- ---- the first rows

-- all that the first k rows say
abbrev pub FirstRows : ℕ → Rows → Type 0
FirstRows zero rows = Unit {0}
FirstRows (suc k) [] = Unit {0}
FirstRows (suc k) (T ∷ rest) = T × FirstRows k rest

-- where what the first rows say is so, so is what the row of a place among them says
pub among_first : (k place : ℕ) (rows : Rows) → place < k → FirstRows k rows → row_at rows place
among_first zero place rows under all = absurd (omega arith)
among_first (suc k) place [] under all = tt
among_first (suc k) zero (T ∷ rest) under all = all.0
among_first (suc k) (suc place) (T ∷ rest) under all = among_first k place rest (omega arith) all.1

-- ---- row by row

-- from row k on, each row of one table follows from the same row of another, for a worker at this place
abbrev pub Follow : ℕ → ℕ → Rows → Rows → Type 0
Follow place k olds [] = Unit {0}
Follow place k [] (B ∷ news) = (place ≡ k → B) × Follow place (suc k) [] news
Follow place k (A ∷ olds) (B ∷ news) = (place ≡ k → A → B) × Follow place (suc k) olds news

follow_from : (place k m : ℕ) (olds news : Rows) → Follow place k olds news → place ≡ k + m → row_at olds m → row_at news m
follow_from place k m olds [] each at known = tt
follow_from place k zero [] (B ∷ news) each at known = each.0 (omega arith)
follow_from place k (suc m) [] (B ∷ news) each at known = follow_from place (suc k) m [] news each.1 (omega arith) known
follow_from place k zero (A ∷ olds) (B ∷ news) each at known = each.0 (omega arith) known
follow_from place k (suc m) (A ∷ olds) (B ∷ news) each at known = follow_from place (suc k) m olds news each.1 (omega arith) known

-- where each row follows, the row of that place does
pub follow : (place : ℕ) (olds news : Rows) → Follow place 0 olds news → row_at olds place → row_at news place
follow place olds news each = follow_from place 0 place olds news each (omega arith)
