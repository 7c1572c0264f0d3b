-- The eight words of a bucket.
use Rattle.std.specs.Prelude.{ℕ, ◌+◌, Bool, ◌&&◌, not, List, eqb, length, get_or}
use Rattle.mark.specs.Word.{well_formed}

-- §2.3: the cell of the mark word
abbrev pub mark_cell : ℕ
mark_cell = 0

-- §2.3: the cell of a slot's key
abbrev pub key_cell : ℕ → ℕ
key_cell slot = 1 + slot

-- §2.3: the cell of a slot's value
abbrev pub value_cell : ℕ → ℕ
value_cell slot = 4 + slot

-- §2.3: the cell that is to spare
abbrev pub spare_cell : ℕ
spare_cell = 7

-- what stands in a cell
abbrev pub cell : List ℕ → ℕ → ℕ
cell bucket k = get_or bucket k 0

-- §2.7: its mark word is not well formed, or its spare cell is not 0; what is not eight words is no bucket, and broken (decision 21)
unfoldable pub broken_bucket : List ℕ → Bool
broken_bucket bucket = not (eqb (length bucket) 8 && (well_formed (cell bucket mark_cell) && eqb (cell bucket spare_cell) 0))
