-- A sheet that is well formed.
use Rattle.std.specs.Prelude.{ℕ, ◌≡◌, List, length}
use Rattle.sheet.specs.declared.Field.{Field}
use Rattle.sheet.specs.Fields.{Whole, read_field}

-- §8.5: field after field is whole from a place on, to the end of the sheet
pub data WholeFrom (sheet : List ℕ) : ℕ → Type 0 where
  -- the last field ends where the sheet does
  the_last : {at : ℕ} (f : Field) → read_field sheet at ≡ Whole f (length sheet) → WholeFrom sheet at
  -- a field, and those behind it
  and_more : {at : ℕ} (f : Field) (next : ℕ) → read_field sheet at ≡ Whole f next → WholeFrom sheet next → WholeFrom sheet at

-- §8.5, §24.6: no field of the sheet is malformed, nor is anything left behind the last
abbrev pub WellFormed : List ℕ → Type 0
WellFormed sheet = WholeFrom sheet 0
