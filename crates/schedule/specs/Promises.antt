-- What the public functions promise (§12.1).
use Rattle.std.specs.Prelude.{ℕ, ◌+◌, ◌-◌, ◌≤◌, Bool, false, cond, ◌||◌, ◌≡◌, List, length, get_or, eqb, leb, Result, Ok, Err}
use Rattle.pen.specs.Written.{Wrote, Puts}
use Rattle.schedule.specs.declared.Word.{Word}
use Rattle.schedule.specs.Tokens.{Got}
use Rattle.schedule.specs.declared.Made.{Made}
use Rattle.schedule.specs.declared.Stopped.{Stopped}
use Rattle.schedule.specs.Numbers.{expected_number}
use Rattle.schedule.specs.declared.Recited.{Recited}
use Rattle.schedule.specs.declared.Malformed.{Malformed}
use Rattle.std.specs.Result.{is_ok}
use Rattle.schedule.specs.Tokens.{word_at}
use Rattle.schedule.specs.Reading.{sheet_of}
use Rattle.schedule.specs.Writing.{text_of}
use Rattle.schedule.specs.Saying.{complaint}

-- a place that is reached from another: no further than the end of the text, where that one was within it
pub record Reaches (text : List ℕ) (from to : ℕ) : Type 0 where
  pub onward : from ≤ to
  pub within : to ≤ from + (length text - from)

-- the next word of a line
pub record Words (text : List ℕ) (from : ℕ) (r : Word) : Type 0 where
  pub is : r ≡ word_at text from
  pub start : Reaches text from r.start
  pub end : Reaches text r.start r.end

-- what was found from a place on
pub record Finds (text : List ℕ) (from : ℕ) (g r : Got) : Type 0 where
  pub is : r ≡ g
  pub reach : Reaches text from r.at

-- how many bytes are written of a text's sheet
abbrev pub written_of : Result Made Stopped → ℕ
written_of (Ok m) = m.written
written_of (Err s) = s.written

-- the place behind the text; or of what is wrong
abbrev pub end_of : Result Made Stopped → ℕ
end_of (Ok m) = m.at
end_of (Err s) = s.wrong.at

-- 0; or the number of what is expected where the text is wrong
abbrev pub wrong_of : Result Made Stopped → ℕ
wrong_of (Ok m) = 0
wrong_of (Err s) = expected_number s.wrong.what

-- the sheet of a text, whole: no more than a sheet may have
pub record SheetMade (text out later : List ℕ) (r : Result Made Stopped) : Type 0 where
  pub bytes : Wrote out 0 (sheet_of text).bytes later (written_of r)
  pub at : end_of r ≡ (sheet_of text).at
  pub what : wrong_of r ≡ (sheet_of text).what
  pub fits : written_of r ≤ 16384

-- how many bytes are written of a sheet's text
abbrev pub recited_of : Result Recited Malformed → ℕ
recited_of (Ok r) = r.written
recited_of (Err m) = m.written

-- where the sheet ends; or where it is malformed
abbrev pub place_of : Result Recited Malformed → ℕ
place_of (Ok r) = r.at
place_of (Err m) = m.at

-- the text of a sheet: the buffer before and after; as much of it as there is room for
pub record Recites (sheet out later : List ℕ) (r : Result Recited Malformed) : Type 0 where
  pub lines : Puts out 0 (text_of sheet).lines later (recited_of r)
  pub at : place_of r ≡ (text_of sheet).at
  pub whole : is_ok r ≡ (text_of sheet).whole

-- .. and of a sheet that is no longer than one may be, all of it
pub record TextRecited (sheet out later : List ℕ) (r : Result Recited Malformed) : Type 0 where
  pub recites : Recites sheet out later r
  pub fits : length sheet ≤ 16384 → recited_of r ≤ 65600
  pub all : length sheet ≤ 16384 → Wrote out 0 (text_of sheet).lines later (recited_of r)

-- §24.7: a first byte that is a blank, the end of a line or a byte of a word begins a text; a sheet begins with 1, and no byte at all is one too
unfoldable pub is_text : List ℕ → Bool
is_text input =
    let first : ℕ = get_or input 0 0 in
    cond (eqb (length input) 0) false (leb 32 first || (eqb first 9 || (eqb first 10 || eqb first 13)))

-- what is said of a text: as much of it as there is room for
pub record Complained (text : List ℕ) (at what : ℕ) (out later : List ℕ) (r : ℕ) : Type 0 where
  pub lines : Puts out 0 (complaint text at what) later r
