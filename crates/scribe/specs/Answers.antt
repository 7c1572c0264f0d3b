-- What the program writes for an input.
use Rattle.std.specs.Prelude.{ℕ, ◌≤◌, cond, ◌≡◌, List, [], ◌++◌, length, take, eqb, ltb}
use Rattle.pen.specs.Words.{bytes}
use Rattle.pen.specs.Decimal.{decimal}
use Rattle.schedule.specs.Reading.{Line, sheet_of}
use Rattle.schedule.specs.Writing.{Text, text_of}
use Rattle.schedule.specs.Saying.{complaint}
use Rattle.schedule.specs.Promises.{is_text}
use Rattle.scribe.specs.declared.Answered.{Answered}

-- the bytes for standard output, and those for standard error
pub record Answer : Type 0 where
  pub out : List ℕ
  pub said : List ℕ

-- something is written, and nothing is said
abbrev pub writes : List ℕ → Answer
writes out = record { out = out; said = [] }

-- nothing is written, and something is said
abbrev pub says : List ℕ → Answer
says said = record { out = []; said = said }

-- the sheet that a text comes to; or what is wrong with it
abbrev pub made_answer : List ℕ → Line → Answer
made_answer text l = cond (eqb l.what 0) (writes l.bytes) (says (complaint text l.at l.what))

-- a text, of which no more than 262144 bytes are taken
unfoldable pub text_answer : List ℕ → Answer
text_answer text =
    cond (ltb 262144 (length text)) (says (bytes "too long: a text has at most 262144 bytes\n")) (made_answer text (sheet_of text))

-- the text that a sheet comes to; or where it is malformed
abbrev pub recited_answer : Text → Answer
recited_answer t = cond t.whole (writes t.lines) (says ((bytes "no sheet: the field at " ++ decimal t.at) ++ bytes " is malformed\n"))

-- a sheet, which has no more than 16384 bytes
unfoldable pub sheet_answer : List ℕ → Answer
sheet_answer sheet = cond (ltb 16384 (length sheet)) (says (bytes "no sheet: longer than 16384 bytes\n")) (recited_answer (text_of sheet))

-- THE ANSWER FOR AN INPUT: a text becomes its sheet, and a sheet its text
unfoldable pub answer : List ℕ → Answer
answer input = cond (is_text input) (text_answer input) (sheet_answer input)

-- an answer stands in two buffers, from their start on
pub record Answers (a : Answer) (out said : List ℕ) (r : Answered) : Type 0 where
  pub output : take r.written out ≡ a.out
  pub error : take r.said said ≡ a.said
  pub output_fits : r.written ≤ length out
  pub error_fits : r.said ≤ length said
