-- What the code hands back, in the words of the theory.
use Rattle.std.specs.Prelude.{◌≡◌, ℕ, suc, ◌<◌, Bool, true, false, cond, eqb, Result, Ok, Err, Option, Some, None, IfOk, IfSome, List, [], ◌++◌, length, replicate}
use Rattle.schedule.specs.declared.Wrong.{Wrong}
use Rattle.schedule.specs.declared.Made.{Made}
use Rattle.schedule.specs.declared.Stopped.{Stopped}
use Rattle.schedule.specs.declared.Recited.{Recited}
use Rattle.schedule.specs.declared.Malformed.{Malformed}
use Rattle.schedule.specs.declared.token.Reader.{Reader}
use Rattle.schedule.specs.declared.token.Run.{Run}
use Rattle.schedule.specs.declared.token.Run.TheVariants.{Blanks, Comment, Letters}
use Rattle.schedule.specs.Numbers.{expected_number}
use Rattle.schedule.specs.Tokens.{Got, found, missing}
use Rattle.pen.specs.declared.Pen.{Pen}
use Rattle.pen.specs.Written.{Writes}
use Rattle.schedule.specs.Writing.{text_of}
use Rattle.schedule.specs.Reading.{Line, right, wrong, turns_from}
use Rattle.schedule.specs.Promises.{Reaches, Finds}
use Rattle.schedule.specs.declared.Word.{Word}
use Rattle.schedule.specs.declared.Entry.{Entry}
use Rattle.schedule.specs.Saids.{Said, nothing, Says, LineSaid, Tallies}

-- the number of a run: blanks, the rest of a line, a word
abbrev pub run_number : Run → ℕ
run_number Blanks = 0
run_number Comment = 1
run_number Letters = 2

-- the place to which it was read, or of what stands there in its place
abbrev pub place_at : {A : Type 0} → ℕ → Result A Wrong → ℕ
place_at at (Ok x) = at
place_at at (Err w) = w.at

-- what was found, by what its value is as a number, and the place to which it was read; or what stands there in its place
abbrev pub got_of : {A : Type 0} → (A → ℕ) → ℕ → Result A Wrong → Got
got_of value at (Ok x) = found (value x) at
got_of value at (Err w) = missing w.at (expected_number w.what)

-- which of two words it is
abbrev pub which : Bool → ℕ
which first = cond first 1 2

-- a reader goes on to what it finds
pub record Takes {A : Type 0} (value : A → ℕ) (before : Reader) (g : Got) (after : Reader) (r : Result A Wrong) : Type 0 where
  pub text : after.text ≡ before.text
  pub finds : Finds before.text.now before.at g (got_of value after.at r)

-- what a line says, and the place to which it was read; or what stands there in its place
abbrev pub said_of : ℕ → Result Entry Wrong → Said
said_of at (Ok e) = record { entry = e; at = at; what = 0 }
said_of at (Err w) = nothing w.at (expected_number w.what)

-- a reader goes on over a part of the text
pub record Hears (before : Reader) (l : Line) (after : Reader) (r : Result Entry Wrong) : Type 0 where
  pub text : after.text ≡ before.text
  pub says : Says before.text.now before.at l (said_of after.at r)

-- .. over a line, whose first word is this one
pub record HearsLine (before : Reader) (w : Word) (l : Line) (after : Reader) (r : Result Entry Wrong) : Type 0 where
  pub text : after.text ≡ before.text
  pub says : LineSaid before.text.now w l (said_of after.at r)

-- what a line's turns come to from the next worker's on, those behind them being these
abbrev pub turns_then : ℕ → Result (Option (ℕ × ℕ)) Wrong → Line → Line
turns_then at (Ok None) rest = right [] at
turns_then at (Ok (Some run)) rest = cond (eqb rest.what 0) (right (replicate run.1 run.0 ++ rest.bytes) rest.at) rest
turns_then at (Err w) rest = wrong w.at (expected_number w.what)

-- a reader goes on over one worker's turns
pub record Steps (before after : Reader) (r : Result (Option (ℕ × ℕ)) Wrong) : Type 0 where
  pub text : after.text ≡ before.text
  pub is : (more : ℕ) → turns_from (suc more) before.text.now before.at ≡ turns_then after.at r (turns_from more before.text.now after.at)
  pub inside : (r ≡ Ok None → ⊥) → before.at < length before.text.now
  pub ahead : IfOk r (λ o. IfSome o (λ _. before.at < after.at))
  pub reach : Reaches before.text.now before.at (place_at after.at r)

-- a reader goes on over all of a line's turns
pub record Counted (before : Reader) (all : Line) (after : Reader) (r : Result ℕ Wrong) : Type 0 where
  pub text : after.text ≡ before.text
  pub tallies : Tallies before.text.now before.at all (got_of (λ n. n) after.at r)

-- a sheet that was made, or a text that is wrong, and how many bytes were written
abbrev pub made_of : ℕ → Result ℕ Wrong → Result Made Stopped
made_of written (Ok at) = Ok (record { written = written; at = at })
made_of written (Err wrong) = Err (record { written = written; wrong = wrong })

-- a text that was written, or a sheet that is malformed, and how many bytes were written
abbrev pub recited_as : ℕ → Result ℕ ℕ → Result Recited Malformed
recited_as written (Ok at) = Ok (record { written = written; at = at })
recited_as written (Err at) = Err (record { written = written; at = at })

-- where a sheet ends, or a field is malformed
abbrev pub end_at : Result ℕ ℕ → ℕ
end_at (Ok at) = at
end_at (Err at) = at

-- which of the two it is
abbrev pub is_whole : Result ℕ ℕ → Bool
is_whole (Ok at) = true
is_whole (Err at) = false

-- a pen wrote the text of a sheet, to its end or to a field that is malformed
pub record Tells (sheet : List ℕ) (old new : Pen) (r : Result ℕ ℕ) : Type 0 where
  pub lines : Writes old (text_of sheet).lines new
  pub at : end_at r ≡ (text_of sheet).at
  pub whole : is_whole r ≡ (text_of sheet).whole
