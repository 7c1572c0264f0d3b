-- What the code keeps of a line that it has read, till it is written.
use Rattle.std.specs.Prelude.{ℕ, ◌+◌, ◌≤◌, min, Bool, cond, ◌≡◌, List, [], length, eqb}
use Rattle.turn.specs.Worker.{insert_kind}
use Rattle.schedule.specs.declared.Entry.{Entry}
use Rattle.schedule.specs.declared.Entry.TheVariants.{Floor, Call, Turns}
use Rattle.schedule.specs.declared.Word.{Word}
use Rattle.schedule.specs.Tokens.{Got}
use Rattle.schedule.specs.Bytes.{floor_bytes, call_bytes, turns_bytes}
use Rattle.schedule.specs.Reading.{Line, wrong, turns_from}
use Rattle.schedule.specs.Promises.{Reaches}

-- the bytes that an entry is written in
abbrev pub entry_bytes : List ℕ → Entry → List ℕ
entry_bytes text (Floor p) = floor_bytes p
entry_bytes text (Call c long) = call_bytes c long
entry_bytes text (Turns from count) = turns_bytes (turns_from (length text) text from).bytes

-- how many bytes a call takes
abbrev pub call_size : ℕ → Bool → ℕ
call_size kind long = cond (eqb kind insert_kind) (cond long 21 17) 13

-- how many bytes an entry takes
abbrev pub entry_size : Entry → ℕ
entry_size (Floor p) = 10
entry_size (Call c long) = call_size c.kind long
entry_size (Turns from count) = 3 + count

-- turns that are right, as many as were counted and no more than a sheet holds
abbrev pub Counts : List ℕ → Entry → Type 0
Counts text (Floor p) = Unit {0}
Counts text (Call c long) = Unit {0}
Counts text (Turns from count) =
    ((turns_from (length text) text from).what ≡ 0) × (length (turns_from (length text) text from).bytes ≡ count) × (count ≤ 16384)

-- what a line says, the place behind it, and 0; or the place where something else stands, and the number of what is expected there
pub record Said : Type 0 where
  pub entry : Entry
  pub at : ℕ
  pub what : ℕ

-- what was read, as a part of the text
abbrev pub said_line : List ℕ → Said → Line
said_line text s = record { bytes = cond (eqb s.what 0) (entry_bytes text s.entry) []; at = s.at; what = s.what }

-- something else stood there
abbrev pub nothing : ℕ → ℕ → Said
nothing at what = record { entry = Floor (record { workers = 0; buckets = 0; version = 0 }); at = at; what = what }

-- a part of a text was read from a place on
pub record Says (text : List ℕ) (from : ℕ) (l : Line) (r : Said) : Type 0 where
  pub is : said_line text r ≡ l
  pub counts : Counts text r.entry
  pub reach : Reaches text from r.at

-- a line was read, whose first word is this one; where it is right, to a place behind that
pub record LineSaid (text : List ℕ) (w : Word) (l : Line) (r : Said) : Type 0 where
  pub is : said_line text r ≡ l
  pub counts : Counts text r.entry
  pub reach : r.what ≡ 0 → Reaches text w.end r.at

-- turns were counted: as many as they are, or more than a sheet holds where they are more
pub record Tallies (text : List ℕ) (from : ℕ) (all : Line) (r : Got) : Type 0 where
  pub at : r.at ≡ all.at
  pub what : r.what ≡ all.what
  pub stops : (r.what ≡ 0 → ⊥) → wrong r.at r.what ≡ all
  pub tally : min r.value 16385 ≡ min (length all.bytes) 16385
  pub reach : Reaches text from r.at
