-- What the public functions promise (§12.1), the program's `listed`, and of the private ones those whose promise has several parts.
use Rattle.std.specs.Prelude.{ℕ, ◌+◌, ◌≤◌, ◌≡◌, Result, Ok, Err, List, length}
use Rattle.turn.specs.declared.Worker.{Worker}
use Rattle.turn.specs.Number.{number}
use Rattle.turn.specs.Turn.{after}
use Rattle.engine.specs.declared.Floor.{Floor}
use Rattle.pen.specs.declared.Pen.{Pen}
use Rattle.pen.specs.Written.{Writes}
use Rattle.sheet.specs.declared.Stop.{Stop}
use Rattle.sheet.specs.declared.Played.{Played}
use Rattle.sheet.specs.declared.Stopped.{Stopped}
use Rattle.sheet.specs.Play.{Desk, Outcome}
use Rattle.sheet.specs.Listing.{Told, Ending, told_refusal, told_totals, listed_first, played, words_asked, listing}
use Rattle.sheet.specs.Written.{Wrote}
use Rattle.sheet.specs.Room.{longest}

-- what something at the desk comes to, beside its lines: this board, this desk and this number, refused or not
pub record Comes (o : Outcome) (board : List ℕ) (d : Desk) (number : ℕ) : Type 0 where
  pub words : board ≡ o.left.words
  pub stop : number ≡ o.stop
  pub desk : d ≡ o.left.handed

-- the same with its lines: the pen before and after
pub record Does (o : Outcome) (pen later : Pen) (board : List ℕ) (d : Desk) (number : ℕ) : Type 0 where
  pub lines : Writes pen o.lines later
  pub comes : Comes o board d number

-- the last line of a sheet, and the desk from which it can go on
abbrev pub told_by : Desk → Result Unit Stop → Told
told_by d (Ok done) = told_totals d
told_by d (Err stop) = told_refusal (number stop.why) stop.offset

-- a sheet whose last line is to come: the pen before and after, the board, and what is told with that line; and there is room for all of it
pub record Stands (e : Ending) (pen later : Pen) (board : List ℕ) (t : Told) : Type 0 where
  pub so_far : List ℕ
  pub lines : Writes pen so_far later
  pub same : listed_first so_far (after board t) ≡ e
  pub room : length so_far + length t.lines ≤ longest

-- ---- what a sheet hands back

abbrev pub floor_of : Result Played Stopped → Floor
floor_of (Ok p) = p.floor
floor_of (Err s) = s.floor

abbrev pub records_of : Result Played Stopped → List Worker
records_of (Ok p) = p.records
records_of (Err s) = s.records

abbrev pub written_of : Result Played Stopped → ℕ
written_of (Ok p) = p.written
written_of (Err s) = s.written

-- the number that refused it, or 0
abbrev pub stop_of : Result Played Stopped → ℕ
stop_of (Ok p) = 0
stop_of (Err s) = number s.why

-- what is told was written from a place on: the buffer before and after, and the desk and the number that are handed back with it
pub record Tells (t : Told) (out : List ℕ) (at : ℕ) (later : List ℕ) (r : Result Played Stopped) : Type 0 where
  pub lines : Wrote out at t.lines later (written_of r)
  pub floor : floor_of r ≡ t.desk.floor
  pub records : records_of r ≡ t.desk.records
  pub stop : stop_of r ≡ t.stop

-- what a sheet comes to: the buffer before, and the board, the buffer and what is handed back after
pub record Leaves (e : Ending) (out board later : List ℕ) (r : Result Played Stopped) : Type 0 where
  pub left : board ≡ e.words
  pub tells : Tells e.handed out 0 later r

-- a sheet on a lent board: what it comes to, and no more than the buffer holds
pub record SheetPlayed (sheet board out board' later : List ℕ) (r : Result Played Stopped) : Type 0 where
  pub whole : Leaves (played sheet board) out board' later r
  pub fits : written_of r ≤ longest

-- the listing that a sheet comes to: the buffer before, and the board, the buffer and the length of the listing after
pub record Listed (e : Ending) (out board later : List ℕ) (r : ℕ) : Type 0 where
  pub left : board ≡ e.words
  pub lines : Wrote out 0 e.handed.lines later r

-- a sheet on a lent board: its listing, and no more than the buffer holds
pub record SheetListed (sheet board out board' later : List ℕ) (r : ℕ) : Type 0 where
  pub whole : Listed (played sheet board) out board' later r
  pub fits : r ≤ longest

-- how many words of a board a sheet asks for, and no more than the program has
pub record BoardAsked (sheet : List ℕ) (r : ℕ) : Type 0 where
  pub whole : r ≡ words_asked sheet
  pub fits : r ≤ 2048

-- a sheet on the program's own board: the buffer before and after, and the length of the listing
pub record ListingWritten (sheet out later : List ℕ) (r : ℕ) : Type 0 where
  pub lines : Wrote out 0 (listing sheet) later r
  pub fits : r ≤ longest
