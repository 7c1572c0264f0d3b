-- What the buffer must hold. No public function asks for anything; these are what the private ones ask of their callers.
use Rattle.std.specs.Prelude.{ℕ, ◌+◌, ◌*◌, ◌-◌, ◌/◌, ◌≤◌, cond, ◌≡◌, List, [], ◌∷◌, length, drop, replicate}
use Rattle.turn.specs.declared.Worker.{Worker}
use Rattle.turn.specs.declared.Progress.{Progress}
use Rattle.turn.specs.declared.Progress.TheVariants.{GoesOn, Ended}
use Rattle.turn.specs.Worker.{idle, is_idle}
use Rattle.engine.specs.Room.{Few}
use Rattle.sheet.specs.declared.Found.{Found}
use Rattle.sheet.specs.Fields.{Whole, read_field}
use Rattle.sheet.specs.Play.{Desk}

-- §6.9: the most bytes that a sheet may have
abbrev pub limit : ℕ
limit = 16384

-- the most that a listing takes: an E line of 37 bytes for each 13 bytes of the sheet, and a last line of 26. A call has one E line, and takes
-- 13 bytes of the sheet at least: a look's field or a remove's does, an insert's takes 17 or 21. In an E line there are at most 5 digits for
-- the turn, 3 for the worker, 3 for the kind and 20 for the answer, a ticket of 64 bits too, with E, four spaces and the line feed
abbrev pub longest : ℕ
longest = 37 * limit / 13 + 26

-- the number of workers that are at a call
unfoldable pub busy : List Worker → ℕ
busy [] = 0
busy (w ∷ ws) = cond (is_idle w) 0 1 + busy ws

-- what is written, and an E line of at most 37 bytes for each call that may still end
abbrev pub due : Desk → ℕ → ℕ
due d written = written + 37 * busy d.records

-- what a turn may write
abbrev pub ended_room : Progress → ℕ
ended_room GoesOn = 0
ended_room (Ended answer) = 37

-- of a desk's 64 records those from a number on are idle
abbrev pub IdleFrom : ℕ → List Worker → Type 0
IdleFrom n ws = drop n ws ≡ replicate (64 - n) idle

-- a desk at which so many turns may have been done: few are counted, and nobody past the floor's workers is busy
pub record Ready (turns : ℕ) (d : Desk) : Type 0 where
  pub few : Few turns d.totals
  pub all : length d.records ≡ 64
  pub past : IdleFrom d.floor.workers d.records

-- a field that was found in a short sheet, and a desk that has no more turns behind it than bytes
pub record FieldFits (sheet : List ℕ) (found : Found) (d : Desk) : Type 0 where
  pub at : ℕ
  pub short : length sheet ≤ limit
  pub read : read_field sheet at ≡ Whole found.field found.next
  pub ready : Ready at d
