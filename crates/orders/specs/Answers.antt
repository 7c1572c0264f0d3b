-- What the program answers: what all orders comes to from where a sheet leaves the desk, or the sheet's listing where it was refused.
use Rattle.std.specs.Prelude.{ℕ, ◌-◌, ◌≤◌, cond, ◌≡◌, List, length, take, eqb}
use Rattle.sheet.specs.Fields.{byte_at}
use Rattle.sheet.specs.declared.Desk.{Desk}
use Rattle.sheet.specs.Play.{record_of}
use Rattle.sheet.specs.Listing.{Ending, own_play}
use Rattle.sheet.specs.Room.{longest}
use Rattle.sheet.specs.Written.{Wrote}
use Rattle.walks.specs.declared.Class.{Class}
use Rattle.walks.specs.declared.Walks.{Walks}
use Rattle.walks.specs.Calls.{Walked, Refusal, Orders, records_of, orders_call}
use Rattle.turn.specs.Number.{number}
use Rattle.orders.specs.declared.Answer.{Answer as Said}
use Rattle.orders.specs.declared.Answer.TheVariants.{Listing as SaidListing, Refused as SaidRefused, Counts as SaidCounts}

-- §18.7: an answer: the listing's length; the number and the offset of a refusal; or the counts
pub data Answer : Type 0 where
  Listing : ℕ → Answer
  Refused : ℕ → ℕ → Answer
  Counts : Walks → Answer

-- so of the code's, which has the refusal in the place of its number
abbrev pub answer_as : Said → Answer
answer_as (SaidListing long) = Listing long
answer_as (SaidRefused why offset) = Refused (number why) offset
answer_as (SaidCounts walks) = Counts walks

-- the first three records of a desk; its list has a record for each worker
abbrev pub class_at : Desk → Class
class_at d = record { first = record_of d 0; second = record_of d 1; third = record_of d 2; listed = d.floor.workers }

-- §18.7: every order to a depth, from the board and the desk that a sheet leaves
abbrev pub orders_from : List ℕ → Desk → ℕ → Walked
orders_from board d depth = orders_call board d.floor (records_of (class_at d)) d.floor.workers depth

-- §18.7: what all orders answers, and where it refuses the offset with it
abbrev pub answer_of : ℕ → Walked → Answer
answer_of offset (Refusal number) = Refused number offset
answer_of offset (Orders walks) = Counts walks

-- §18.7: the listing, by its length, of a sheet that was refused, and else what all orders answers; the offset is that of the depth's byte,
-- which stands behind the sheet
abbrev pub answer_from : Ending → List ℕ → ℕ → Answer
answer_from e sheet depth =
    cond (eqb e.handed.stop 0)
    (answer_of (length sheet) (orders_from e.words e.handed.desk depth))
    (Listing (length e.handed.lines))

-- the answer for what a sheet comes to: the buffer before, the buffer with its listing after, and the answer
pub record Answered (e : Ending) (sheet : List ℕ) (depth : ℕ) (out later : List ℕ) (r : Said) : Type 0 where
  pub whole : answer_as r ≡ answer_from e sheet depth
  pub lines : Wrote out 0 e.handed.lines later (length e.handed.lines)
  pub fits : length e.handed.lines ≤ longest

-- §18.7: the sheet of an input is all but its last byte
abbrev pub sheet_in : List ℕ → List ℕ
sheet_in input = take (length input - 1) input

-- §18.7: that byte is the depth
abbrev pub depth_in : List ℕ → ℕ
depth_in input = byte_at input (length input - 1)

-- §18.7: WHAT THE PROGRAM ANSWERS for an input
pub record InputAnswered (input out later : List ℕ) (r : Said) : Type 0 where
  pub given : Answered (own_play (sheet_in input)) (sheet_in input) (depth_in input) out later r
