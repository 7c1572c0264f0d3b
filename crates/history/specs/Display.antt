-- What the hall display is told on an opened board (§21). That it is so wherever a stretch can begin, after every list of calls, is
-- `displays`, in proofs/Display.
use Rattle.std.specs.Prelude.{ℕ, true, false, List, ◌≡◌, length}
use Rattle.engine.specs.Calls.{Lots}
use Rattle.engine.specs.Board.{lots_on}
use Rattle.engine.specs.Calls.{count_call}
use Rattle.hall.specs.Totalled.{Slots}
use Rattle.hall.specs.Next.{Nowhere, Bucket}
use Rattle.hall.specs.Refusals.{hall_turn_number, hall_retire_number}
use Rattle.hall.specs.Calls.{total_call, next_call}
use Rattle.hall.specs.Reading.{Reads, occupied_at, next_on, IsNext}
use Rattle.floor.specs.declared.NextOutcome.{NextOutcome}
use Rattle.history.specs.History.{State, Call, listed_of, run_of, buckets_of, state}

-- §14.9, §21.4: what C is told of the next occupied bucket says which it is, or that there is none
pub record NextTells (board : List ℕ) (n from : ℕ) (x : NextOutcome) : Type 0 where
  pub accepted : x.refusal ≡ 0
  pub some : x.found ≡ true → IsNext (occupied_at board) n from (Bucket x.bucket)
  pub none : x.found ≡ false → IsNext (occupied_at board) n from Nowhere

module _ (first : State) (calls : List Call) where
  abbrev s : State
  s = state first calls

  -- N
  abbrev n : ℕ
  n = buckets_of first

  pub record Displays : Type 0 where
    -- §21.1: the index is the full reading of the board: the number of valid slots, a bit for each bucket that has one, and no other
    pub reads : Reads s.board n s.index
    -- §21.3: the total is the number of valid slots
    pub total : total_call s.board s.index s.floor ≡ Slots (lots_on s.board n)
    -- which is what a count tells
    pub counted : count_call s.board s.floor ≡ Lots (lots_on s.board n)
    -- §21.4: the next occupied bucket is the one that a walk over the board comes to
    pub next : (from : ℕ) → next_call s.board s.index s.floor from ≡ next_on s.board n from
    -- that is, the first that has a valid slot, or none
    pub is_next : (from : ℕ) → IsNext (occupied_at s.board) n from (next_call s.board s.index s.floor from)
    -- §21.5: no turn and no retiring is refused by 11, and no run stops by it
    pub turns : (i : ℕ) → hall_turn_number s.floor s.board s.index (length s.records) i (listed_of s i) ≡ 11 → ⊥
    pub retirings : (i : ℕ) → hall_retire_number s.floor s.board s.index (length s.records) i (listed_of s i) ≡ 11 → ⊥
    pub runs : (turns : List ℕ) → (run_of s turns).handed.stop ≡ 11 → ⊥
