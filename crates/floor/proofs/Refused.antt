-- A refused call on the list changes nothing, whatever the list's length: the board, the list and the index are as they came. Of an opening and of a
-- run the hall's hall-open-refused and hall-run-refused say it, as they speak of any list. Of a move it is said of every outcome that meets its
-- promise. Assumes nothing.
use Prim.Native.Nat.{ℕ}
use mathlib.Core.Bool.{Bool}
use mathlib.Core.Path.{◌≡◌, ap, ◌∙◌}
use mathlib.Core.List.{List}
use lib.Dec.{eqb}
use lib.ListN.{length}
use lib.Seq.{set-get_or}
use Rattle.mark.proofs.Choices.{by_cases}
use Rattle.turn.specs.declared.Worker.{Worker}
use Rattle.turn.specs.Turn.{Refused, After, after}
use Rattle.engine.specs.declared.Floor.{Floor}
use Rattle.engine.specs.declared.Moved.{Moved}
use Rattle.engine.specs.Refusals.{start_number}
use Rattle.engine.specs.Calls.{blank, record_in, seat_in, start_call}
use Rattle.engine.specs.Move.{rest_number, moved_by}
use Rattle.engine.proofs.Refused as engine
use Rattle.hall.specs.Refusals.{hall_turn_number, hall_retire_number, hall_move_number}
use Rattle.hall.specs.Calls.{hall_turn, index_left, retired_index, hall_move}
use Rattle.floor.specs.declared.Outcome.{Outcome}
use Rattle.floor.specs.Told.{turn_told}
use Rattle.floor.specs.Calls.{on_list, start_in, turn_in, retire_in}
use Rattle.floor.specs.Promises.{MoveLeft}
use Rattle.hall.proofs.Refused.{hall_turn_refused, hall_retire_refused}

module _ (board : List ℕ) (records : List Worker) (f : Floor) (i : ℕ) where
  -- a look, an insert and a remove, each a start that may be late
  pub desk_start_refused :
      (late : Bool) (new : Worker) (g : Floor)
      → let number = start_number f board (length records) i (record_in records i) late in
      (number ≡ 0 → ⊥)
      → start_in (λ s w. start_call board s w late new g) records f i ≡ on_list records (record { refusal = number; floor = f })
  desk_start_refused late new g some =
      rw (engine.start_refused board (seat_in f records i) (record_in records i) late new g some, set-get_or records i blank)

module _ (board : List ℕ) (records : List Worker) (index : List ℕ) (f : Floor) (i : ℕ) where
  -- a turn
  pub desk_turn_refused :
      let number = hall_turn_number f board index (length records) i (record_in records i) in
      (number ≡ 0 → ⊥)
      → (turn_in board records index f i ≡ after board (on_list records (turn_told (Refused number))))
      × (index_left index (hall_turn board index (seat_in f records i) (record_in records i)).handed.answer ≡ index)
  desk_turn_refused some =
      let left = hall_turn_refused board index (seat_in f records i) (record_in records i) some in
      (rw left.0, left.1)

  -- a retiring
  pub desk_retire_refused :
      let number = hall_retire_number f board index (length records) i (record_in records i) in
      (number ≡ 0 → ⊥)
      → (retire_in board records index f i ≡ after board (on_list records number)) × (retired_index f board index (record_in records i) number ≡ index)
  desk_retire_refused some =
      let left = hall_retire_refused board index (seat_in f records i) (record_in records i) some in
      (rw (left.0, set-get_or records i blank), left.1)

-- a move that hands back a number: board and index are as they came, and so is the floor
module _ (old board : List ℕ) (f : Floor) (n : ℕ) where
  moved_refused :
      (number : ℕ) (board' : List ℕ) (m : Moved)
      → after board' m ≡ moved_by number old f n board
      → (m.refusal ≡ 0 → ⊥)
      → (board' ≡ board) × (m.floor ≡ f)
  moved_refused number board' m =
      by_cases (λ (x : After Moved). after board' m ≡ x → (m.refusal ≡ 0 → ⊥) → (board' ≡ board) × (m.floor ≡ f)) (eqb number 0) _ _
      (λ is e some. absurd (some (ap (λ (x : After Moved). x.handed.refusal) e)))
      (λ isnot e some. (ap (λ (x : After Moved). x.words) e, ap (λ (x : After Moved). x.handed.floor) e))

  pub desk_move_refused :
      (records : List Worker) (index board' index' : List ℕ) (r : Outcome)
      → MoveLeft old board records index f n board' index' r
      → (r.refusal ≡ 0 → ⊥)
      → (board' ≡ board) × (index' ≡ index) × (r.floor ≡ f)
  unfolding hall_move
  desk_move_refused records index board' index' r left some =
      let kept = moved_refused (hall_move_number f old index (length records) (rest_number records) n board) board' _ left.whole some in
      (kept.0, left.kept ∙ engine.refuses _ _ _ some, kept.1)
