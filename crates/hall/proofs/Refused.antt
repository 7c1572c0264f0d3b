-- §7.1, §11.1: what is refused leaves all as it was, the index too: the call hands back its number with everything as it came. Assumes
-- nothing.
use Prim.Native.Nat.{ℕ}
use mathlib.Core.Path.{◌≡◌}
use mathlib.Core.List.{List}
use borrow.Author.Tests.{ne_eqb}
use Rattle.turn.specs.declared.Worker.{Worker}
use Rattle.turn.specs.Turn.{after, refusing}
use Rattle.turn.specs.Retire.{not_retired}
use Rattle.engine.specs.declared.Floor.{Floor}
use Rattle.engine.specs.declared.Plan.{Plan}
use Rattle.engine.specs.declared.Seat.{Seat}
use Rattle.engine.specs.Calls.{planned, turned, retired, unbegun}
use Rattle.engine.proofs.Refused.{refuses}
use Rattle.hall.specs.Totalled as Totalled
use Rattle.hall.specs.Next as Next
use Rattle.hall.specs.Refusals.{hall_open_number, hall_turn_number, hall_retire_number, hall_run_number, hall_move_number, question_number}
use Rattle.hall.specs.Calls.{hall_open, opened_index, hall_turn, index_left, hall_retire, retired_index, indexed, hall_run, hall_move, moved_index, total_call, next_call}

module _ (board index : List ℕ) (f : Floor) (records : List Worker) (listed : ℕ) where
  -- an opening
  pub hall_open_refused :
      (p : Plan)
      → let number = hall_open_number (planned p) board index listed in
      (number ≡ 0 → ⊥)
      → (hall_open board index f records listed p ≡ after board (record { refusal = number; floor = f; records = records }))
      × (opened_index index number ≡ index)
  unfolding hall_open
  hall_open_refused p some = (refuses _ _ _ some, refuses _ _ _ some)

  -- a run that is refused as a whole
  pub hall_run_refused :
      (turns : List ℕ)
      → (hall_run_number f board index listed turns ≡ 0 → ⊥)
      → hall_run board index f records listed turns ≡ indexed index (unbegun board records (hall_run_number f board index listed turns))
  unfolding hall_run
  hall_run_refused turns = refuses _ _ _

module _ (board index : List ℕ) (s : Seat) (w : Worker) where
  -- a turn
  pub hall_turn_refused :
      let number = hall_turn_number s.floor board index s.listed s.worker w in
      (number ≡ 0 → ⊥)
      → (hall_turn board index s w ≡ after board (refusing number w)) × (index_left index (hall_turn board index s w).handed.answer ≡ index)
  unfolding hall_turn turned
  hall_turn_refused some = (refuses _ _ _ some, rw (ne_eqb _ 0 some))

  -- a retiring
  pub hall_retire_refused :
      let number = hall_retire_number s.floor board index s.listed s.worker w in
      (number ≡ 0 → ⊥)
      → (hall_retire board index s w ≡ after board (not_retired number w)) × (retired_index s.floor board index w number ≡ index)
  unfolding hall_retire retired
  hall_retire_refused some = (refuses _ _ _ some, rw (ne_eqb _ 0 some))

module _ (old board index : List ℕ) (f : Floor) (listed rest n : ℕ) where
  -- a move
  pub hall_move_refused :
      let number = hall_move_number f old index listed rest n board in
      (number ≡ 0 → ⊥)
      → (hall_move old board index f listed rest n ≡ after board (record { floor = f; refusal = number })) × (moved_index index board n number ≡ index)
  unfolding hall_move
  hall_move_refused some = (refuses _ _ _ some, refuses _ _ _ some)

module _ (board index : List ℕ) (f : Floor) where
  -- a total
  pub hall_total_refused : (question_number f board index ≡ 0 → ⊥) → total_call board index f ≡ Totalled.Refusal (question_number f board index)
  unfolding total_call
  hall_total_refused = refuses _ _ _

  -- a next occupied bucket
  pub hall_next_occupied_refused :
      (from : ℕ) → (question_number f board index ≡ 0 → ⊥) → next_call board index f from ≡ Next.Refusal (question_number f board index)
  unfolding next_call
  hall_next_occupied_refused from = refuses _ _ _
