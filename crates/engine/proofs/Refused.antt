-- §7.1, §11.1: what is refused leaves all as it was: the call hands back its number with everything as it came. Assumes nothing.
use Prim.Native.Nat.{ℕ}
use mathlib.Core.Bool.{Bool, cond}
use mathlib.Core.Path.{◌≡◌}
use mathlib.Core.List.{List, []}
use lib.Dec.{eqb}
use borrow.Author.Tests.{ne_eqb}
use Rattle.turn.specs.declared.Worker.{Worker}
use Rattle.turn.specs.Turn.{after, refusing}
use Rattle.turn.specs.Retire.{not_retired}
use Rattle.engine.specs.declared.Floor.{Floor}
use Rattle.engine.specs.declared.Plan.{Plan}
use Rattle.engine.specs.declared.Seat.{Seat}
use Rattle.engine.specs.Calls.{Refusal}
use Rattle.engine.specs.Refusals.{open_number, start_number, turn_number, retire_number, run_number, show_number, count_number}
use Rattle.engine.specs.Move.{move_number, move_call}
use Rattle.engine.specs.Calls.{planned, open_call, start_call, turned, turn_call, retired, retire_call, unbegun, run_call, show_call, count_call}

-- a number other than 0 chooses the refusal
pub refuses : {A : Type 0} (n : ℕ) (accepted refused : A) → (n ≡ 0 → ⊥) → cond (eqb n 0) accepted refused ≡ refused
refuses n accepted refused some = rw (ne_eqb n 0 some)

module _ (board : List ℕ) (f : Floor) (records : List Worker) (listed : ℕ) where
  -- an opening
  pub open_refused :
      (p : Plan)
      → (open_number (planned p) board listed ≡ 0 → ⊥)
      → open_call board f records listed p
      ≡ after board (record { refusal = open_number (planned p) board listed; floor = f; records = records })
  unfolding open_call
  open_refused p = refuses _ _ _

  -- a run that is refused as a whole
  pub run_refused :
      (turns : List ℕ)
      → (run_number f board listed turns ≡ 0 → ⊥)
      → run_call board f records listed turns ≡ unbegun board records (run_number f board listed turns)
  unfolding run_call
  run_refused turns = refuses _ _ _

module _ (board : List ℕ) (s : Seat) (w : Worker) where
  -- a start
  pub start_refused :
      (late : Bool) (new : Worker) (f : Floor)
      → (start_number s.floor board s.listed s.worker w late ≡ 0 → ⊥)
      → start_call board s w late new f
      ≡ record { refusal = start_number s.floor board s.listed s.worker w late; floor = s.floor; worker = w }
  unfolding start_call
  start_refused late new f = refuses _ _ _

  -- a turn
  pub turn_refused :
      (turn_number s.floor board s.listed s.worker w ≡ 0 → ⊥)
      → turn_call board s w ≡ after board (refusing (turn_number s.floor board s.listed s.worker w) w)
  unfolding turn_call turned
  turn_refused = refuses _ _ _

  -- a retiring
  pub retire_refused :
      (retire_number s.floor board s.listed s.worker w ≡ 0 → ⊥)
      → retire_call board s w ≡ after board (not_retired (retire_number s.floor board s.listed s.worker w) w)
  unfolding retire_call retired
  retire_refused = refuses _ _ _

-- a move
pub move_refused :
    (old board : List ℕ) (f : Floor) (listed rest n : ℕ)
    → let number = move_number f old listed rest n board in
    (number ≡ 0 → ⊥)
    → move_call old board f listed rest n ≡ after board (record { floor = f; refusal = number })
unfolding move_call
move_refused old board f listed rest n = refuses _ _ _

module _ (board : List ℕ) (f : Floor) where
  -- a show
  pub show_refused : (lot : ℕ) → (show_number f board lot ≡ 0 → ⊥) → show_call board f lot ≡ []
  unfolding show_call
  show_refused lot = refuses _ _ _

  -- a count
  pub count_refused : (count_number f board ≡ 0 → ⊥) → count_call board f ≡ Refusal (count_number f board)
  unfolding count_call
  count_refused = refuses _ _ _
