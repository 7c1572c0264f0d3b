-- What is not refused with an index the engine does not refuse, with five words its number is the engine's, and a turn keeps what the engine's does.
-- Assumes nothing.
use Prim.Native.Nat.{ℕ}
use mathlib.Core.Bool.{Bool, false, cond}
use mathlib.Core.List.{List}
use mathlib.Core.Path.{◌≡◌, refl, sym, ap}
use native.Mathlib.Omega.{arith}
use lib.Dec.{eqb}
use lib.ListN.{length}
use borrow.Author.Tests.{eqb-true, not-false}
use Rattle.mark.proofs.Choices.{by_cases, passes}
use Rattle.turn.specs.declared.Worker.{Worker}
use Rattle.turn.specs.Turn.{Answer, Refused, Done, number_of}
use Rattle.engine.specs.declared.Floor.{Floor}
use Rattle.engine.specs.declared.Seat.{Seat}
use Rattle.engine.specs.Refusals.{wrong_sizes, open_number, run_number, each_number, turn_number, retire_number}
use Rattle.engine.specs.Calls.{turned}
use Rattle.turn.proofs.Numbers.{number_told}
use Rattle.engine.proofs.Turns.{own}
use Rattle.engine.proofs.Keeps.{Keeps, each_accepted, turn_accepted, turned_keeps}
use Rattle.hall.specs.Refusals.{wrong_index, untrue_after, untrue_for, untrue_if_held, hall_open_number, hall_each_number, hall_turn_number, hall_retire_number, hall_run_number}
use Rattle.hall.specs.Calls.{hall_turn, index_left}
use Rattle.hall.proofs.Followed.{followed_long}

-- where there is no number at all, there is none before 11
pub after_none : (n : ℕ) (t : Bool) → untrue_after n t ≡ 0 → n ≡ 0
after_none n t = by_cases (λ (x : ℕ). x ≡ 0 → n ≡ 0) (eqb n 0) (cond t 11 0) n (λ is none. eqb-true n 0 is) (λ isnot none. none)

module _ (f : Floor) (board index : List ℕ) (i : ℕ) (w : Worker) where
  -- a turn of a run that is not refused here is none that the engine refuses
  pub each_none : hall_each_number f board index i w ≡ 0 → each_number f board i w ≡ 0
  unfolding hall_each_number
  each_none = after_none (each_number f board i w) (untrue_for f board index w)

  module _ (listed : ℕ) where
    -- nor is a turn call
    pub turn_none : hall_turn_number f board index listed i w ≡ 0 → turn_number f board listed i w ≡ 0
    unfolding hall_turn_number
    turn_none =
        by_cases (λ (x : ℕ). x ≡ 0 → turn_number f board listed i w ≡ 0) (wrong_index (length index)) 1 _
        (λ is some. absurd (omega arith)) (λ isnot. after_none (turn_number f board listed i w) (untrue_for f board index w))

    -- nor a retiring
    pub retire_none : hall_retire_number f board index listed i w ≡ 0 → retire_number f board listed i w ≡ 0
    unfolding hall_retire_number
    retire_none =
        by_cases (λ (x : ℕ). x ≡ 0 → retire_number f board listed i w ≡ 0) (wrong_index (length index)) 1 _
        (λ is some. absurd (omega arith)) (λ isnot. after_none (retire_number f board listed i w) (untrue_if_held f board index w))

-- an opening or a run that is not refused has five words for its index, and is none that the engine refuses
pub open_none :
    (f : Floor) (board index : List ℕ) (listed : ℕ)
    → hall_open_number f board index listed ≡ 0
    → (length index ≡ 5) × (open_number f board listed ≡ 0)
unfolding hall_open_number
open_none f board index listed none =
    let known = passes (wrong_index (length index)) 0 _ none in
    (eqb-true _ _ (not-false _ known.0), known.1)

pub run_none :
    (f : Floor) (board index : List ℕ) (listed : ℕ) (turns : List ℕ)
    → hall_run_number f board index listed turns ≡ 0
    → (length index ≡ 5) × (run_number f board listed turns ≡ 0)
unfolding hall_run_number run_number
run_none f board index listed turns none =
    let known = passes (wrong_index (length index)) 0 _ none in
    (eqb-true _ _ (not-false _ known.0), known.1)

-- and with five words the engine's number is the call's
pub five_open : (f : Floor) (board index : List ℕ) (listed : ℕ) → length index ≡ 5 → hall_open_number f board index listed ≡ open_number f board listed
unfolding hall_open_number
five_open f board index listed is = rw is

pub five_run :
    (f : Floor) (board index : List ℕ) (listed : ℕ) (turns : List ℕ)
    → length index ≡ 5
    → hall_run_number f board index listed turns ≡ run_number f board listed turns
unfolding hall_run_number run_number
five_run f board index listed turns is = rw is

-- the number that a turn's answer tells
pub hall_turn_number_lem :
    (board index : List ℕ) (s : Seat) (w : Worker)
    → number_of (hall_turn board index s w).handed.answer ≡ hall_turn_number s.floor board index s.listed s.worker w
unfolding hall_turn turned
hall_turn_number_lem board index s w = number_told (hall_turn_number s.floor board index s.listed s.worker w) _ board w refl

-- where the sizes are right, the number that a turn has in a run is the call's
pub hall_each_is :
    (f : Floor) (board index : List ℕ) (listed i : ℕ) (w : Worker)
    → wrong_index (length index) ≡ false
    → wrong_sizes f board listed ≡ false
    → hall_turn_number f board index listed i w ≡ hall_each_number f board index i w
unfolding hall_turn_number hall_each_number turn_number
hall_each_is f board index listed i w five right = rw (five, right)

-- and each turn of a run is the turn that the call for one turn does
pub hall_run_turn :
    (board index : List ℕ) (s : Seat) (w : Worker)
    → wrong_sizes s.floor board s.listed ≡ false
    → length index ≡ 5
    → turned (hall_each_number s.floor board index s.worker w) s.floor board w ≡ hall_turn board index s w
unfolding hall_turn
hall_run_turn board index s w right five =
    ap (λ (n : ℕ). turned n s.floor board w) (sym (hall_each_is s.floor board index s.listed s.worker w (rw five) right))

-- a turn keeps what the engine's does
pub hall_turn_keeps : (board index : List ℕ) (s : Seat) (w : Worker) → Keeps board (own s.floor w) w (hall_turn board index s w)
unfolding hall_turn
hall_turn_keeps board index s w =
    turned_keeps s.floor board w _
    (λ none. (turn_accepted s.floor board s.listed s.worker w (turn_none s.floor board index s.worker w s.listed none)).1)

pub hall_each_keeps :
    (f : Floor) (board index : List ℕ) (i : ℕ) (w : Worker) → Keeps board (own f w) w (turned (hall_each_number f board index i w) f board w)
hall_each_keeps f board index i w = turned_keeps f board w _ (λ none. (each_accepted f board i w (each_none f board index i w none)).0)

-- a turn leaves the index as long as it was
pub index_long : (index : List ℕ) (a : Answer) → length (index_left index a) ≡ length index
index_long index (Refused number) = refl
index_long index (Done report) = followed_long index report.bucket report.before report.after
