-- Where the index is the full reading of the board, the calls that take it are the engine's. Assumes nothing.
use Prim.Native.Nat.{ℕ}
use mathlib.Core.Bool.{Bool, true, false, cond, and-false}
use mathlib.Core.List.{List, [], ◌∷◌}
use mathlib.Core.Path.{◌≡◌, refl, ap}
use native.Mathlib.Nat.{mod-lt}
use lib.Dec.{eqb}
use lib.ListN.{length}
use borrow.Author.Tests.{eqb-true}
use Rattle.mark.proofs.Choices.{passes}
use Rattle.turn.specs.declared.Worker.{Worker}
use Rattle.turn.specs.Turn.{Answer, Refused, Done, Turned, After}
use Rattle.engine.specs.declared.Floor.{Floor}
use Rattle.engine.specs.declared.Seat.{Seat}
use Rattle.engine.specs.Room.{Right}
use Rattle.engine.specs.Refusals.{wrong_listed, wrong_sizes, run_number, each_number, turn_number, retire_number}
use Rattle.engine.specs.Calls.{Ran, turned, turn_call, retired, retire_call, unbegun, record_in, go_on, run_from, run_call}
use Rattle.engine.proofs.Sizes.{right_sizes, fits_still}
use Rattle.engine.proofs.Turns.{own}
use Rattle.engine.proofs.Keeps.{each_accepted, turn_accepted, each_keeps}
use Rattle.engine.proofs.Retiring.{retire_accepted}
use Rattle.hall.specs.Refusals.{wrong_index, untrue_for, touches, untrue_if_held, hall_each_number, hall_turn_number, hall_retire_number}
use Rattle.hall.specs.Calls.{hall_turn, index_left, hall_retire, indexed, hall_go_on, hall_run_from, hall_run}
use Rattle.hall.specs.Reading.{Reads}
use Rattle.hall.proofs.Reading.{reads_true}
use Rattle.hall.proofs.Kept.{reads_turned}
use Rattle.hall.proofs.Numbers.{after_same}
use Rattle.hall.proofs.Plain.{five_run}

module _ (f : Floor) {board index : List ℕ} (reads : Reads board f.buckets index) where
  -- where floor and board fit together, the index is true for the bucket of any lot
  pub true_for : (w : Worker) → Right f board → untrue_for f board index w ≡ false
  true_for w fits = reads_true reads (own f w) (mod-lt w.key fits.some_bucket)

  five : wrong_index (length index) ≡ false
  five = rw reads.five

  pub each_same : (i : ℕ) (w : Worker) → Right f board → hall_each_number f board index i w ≡ each_number f board i w
  unfolding hall_each_number
  each_same i w fits = after_same (each_number f board i w) (untrue_for f board index w) (λ none. true_for w fits)

  pub turn_same_number : (listed i : ℕ) (w : Worker) → hall_turn_number f board index listed i w ≡ turn_number f board listed i w
  unfolding hall_turn_number
  turn_same_number listed i w =
      rw five (after_same (turn_number f board listed i w) (untrue_for f board index w) (λ none. true_for w (turn_accepted f board listed i w none).0))

  pub retire_same_number : (listed i : ℕ) (w : Worker) → hall_retire_number f board index listed i w ≡ retire_number f board listed i w
  unfolding hall_retire_number
  retire_same_number listed i w =
      rw five
      (after_same (retire_number f board listed i w) (untrue_if_held f board index w)
      (λ none. rw (true_for w (retire_accepted f board listed i w none).0) (and-false (touches w))))

-- a turn is the engine's
pub turn_same :
    {board index : List ℕ} (s : Seat) → Reads board s.floor.buckets index → (w : Worker) → hall_turn board index s w ≡ turn_call board s w
unfolding hall_turn turn_call
turn_same {board} s reads w = ap (λ (n : ℕ). turned n s.floor board w) (turn_same_number s.floor reads s.listed s.worker w)

-- a retiring is the engine's
pub retire_same :
    {board index : List ℕ} (s : Seat) → Reads board s.floor.buckets index → (w : Worker) → hall_retire board index s w ≡ retire_call board s w
unfolding hall_retire retire_call
retire_same {board} s reads w = ap (λ (n : ℕ). retired n s.floor board w) (retire_same_number s.floor reads s.listed s.worker w)

-- a run that is not refused as a whole is on a board that fits the floor
run_fits : (f : Floor) (board : List ℕ) (listed : ℕ) (turns : List ℕ) → run_number f board listed turns ≡ 0 → Right f board
unfolding run_number wrong_sizes
run_fits f board listed turns none = right_sizes f board listed (passes (wrong_listed f (length board) listed) 0 _ none).0

-- turns one after another are the engine's
run_from_same :
    (f : Floor) (turns index : List ℕ) (x : After Ran)
    → Right f x.words
    → Reads x.words f.buckets index
    → (hall_run_from f turns (indexed index x)).left ≡ run_from f turns x
unfolding hall_run_from run_from
run_from_same f [] index x fits reads = refl
run_from_same f (t ∷ turns) index x fits reads =
    let w = record_in x.handed.records t in
    let board = x.words in
    let same = each_same f reads t w fits in
    let keeps = each_keeps f board w t in
    rw same
    (goes (turned (each_number f board t w) f board w)
    (fits_still f board _ fits keeps.long)
    (reads_turned f board index w reads _ (λ none. (fits, (each_accepted f board t w none).0)))
    (λ later y still reads. run_from_same f turns later y still reads) _)
  where
    goes :
        (y : After Turned)
        → Right f y.words
        → Reads y.words f.buckets (index_left index y.handed.answer)
        → ((later : List ℕ) (z : After Ran) → Right f z.words → Reads z.words f.buckets later
        → (hall_run_from f turns (indexed later z)).left ≡ run_from f turns z)
        → (place : ℕ)
        → (hall_go_on (hall_run_from f turns) t place y.words index y.handed.worker y.handed.answer x.handed).left
        ≡ go_on (run_from f turns) (λ z. z) t place y.words y.handed.worker y.handed.answer x.handed
    goes y fits reads rest place = by y.handed.answer reads
      where
        by :
            (a : Answer)
            → Reads y.words f.buckets (index_left index a)
            → (hall_go_on (hall_run_from f turns) t place y.words index y.handed.worker a x.handed).left
            ≡ go_on (run_from f turns) (λ z. z) t place y.words y.handed.worker a x.handed
        by (Refused number) reads = refl
        by (Done report) reads = rest _ _ fits reads

-- and so is a run
pub run_same :
    {board index : List ℕ} (f : Floor) (records : List Worker) (turns : List ℕ)
    → Reads board f.buckets index
    → (hall_run board index f records (length records) turns).left ≡ run_call board f records (length records) turns
unfolding hall_run run_call
run_same {board} {index} f records turns reads =
    rw (five_run f board index (length records) turns reads.five) (by (eqb number 0) refl)
  where
    number : ℕ
    number = run_number f board (length records) turns

    by :
        (t : Bool)
        → eqb number 0 ≡ t
        → (cond t (hall_run_from f turns (indexed index (unbegun board records 0))) (indexed index (unbegun board records number))).left
        ≡ cond t (run_from f turns (unbegun board records 0)) (unbegun board records number)
    by true is = run_from_same f turns index (unbegun board records 0) (run_fits f board (length records) turns (eqb-true number 0 is)) reads
    by false isnot = refl
