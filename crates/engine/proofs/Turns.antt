-- A turn on the lent part of the board is the call's turn on the board. Assumes nothing.
use Prim.Native.Nat.{ℕ, ◌+◌, ◌-◌, ◌*◌}
use mathlib.Core.Bool.{Bool, true, false, cond}
use mathlib.Core.Path.{◌≡◌, refl, ap, ◌∙◌}
use mathlib.Core.List.{List, ◌++◌}
use lib.Dec.{eqb}
use lib.ListN.{take, drop}
use Rattle.turn.specs.declared.Worker.{Worker}
use Rattle.turn.specs.Turn.{Tried}
use Rattle.turn.specs.Turn.{Turned, After, after, refusing, refused, done, try_turn, turn_refusal, answered}
use Rattle.turn.specs.Asleep.{awake}
use Rattle.turn.specs.Places.{Step, turn}
use Rattle.engine.specs.declared.Floor.{Floor}
use Rattle.engine.specs.Board.{bucket_of, bucket_at, with_bucket}
use Rattle.engine.specs.Refusals.{bucket_for}
use Rattle.engine.specs.Calls.{report_on, tried, turned, turn_done}
use Rattle.engine.proofs.Parts.{part_at, put_at, put_same}

-- the number of the bucket of a worker's lot
abbrev pub own : Floor → Worker → ℕ
own f w = bucket_of w.key f.buckets

-- what a turn on a bucket comes to on the board
abbrev pub on_board : List ℕ → ℕ → After Tried → After Tried
on_board board b o = after (with_bucket board b o.words) o.handed

module _ (f : Floor) (board : List ℕ) (w : Worker) where
  -- the number of refusal that the bucket and the record give
  abbrev pub number : ℕ
  number = turn_refusal (bucket_for f board w.key) w

  abbrev bucket : List ℕ
  bucket = bucket_at board (own f w)

  -- a turn that is done on the worker's bucket, as it is tried
  abbrev there : Tried
  there = done (turn bucket (awake w)).stepped.worker (report_on f board w (turn bucket (awake w))) w.place

  both :
      (t : Bool)
      → on_board board (own f w) (cond t (after (turn bucket (awake w)).bucket there) (after bucket (refused number w)))
      ≡ cond t (after (turn_done f board w (turn bucket (awake w))).words there) (after board (refused number w))
  both true = refl
  both false = ap (λ (l : List ℕ). after l (refused number w)) (put_same board (own f w))

  try_on_board : on_board board (own f w) (try_turn (own f w) bucket w) ≡ tried number f board w
  unfolding try_turn tried
  try_on_board = both (eqb number 0)

  -- the part is lent from the bucket's first word on, and comes back with what the turn left there
  pub turn_on :
      (b : ℕ) (p : List ℕ) (r : Tried)
      → b ≡ own f w
      → let at = 8 * b in
      after p r ≡ try_turn b (take (at + 8 - at) (drop at board)) w
      → after (take at board ++ (p ++ drop (at + 8 - at) (drop at board))) r ≡ tried number f board w
  turn_on b p r is e =
      ap (λ (l : List ℕ). after l r) (put_at board (8 * b) (own f w) (ap (λ n. 8 * n) is) p)
      ∙ ap (on_board board (own f w)) (e ∙ ap (λ (l : List ℕ). try_turn b l w) (part_at board (8 * b) (own f w) (ap (λ n. 8 * n) is))
      ∙ ap (λ n. try_turn n bucket w) is)
      ∙ try_on_board

-- a turn that is refused by a number, as the code has it
pub refused_tried :
    (n : ℕ) (f : Floor) (board : List ℕ) (w : Worker) (r : Tried) → eqb n 0 ≡ false → r ≡ refused n w → after board r ≡ tried n f board w
unfolding tried
refused_tried n f board w r some is = rw (some, is)

-- a turn that was tried, with its answer
abbrev pub answering : After Tried → After Turned
answering x = after x.words (answered x.handed)

-- what was tried is the call's turn
module _ (n : ℕ) (f : Floor) (board : List ℕ) (w : Worker) where
  abbrev step : Step
  step = turn (bucket_for f board w.key) (awake w)

  either_way :
      (t : Bool)
      → eqb n 0 ≡ t
      → answering (cond t (after (turn_done f board w step).words (there f board w)) (after board (refused n w)))
      ≡ cond t (turn_done f board w step) (after board (refusing n w))
  either_way true is = refl
  either_way false isnot = rw isnot

  pub tried_is_turned : answering (tried n f board w) ≡ turned n f board w
  unfolding tried turned
  tried_is_turned = either_way (eqb n 0) refl
