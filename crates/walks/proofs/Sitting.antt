-- A small class that is not broken: what is known of it, that every busy worker of it has its turn, and that a turn leaves such a class.
-- Assumes nothing.
use Prim.Native.Nat.{ℕ, ◌%◌, ◌≤◌, ◌<◌}
use mathlib.Core.Bool.{false}
use mathlib.Core.Path.{◌≡◌, ◌∙◌}
use mathlib.Core.List.{List, append-nil}
use native.Mathlib.Decide.{ℕ_discrete}
use native.Mathlib.Omega.{arith}
use lib.ListN.{length, drop_of_length-le}
use lib.Seq.{take_all}
use Rattle.turn.specs.declared.Worker.{Worker}
use Rattle.turn.specs.Worker.{broken}
use Rattle.turn.specs.Asleep.{awake}
use Rattle.turn.specs.Places.{turn}
use Rattle.turn.proofs.Sound.{Whole, whole_not_broken, Accepted, not_broken}
use Rattle.turn.proofs.Kept.{turn_whole, turn_sound}
use Rattle.turn.proofs.Asleep.{awake_accepted, slept_broken}
use Rattle.engine.specs.declared.Floor.{Floor}
use Rattle.engine.specs.Board.{bucket_at, with_bucket}
use Rattle.engine.specs.Refusals.{bucket_for, each_number, wrong_sizes}
use Rattle.engine.specs.Calls.{record_in, after_turn}
use Rattle.engine.proofs.Sizes.{sizes_right}
use Rattle.engine.proofs.Keeps.{each_unrefused}
use Rattle.engine.proofs.Sleeping.{after_long, own_after, other_after}
use Rattle.walks.specs.Orders.{Busy}

-- one bucket, which is whole, and a record for each worker, none of them broken
pub record Sitting (f : Floor) (board : List ℕ) (records : List Worker) : Type 0 where
  pub one : f.buckets ≡ 1
  pub whole : Whole board
  pub listed : length records ≡ f.workers
  pub some : 1 ≤ f.workers
  pub few : f.workers ≤ 64
  pub sound : (i : ℕ) → i < length records → broken (record_in records i) ≡ false

-- ---- the only bucket

-- every lot goes to it
pub only_bucket : (f : Floor) (lot : ℕ) → f.buckets ≡ 1 → lot % f.buckets ≡ 0
only_bucket f lot one = rw one (omega arith)

-- it is the board
pub bucket_is_board : (board : List ℕ) → length board ≡ 8 → bucket_at board 0 ≡ board
bucket_is_board board eight = take_all 8 board (omega arith)

-- and what is put in its place is the board then
pub board_is_bucket : (board words : List ℕ) → length board ≡ 8 → with_bucket board 0 words ≡ words
board_is_bucket board words eight = rw (drop_of_length-le board {i = 8} (omega arith)) (append-nil words)

module _ {f : Floor} {board : List ℕ} {records : List Worker} (g : Sitting f board records) where
  -- the bucket of every lot is the board
  pub own_bucket_lem : (lot : ℕ) → bucket_for f board lot ≡ board
  own_bucket_lem lot = rw (only_bucket f lot g.one) (bucket_is_board board g.whole.eight)

  -- sizes are right
  pub sitting_right : wrong_sizes f board (length records) ≡ false
  sitting_right =
      sizes_right f board (length records)
      (record {
        some_worker = g.some;
        workers = g.few;
        some_bucket = omega (arith, g.one);
        buckets = omega (arith, g.one);
        words = (let eight = g.whole.eight in let one = g.one in omega arith);
      })
      g.listed

  module _ {i : ℕ} (b : Busy records i) where
    abbrev w : Worker
    w = record_in records i

    -- a busy worker's turn is accepted on the board
    pub busy_accepted : Accepted board w
    busy_accepted =
        record { sound = not_broken w (g.sound i b.listed) b.busy; whole = g.whole; busy = b.busy }

    -- it has no number of refusal
    pub busy_unrefused : each_number f board i w ≡ 0
    busy_unrefused =
        let there : i < f.workers = omega (arith, g.listed, b.listed) in
        each_unrefused f board i w there (g.sound i b.listed) b.busy (rw (own_bucket_lem w.key) (whole_not_broken board g.whole))

    -- who has it is awake
    up : Accepted board (awake w)
    up = awake_accepted board w busy_accepted

    abbrev left : Worker
    left = (turn board (awake w)).stepped.worker

    sound_after : (j : ℕ) → j < length records → Dec (j ≡ i) → broken (record_in (after_turn records i left) j) ≡ false
    sound_after j low (yes is) = rw (is, own_after records i left b.listed) (turn_sound board (awake w) up)
    sound_after j low (no isnot) = rw (other_after records i left j isnot, slept_broken (record_in records j)) (g.sound j low)

    -- the turn leaves such a class
    pub turn_sits : Sitting f (turn board (awake w)).bucket (after_turn records i left)
    turn_sits =
        record {
          one = g.one;
          whole = turn_whole board (awake w) up;
          listed = after_long records i left ∙ g.listed;
          some = g.some;
          few = g.few;
          sound = λ j low. sound_after j (rw (after_long records i left) at low) (ℕ_discrete j i);
        }
