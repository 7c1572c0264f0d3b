-- Moves are accepted, and refused by 1, 12 and 13: small histories with a move, computed. So what is said of moves is not said of nothing.
-- Assumes nothing.
use Prim.Native.Nat.{ℕ}
use mathlib.Core.List.{List, [], ◌∷◌, ◌++◌, map}
use mathlib.Core.Path.{◌≡◌, refl}
use native.Mathlib.Omega.{arith}
use lib.ListN.{length, replicate}
use Rattle.turn.specs.declared.Progress.{Progress}
use Rattle.turn.specs.declared.Progress.TheVariants.{GoesOn, Ended}
use Rattle.turn.specs.Worker.{idle}
use Rattle.engine.specs.Board.{lots_on}
use Rattle.engine.specs.Refusals as Refusals
use Rattle.engine.specs.Calls.{blank}
use Rattle.engine.specs.Board as Board
use Rattle.engine.specs.Move as Move
use Rattle.hall.specs.Refusals as Hall
use Rattle.hall.specs.Calls as HallCalls
use Rattle.history.specs.Trace.{Entry, acted, retired}
use Rattle.history.specs.History.{Opening, Call, look, insert, ticket, opened, state}
use Rattle.history.specs.Trials.{turns_of}
use Rattle.history.specs.Moves.{Lent, calls, moves, move_number_of, state_through, trace_through}
use Rattle.history.specs.Moved.{moved_to}
use Rattle.history.specs.Openings.{Asked, asks, turns_since, since, history_of, turns_in, notes_all, ledger_of}
use Rattle.history.proofs.Reached.{one_worker, computed}

-- what a move is computed by, beside what calls are
unfoldable pub moving : Unit {0}
unfolding
    computed Hall.hall_move_number HallCalls.hall_move HallCalls.fresh_index
    lots_on since notes_all state_through trace_through
    Move.move_number Refusals.any_record Move.lines_on Move.lines_for Board.any_under Move.placed_all
moving = tt

-- lot 7 is put up on ticket 6
abbrev put_up : List Call
put_up = insert 0 7 (ticket 6) ∷ turns_of 0 11 ∷ []

-- a second board of so many buckets, with something on it
abbrev second : ℕ → List ℕ → Lent
second n words = record { words = words; buckets = n }

-- before the move: version 1, slot 0 valid with lot 7 on ticket 6
pub before_move :
    state (opened one_worker) put_up
    ≡ record {
      board = 4294967297 ∷ 7 ∷ 0 ∷ 0 ∷ 6 ∷ 0 ∷ 0 ∷ 0 ∷ [];
      floor = record { workers = 1; buckets = 1; last = 6; version = 0; spare = 0 };
      records = idle ∷ [];
      index = 1 ∷ 1 ∷ 0 ∷ 0 ∷ 0 ∷ [];
    }
unfolding computed
before_move = refl

-- a move to two buckets is accepted: it leaves both at the floor's version, and the lot in the second, whatever stood on the board that was lent
pub record Carries : Type 0 where
  pub accepted : move_number_of (state (opened one_worker) put_up) (second 2 (replicate 16 9)) ≡ 0
  pub leaves :
      moved_to (state (opened one_worker) put_up) (second 2 (replicate 16 9))
      ≡ record {
        board = (0 ∷ replicate 7 0) ++ (4294967296 ∷ 7 ∷ 0 ∷ 0 ∷ 6 ∷ 0 ∷ 0 ∷ 0 ∷ []);
        floor = record { workers = 1; buckets = 2; last = 6; version = 0; spare = 0 };
        records = idle ∷ [];
        index = 1 ∷ 2 ∷ 0 ∷ 0 ∷ 0 ∷ [];
      }
  -- a board of another size is refused, and so is a move while the worker is at a call
  pub wrong_size : move_number_of (state (opened one_worker) put_up) (second 2 (replicate 15 9)) ≡ 1
  pub at_call : move_number_of (state (opened one_worker) (insert 0 7 (ticket 1) ∷ [])) (second 2 (replicate 16 9)) ≡ 12

pub move_carries : Carries
unfolding moving
move_carries = record { accepted = refl; leaves = refl; wrong_size = refl; at_call = refl }

-- the same asked of the library, with a look after the move: it finds the lot on its ticket
abbrev asked_of : List Asked
asked_of =
    asks (calls (insert 0 7 (ticket 6)))
    ∷ asks (calls (turns_of 0 11))
    ∷ asks (moves (second 2 (replicate 16 9)))
    ∷ asks (calls (look 0 7))
    ∷ asks (calls (turns_of 0 4))
    ∷ []

-- what a turn says of its call
abbrev progress_in : Entry → Progress
progress_in (acted e) = e.report.progress
progress_in (retired r) = GoesOn

-- §22.6, §22.7: the history begins with the move, and the ledger goes through it
pub record Begins : Type 0 where
  pub since_move : (history_of one_worker asked_of).calls ≡ look 0 7 ∷ turns_of 0 4 ∷ []
  pub its_turns : map progress_in (turns_since (history_of one_worker asked_of)) ≡ GoesOn ∷ GoesOn ∷ GoesOn ∷ Ended 6 ∷ []
  pub first_lots : lots_on (history_of one_worker asked_of).first.board 2 ≡ 1
  pub all_steps : length (ledger_of one_worker asked_of).steps ≡ 5
  pub all_turns : length (turns_in (ledger_of one_worker asked_of)) ≡ 15

pub move_begins : Begins
unfolding moving
move_begins = record { since_move = refl; its_turns = refl; first_lots = refl; all_steps = refl; all_turns = refl }

-- ---- a bucket that would be crowded

-- one worker and two buckets
unfoldable pub two_buckets : Opening
unfolding Hall.hall_open_number Refusals.open_number Refusals.wrong_sizes
two_buckets =
    record {
      lent =
          record {
            board = replicate 16 1;
            floor = record { workers = 0; buckets = 0; last = 0; version = 0; spare = 0 };
            records = blank ∷ [];
            index = replicate 5 1;
          };
      plan = record { workers = 1; buckets = 2; version = 5 };
      accepted = refl;
      version_fits = omega arith;
    }

-- lots 1, 2, 3 and 4 are put up
abbrev four_lots : List Call
four_lots =
    insert 0 1 (ticket 1)
    ∷ turns_of 0 11
    ∷ insert 0 2 (ticket 2)
    ∷ turns_of 0 11
    ∷ insert 0 3 (ticket 3)
    ∷ turns_of 0 15
    ∷ insert 0 4 (ticket 4)
    ∷ turns_of 0 15
    ∷ []

-- §6.13: there is no room for them in one bucket
pub four_crowd : move_number_of (state (opened two_buckets) four_lots) (second 1 (replicate 8 9)) ≡ 13
unfolding moving two_buckets
four_crowd = refl

-- but in three there is
pub four_spread : move_number_of (state (opened two_buckets) four_lots) (second 3 (replicate 24 9)) ≡ 0
unfolding moving two_buckets
four_spread = refl
