-- The numbers of refusal of the calls that take the index: the engine's, with 1 for its length, and 11 after all others.
use Rattle.std.specs.Prelude.{ℕ, Bool, cond, ◌&&◌, ◌||◌, not, List, eqb, length}
use Rattle.turn.specs.declared.Worker.{Worker}
use Rattle.turn.specs.Worker.{no_slot}
use Rattle.turn.specs.Bucket.{cell, mark_cell}
use Rattle.engine.specs.declared.Floor.{Floor}
use Rattle.engine.specs.Board.{bucket_of}
use Rattle.engine.specs.Refusals.{wrong_floor, bucket_for, open_number, each_number, turn_number, retire_number, run_refusal}
use Rattle.engine.specs.Move.{move_number}
use Rattle.hall.specs.Index.{index_words, untrue}

-- §6.1: an index that has not five words
abbrev pub wrong_index : ℕ → Bool
wrong_index entries = not (eqb entries index_words)

-- §7.2: an opening's number
unfoldable pub hall_open_number : Floor → List ℕ → List ℕ → ℕ → ℕ
hall_open_number f board index listed = cond (wrong_index (length index)) 1 (open_number f board listed)

-- §7.2: a number of refusal, or 0, and after it 11
abbrev pub untrue_after : ℕ → Bool → ℕ
untrue_after number is = cond (eqb number 0) (cond is 11 0) number

-- §21.5: whether the index does not tell what the bucket of a worker's lot does
abbrev pub untrue_for : Floor → List ℕ → List ℕ → Worker → Bool
untrue_for f board index w = untrue f.buckets index (bucket_of w.key f.buckets) (cell (bucket_for f board w.key) mark_cell)

-- §6.11, §7.2: the number of a turn in a run, where the sizes are right
unfoldable pub hall_each_number : Floor → List ℕ → List ℕ → ℕ → Worker → ℕ
hall_each_number f board index i w = untrue_after (each_number f board i w) (untrue_for f board index w)

-- §6.11, §7.2: a turn's number
unfoldable pub hall_turn_number : Floor → List ℕ → List ℕ → ℕ → ℕ → Worker → ℕ
hall_turn_number f board index listed i w =
    cond (wrong_index (length index)) 1 (untrue_after (turn_number f board listed i w) (untrue_for f board index w))

-- §19.3: whether the retiring of a worker touches the bucket of its lot
abbrev pub touches : Worker → Bool
touches w = not (eqb w.held no_slot)

-- §19.3, §21.5: the same, if it touches the bucket
abbrev pub untrue_if_held : Floor → List ℕ → List ℕ → Worker → Bool
untrue_if_held f board index w = touches w && untrue_for f board index w

-- §6.11, §7.2: a retiring's number
unfoldable pub hall_retire_number : Floor → List ℕ → List ℕ → ℕ → ℕ → Worker → ℕ
hall_retire_number f board index listed i w =
    cond (wrong_index (length index)) 1 (untrue_after (retire_number f board listed i w) (untrue_if_held f board index w))

-- §7.2: a run's number as a whole, by the lengths of the board, the list, the index and the run
abbrev pub hall_run_refusal : Floor → ℕ → ℕ → ℕ → ℕ → ℕ
hall_run_refusal f words listed entries count = cond (wrong_index entries) 1 (run_refusal f words listed count)

-- §7.2: a run's number as a whole
unfoldable pub hall_run_number : Floor → List ℕ → List ℕ → ℕ → List ℕ → ℕ
hall_run_number f board index listed turns = hall_run_refusal f (length board) listed (length index) (length turns)

-- §7.2: a move's number, where the records give it this one, or 0
unfoldable pub hall_move_number : Floor → List ℕ → List ℕ → ℕ → ℕ → ℕ → List ℕ → ℕ
hall_move_number f old index listed rest n board = cond (wrong_index (length index)) 1 (move_number f old listed rest n board)

-- §7.2: the number of a question
unfoldable pub question_number : Floor → List ℕ → List ℕ → ℕ
question_number f board index = cond (wrong_index (length index) || wrong_floor f board) 1 0
