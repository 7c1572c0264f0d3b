-- The numbers of refusal: for each call the first that applies, in its order, or 0.
use Rattle.std.specs.Prelude.{ℕ, ◌*◌, Bool, false, cond, ◌&&◌, ◌||◌, not, List, [], ◌∷◌, length, eqb, leb, ltb}
use Rattle.turn.specs.Worker.{is_idle, broken, within}
use Rattle.turn.specs.Bucket.{broken_bucket}
use Rattle.turn.specs.Turn.{turn_refusal}
use Rattle.turn.specs.Retire.{retire_refusal}
use Rattle.turn.specs.declared.Worker.{Worker}
use Rattle.engine.specs.declared.Floor.{Floor}
use Rattle.engine.specs.Board.{bucket_of, bucket_at, any_broken}

-- whether a test holds of one of the records
unfoldable pub any_record : (Worker → Bool) → List Worker → Bool
any_record test [] = false
any_record test (w ∷ ws) = test w || any_record test ws

-- §6.1, §2.1, §2.2: too few or too many workers or buckets, or another number of words than eight for each bucket
abbrev pub wrong_words : Floor → ℕ → Bool
wrong_words f words = not (within 1 64 f.workers && (within 1 256 f.buckets && eqb words (8 * f.buckets)))

-- §6.1, §3.1: sizes that are wrong so, or another number of records than one for each worker
abbrev pub wrong_listed : Floor → ℕ → ℕ → Bool
wrong_listed f words listed = wrong_words f words || not (eqb listed f.workers)

-- §6.1: whether the size of a board is wrong
unfoldable pub wrong_floor : Floor → List ℕ → Bool
wrong_floor f board = wrong_words f (length board)

-- §6.1: whether the sizes of a board and a list are wrong
unfoldable pub wrong_sizes : Floor → List ℕ → ℕ → Bool
wrong_sizes f board listed = wrong_listed f (length board) listed

-- §6.2: there is no worker of this number
abbrev pub no_worker : Floor → ℕ → Bool
no_worker f i = leb f.workers i

-- §6.1, §6.2: 1 for sizes that are wrong, 2 where there is no such worker, or 0
unfoldable pub seat_number : Floor → ℕ → ℕ → ℕ → ℕ
seat_number f words listed i = cond (wrong_listed f words listed) 1 (cond (no_worker f i) 2 0)

-- §3.5, §6.5: a ticket that is not above the last
abbrev pub spent : Floor → ℕ → Bool
spent f ticket = leb ticket f.last

-- §2.4: the bucket of a lot
abbrev pub bucket_for : Floor → List ℕ → ℕ → List ℕ
bucket_for f board lot = bucket_at board (bucket_of lot f.buckets)

-- §7.2: an opening's number
unfoldable pub open_number : Floor → List ℕ → ℕ → ℕ
open_number f board listed = cond (wrong_sizes f board listed) 1 0

-- §6.3, §6.4, §6.5: a start's number by the worker's record; late where it has a ticket that is spent
abbrev pub record_number : Worker → Bool → ℕ
record_number w late = cond (broken w) 3 (cond (not (is_idle w)) 4 (cond late 5 0))

-- §7.2: a start's number, by the lengths of the board and the list
abbrev pub start_refusal : Floor → ℕ → ℕ → ℕ → Worker → Bool → ℕ
start_refusal f words listed i w late = cond (wrong_listed f words listed) 1 (cond (no_worker f i) 2 (record_number w late))

-- §7.2: a start's number
unfoldable pub start_number : Floor → List ℕ → ℕ → ℕ → Worker → Bool → ℕ
start_number f board listed i w late = start_refusal f (length board) listed i w late

-- §7.2: the number of a turn in a run, where the sizes are right
unfoldable pub each_number : Floor → List ℕ → ℕ → Worker → ℕ
each_number f board i w = cond (no_worker f i) 2 (turn_refusal (bucket_for f board w.key) w)

-- §7.2: a turn's number
unfoldable pub turn_number : Floor → List ℕ → ℕ → ℕ → Worker → ℕ
turn_number f board listed i w = cond (wrong_sizes f board listed) 1 (each_number f board i w)

-- §7.2: a retiring's number
unfoldable pub retire_number : Floor → List ℕ → ℕ → ℕ → Worker → ℕ
retire_number f board listed i w =
    cond (wrong_sizes f board listed) 1 (cond (no_worker f i) 2 (retire_refusal (bucket_for f board w.key) w))

-- §6.9: 9 for a run of more turns than may be, or 0
abbrev pub too_long : ℕ → ℕ
too_long count = cond (ltb 65535 count) 9 0

-- §7.2, §7.3: a run's number as a whole, by the lengths of the board, the list and the run
abbrev pub run_refusal : Floor → ℕ → ℕ → ℕ → ℕ
run_refusal f words listed count = cond (wrong_listed f words listed) 1 (too_long count)

-- §7.2: a run's number as a whole
unfoldable pub run_number : Floor → List ℕ → ℕ → List ℕ → ℕ
run_number f board listed turns = run_refusal f (length board) listed (length turns)

-- §2.8, §6.7, §7.2: a show's number
unfoldable pub show_number : Floor → List ℕ → ℕ → ℕ
show_number f board lot = cond (wrong_floor f board) 1 (cond (broken_bucket (bucket_for f board lot)) 7 0)

-- §6.7, §7.2: a count's number; every bucket is tested
unfoldable pub count_number : Floor → List ℕ → ℕ
count_number f board = cond (wrong_floor f board) 1 (cond (any_broken board f.buckets) 7 0)
