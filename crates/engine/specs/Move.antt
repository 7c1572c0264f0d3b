-- Moving the lots to a second board (§22): the lots in their order, where each of them comes to stand, and when there is no room.
use Rattle.std.specs.Prelude.{ℕ, zero, suc, Bool, cond, ◌||◌, not, List, [], ◌∷◌, ◌++◌, eqb, ltb, length, set}
use Rattle.mark.specs.Word.{mark_of, set_mark, first_empty}
use Rattle.turn.specs.Bucket.{cell, mark_cell, key_cell, value_cell, broken_bucket}
use Rattle.turn.specs.Turn.{After, after}
use Rattle.turn.specs.Worker.{is_idle, broken}
use Rattle.turn.specs.declared.Worker.{Worker}
use Rattle.engine.specs.declared.Floor.{Floor}
use Rattle.engine.specs.declared.Moved.{Moved}
use Rattle.engine.specs.Board.{bucket_of, bucket_at, with_bucket, opened_board, any_under}
use Rattle.engine.specs.Refusals.{any_record, wrong_floor, wrong_sizes}

-- ---- the lots in their order

-- a lot, and the ticket that stands for it
pub record Line : Type 0 where
  pub lot : ℕ
  pub ticket : ℕ

-- what stands in a slot of a bucket
abbrev pub line_at : List ℕ → ℕ → Line
line_at bucket p = record { lot = cell bucket (key_cell p); ticket = cell bucket (value_cell p) }

-- §22.1: the line of a slot, if it is valid
abbrev pub line_in : List ℕ → ℕ → List Line
line_in bucket p = cond (eqb (mark_of (cell bucket mark_cell) p) 1) (line_at bucket p ∷ []) []

-- §22.1: the lines of a bucket, by slot
abbrev pub lines_in : List ℕ → List Line
lines_in bucket = line_in bucket 0 ++ (line_in bucket 1 ++ line_in bucket 2)

-- §22.1: the lines of the first n buckets, by bucket, then slot
unfoldable pub lines_on : List ℕ → ℕ → List Line
lines_on board zero = []
lines_on board (suc b) = lines_on board b ++ lines_in (bucket_at board b)

-- ---- where they come to stand

-- a bucket with a line in a slot, which is valid then
abbrev pub with_line_at : List ℕ → ℕ → Line → List ℕ
with_line_at bucket p l =
    set (set (set bucket mark_cell (set_mark (cell bucket mark_cell) p 1)) (key_cell p) l.lot) (value_cell p) l.ticket

-- §22.2: a bucket with a line in its first empty slot
abbrev pub with_line : List ℕ → Line → List ℕ
with_line bucket l = with_line_at bucket (first_empty (cell bucket mark_cell)) l

-- §22.2: a board of n buckets with a line in the bucket of its lot
abbrev pub placed : ℕ → List ℕ → Line → List ℕ
placed n board l =
    let b : ℕ = bucket_of l.lot n in
    with_bucket board b (with_line (bucket_at board b) l)

-- §22.2: with lines one after another
unfoldable pub placed_all : ℕ → List ℕ → List Line → List ℕ
placed_all n board [] = board
placed_all n board (l ∷ ls) = placed_all n (placed n board l) ls

-- §22.3: the board of n buckets that a move leaves: one as an opening leaves it, at the floor's version, and the lots placed on it in their order
abbrev pub moved_board : List ℕ → Floor → ℕ → List ℕ
moved_board old f n = placed_all n (opened_board n f.version) (lines_on old f.buckets)

-- §22.3: the floor that it leaves
abbrev pub moved_floor : Floor → ℕ → Floor
moved_floor f n = record { workers = f.workers; buckets = n; last = f.last; version = f.version; spare = f.spare }

-- ---- its numbers

-- §6.3, §6.12: the number that the records give a move: 3 where one is broken, else 12 where one is not idle, or 0
abbrev pub rest_number : List Worker → ℕ
rest_number records = cond (any_record broken records) 3 (cond (any_record (λ w. not (is_idle w)) records) 12 0)

-- §6.3, §6.12: the number that the records give, with one more: those before it give this number
abbrev pub rest_with : ℕ → Worker → ℕ
rest_with number w = cond (eqb number 3) number (cond (broken w) 3 (cond (not (is_idle w)) 12 number))

-- §6.7: whether a slot is being inserted, by its bucket's mark word
abbrev pub being_inserted : ℕ → Bool
being_inserted word = eqb (mark_of word 0) 2 || (eqb (mark_of word 1) 2 || eqb (mark_of word 2) 2)

-- §6.7: a bucket that is broken, or has such a slot
abbrev pub unsettled : List ℕ → Bool
unsettled bucket = broken_bucket bucket || being_inserted (cell bucket mark_cell)

-- §6.7: whether one of the first n buckets is so
abbrev pub any_unsettled : List ℕ → ℕ → Bool
any_unsettled board n = any_under (λ b. unsettled (bucket_at board b)) n

-- the lines whose lots have bucket b, of n
unfoldable pub lines_for : ℕ → ℕ → List Line → List Line
lines_for n b [] = []
lines_for n b (l ∷ ls) = cond (eqb (bucket_of l.lot n) b) (l ∷ lines_for n b ls) (lines_for n b ls)

-- whether one of the first n buckets, each counted so, needs more than three slots
abbrev pub any_over : (ℕ → ℕ) → ℕ → Bool
any_over count n = any_under (λ b. ltb 3 (count b)) n

-- §6.13: whether one of n buckets would need a fourth slot for its lines
abbrev pub crowded : ℕ → List Line → Bool
crowded n ls = any_over (λ b. length (lines_for n b ls)) n

-- §6.7, §6.13: 7 where an old bucket is not settled, else 13 where a new one would be crowded, or 0
abbrev pub room_number : List ℕ → ℕ → ℕ → ℕ
room_number old buckets n = cond (any_unsettled old buckets) 7 (cond (crowded n (lines_on old buckets)) 13 0)

-- §6.1: whether the sizes of the old board and the list, or of the new board, are wrong
abbrev pub wrong_move : Floor → List ℕ → ℕ → ℕ → List ℕ → Bool
wrong_move f old listed n board = wrong_sizes f old listed || wrong_floor (moved_floor f n) board

-- §7.2: a move's number, where the records give it this one, or 0
unfoldable pub move_number : Floor → List ℕ → ℕ → ℕ → ℕ → List ℕ → ℕ
move_number f old listed rest n board =
    cond (wrong_move f old listed n board) 1 (cond (eqb rest 0) (room_number old f.buckets n) rest)

-- ---- the call

-- §22.3, §7.1: what a move with this number of refusal, or 0, comes to
abbrev pub moved_by : ℕ → List ℕ → Floor → ℕ → List ℕ → After Moved
moved_by number old f n board =
    cond (eqb number 0)
    (after (moved_board old f n) (record { floor = moved_floor f n; refusal = 0 }))
    (after board (record { floor = f; refusal = number }))

-- §22.1: a move to a board of n buckets
unfoldable pub move_call : List ℕ → List ℕ → Floor → ℕ → ℕ → ℕ → After Moved
move_call old board f listed rest n = moved_by (move_number f old listed rest n board) old f n board
