-- The lent board, bucket after bucket.
use Rattle.std.specs.Prelude.{ℕ, zero, suc, ◌+◌, ◌*◌, ◌%◌, Bool, false, ◌||◌, List, [], ◌∷◌, ◌++◌, take, drop}
use Rattle.mark.specs.Word.{count_marks}
use Rattle.turn.specs.Bucket.{cell, mark_cell, broken_bucket}

-- §2.4: the number of a lot's bucket, of n
abbrev pub bucket_of : ℕ → ℕ → ℕ
bucket_of lot n = lot % n

-- §2.3: the eight words of bucket b
abbrev pub bucket_at : List ℕ → ℕ → List ℕ
bucket_at board b = take 8 (drop (8 * b) board)

-- the board with other words in the place of bucket b
abbrev pub with_bucket : List ℕ → ℕ → List ℕ → List ℕ
with_bucket board b words = take (8 * b) board ++ (words ++ drop 8 (drop (8 * b) board))

-- §2.10: a bucket as an opening leaves it
abbrev pub empty_bucket : ℕ → List ℕ
empty_bucket version = version ∷ 0 ∷ 0 ∷ 0 ∷ 0 ∷ 0 ∷ 0 ∷ 0 ∷ []

-- §2.10: so many buckets as an opening leaves them
unfoldable pub opened_board : ℕ → ℕ → List ℕ
opened_board zero version = []
opened_board (suc n) version = empty_bucket version ++ opened_board n version

-- §2.9: the lots in the first n buckets, one for each slot that is valid
unfoldable pub lots_on : List ℕ → ℕ → ℕ
lots_on board zero = 0
lots_on board (suc b) = lots_on board b + count_marks 1 (cell (bucket_at board b) mark_cell)

-- whether a test holds of one of the first n numbers
unfoldable pub any_under : (ℕ → Bool) → ℕ → Bool
any_under test zero = false
any_under test (suc b) = any_under test b || test b

-- §6.7: whether one of the first n buckets is broken
abbrev pub any_broken : List ℕ → ℕ → Bool
any_broken board n = any_under (λ b. broken_bucket (bucket_at board b)) n
