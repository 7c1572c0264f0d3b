-- How the code finds each lot its place before a word is written (§22.2): for each slot of the new board the word of the old one at which its
-- lot stands, or a word that is no lot's.
use Rattle.std.specs.Prelude.{ℕ, zero, suc, ◌+◌, ◌*◌, ◌≤◌, ◌<◌, Bool, false, cond, ◌||◌, List, [], ◌∷◌, ◌++◌, ◌≡◌, eqb, length, get_or}
use Rattle.mark.specs.Word.{mark_of}
use Rattle.turn.specs.Bucket.{cell, mark_cell, key_cell}
use Rattle.engine.specs.Board.{bucket_of, bucket_at, empty_bucket}
use Rattle.engine.specs.Move.{Line, with_line_at, any_over}

-- how many slots the largest board has
abbrev pub seats : ℕ
seats = 768

-- a word at which a ticket stands, and so no lot: it marks a slot that is free (decision 186)
abbrev pub no_lot : ℕ
no_lot = 4

-- the word of a slot's lot, if the slot of bucket b is valid
abbrev pub lot_word : List ℕ → ℕ → ℕ → List ℕ
lot_word board b p = cond (eqb (mark_of (cell (bucket_at board b) mark_cell) p) 1) ((8 * b + key_cell p) ∷ []) []

-- the words of a bucket's lots, by slot
abbrev pub lot_words_in : List ℕ → ℕ → List ℕ
lot_words_in board b = lot_word board b 0 ++ (lot_word board b 1 ++ lot_word board b 2)

-- the words of the lots in the first n buckets, by bucket, then slot
unfoldable pub lot_words_on : List ℕ → ℕ → List ℕ
lot_words_on board zero = []
lot_words_on board (suc b) = lot_words_on board b ++ lot_words_in board b

-- those of them whose lots have bucket b, of n
unfoldable pub lot_words_for : List ℕ → ℕ → ℕ → List ℕ → List ℕ
lot_words_for board n b [] = []
lot_words_for board n b (q ∷ qs) = cond (eqb (bucket_of (get_or board q 0) n) b) (q ∷ lot_words_for board n b qs) (lot_words_for board n b qs)

-- whether one of n buckets has more than three of them
abbrev pub too_many : List ℕ → ℕ → List ℕ → Bool
too_many board n words = any_over (λ b. length (lot_words_for board n b words)) n

-- each slot of n buckets has the word of its lot, of these words, or is free
pub record Seated (old : List ℕ) (n : ℕ) (words from : List ℕ) : Type 0 where
  pub long : length from ≡ seats
  pub each : (b p : ℕ) → b < n → p < 3 → get_or from (3 * b + p) 0 ≡ get_or (lot_words_for old n b words) p no_lot
  -- all of these are words of lots
  pub some : (b p : ℕ) → p < length (lot_words_for old n b words) → get_or (lot_words_for old n b words) p no_lot ≡ no_lot → ⊥

-- what is asked to seat the lots of bucket b of the old board in one of n: the bucket is there, and there are slots for all of n
pub record Seatable (old from : List ℕ) (n b : ℕ) : Type 0 where
  pub there : 8 * b + 8 ≤ length old
  pub few : length old ≤ 2048
  pub long : length from ≡ seats
  pub some_bucket : 1 ≤ n
  pub buckets : n ≤ 256

-- what is asked to fill a board of n buckets from where the lots of k old ones have their slots
pub record Fillable (old board from : List ℕ) (k n : ℕ) : Type 0 where
  pub some_old : 1 ≤ k
  pub olds : k ≤ 256
  pub old_words : length old ≡ 8 * k
  pub some_bucket : 1 ≤ n
  pub buckets : n ≤ 256
  pub words : length board ≡ 8 * n
  pub seated : Seated old n (lot_words_on old k) from
  pub room : too_many old n (lot_words_on old k) ≡ false

-- these words come after those that are seated: each has the next slot of its bucket then, or one lacks a slot
pub record Seats (old : List ℕ) (n : ℕ) (words more from' : List ℕ) (lacks : Bool) : Type 0 where
  pub seated : Seated old n (words ++ more) from'
  pub many : too_many old n (words ++ more) ≡ (too_many old n words || lacks)

-- the same, whatever is seated before
abbrev pub SeatsMore : List ℕ → ℕ → List ℕ → List ℕ → List ℕ → Bool → Type 0
SeatsMore old n more from from' lacks = (words : List ℕ) → Seated old n words from → Seats old n words more from' lacks

-- how many of the three slots that begin here are taken, up to the first that is free
unfoldable pub taken : List ℕ → ℕ → ℕ
taken from at =
    cond (eqb (get_or from at 0) no_lot) 0 (cond (eqb (get_or from (at + 1) 0) no_lot) 1 (cond (eqb (get_or from (at + 2) 0) no_lot) 2 3))

-- the line that stands at a word
abbrev pub line_at_word : List ℕ → ℕ → Line
line_at_word board q = record { lot = get_or board q 0; ticket = get_or board (q + 3) 0 }

-- a bucket with the line at a word in a slot, or as it is where no lot stands there
abbrev pub put_from : List ℕ → List ℕ → ℕ → ℕ → List ℕ
put_from old bucket p q = cond (eqb q no_lot) bucket (with_line_at bucket p (line_at_word old q))

-- an empty bucket with the lines at three words in its slots
abbrev pub filled_from : List ℕ → ℕ → ℕ → ℕ → ℕ → List ℕ
filled_from old version q r s = put_from old (put_from old (put_from old (empty_bucket version) 0 q) 1 r) 2 s
