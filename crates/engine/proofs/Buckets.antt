-- The board bucket by bucket: what an opening has laid out so far, what was found broken, what was counted. Assumes nothing.
use Prim.Native.Nat.{ℕ, zero, suc, ◌+◌, ◌*◌, ◌≤◌, ◌<◌}
use mathlib.Core.Path.{◌≡◌, refl, sym, ap, ap₂, ◌∙◌}
use mathlib.Core.List.{List, ◌++◌, append_assoc, append-nil}
use native.Mathlib.Omega.{arith}
use native.Mathlib.Nat.{add-zero}
use native.Mathlib.Numerals.{add-one}
use lib.ListN.{length, take, drop, get_or, length-append, length-drop, drop_of_length-le}
use lib.Seq.{length-take-le, take_all, take_at, take-add, drop_at, drop-drop}
use Rattle.mark.specs.Word.{count_marks}
use Rattle.turn.specs.Bucket.{cell, mark_cell}
use Rattle.engine.specs.Board.{bucket_at, with_bucket, empty_bucket, opened_board, lots_on}
use Rattle.engine.proofs.Cut.{bucket_word}

-- ---- an opening

module _ (v : ℕ) where
  -- eight words a bucket
  pub length_opened : (n : ℕ) → length (opened_board n v) ≡ 8 * n
  unfolding opened_board
  length_opened zero = refl
  length_opened (suc n) = let rest = length_opened n in omega arith

  -- each bucket is empty
  pub opened_bucket : (n b : ℕ) → b < n → bucket_at (opened_board n v) b ≡ empty_bucket v
  unfolding opened_board
  opened_bucket zero b under = absurd (omega arith)
  opened_bucket (suc n) zero under = refl
  opened_bucket (suc n) (suc b) under =
      let more : 8 * suc b ≡ 8 + 8 * b = omega arith in
      rw (more, ← drop-drop (8 * b) 8 (empty_bucket v ++ opened_board n v)) (opened_bucket n b (omega arith))

-- ---- a board that is laid out bucket by bucket

module _ (new board : List ℕ) where
  -- so many buckets are laid out as the new board has them, and the rest of the board is as it was
  abbrev pub laid : ℕ → List ℕ
  laid b = take (8 * b) new ++ drop (8 * b) board

  module _ (b : ℕ) (there : 8 * b ≤ length new) where
    front : length (take (8 * b) new) ≡ 8 * b
    front = length-take-le (8 * b) new there

    next_start : 8 * b + 8 ≡ 8 * (b + 1)
    next_start = omega arith

    -- the next bucket is laid out
    pub lay_next : with_bucket (laid b) b (bucket_at new b) ≡ laid (b + 1)
    lay_next =
        ap₂ (λ (x y : List ℕ). x ++ (bucket_at new b ++ drop 8 y)) (take_at (take (8 * b) new) (drop (8 * b) board) (8 * b) front)
        (drop_at (take (8 * b) new) (drop (8 * b) board) (8 * b) front)
        ∙ sym (append_assoc (take (8 * b) new) (bucket_at new b) (drop 8 (drop (8 * b) board)))
        ∙ ap₂ (λ (x y : List ℕ). x ++ y) (sym (take-add (8 * b) 8 new) ∙ ap (λ (n : ℕ). take n new) next_start)
        (drop-drop 8 (8 * b) board ∙ ap (λ (n : ℕ). drop n board) next_start)

    -- the board is as long as it was
    pub laid_long : 8 * b ≤ length board → length (laid b) ≡ length board
    laid_long within = length-append (take (8 * b) new) (drop (8 * b) board) ∙ simp (front, length-drop (8 * b) board) (omega arith)

  -- no bucket is left
  pub laid_all : (b : ℕ) → length board ≡ 8 * b → length new ≡ 8 * b → laid b ≡ new
  laid_all b long new_long =
      ap₂ (λ (x y : List ℕ). x ++ y) (take_all (8 * b) new (omega arith)) (drop_of_length-le board {i = 8 * b} (omega arith)) ∙ append-nil new

-- ---- a count

module _ (board : List ℕ) where
  -- the mark word of a bucket is its first word
  pub mark_at_lem : (b : ℕ) → cell (bucket_at board b) mark_cell ≡ get_or board (8 * b) 0
  mark_at_lem b = bucket_word board b 0 (omega arith) ∙ ap (λ (n : ℕ). get_or board n 0) (add-zero (8 * b))

  -- the lots of one bucket more
  pub lots_next : (b : ℕ) → lots_on board b + count_marks 1 (get_or board (8 * b) 0) ≡ lots_on board (b + 1)
  unfolding lots_on
  lots_next b = rw (add-one b, mark_at_lem b)
