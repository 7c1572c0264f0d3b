-- The lots of a move's old board by their lines, as the rule has them, and by their words, as the code has: so that the code's way of telling that
-- a new bucket would be crowded is the rule's; and where the code begins. Assumes nothing.
use Prim.Native.Nat.{ℕ, zero, suc, ◌+◌, ◌*◌, ◌≤◌}
use mathlib.Core.Bool.{Bool, true, false, cond}
use mathlib.Core.List.{List, [], ◌∷◌, ◌++◌, map, map-append}
use mathlib.Core.Path.{◌≡◌, refl, sym, ap, ap₂, ◌∙◌}
use native.Mathlib.Omega.{arith}
use lib.Dec.{eqb, ltb}
use lib.ListN.{length, get_or, replicate, length-replicate, get_or-replicate, length-map}
use Rattle.mark.specs.Word.{mark_of}
use Rattle.turn.specs.Bucket.{cell, mark_cell, key_cell, value_cell}
use Rattle.engine.specs.Board.{bucket_of, bucket_at}
use Rattle.engine.specs.Move.{Line, line_at, line_in, lines_in, lines_on, lines_for, crowded}
use Rattle.engine.specs.Seating.{seats, no_lot, lot_word, lot_words_in, lot_words_on, lot_words_for, too_many, Seated, line_at_word}
use Rattle.engine.proofs.Cut.{bucket_word}
use Rattle.engine.proofs.AnyUnder.{any_same, any_clear}

-- ---- lines, and the words at which they stand

module _ (board : List ℕ) where
  -- what stands in a slot is what stands at its word
  same_line : (b p : ℕ) → p ≤ 2 → line_at (bucket_at board b) p ≡ line_at_word board (8 * b + key_cell p)
  same_line b p few =
      ap₂ (λ (x y : ℕ). record { lot = x; ticket = y }) (bucket_word board b (key_cell p) (omega arith))
      (bucket_word board b (value_cell p) (omega arith) ∙ ap (λ (i : ℕ). get_or board i 0) (omega arith))

  line_word : (b p : ℕ) → p ≤ 2 → line_in (bucket_at board b) p ≡ map (line_at_word board) (lot_word board b p)
  line_word b p few = by (eqb (mark_of (cell (bucket_at board b) mark_cell) p) 1)
    where
      by :
          (t : Bool)
          → cond t (line_at (bucket_at board b) p ∷ []) [] ≡ map (line_at_word board) (cond t ((8 * b + key_cell p) ∷ []) [])
      by true = ap (λ (l : Line). l ∷ []) (same_line b p few)
      by false = refl

  -- the lines of a bucket are those at the words of its lots
  lines_in_lem : (b : ℕ) → lines_in (bucket_at board b) ≡ map (line_at_word board) (lot_words_in board b)
  lines_in_lem b =
      ap₂ (λ (x y : List Line). x ++ y) (line_word b 0 (omega arith))
      (ap₂ (λ (x y : List Line). x ++ y) (line_word b 1 (omega arith)) (line_word b 2 (omega arith))
      ∙ sym (map-append (line_at_word board) (lot_word board b 1) (lot_word board b 2)))
      ∙ sym (map-append (line_at_word board) (lot_word board b 0) (lot_word board b 1 ++ lot_word board b 2))

  -- and so those of the first n buckets
  pub lines_words : (n : ℕ) → lines_on board n ≡ map (line_at_word board) (lot_words_on board n)
  unfolding lines_on lot_words_on
  lines_words zero = refl
  lines_words (suc b) =
      ap₂ (λ (x y : List Line). x ++ y) (lines_words b) (lines_in_lem b)
      ∙ sym (map-append (line_at_word board) (lot_words_on board b) (lot_words_in board b))

  -- and those whose lots have bucket b, of n
  pub lines_for_lem : (n b : ℕ) (ws : List ℕ) → lines_for n b (map (line_at_word board) ws) ≡ map (line_at_word board) (lot_words_for board n b ws)
  unfolding lines_for lot_words_for
  lines_for_lem n b [] = refl
  lines_for_lem n b (q ∷ ws) = by (eqb (bucket_of (get_or board q 0) n) b) (lines_for_lem n b ws)
    where
      by :
          (t : Bool)
          → lines_for n b (map (line_at_word board) ws) ≡ map (line_at_word board) (lot_words_for board n b ws)
          → cond t (line_at_word board q ∷ lines_for n b (map (line_at_word board) ws)) (lines_for n b (map (line_at_word board) ws))
          ≡ map (line_at_word board) (cond t (q ∷ lot_words_for board n b ws) (lot_words_for board n b ws))
      by true rest = ap (λ (ls : List Line). line_at_word board q ∷ ls) rest
      by false rest = rest

  -- a bucket's lines on the old board, by its words
  pub home_lines : (n k b : ℕ) → lines_for n b (lines_on board k) ≡ map (line_at_word board) (lot_words_for board n b (lot_words_on board k))
  home_lines n k b = ap (lines_for n b) (lines_words k) ∙ lines_for_lem n b (lot_words_on board k)

  -- §6.13: so the two ways of telling a crowded bucket are one
  pub crowded_words : (n k : ℕ) → crowded n (lines_on board k) ≡ too_many board n (lot_words_on board k)
  crowded_words n k =
      any_same _ _ n
      (λ b under. ap (ltb 3) (ap length (home_lines n k b) ∙ length-map (lot_words_for board n b (lot_words_on board k)) (line_at_word board)))

-- ---- before the first bucket

module _ (old : List ℕ) (n : ℕ) where
  -- no slot is taken
  pub seated_none : n ≤ 256 → Seated old n [] (replicate seats no_lot)
  unfolding lot_words_for
  seated_none room =
      record {
        long = length-replicate {A = ℕ} seats no_lot;
        each = λ b p under few. get_or-replicate {A = ℕ} seats (3 * b + p) no_lot 0 (omega arith);
        some = λ b p under. absurd (omega arith);
      }

  -- and nothing is crowded
  pub none_many : too_many old n [] ≡ false
  unfolding lot_words_for
  none_many = any_clear _ n (λ b under. refl)
