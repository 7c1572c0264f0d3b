-- The words from which the slots of the new board are withLines are words of the old one, and a bucket that is withLines from them has the lines that
-- stand there. Assumes nothing.
use Prim.Native.Nat.{ℕ, zero, suc, ◌+◌, ◌*◌, ◌^◌, ◌≤◌, ◌<◌}
use mathlib.Core.Bool.{Bool, true, false, cond}
use mathlib.Core.List.{List, [], ◌∷◌, ◌++◌, map}
use mathlib.Core.Path.{◌≡◌, refl, sym, ap, subst, ◌∙◌}
use native.Mathlib.Omega.{arith}
use lib.Dec.{eqb}
use lib.ListN.{length, get_or}
use borrow.Author.Tests.{ne_eqb, eqb-true}
use Rattle.mark.specs.Word.{mark_of}
use Rattle.turn.specs.Bucket.{cell, mark_cell, key_cell}
use Rattle.engine.specs.Board.{bucket_of, bucket_at, empty_bucket, opened_board}
use Rattle.engine.specs.Move.{Line, with_line, with_line_at, lines_for, lines_on, placed_all}
use Rattle.engine.specs.Seating.{no_lot, lot_word, lot_words_in, lot_words_on, lot_words_for, too_many, Seated, line_at_word, filled_from}
use Rattle.engine.proofs.Placing.{placed_long, with_lines, word_with, bucket_with, word_none, empty_next, filled_one, filled_two, placed_bucket}
use Rattle.engine.proofs.Buckets.{length_opened, opened_bucket}
use Rattle.engine.proofs.Seating.{any_over_none}
use Rattle.engine.proofs.Settling.{home_lines}

-- ---- words of lots

-- word q of a board is that of the lot in a valid slot of one of its first n buckets
pub record LotAt (board : List ℕ) (n q : ℕ) : Type 0 where
  pub bucket : ℕ
  pub slot : ℕ
  pub under : bucket < n
  pub few : slot ≤ 2
  pub is : q ≡ 8 * bucket + key_cell slot
  pub valid : mark_of (cell (bucket_at board bucket) mark_cell) slot ≡ 1

-- each of these is so
abbrev pub Each : (ℕ → Type 0) → List ℕ → Type 0
Each P [] = Unit {0}
Each P (q ∷ qs) = P q × Each P qs

each_append : (P : ℕ → Type 0) (ws vs : List ℕ) → Each P ws → Each P vs → Each P (ws ++ vs)
each_append P [] vs one two = two
each_append P (q ∷ ws) vs one two = (one.0, each_append P ws vs one.1 two)

each_more : (P Q : ℕ → Type 0) (ws : List ℕ) → ((q : ℕ) → P q → Q q) → Each P ws → Each Q ws
each_more P Q [] more each = tt
each_more P Q (q ∷ ws) more each = (more q each.0, each_more P Q ws more each.1)

pub each_at : (P : ℕ → Type 0) (ws : List ℕ) → Each P ws → (p : ℕ) → p < length ws → P (get_or ws p 0)
each_at P [] each p under = absurd (omega arith)
each_at P (q ∷ ws) each zero under = each.0
each_at P (q ∷ ws) each (suc p) under = each_at P ws each.1 p (omega arith)

module _ (board : List ℕ) where
  lots_in_lem : (b p : ℕ) → p ≤ 2 → Each (LotAt board (suc b)) (lot_word board b p)
  lots_in_lem b p few = by (eqb (mark_of (cell (bucket_at board b) mark_cell) p) 1) refl
    where
      by :
          (t : Bool)
          → eqb (mark_of (cell (bucket_at board b) mark_cell) p) 1 ≡ t
          → Each (LotAt board (suc b)) (cond t ((8 * b + key_cell p) ∷ []) [])
      by true is = (record { bucket = b; slot = p; under = omega arith; few = few; is = refl; valid = eqb-true _ 1 is }, tt)
      by false is = tt

  -- the words that a move goes over are those of lots
  pub lots_on_lem : (n : ℕ) → Each (LotAt board n) (lot_words_on board n)
  unfolding lot_words_on
  lots_on_lem zero = tt
  lots_on_lem (suc b) =
      let One : ℕ → Type 0 = LotAt board (suc b) in
      each_append One (lot_words_on board b) (lot_words_in board b)
      (each_more (LotAt board b) One (lot_words_on board b)
      (λ q lot.
      record {
        bucket = lot.bucket;
        slot = lot.slot;
        under = omega (arith, lot.under);
        few = lot.few;
        is = lot.is;
        valid = lot.valid;
      })
      (lots_on_lem b))
      (each_append One (lot_word board b 0) (lot_word board b 1 ++ lot_word board b 2) (lots_in_lem b 0 (omega arith))
      (each_append One (lot_word board b 1) (lot_word board b 2) (lots_in_lem b 1 (omega arith)) (lots_in_lem b 2 (omega arith))))

  -- and so those for one bucket
  each_for : (P : ℕ → Type 0) (n b : ℕ) (ws : List ℕ) → Each P ws → Each P (lot_words_for board n b ws)
  unfolding lot_words_for
  each_for P n b [] each = tt
  each_for P n b (q ∷ ws) each = by (eqb (bucket_of (get_or board q 0) n) b) (each_for P n b ws each.1)
    where
      by : (t : Bool) → Each P (lot_words_for board n b ws) → Each P (cond t (q ∷ lot_words_for board n b ws) (lot_words_for board n b ws))
      by true rest = (each.0, rest)
      by false rest = rest

  pub lots_for : (k n b : ℕ) → Each (LotAt board k) (lot_words_for board n b (lot_words_on board k))
  lots_for k n b = each_for (LotAt board k) n b (lot_words_on board k) (lots_on_lem k)

  -- none of them stands for a free slot
  some_word : {k q : ℕ} → LotAt board k q → q ≡ no_lot → ⊥
  some_word lot none = omega (arith, lot.is, lot.few, none)

  -- the word of a slot is within the board, with what stands three words on, and so it is where the slot is free
  below_at : (k : ℕ) (ws : List ℕ) → 1 ≤ k → Each (LotAt board k) ws → (p : ℕ) → get_or ws p no_lot + 4 ≤ 8 * k
  below_at k [] some each p = omega arith
  below_at k (q ∷ ws) some each zero = omega (arith, each.0.is, each.0.under, each.0.few)
  below_at k (q ∷ ws) some each (suc p) = below_at k ws some each.1 p

-- ---- a bucket withLines from its words

module _ (v : ℕ) (fits : v < 2 ^ 32) where
  -- the slot that comes next is the first empty one
  at_next :
      (k a b c d e f : ℕ)
      → k < 3
      → (l : Line)
      → let bucket = word_with v k ∷ a ∷ b ∷ c ∷ d ∷ e ∷ f ∷ 0 ∷ [] in
      with_line_at bucket k l ≡ with_line bucket l
  at_next k a b c d e f few l = rw (empty_next v fits k few)

  at_first : (l : Line) → with_line_at (empty_bucket v) 0 l ≡ with_lines (empty_bucket v) (l ∷ [])
  unfolding with_lines
  at_first l =
      subst (λ (w : ℕ). with_line_at (empty_bucket w) 0 l ≡ with_line (empty_bucket w) l) (sym (word_none v fits)) (at_next 0 0 0 0 0 0 0 (omega arith) l)

  at_second : (a b : Line) → with_line_at (with_lines (empty_bucket v) (a ∷ [])) 1 b ≡ with_lines (empty_bucket v) (a ∷ b ∷ [])
  unfolding with_lines bucket_with
  at_second a b =
      subst (λ (l : List ℕ). with_line_at l 1 b ≡ with_line l b) (sym (filled_one v fits a))
      (at_next 1 a.lot 0 0 a.ticket 0 0 (omega arith) b)

  at_third : (a b c : Line) → with_line_at (with_lines (empty_bucket v) (a ∷ b ∷ [])) 2 c ≡ with_lines (empty_bucket v) (a ∷ b ∷ c ∷ [])
  unfolding with_lines bucket_with
  at_third a b c =
      subst (λ (l : List ℕ). with_line_at l 2 c ≡ with_line l c) (sym (filled_two v fits a b))
      (at_next 2 a.lot b.lot 0 a.ticket b.ticket 0 (omega arith) c)

  -- up to three words, one in each slot, are their lines one after another
  pub filled_from_lem :
      (old : List ℕ) (k : ℕ) (ws : List ℕ)
      → Each (LotAt old k) ws
      → length ws ≤ 3
      → filled_from old v (get_or ws 0 no_lot) (get_or ws 1 no_lot) (get_or ws 2 no_lot) ≡ with_lines (empty_bucket v) (map (line_at_word old) ws)
  unfolding with_lines
  filled_from_lem old k [] lots few = refl
  filled_from_lem old k (a ∷ []) lots few = rw (ne_eqb a no_lot (some_word old lots.0)) (at_first (line_at_word old a))
  filled_from_lem old k (a ∷ b ∷ []) lots few =
      rw (ne_eqb a no_lot (some_word old lots.0), ne_eqb b no_lot (some_word old lots.1.0))
      (ap (λ (l : List ℕ). with_line_at l 1 (line_at_word old b)) (at_first (line_at_word old a)) ∙ at_second (line_at_word old a) (line_at_word old b))
  filled_from_lem old k (a ∷ b ∷ c ∷ []) lots few =
      rw (ne_eqb a no_lot (some_word old lots.0), ne_eqb b no_lot (some_word old lots.1.0), ne_eqb c no_lot (some_word old lots.1.1.0))
      (ap (λ (l : List ℕ). with_line_at (with_line_at l 1 (line_at_word old b)) 2 (line_at_word old c)) (at_first (line_at_word old a))
      ∙ ap (λ (l : List ℕ). with_line_at l 2 (line_at_word old c)) (at_second (line_at_word old a) (line_at_word old b))
      ∙ at_third (line_at_word old a) (line_at_word old b) (line_at_word old c))
  filled_from_lem old k (a ∷ b ∷ c ∷ d ∷ ws) lots few = absurd (omega arith)

-- ---- a bucket of the new board

module _
    (old : List ℕ) (olds n v : ℕ) (fits : v < 2 ^ 32) (some : 1 ≤ n) (from : List ℕ) (seated : Seated old n (lot_words_on old olds) from)
    (few : too_many old n (lot_words_on old olds) ≡ false) (b : ℕ) (under : b < n) where
  abbrev here : List ℕ
  here = lot_words_for old n b (lot_words_on old olds)

  -- the word in one of its slots
  at_slot : (i p : ℕ) → i ≡ 3 * b + p → p < 3 → get_or from i 0 ≡ get_or here p no_lot
  at_slot i p is slot = ap (λ (k : ℕ). get_or from k 0) is ∙ seated.each b p under slot

  -- is one of the old board
  pub slot_below : (i p : ℕ) → i ≡ 3 * b + p → p < 3 → 1 ≤ olds → get_or from i 0 + 4 ≤ 8 * olds
  slot_below i p is slot any = rw (at_slot i p is slot) (below_at old olds here any (lots_for old olds n b) p)

  -- withLines from the words of its slots it is the bucket of the board that a move leaves
  pub bucket_filled :
      filled_from old v (get_or from (3 * b) 0) (get_or from (3 * b + 1) 0) (get_or from (3 * b + 2) 0)
      ≡ bucket_at (placed_all n (opened_board n v) (lines_on old olds)) b
  bucket_filled =
      rw (at_slot (3 * b) 0 (omega arith) (omega arith), at_slot (3 * b + 1) 1 refl (omega arith), at_slot (3 * b + 2) 2 refl (omega arith))
      (filled_from_lem v fits old olds here (lots_for old olds n b) (any_over_none (λ c. length (lot_words_for old n c (lot_words_on old olds))) n few b under)
      ∙ ap (with_lines (empty_bucket v)) (sym (home_lines old n olds b))
      ∙ ap (λ (l : List ℕ). with_lines l (lines_for n b (lines_on old olds))) (sym (opened_bucket v n b under))
      ∙ sym (placed_bucket n some (lines_on old olds) (opened_board n v) (length_opened v n) b))

-- ---- the board that a move leaves

abbrev pub left : List ℕ → ℕ → ℕ → ℕ → List ℕ
left old olds n v = placed_all n (opened_board n v) (lines_on old olds)

-- eight words a bucket
pub left_long : (old : List ℕ) (olds n v : ℕ) → 1 ≤ n → length (left old olds n v) ≡ 8 * n
left_long old olds n v some = placed_long n some (lines_on old olds) (opened_board n v) (length_opened v n) ∙ length_opened v n
