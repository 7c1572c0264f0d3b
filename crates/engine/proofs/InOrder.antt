-- §22.1, §22.2: in a bucket of the board that a move leaves, the lots stand in its first slots, in the order in which they stood on the old board,
-- by bucket, then slot: the words of their lots there rise. Assumes nothing.
use Prim.Native.Nat.{ℕ, zero, suc, ◌+◌, ◌*◌, ◌^◌, ◌≤◌, ◌<◌}
use mathlib.Core.Bool.{Bool, true, false, cond}
use mathlib.Core.List.{List, [], ◌∷◌, ◌++◌, map}
use mathlib.Core.Path.{◌≡◌, refl, ap, ◌∙◌}
use native.Mathlib.Decide.{dec_le}
use native.Mathlib.Omega.{arith}
use lib.Dec.{eqb}
use lib.ListN.{length, get_or, length-map}
use Rattle.mark.specs.Word.{mark_of}
use Rattle.turn.specs.Bucket.{cell, mark_cell, key_cell}
use Rattle.engine.specs.declared.Floor.{Floor}
use Rattle.engine.specs.Board.{bucket_of, bucket_at}
use Rattle.engine.specs.Move.{Line, line_at, lines_on, lines_for, moved_board, crowded}
use Rattle.engine.specs.Seating.{lot_word, lot_words_in, lot_words_on, lot_words_for, line_at_word}
use Rattle.engine.proofs.Seating.{any_over_none}
use Rattle.engine.proofs.Settling.{home_lines}
use Rattle.engine.proofs.Among.{no_line}
use Rattle.engine.proofs.Placing.{Lined, moved_bucket, filled_lined}
use Rattle.engine.proofs.Filling.{LotAt, each_at, lots_for}

-- ---- numbers that rise

-- from above the first number to no more than the last
abbrev Rises : ℕ → List ℕ → ℕ → Type 0
Rises low [] top = low ≤ top
Rises low (q ∷ qs) top = (low < q) × Rises q qs top

rises_append : (low middle top : ℕ) (ws vs : List ℕ) → Rises low ws middle → Rises middle vs top → Rises low (ws ++ vs) top
rises_append low middle top [] [] one two = omega (arith, one, two)
rises_append low middle top [] (q ∷ vs) one two = (omega (arith, one, two.0), two.1)
rises_append low middle top (q ∷ ws) vs one two = (one.0, rises_append q middle top ws vs one.1 two)

rises_from : (low less top : ℕ) (ws : List ℕ) → less ≤ low → Rises low ws top → Rises less ws top
rises_from low less top [] least rises = omega (arith, rises)
rises_from low less top (q ∷ ws) least rises = (omega (arith, rises.0), rises.1)

higher : (low : ℕ) (ws : List ℕ) (top more : ℕ) → top ≤ more → Rises low ws top → Rises low ws more
higher low [] top more least rises = omega (arith, rises)
higher low (q ∷ ws) top more least rises = (rises.0, higher q ws top more least rises.1)

rises_at : (low top : ℕ) (ws : List ℕ) → Rises low ws top → (p : ℕ) → p < length ws → low < get_or ws p 0
rises_at low top [] rises p under = absurd (omega arith)
rises_at low top (q ∷ ws) rises zero under = rises.0
rises_at low top (q ∷ ws) rises (suc p) under = omega (arith, rises.0, rises_at q top ws rises.1 p (omega arith))

-- so a later one is greater
rises_two : (low top : ℕ) (ws : List ℕ) → Rises low ws top → (p q : ℕ) → p < q → q < length ws → get_or ws p 0 < get_or ws q 0
rises_two low top [] rises p q later under = absurd (omega arith)
rises_two low top (a ∷ ws) rises p zero later under = absurd (omega arith)
rises_two low top (a ∷ ws) rises zero (suc q) later under = rises_at a top ws rises.1 q (omega arith)
rises_two low top (a ∷ ws) rises (suc p) (suc q) later under = rises_two a top ws rises.1 p q (omega arith) (omega arith)

-- ---- the words of lots

module _ (board : List ℕ) where
  word_rises : (b p : ℕ) → Rises (8 * b + p) (lot_word board b p) (8 * b + suc p)
  word_rises b p = by (eqb (mark_of (cell (bucket_at board b) mark_cell) p) 1)
    where
      by : (t : Bool) → Rises (8 * b + p) (cond t ((8 * b + key_cell p) ∷ []) []) (8 * b + suc p)
      by true = (omega arith, omega arith)
      by false = omega arith

  words_rise : (n : ℕ) → Rises 0 (lot_words_on board n) (8 * n)
  unfolding lot_words_on
  words_rise zero = omega arith
  words_rise (suc b) =
      rises_append 0 (8 * b + 0) (8 * suc b) (lot_words_on board b) (lot_words_in board b)
      (higher 0 (lot_words_on board b) (8 * b) (8 * b + 0) (omega arith) (words_rise b))
      (rises_append (8 * b + 0) (8 * b + 1) (8 * suc b) (lot_word board b 0) (lot_word board b 1 ++ lot_word board b 2) (word_rises b 0)
      (rises_append (8 * b + 1) (8 * b + 2) (8 * suc b) (lot_word board b 1) (lot_word board b 2) (word_rises b 1)
      (higher (8 * b + 2) (lot_word board b 2) (8 * b + 3) (8 * suc b) (omega arith) (word_rises b 2))))

  for_rises : (low top n b : ℕ) (ws : List ℕ) → Rises low ws top → Rises low (lot_words_for board n b ws) top
  unfolding lot_words_for
  for_rises low top n b [] rises = rises
  for_rises low top n b (q ∷ ws) rises = by (eqb (bucket_of (get_or board q 0) n) b) (for_rises q top n b ws rises.1)
    where
      by : (t : Bool) → Rises q (lot_words_for board n b ws) top → Rises low (cond t (q ∷ lot_words_for board n b ws) (lot_words_for board n b ws)) top
      by true rest = (rises.0, rest)
      by false rest = rises_from q low top (lot_words_for board n b ws) (omega (arith, rises.0)) rest

-- ---- a bucket of the new board

-- two slots of a new bucket, and where their lots stood on the old board, whose first k buckets were gone over
pub record Ordered (old bucket : List ℕ) (k p q : ℕ) : Type 0 where
  pub first : ℕ
  pub second : ℕ
  -- both stood in valid slots, and have their lots and tickets from there
  pub first_stood : LotAt old k first
  pub second_stood : LotAt old k second
  pub first_line : line_at bucket p ≡ line_at_word old first
  pub second_line : line_at bucket q ≡ line_at_word old second
  -- the lot in the earlier slot stood earlier
  pub earlier : first < second

module _ (old : List ℕ) (f : Floor) (n : ℕ) (some : 0 < n) (fits : f.version < 2 ^ 32) (room : crowded n (lines_on old f.buckets) ≡ false) (b : ℕ) (under : b < n) where
  abbrev bucket : List ℕ
  bucket = bucket_at (moved_board old f n) b

  abbrev lines : List Line
  lines = lines_for n b (lines_on old f.buckets)

  abbrev words : List ℕ
  words = lot_words_for old n b (lot_words_on old f.buckets)

  few : length lines ≤ 3
  few = any_over_none (λ c. length (lines_for n c (lines_on old f.buckets))) n room b under

  long : length lines ≡ length words
  long = ap length (home_lines old n f.buckets b) ∙ length-map words (line_at_word old)

  has : Lined f.version lines bucket
  has = rw (moved_bucket old f n some b under) (filled_lined f.version fits lines few)

  -- the line of a slot that is valid is the one at its word
  own_line : (p : ℕ) → p < length words → line_at bucket p ≡ line_at_word old (get_or words p 0)
  own_line p valid =
      has.line p (omega (arith, few, long))
      ∙ ap (λ (ls : List Line). get_or ls p no_line) (home_lines old n f.buckets b)
      ∙ mapped words p valid
    where
      mapped : (ws : List ℕ) (p : ℕ) → p < length ws → get_or (map (line_at_word old) ws) p no_line ≡ line_at_word old (get_or ws p 0)
      mapped [] p valid = absurd (omega arith)
      mapped (w ∷ ws) zero valid = refl
      mapped (w ∷ ws) (suc p) valid = mapped ws p (omega arith)

  -- §22.2: of two lots in a new bucket the one in the earlier slot stood earlier on the old board
  pub in_order : (p q : ℕ) → p < q → mark_of (cell bucket mark_cell) q ≡ 1 → Ordered old bucket f.buckets p q
  in_order p q later valid = by (dec_le (suc q) (length words))
    where
      by : Dec (q < length words) → Ordered old bucket f.buckets p q
      by (yes there) =
          let lots = each_at (LotAt old f.buckets) words (lots_for old f.buckets n b) in
          record {
            first = get_or words p 0;
            second = get_or words q 0;
            first_stood = lots p (omega arith);
            second_stood = lots q there;
            first_line = own_line p (omega arith);
            second_line = own_line q there;
            earlier = rises_two 0 (8 * f.buckets) words (for_rises old 0 (8 * f.buckets) n b (lot_words_on old f.buckets) (words_rise old f.buckets)) p q later there;
          }
      by (no past) = absurd (omega (arith, valid, has.empty q (omega (arith, long))))
