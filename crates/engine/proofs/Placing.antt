-- Where the lines of a move come to stand (§22.2): each bucket of the board that it leaves is an empty one with the lines of its lots, in their
-- order. Assumes nothing.
use Prim.Native.Nat.{ℕ, zero, suc, ◌+◌, ◌*◌, ◌^◌, ◌≤◌, ◌<◌}
use mathlib.Core.Bool.{cond, false}
use mathlib.Core.Path.{◌≡◌, refl, sym, ap, ◌∙◌}
use mathlib.Core.List.{List, [], ◌∷◌}
use native.Mathlib.Decide.{ℕ_discrete, dec_le}
use native.Mathlib.Nat.{mod-lt}
use native.Mathlib.Omega.{arith}
use lib.Dec.{ltb}
use lib.ListN.{length, get_or, set, length-set, drop_of_length-le, get_or-eq_default}
use borrow.Author.Tests.{eq-eqb, ne_eqb, lt-ltb, le-ltb}
use Rattle.mark.specs.Word.{version, mark_of, byte7, word_of, set_mark, first_empty, count_marks}
use Rattle.mark.proofs.Choices.{by_cases}
use Rattle.mark.proofs.Slots.{slots}
use Rattle.mark.proofs.Fields.{version_word, mark_word_lem, byte7_word}
use Rattle.mark.proofs.WellFormed.{well_formed_lem}
use Rattle.turn.specs.Bucket.{cell, mark_cell, key_cell, value_cell, broken_bucket}
use Rattle.turn.proofs.Sound.{whole_not_broken}
use Rattle.engine.specs.declared.Floor.{Floor}
use Rattle.engine.specs.Board.{bucket_of, bucket_at, empty_bucket, opened_board, lots_on}
use Rattle.engine.specs.Move.{Line, line_at, lines_on, with_line, placed, placed_all, moved_board, lines_for, crowded}
use Rattle.engine.proofs.Cut.{bucket_long, with_long, same_bucket, other_bucket}
use Rattle.engine.proofs.Buckets.{length_opened, opened_bucket}
use Rattle.engine.proofs.Among.{no_line}
use Rattle.engine.proofs.Many.{board_lots, lots_sum, for_total}
use Rattle.engine.proofs.Seating.{any_over_none}

-- ---- lines one after another

-- §22.2: a bucket with lines one after another, each in the first empty slot
unfoldable pub with_lines : List ℕ → List Line → List ℕ
with_lines bucket [] = bucket
with_lines bucket (l ∷ ls) = with_lines (with_line bucket l) ls

-- a line leaves a bucket as long as it was
line_long : (bucket : List ℕ) (l : Line) → length (with_line bucket l) ≡ length bucket
line_long bucket l =
    let p : ℕ = first_empty (cell bucket mark_cell) in
    let marked : List ℕ = set bucket mark_cell (set_mark (cell bucket mark_cell) p 1) in
    length-set (set marked (key_cell p) l.lot) (value_cell p) l.ticket
    ∙ length-set marked (key_cell p) l.lot
    ∙ length-set bucket mark_cell (set_mark (cell bucket mark_cell) p 1)

module _ (n : ℕ) (some : 0 < n) where
  -- one line more
  module _ (board : List ℕ) (long : length board ≡ 8 * n) (l : Line) where
    abbrev home : ℕ
    home = bucket_of l.lot n

    within : 8 * home + 8 ≤ length board
    within = omega (arith, long, mod-lt l.lot some)

    words_long : length (with_line (bucket_at board home) l) ≡ 8
    words_long = line_long (bucket_at board home) l ∙ bucket_long board home within

    one_long : length (placed n board l) ≡ length board
    one_long = with_long board home (with_line (bucket_at board home) l) (line_long (bucket_at board home) l)

    own : bucket_at (placed n board l) home ≡ with_line (bucket_at board home) l
    own = same_bucket board home (with_line (bucket_at board home) l) within words_long

    other : (c : ℕ) → (c ≡ home → ⊥) → bucket_at (placed n board l) c ≡ bucket_at board c
    other = other_bucket board home (with_line (bucket_at board home) l) within words_long

  -- the board stays as long as it was
  pub placed_long : (ls : List Line) (board : List ℕ) → length board ≡ 8 * n → length (placed_all n board ls) ≡ length board
  unfolding placed_all
  placed_long [] board long = refl
  placed_long (l ∷ ls) board long =
      let one : length (placed n board l) ≡ length board = one_long board long l in
      placed_long ls (placed n board l) (one ∙ long) ∙ one

  -- each bucket has the lines of its lots
  pub placed_bucket :
      (ls : List Line) (board : List ℕ)
      → length board ≡ 8 * n
      → (b : ℕ)
      → bucket_at (placed_all n board ls) b ≡ with_lines (bucket_at board b) (lines_for n b ls)
  unfolding placed_all lines_for with_lines
  placed_bucket [] board long b = refl
  placed_bucket (l ∷ ls) board long b =
      placed_bucket ls (placed n board l) (one_long board long l ∙ long) b ∙ by (ℕ_discrete (bucket_of l.lot n) b)
    where
      by : Dec (bucket_of l.lot n ≡ b) → with_lines (bucket_at (placed n board l) b) (lines_for n b ls) ≡ with_lines (bucket_at board b) (lines_for n b (l ∷ ls))
      by (yes is) =
          rw (eq-eqb (bucket_of l.lot n) b is)
          (ap (λ (words : List ℕ). with_lines words (lines_for n b ls))
          (ap (bucket_at (placed n board l)) (sym is) ∙ own board long l ∙ ap (λ (c : ℕ). with_line (bucket_at board c) l) is))
      by (no isnot) =
          rw (ne_eqb (bucket_of l.lot n) b isnot)
          (ap (λ (words : List ℕ). with_lines words (lines_for n b ls)) (other board long l b (λ is. isnot (sym is))))

-- ---- the board that a move leaves

module _ (old : List ℕ) (f : Floor) (n : ℕ) (some : 0 < n) where
  abbrev lines : List Line
  lines = lines_on old f.buckets

  -- it has eight words a bucket
  pub moved_long : length (moved_board old f n) ≡ 8 * n
  moved_long = placed_long n some lines (opened_board n f.version) (length_opened f.version n) ∙ length_opened f.version n

  -- §22.3: each is an empty one at the floor's version, with the lines of its lots
  pub moved_bucket : (b : ℕ) → b < n → bucket_at (moved_board old f n) b ≡ with_lines (empty_bucket f.version) (lines_for n b lines)
  moved_bucket b under =
      placed_bucket n some lines (opened_board n f.version) (length_opened f.version n) b
      ∙ ap (λ (words : List ℕ). with_lines words (lines_for n b lines)) (opened_bucket f.version n b under)

  -- and there is none past the last
  pub moved_none : (b : ℕ) → n ≤ b → bucket_at (moved_board old f n) b ≡ []
  moved_none b past = rw (drop_of_length-le (moved_board old f n) {i = 8 * b} (omega (arith, moved_long)))

-- ---- an empty bucket with some lines

-- 1 for each of the first k slots
abbrev ones : ℕ → ℕ → ℕ
ones k p = cond (ltb p k) 1 0

small : (k p : ℕ) → ones k p < 256
small k p = by_cases (λ (m : ℕ). m < 256) (ltb p k) 1 0 (λ is. omega arith) (λ isnot. omega arith)

-- the mark word of version v with the first k slots valid
unfoldable pub word_with : ℕ → ℕ → ℕ
word_with v k = word_of v (ones k 0) (ones k 1) (ones k 2)

-- such a bucket with lines in its first slots
unfoldable pub bucket_with : ℕ → List Line → List ℕ
bucket_with v ls =
    word_with v (length ls)
    ∷ (get_or ls 0 no_line).lot
    ∷ (get_or ls 1 no_line).lot
    ∷ (get_or ls 2 no_line).lot
    ∷ (get_or ls 0 no_line).ticket
    ∷ (get_or ls 1 no_line).ticket
    ∷ (get_or ls 2 no_line).ticket
    ∷ 0
    ∷ []

module _ (v : ℕ) (fits : v < 2 ^ 32) where
  pub word_none : v ≡ word_with v 0
  unfolding word_with word_of
  word_none = omega arith

  -- the fields of such a word
  mark_with : (k p : ℕ) → mark_of (word_with v k) p ≡ get_or (ones k 0 ∷ ones k 1 ∷ ones k 2 ∷ []) p 0
  unfolding word_with
  mark_with k p = mark_word_lem v (ones k 0) (ones k 1) (ones k 2) fits (small k 0) (small k 1) (small k 2) p

  version_with : (k : ℕ) → version (word_with v k) ≡ v
  unfolding word_with
  version_with k = version_word v (ones k 0) (ones k 1) (ones k 2) fits (small k 0) (small k 1) (small k 2)

  byte7_with : (k : ℕ) → byte7 (word_with v k) ≡ 0
  unfolding word_with
  byte7_with k = byte7_word v (ones k 0) (ones k 1) (ones k 2) fits (small k 0) (small k 1) (small k 2)

  count_with : (k : ℕ) → k ≤ 3 → count_marks 1 (word_with v k) ≡ k
  unfolding count_marks
  count_with zero few = rw (mark_with 0 0, mark_with 0 1, mark_with 0 2)
  count_with (suc zero) few = rw (mark_with 1 0, mark_with 1 1, mark_with 1 2)
  count_with (suc (suc zero)) few = rw (mark_with 2 0, mark_with 2 1, mark_with 2 2)
  count_with (suc (suc (suc zero))) few = rw (mark_with 3 0, mark_with 3 1, mark_with 3 2)
  count_with (suc (suc (suc (suc k)))) few = absurd (omega arith)

  -- the next slot is the first empty one
  pub empty_next : (k : ℕ) → k < 3 → first_empty (word_with v k) ≡ k
  unfolding first_empty
  empty_next zero few = rw (mark_with 0 0)
  empty_next (suc zero) few = rw (mark_with 1 0, mark_with 1 1)
  empty_next (suc (suc zero)) few = rw (mark_with 2 0, mark_with 2 1, mark_with 2 2)
  empty_next (suc (suc (suc k))) few = absurd (omega arith)

  -- and is valid then
  set_next : (k : ℕ) → k < 3 → set_mark (word_with v k) k 1 ≡ word_with v (suc k)
  unfolding word_with word_of set_mark mark_of
  set_next zero few = omega arith
  set_next (suc zero) few = omega arith
  set_next (suc (suc zero)) few = omega arith
  set_next (suc (suc (suc k))) few = absurd (omega arith)

  -- a line more in the first slot that is empty
  module _ (k a b c d e f : ℕ) (few : k < 3) (l : Line) where
    abbrev stood : List ℕ
    stood = word_with v k ∷ a ∷ b ∷ c ∷ d ∷ e ∷ f ∷ 0 ∷ []

    line_next : with_line stood l ≡ set (set (set stood mark_cell (word_with v (suc k))) (key_cell k) l.lot) (value_cell k) l.ticket
    line_next = rw (empty_next k few, set_next k few)

  pub filled_one : (a : Line) → with_lines (empty_bucket v) (a ∷ []) ≡ bucket_with v (a ∷ [])
  unfolding with_lines bucket_with
  filled_one a = ap (λ (w : ℕ). with_line (empty_bucket w) a) word_none ∙ line_next 0 0 0 0 0 0 0 (omega arith) a

  pub filled_two : (a b : Line) → with_lines (empty_bucket v) (a ∷ b ∷ []) ≡ bucket_with v (a ∷ b ∷ [])
  unfolding with_lines bucket_with
  filled_two a b =
      ap (λ (words : List ℕ). with_line words b) (filled_one a) ∙ line_next 1 a.lot 0 0 a.ticket 0 0 (omega arith) b

  -- up to three lines stand in its first slots, one after another
  filled_is : (ls : List Line) → length ls ≤ 3 → with_lines (empty_bucket v) ls ≡ bucket_with v ls
  unfolding with_lines bucket_with
  filled_is [] few = ap empty_bucket word_none
  filled_is (a ∷ []) few = filled_one a
  filled_is (a ∷ b ∷ []) few = filled_two a b
  filled_is (a ∷ b ∷ c ∷ []) few =
      ap (λ (words : List ℕ). with_line words c) (filled_two a b)
      ∙ line_next 2 a.lot b.lot 0 a.ticket b.ticket 0 (omega arith) c
  filled_is (a ∷ b ∷ c ∷ d ∷ ls) few = absurd (omega arith)

-- ---- what can be read there

-- a bucket of version v with up to three lines in its first slots, and nothing else
pub record Lined (v : ℕ) (ls : List Line) (bucket : List ℕ) : Type 0 where
  pub whole : broken_bucket bucket ≡ false
  pub version_is : version (cell bucket mark_cell) ≡ v
  -- the first slots are valid, and the others empty
  pub valid : (p : ℕ) → p < length ls → mark_of (cell bucket mark_cell) p ≡ 1
  pub empty : (p : ℕ) → length ls ≤ p → mark_of (cell bucket mark_cell) p ≡ 0
  pub lots : count_marks 1 (cell bucket mark_cell) ≡ length ls
  -- each slot has its line, or zeros
  pub line : (p : ℕ) → p < 3 → line_at bucket p ≡ get_or ls p no_line
  -- there is no value past them
  pub past : (p : ℕ) → 3 ≤ p → cell bucket (value_cell p) ≡ 0

-- the first k of three marks are 1
ones_at : (k p : ℕ) → k ≤ 3 → p < k → get_or (ones k 0 ∷ ones k 1 ∷ ones k 2 ∷ []) p 0 ≡ 1
ones_at k p few =
    slots (λ (p : ℕ). p < k → get_or (ones k 0 ∷ ones k 1 ∷ ones k 2 ∷ []) p 0 ≡ 1) (λ is. rw (lt-ltb 0 k is)) (λ is. rw (lt-ltb 1 k is))
    (λ is. rw (lt-ltb 2 k is)) (λ p past is. absurd (omega arith)) p

ones_past : (k p : ℕ) → k ≤ p → get_or (ones k 0 ∷ ones k 1 ∷ ones k 2 ∷ []) p 0 ≡ 0
ones_past k p =
    slots (λ (p : ℕ). k ≤ p → get_or (ones k 0 ∷ ones k 1 ∷ ones k 2 ∷ []) p 0 ≡ 0) (λ is. rw (le-ltb 0 k is)) (λ is. rw (le-ltb 1 k is))
    (λ is. rw (le-ltb 2 k is)) (λ p past is. get_or-eq_default (ones k 0 ∷ ones k 1 ∷ ones k 2 ∷ []) 0 past) p

-- so it is with the lines of a move
pub filled_lined : (v : ℕ) → v < 2 ^ 32 → (ls : List Line) → length ls ≤ 3 → Lined v ls (with_lines (empty_bucket v) ls)
unfolding bucket_with
filled_lined v fits ls few =
    let k : ℕ = length ls in
    rw (filled_is v fits ls few)
    (record {
      whole =
          whole_not_broken (bucket_with v ls)
          (record { eight = refl; formed = well_formed_lem (word_with v k) (λ p slot. known p (dec_le k p)) (byte7_with v fits k); spare = refl });
      version_is = version_with v fits k;
      valid = valid;
      empty = empty;
      lots = count_with v fits k few;
      line =
          slots (λ (p : ℕ). p < 3 → line_at (bucket_with v ls) p ≡ get_or ls p no_line) (λ slot. refl) (λ slot. refl) (λ slot. refl)
          (λ p past slot. absurd (omega arith));
      past = past;
    })
  where
    valid : (p : ℕ) → p < length ls → mark_of (word_with v (length ls)) p ≡ 1
    valid p under = mark_with v fits (length ls) p ∙ ones_at (length ls) p few under

    empty : (p : ℕ) → length ls ≤ p → mark_of (word_with v (length ls)) p ≡ 0
    empty p past = mark_with v fits (length ls) p ∙ ones_past (length ls) p past

    known : (p : ℕ) → Dec (length ls ≤ p) → mark_of (word_with v (length ls)) p ≤ 2
    known p (yes over) = omega (arith, empty p over)
    known p (no under) = omega (arith, valid p (omega arith))

    past : (p : ℕ) → 3 ≤ p → cell (bucket_with v ls) (value_cell p) ≡ 0
    past zero over = absurd (omega arith)
    past (suc zero) over = absurd (omega arith)
    past (suc (suc zero)) over = absurd (omega arith)
    past (suc (suc (suc zero))) over = refl
    past (suc (suc (suc (suc p)))) over = get_or-eq_default (bucket_with v ls) 0 {n = value_cell (suc (suc (suc (suc p))))} (omega arith)

-- ---- the buckets of the board that a move leaves

module _ (old : List ℕ) (f : Floor) (n : ℕ) (some : 0 < n) (fits : f.version < 2 ^ 32) (room : crowded n (lines_on old f.buckets) ≡ false) where
  -- §22.3: each has the lines of its lots, of those that stood on the old board, and nothing else
  pub moved_lined : (b : ℕ) → b < n → Lined f.version (lines_for n b (lines_on old f.buckets)) (bucket_at (moved_board old f n) b)
  moved_lined b under =
      let ls : List Line = lines_for n b (lines_on old f.buckets) in
      rw (moved_bucket old f n some b under)
      (filled_lined f.version fits ls (any_over_none (λ b. length (lines_for n b (lines_on old f.buckets))) n room b under))

  -- there are as many lots as before
  pub moved_lots : lots_on (moved_board old f n) n ≡ lots_on old f.buckets
  moved_lots =
      lots_sum (moved_board old f n) (λ b. length (lines_for n b (lines_on old f.buckets))) n (λ b under. (moved_lined b under).lots)
      ∙ for_total n some (lines_on old f.buckets)
      ∙ sym (board_lots old f.buckets)
