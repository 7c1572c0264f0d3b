-- How many lines a board has (§22.1), how many each new bucket would have, and when one would have four (§6.13). Assumes nothing.
use Prim.Native.Nat.{ℕ, zero, suc, ◌+◌, ◌≤◌, ◌<◌}
use mathlib.Core.Bool.{Bool, true, false, cond}
use mathlib.Core.Path.{◌≡◌, refl, sym, ap, ap₂, ◌∙◌}
use mathlib.Core.List.{List, [], ◌∷◌, ◌++◌}
use native.Mathlib.Decide.{ℕ_discrete}
use native.Mathlib.Nat.{mod-lt}
use native.Mathlib.Omega.{arith}
use lib.Dec.{eqb, ltb}
use lib.ListN.{length, length-append}
use borrow.Author.Tests.{eq-eqb, ne_eqb, ltb-true}
use Rattle.mark.specs.Word.{mark_of, is_mark, count_marks}
use Rattle.turn.specs.Bucket.{cell, mark_cell}
use Rattle.engine.specs.Board.{bucket_of, bucket_at, lots_on}
use Rattle.engine.specs.Move.{Line, line_at, line_in, lines_in, lines_on, lines_for, any_over}
use Rattle.engine.proofs.AnyUnder.{any_some}

-- ---- of a board

-- a bucket has as many lines as valid slots
lines_many : (bucket : List ℕ) → length (lines_in bucket) ≡ count_marks 1 (cell bucket mark_cell)
unfolding count_marks
lines_many bucket =
    omega (
      arith,
      length-append (line_in bucket 0) (line_in bucket 1 ++ line_in bucket 2),
      length-append (line_in bucket 1) (line_in bucket 2),
      one 0,
      one 1,
      one 2,
    )
  where
    by : (p : ℕ) (t : Bool) → length (cond t (line_at bucket p ∷ []) []) ≡ cond t 1 0
    by p true = refl
    by p false = refl

    one : (p : ℕ) → length (line_in bucket p) ≡ is_mark 1 (mark_of (cell bucket mark_cell) p)
    one p = by p (eqb (mark_of (cell bucket mark_cell) p) 1)

module _ (board : List ℕ) where
  -- a board has as many as a count tells
  pub board_lots : (n : ℕ) → lots_on board n ≡ length (lines_on board n)
  unfolding lots_on lines_on
  board_lots zero = refl
  board_lots (suc n) =
      ap₂ (λ (x y : ℕ). x + y) (board_lots n) (sym (lines_many (bucket_at board n)))
      ∙ sym (length-append (lines_on board n) (lines_in (bucket_at board n)))

-- ---- of each new bucket

-- numbers for the first n buckets, added up
unfoldable pub sum_to : (ℕ → ℕ) → ℕ → ℕ
sum_to f zero = 0
sum_to f (suc n) = sum_to f n + f n

sum_same : (f g : ℕ → ℕ) (n : ℕ) → ((b : ℕ) → b < n → g b ≡ f b) → sum_to g n ≡ sum_to f n
unfolding sum_to
sum_same f g zero same = refl
sum_same f g (suc n) same = ap₂ (λ (x y : ℕ). x + y) (sum_same f g n (λ b under. same b (omega arith))) (same n (omega arith))

-- one more at h
sum_more :
    (f g : ℕ → ℕ) (h n : ℕ) → h < n → g h ≡ suc (f h) → ((b : ℕ) → (b ≡ h → ⊥) → g b ≡ f b) → sum_to g n ≡ suc (sum_to f n)
unfolding sum_to
sum_more f g h zero under more same = absurd (omega arith)
sum_more f g h (suc n) under more same = by (ℕ_discrete n h) (λ before. sum_more f g h n before more same)
  where
    by : Dec (n ≡ h) → (h < n → sum_to g n ≡ suc (sum_to f n)) → sum_to g n + g n ≡ suc (sum_to f n + f n)
    by (yes is) earlier = omega (arith, sum_same f g n (λ b below. same b (omega (arith, is))), ap g is, more, ap f is)
    by (no other) earlier = omega (arith, earlier (omega arith), same n other)

sum_none : (f : ℕ → ℕ) (n : ℕ) → ((b : ℕ) → f b ≡ 0) → sum_to f n ≡ 0
unfolding sum_to
sum_none f zero none = refl
sum_none f (suc n) none = omega (arith, sum_none f n none, none n)

-- the lines of all buckets are all lines
pub for_total : (n : ℕ) → 0 < n → (ls : List Line) → sum_to (λ b. length (lines_for n b ls)) n ≡ length ls
unfolding lines_for
for_total n some [] = sum_none (λ b. 0) n (λ b. refl)
for_total n some (l ∷ ls) =
    sum_more (λ b. length (lines_for n b ls)) (λ b. length (lines_for n b (l ∷ ls))) home n (mod-lt l.lot some)
    (rw (eq-eqb home home refl)) (λ b other. rw (ne_eqb home b (λ is. other (sym is))))
    ∙ ap suc (for_total n some ls)
  where
    home : ℕ
    home = bucket_of l.lot n

-- a count is the sum of what the buckets have
pub lots_sum : (board : List ℕ) (f : ℕ → ℕ) (n : ℕ) → ((b : ℕ) → b < n → count_marks 1 (cell (bucket_at board b) mark_cell) ≡ f b) → lots_on board n ≡ sum_to f n
unfolding lots_on sum_to
lots_sum board f zero each = refl
lots_sum board f (suc n) each = ap₂ (λ (x y : ℕ). x + y) (lots_sum board f n (λ b under. each b (omega arith))) (each n (omega arith))

-- ---- four in one bucket

-- one bucket has them
pub over_some : (count : ℕ → ℕ) (n : ℕ) → any_over count n ≡ true → (b : ℕ) × (b < n) × (4 ≤ count b)
over_some count n is = let found = any_some (λ b. ltb 3 (count b)) n is in (found.0, found.1, ltb-true 3 (count found.0) found.2)
