-- A retiring on the lent part of the board is the call's retiring on the board; the number that it hands back is the tests' own; and what it
-- keeps. Assumes nothing.
use Prim.Native.Nat.{ℕ, ◌+◌, ◌-◌, ◌*◌, ◌≤◌, ◌<◌}
use mathlib.Core.Bool.{Bool, true, false, cond}
use mathlib.Core.Path.{◌≡◌, refl, sym, ap, ◌∙◌}
use mathlib.Core.List.{List, ◌++◌}
use lib.Dec.{eqb}
use lib.ListN.{length, take, drop}
use native.Mathlib.Decide.{ℕ_discrete}
use native.Mathlib.Nat.{mod-lt}
use native.Mathlib.Omega.{arith}
use borrow.Author.Tests.{eqb-true, eq-eqb, leb-false}
use Rattle.mark.proofs.Choices.{by_cases, passes}
use Rattle.turn.specs.declared.Worker.{Worker}
use Rattle.std.proofs.Common.{Result}
use Rattle.turn.specs.declared.refusal.Refusal.{Refusal}
use Rattle.turn.specs.Retire.{Retired, retired_as}
use Rattle.turn.proofs.Refusing.{retired_told}
use Rattle.turn.specs.Worker.{no_slot}
use Rattle.turn.specs.Bucket.{cell, mark_cell, broken_bucket}
use Rattle.turn.specs.Effects.{effect_on, effect_of_retiring}
use Rattle.turn.specs.Turn.{After, after}
use Rattle.turn.specs.Retire.{retire_refusal, vacated, not_retired, is_retired, retire_on}
use Rattle.turn.proofs.Sound.{whole_parts, whole_not_broken}
use Rattle.turn.proofs.Retiring.{Retirable, retirable, vacated_long, vacated_other, vacated_mark, vacated_whole}
use Rattle.engine.specs.declared.Floor.{Floor}
use Rattle.engine.specs.declared.Seat.{Seat}
use Rattle.engine.specs.Board.{bucket_at, with_bucket}
use Rattle.engine.specs.Refusals.{wrong_sizes, no_worker, bucket_for, retire_number}
use Rattle.engine.specs.Calls.{vacated_on, retired, retire_call}
use Rattle.engine.specs.Promises.{WorkerRetired}
use Rattle.engine.specs.Room.{Right}
use Rattle.engine.proofs.Parts.{part_at, put_at, put_same}
use Rattle.engine.proofs.Turns.{own}
use Rattle.engine.proofs.Sizes.{right_sizes}
use Rattle.engine.proofs.Cut.{bucket_long, with_long, same_bucket, other_bucket}

-- what a retiring on a bucket comes to on the board
abbrev on_board : List ℕ → ℕ → After Retired → After Retired
on_board board b o = after (with_bucket board b o.words) o.handed

module _ (f : Floor) (board : List ℕ) (w : Worker) where
  -- the number of refusal that the bucket and the record give
  abbrev number : ℕ
  number = retire_refusal (bucket_for f board w.key) w

  abbrev bucket : List ℕ
  bucket = bucket_at board (own f w)

  both :
      (t : Bool)
      → on_board board (own f w) (cond t (after (vacated bucket w) is_retired) (after bucket (not_retired number w)))
      ≡ cond t (after (vacated_on f board w) is_retired) (after board (not_retired number w))
  both true = refl
  both false = ap (λ (l : List ℕ). after l (not_retired number w)) (put_same board (own f w))

  retire_on_board : on_board board (own f w) (retire_on bucket w) ≡ retired number f board w
  unfolding retire_on retired
  retire_on_board = both (eqb number 0)

  -- the part is lent from the bucket's first word on, and comes back with what the retiring left there
  pub retire_on_lem :
      (at : ℕ) (p : List ℕ) (r : Retired)
      → at ≡ 8 * own f w
      → after p r ≡ retire_on (take (at + 8 - at) (drop at board)) w
      → after (take at board ++ (p ++ drop (at + 8 - at) (drop at board))) r ≡ retired number f board w
  retire_on_lem at p r is e =
      ap (λ (l : List ℕ). after l r) (put_at board at (own f w) is p)
      ∙ ap (on_board board (own f w)) (e ∙ ap (λ (l : List ℕ). retire_on l w) (part_at board at (own f w) is))
      ∙ retire_on_board

-- a retiring that is refused by a number, as the code has it
pub refused_retired :
    (n : ℕ) (f : Floor) (board : List ℕ) (w : Worker) (r : Retired) → eqb n 0 ≡ false → r ≡ not_retired n w → after board r ≡ retired n f board w
unfolding retired
refused_retired n f board w r some is = rw (some, is)

-- a retiring hands back the number of its tests
pub retired_number : (number : ℕ) (f : Floor) (board : List ℕ) (w : Worker) → (retired number f board w).handed.refusal ≡ number
unfolding retired
retired_number number f board w =
    by_cases (λ (x : After Retired). x.handed.refusal ≡ number) (eqb number 0) _ _ (λ is. sym (eqb-true number 0 is)) (λ isnot. refl)

-- the promise of a retiring, from its equation
pub worker_retired :
    (board : List ℕ) (s : Seat) (w : Worker) (board' : List ℕ) (r : Result Worker Refusal)
    → after board' (retired_as w r) ≡ retire_call board s w
    → WorkerRetired board s w board' r
unfolding retire_call
worker_retired board s w board' r whole =
    record {
      whole = whole;
      number =
          sym (retired_told w r)
          ∙ ap (λ (x : After Retired). x.handed.refusal) whole
          ∙ retired_number (retire_number s.floor board s.listed s.worker w) s.floor board w;
    }

-- ---- a retiring that is accepted

-- what it says that a retiring has no number of refusal
pub retire_accepted :
    (f : Floor) (board : List ℕ) (listed i : ℕ) (w : Worker)
    → retire_number f board listed i w ≡ 0
    → Right f board × Retirable (bucket_for f board w.key) w × (i < f.workers)
unfolding retire_number
retire_accepted f board listed i w none =
    let sizes = passes (wrong_sizes f board listed) 0 _ none in
    let there = passes (no_worker f i) 1 _ sizes.1 in
    (right_sizes f board listed sizes.0, retirable _ w there.1, leb-false _ _ there.0)

-- where no slot is held the board is as it was
pub vacated_nothing : (f : Floor) (board : List ℕ) (w : Worker) → w.held ≡ no_slot → vacated_on f board w ≡ board
vacated_nothing f board w none = rw (eq-eqb w.held no_slot none) (put_same board (own f w))

module _ (f : Floor) (board : List ℕ) (w : Worker) (right : Right f board) where
  abbrev words : List ℕ
  words = vacated (bucket_for f board w.key) w

  within : 8 * own f w + 8 ≤ length board
  within = omega (arith, right.words, mod-lt w.key right.some_bucket)

  eight : length words ≡ 8
  eight = vacated_long _ w ∙ bucket_long board (own f w) within

  -- the board stays as long as it was
  pub vacated_board_long : length (vacated_on f board w) ≡ length board
  vacated_board_long = with_long board (own f w) words (vacated_long _ w)

  -- the bucket of the worker's lot is left with the held slot given back
  pub vacated_own : bucket_at (vacated_on f board w) (own f w) ≡ words
  vacated_own = same_bucket board (own f w) words within eight

  -- every other bucket is as it was
  pub vacated_others : (c : ℕ) → (c ≡ own f w → ⊥) → bucket_at (vacated_on f board w) c ≡ bucket_at board c
  vacated_others c other = other_bucket board (own f w) words within eight c other

  -- the mark word of the bucket is what the effect makes of it
  pub vacated_word :
      Retirable (bucket_for f board w.key) w
      → cell (bucket_at (vacated_on f board w) (own f w)) mark_cell
      ≡ effect_on (effect_of_retiring w) (cell (bucket_at board (own f w)) mark_cell)
  vacated_word ok = ap (λ (l : List ℕ). cell l mark_cell) vacated_own ∙ vacated_mark _ w ok

  -- no cell of any bucket is touched but mark words
  pub vacated_cells : (c k : ℕ) → (k ≡ mark_cell → ⊥) → cell (bucket_at (vacated_on f board w) c) k ≡ cell (bucket_at board c) k
  vacated_cells c k other = by (ℕ_discrete c (own f w))
    where
      by : Dec (c ≡ own f w) → cell (bucket_at (vacated_on f board w) c) k ≡ cell (bucket_at board c) k
      by (yes is) = rw (is, vacated_own) (vacated_other _ w k other)
      by (no elsewhere) = ap (λ (l : List ℕ). cell l k) (vacated_others c elsewhere)

  -- no bucket becomes broken
  pub vacated_unbroken :
      Retirable (bucket_for f board w.key) w
      → (c : ℕ)
      → broken_bucket (bucket_at board c) ≡ false
      → broken_bucket (bucket_at (vacated_on f board w) c) ≡ false
  vacated_unbroken ok c = by (ℕ_discrete c (own f w))
    where
      by : Dec (c ≡ own f w) → broken_bucket (bucket_at board c) ≡ false → broken_bucket (bucket_at (vacated_on f board w) c) ≡ false
      by (yes is) whole =
          rw (is, vacated_own) (whole_not_broken _ (vacated_whole _ w ok (whole_parts _ (rw is at whole))))
      by (no elsewhere) whole = rw (vacated_others c elsewhere) whole
