-- What the test of the sizes says when it lets a floor through. Assumes nothing.
use Prim.Native.Nat.{ℕ, ◌*◌}
use mathlib.Core.Bool.{Bool, true, false, ◌||◌, and-eq-true_iff}
use mathlib.Core.Path.{◌≡◌, refl, ◌∙◌}
use mathlib.Core.List.{List}
use lib.ListN.{length}
use borrow.Author.Tests.{eqb-true, eq-eqb, leb-true, le-leb, not-false}
use Rattle.mark.proofs.Choices.{none_holds, denied, passes, not_both}
use Rattle.engine.specs.declared.Floor.{Floor}
use Rattle.engine.specs.Refusals.{wrong_floor, wrong_sizes, open_number, show_number}
use Rattle.engine.specs.Room.{Right}

-- floor and board fit together
pub right : (f : Floor) (board : List ℕ) → wrong_floor f board ≡ false → Right f board
unfolding wrong_floor
right f board is =
    let all = (and-eq-true_iff _ _).0 (not-false _ is) in
    let rest = (and-eq-true_iff _ _).0 all.1 in
    let w = (and-eq-true_iff _ _).0 all.0 in
    let n = (and-eq-true_iff _ _).0 rest.0 in
    record {
      some_worker = leb-true 1 _ w.0;
      workers = leb-true _ 64 w.1;
      some_bucket = leb-true 1 _ n.0;
      buckets = leb-true _ 256 n.1;
      words = eqb-true _ _ rest.1;
    }

-- where neither of two tests holds, each fails
pub both_fail : (t u : Bool) → (t || u) ≡ false → (t ≡ false) × (u ≡ false)
both_fail true u is = not_both true is refl
both_fail false u is = (refl, is)

-- so they do where the list is tested too
pub right_sizes : (f : Floor) (board : List ℕ) (listed : ℕ) → wrong_sizes f board listed ≡ false → Right f board
unfolding wrong_sizes wrong_floor
right_sizes f board listed is = right f board (both_fail _ _ is).0

-- and the list has a record for each worker
pub right_listed : (f : Floor) (board : List ℕ) (listed : ℕ) → wrong_sizes f board listed ≡ false → listed ≡ f.workers
unfolding wrong_sizes wrong_floor
right_listed f board listed is = eqb-true _ _ (not-false _ (both_fail (wrong_floor f board) _ is).1)

-- a board that is as long as one that fits the floor fits it too
pub fits_still : (f : Floor) (board later : List ℕ) → Right f board → length later ≡ length board → Right f later
fits_still f board later fits long =
    record {
      some_worker = fits.some_worker;
      workers = fits.workers;
      some_bucket = fits.some_bucket;
      buckets = fits.buckets;
      words = long ∙ fits.words;
    }

-- where floor and board fit together, the test lets them through
pub floor_right : (f : Floor) (board : List ℕ) → Right f board → wrong_floor f board ≡ false
unfolding wrong_floor
floor_right f board fits =
    rw (
      le-leb 1 f.workers fits.some_worker,
      le-leb f.workers 64 fits.workers,
      le-leb 1 f.buckets fits.some_bucket,
      le-leb f.buckets 256 fits.buckets,
      eq-eqb (length board) (8 * f.buckets) fits.words,
    ) refl

-- and where there is a record for each worker, so does that of the list
pub sizes_right : (f : Floor) (board : List ℕ) (listed : ℕ) → Right f board → listed ≡ f.workers → wrong_sizes f board listed ≡ false
unfolding wrong_sizes wrong_floor
sizes_right f board listed fits is = none_holds _ _ (floor_right f board fits) (denied _ (eq-eqb listed f.workers is))

-- so an opening of those sizes is accepted
pub opens_right : (f : Floor) (board : List ℕ) (listed : ℕ) → Right f board → listed ≡ f.workers → open_number f board listed ≡ 0
unfolding open_number
opens_right f board listed fits is = rw (sizes_right f board listed fits is)

-- a show that is not refused
pub shown_right : (f : Floor) (board : List ℕ) (lot : ℕ) → show_number f board lot ≡ 0 → Right f board
unfolding show_number
shown_right f board lot is = right f board (passes _ 0 _ is).0
