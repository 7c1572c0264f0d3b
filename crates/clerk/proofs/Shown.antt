-- The bucket that is shown for a lot has what the board has of it: a show is never refused, and a valid slot stands in the bucket where
-- its lot belongs. Assumes nothing.
use Prim.Native.Nat.{ℕ, ◌<◌}
use mathlib.Core.List.{List}
use mathlib.Core.Logic.{◌↔◌}
use mathlib.Core.Path.{◌≡◌, ap, sym, subst, ◌∙◌}
use native.Mathlib.Nat.{mod-lt}
use borrow.Author.Tests.{eq-eqb}
use Rattle.engine.specs.Board.{bucket_of, bucket_at}
use Rattle.engine.specs.Calls.{show_call}
use Rattle.engine.proofs.Sizes.{right_sizes}
use Rattle.engine.specs.Move.{Line}
use Rattle.history.specs.History.{State}
use Rattle.history.specs.Cells.{Cells}
use Rattle.history.specs.Unbroken.{Unbroken}
use Rattle.history.proofs.Unrefused.{show_accepted}
use Rattle.clerk.specs.Clerk.{HasLine, Stands}

module _ {s : State} (unbroken : Unbroken s) where
  -- an opened board has a bucket
  pub some_bucket : 0 < s.floor.buckets
  some_bucket = (right_sizes _ _ _ unbroken.sized).some_bucket

  -- the words that are shown for a lot are those of its bucket
  shown_bucket :
      (lot : ℕ) → show_call s.board s.floor lot ≡ bucket_at s.board (bucket_of lot s.floor.buckets)
  unfolding show_call
  shown_bucket lot = rw (eq-eqb _ 0 (show_accepted s unbroken lot))

module _ {s : State} (cells : Cells s) where
  -- a line stands in no bucket but its lot's
  pub stands_home : (b p : ℕ) (l : Line) → Stands s b p l → b ≡ bucket_of l.lot s.floor.buckets
  stands_home b p l stands =
      sym (cells.valid b p stands.slot.valid).lot
      ∙ ap (λ (k : ℕ). bucket_of k s.floor.buckets) stands.slot.lot

module _ {s : State} (unbroken : Unbroken s) (cells : Cells s) where
  -- a line stands in a valid slot of the board exactly if the bucket that is shown for its lot has it
  pub shown_slots :
      (l : Line)
      → ((b : ℕ) × (p : ℕ) × Stands s b p l) ↔ ((p : ℕ) × HasLine (show_call s.board s.floor l.lot) p l)
  shown_slots l =
      let n = s.floor.buckets in
      let words = bucket_at s.board in (
        λ there. (
          there.1,
          subst (λ (shown : List ℕ). HasLine shown there.1 l)
              (ap words (stands_home cells there.0 there.1 l there.2) ∙ sym (shown_bucket unbroken l.lot)) there.2.slot,
        ),
        λ shown. (
          bucket_of l.lot n,
          shown.0,
          record {
            under = mod-lt l.lot (some_bucket unbroken);
            slot = subst (λ (bucket : List ℕ). HasLine bucket shown.0 l) (shown_bucket unbroken l.lot) shown.1;
          },
        ),
      )
