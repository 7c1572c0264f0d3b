-- The buckets before this one are settled, and their lots have their slots, as far as there are three. Assumes nothing.
use Rattle.std.proofs.Common.{◌≡◌, false}
use Rattle.engine.specs.Move.{any_unsettled}
use Rattle.engine.specs.Seating.{lot_words_on, too_many, Seated}
use Rattle.engine.proofs.moving.seat_all.Given as goal

abbrev pub invariant-loop-b : goal.invariant-loop-b
invariant-loop-b l = record {
  settled : any_unsettled l.old l.b ≡ false;
  seated : Seated l.old l.buckets (lot_words_on l.old l.b) l.from;
  many : too_many l.old l.buckets (lot_words_on l.old l.b) ≡ l.crowded;
}
