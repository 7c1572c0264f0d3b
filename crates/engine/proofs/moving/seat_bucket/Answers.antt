use Rattle.std.proofs.Common.{subst, sym}
use Rattle.std.proofs.Math.Bool.{or_assoc}
use Rattle.engine.specs.Seating.{lot_word, lot_words_in, SeatsMore}
use Rattle.engine.proofs.Seating.{seats_then}
use Rattle.engine.proofs.moving.seat_bucket.Goals as goal

pub returns : goal.returns
returns c =
    let a = c.args in
    let old = a.old.now in
    subst (SeatsMore old a.buckets (lot_words_in old a.b) a.from.now c.seat_slot-third.new.from)
    (sym (or_assoc c.seat_slot-first.result c.seat_slot-second.result c.seat_slot-third.result))
    (seats_then old a.buckets (lot_word old a.b 0) _ _ _ _ _ _ c.seat_slot-first.ensures
    (seats_then old a.buckets (lot_word old a.b 1) (lot_word old a.b 2) _ _ _ _ _ c.seat_slot-second.ensures
    c.seat_slot-third.ensures))
