-- The lot of a slot that is valid comes after those that have their slots already. Assumes nothing.
use Rattle.std.proofs.Common.{ℕ, ◌+◌, ◌*◌, false, sym, subst, ◌∙◌, arith}
use Rattle.std.proofs.Math.ListN.{set}
use Rattle.engine.specs.Seating.{lot_word, SeatsMore}
use Rattle.engine.proofs.Seating.{slot_lacks, slot_next}
use Rattle.engine.proofs.moving.seat_slot.Goals as goal

pub returns-then-k-eq3 : goal.returns-then-k-eq3
returns-then-k-eq3 c =
    let a = c.args in
    let pre = c.requires.0 in
    slot_lacks a.old.now a.buckets a.b a.slot c.requires.1 pre.some_bucket pre.buckets a.from.now
    (sym c.mark_of.ensures ∙ c.if-mark_of-ne-VALID.false) _ _ (omega arith) c.bucket_of-at.ensures.0 (sym c.taken-k.ensures.0 ∙ c.if-k-eq3.true)

pub returns : goal.returns
returns c =
    let a = c.args in
    let pre = c.requires.0 in
    let w : ℕ = 8 * a.b + 1 + a.slot in
    let h = c.bucket_of-at.result in
    rw c.from.ensures
    (subst (λ (k : ℕ). SeatsMore a.old.now a.buckets (lot_word a.old.now a.b a.slot) a.from.now (set a.from.now (3 * h + k) w) false)
    (sym c.taken-k.ensures.0)
    (slot_next a.old.now a.buckets a.b a.slot c.requires.1 pre.some_bucket pre.buckets a.from.now
    (sym c.mark_of.ensures ∙ c.if-mark_of-ne-VALID.false) w h (omega arith) (rw c.from.ensures at c.bucket_of-at.ensures.0)
    (λ is. c.if-k-eq3.false (c.taken-k.ensures.0 ∙ is))))
