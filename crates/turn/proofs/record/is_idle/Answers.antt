use Rattle.std.proofs.Common.{◌≡◌, ◌&&◌, Bool, true, false, eqb, refl, ap, sym, ◌∙◌, true≢false}
use mathlib.Core.Bool.{and-eq-true_iff}
use borrow.Author.Tests.{eqb-true}
use Rattle.turn.specs.declared.Worker.{Worker}
use Rattle.turn.specs.Worker.{idle, is_idle}
use Rattle.turn.proofs.Kept.{idle_is, is_idle_lem}
use Rattle.turn.proofs.record.is_idle.Goals as goal

-- every field is the other record's, in the order in which they lie
abbrev same_fields : Worker → Worker → Bool
same_fields w v =
    eqb w.key v.key
    && (eqb w.word v.word
    && (eqb w.seen v.seen
    && (eqb w.ticket v.ticket
    && (eqb w.asleep v.asleep
    && (eqb w.slot v.slot
    && (eqb w.kind v.kind
    && (eqb w.place v.place
    && eqb w.held v.held)))))))

-- so they are one record
same_record : (w v : Worker) → same_fields w v ≡ true → w ≡ v
same_record w v is =
    let a = (and-eq-true_iff (eqb w.key v.key) _).0 is in
    let b = (and-eq-true_iff (eqb w.word v.word) _).0 a.1 in
    let c = (and-eq-true_iff (eqb w.seen v.seen) _).0 b.1 in
    let d = (and-eq-true_iff (eqb w.ticket v.ticket) _).0 c.1 in
    let e = (and-eq-true_iff (eqb w.asleep v.asleep) _).0 d.1 in
    let f = (and-eq-true_iff (eqb w.slot v.slot) _).0 e.1 in
    let g = (and-eq-true_iff (eqb w.kind v.kind) _).0 f.1 in
    let h = (and-eq-true_iff (eqb w.place v.place) (eqb w.held v.held)).0 g.1 in
    rw (
      eqb-true _ _ a.0,
      eqb-true _ _ b.0,
      eqb-true _ _ c.0,
      eqb-true _ _ d.0,
      eqb-true _ _ e.0,
      eqb-true _ _ f.0,
      eqb-true _ _ g.0,
      eqb-true _ _ h.0,
      eqb-true _ _ h.1,
    )

-- and the test of both orders comes out the same
same_test : (w : Worker) → same_fields w idle ≡ is_idle w
unfolding is_idle
same_test w = by (is_idle w) refl
  where
    passes : (t : Bool) → same_fields w idle ≡ t → is_idle w ≡ false → same_fields w idle ≡ false
    passes true all busy = absurd (true≢false (sym is_idle_lem ∙ ap is_idle (sym (same_record w idle all)) ∙ busy))
    passes false some busy = some

    by : (t : Bool) → is_idle w ≡ t → same_fields w idle ≡ is_idle w
    by true is = rw (idle_is w is) refl
    by false busy = passes (same_fields w idle) refl busy ∙ sym busy

pub returns : goal.returns
returns c = c.eq.ensures ∙ ap (same_fields c.args.w) c.idle.ensures ∙ same_test c.args.w
