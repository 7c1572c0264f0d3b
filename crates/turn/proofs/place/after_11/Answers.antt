use borrow.Author.Tests.{eq-eqb, ne_eqb}
use Rattle.mark.specs.Word.{mark_of}
use Rattle.mark.proofs.Choices.{chosen, passed, both_hold, first_fails, second_fails, eq_of, ne_of}
use Rattle.turn.specs.Places.{after11}
use Rattle.turn.proofs.place.after_11.Goals as goal

pub returns-then-read-w : goal.returns-then-read-w
unfolding after11
returns-then-read-w c = passed _ _ _ _ (first_fails _ _ (ne_eqb c.args.read c.args.w.key c.if-read-w.true)) c.next_key.ensures

pub returns-then-mark_of-eq-VALID : goal.returns-then-mark_of-eq-VALID
unfolding after11
returns-then-mark_of-eq-VALID c =
    let a = c.args in
    chosen _ _ _ _
    (both_hold _ _ (eq-eqb a.read a.w.key c.if-read-w.false)
    (eq_of (mark_of a.w.word a.w.slot) 1 _ c.mark_of.ensures c.if-mark_of-eq-VALID.true))
    c.goes_to.ensures

pub returns : goal.returns
unfolding after11
returns c =
    let a = c.args in
    passed _ _ _ _
    (second_fails _ _ (eq-eqb a.read a.w.key c.if-read-w.false)
    (ne_of (mark_of a.w.word a.w.slot) 1 _ c.mark_of.ensures c.if-mark_of-eq-VALID.false))
    c.next_key-2.ensures
