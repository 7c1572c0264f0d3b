use borrow.Author.Tests.{eq-eqb, ne_eqb}
use Rattle.mark.proofs.Choices.{chosen, passed, both_hold, first_fails, second_fails, denied, granted}
use Rattle.turn.specs.Places.{after5}
use Rattle.turn.proofs.place.after_5.Goals as goal

pub returns-then-read-w : goal.returns-then-read-w
unfolding after5
returns-then-read-w c = passed _ _ _ _ (first_fails _ _ (ne_eqb c.args.read c.args.w.seen c.if-read-w.true)) c.look_empty.ensures

pub returns-then-read-eq0 : goal.returns-then-read-eq0
unfolding after5
returns-then-read-eq0 c =
    let a = c.args in
    passed _ _ _ _ (second_fails _ _ (eq-eqb a.read a.w.seen c.if-read-w.false) (denied _ (eq-eqb a.read 0 c.if-read-eq0.true)))
    c.look_empty-then-read-eq0.ensures

pub returns : goal.returns
unfolding after5
returns c =
    let a = c.args in
    chosen _ _ _ _ (both_hold _ _ (eq-eqb a.read a.w.seen c.if-read-w.false) (granted _ (ne_eqb a.read 0 c.if-read-eq0.false)))
    c.look_found.ensures
