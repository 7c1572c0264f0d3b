use Rattle.std.proofs.Common.{rules, refl, sym, ◌∙◌, ◌≡◌, Err}
use borrow.Author.Tests.{eqb-true, eqb-false}
use Rattle.pen.proofs.Putting.{writes_puts, puts_length, written_same}
use Rattle.schedule.proofs.Lining.{standing_starts, sheet_over, sheet_none, sheet_blank, sheet_wrong, sheet_long, sheet_next}
use Rattle.schedule.proofs.lines.Goals as goal

pub loop-word-init : goal.loop-word-init
loop-word-init c = (refl, rw c.requires.at_start (standing_starts _ _), refl, refl)

pub loop-word-preserved-then-start-text : goal.loop-word-preserved-then-start-text
loop-word-preserved-then-start-text c =
    let l = c.loop-word.invariant in
    let word = rw l.0 at c.word-word.ensures in
    let none = eqb-true _ _ (sym c.is_empty.ensures ∙ c.if-is_empty.true) in
    (l.0, sheet_blank l.1 word none c.if-start-text.true, l.2, l.3)

pub returns-then-pen-eq0-clause-made : goal.returns-then-pen-eq0-clause-made
returns-then-pen-eq0-clause-made c =
    let l = c.loop-word.invariant in
    let word = rw l.0 at c.word-word.ensures in
    let none = eqb-true _ _ (sym c.is_empty.ensures ∙ c.if-is_empty.true) in
    sheet_none l.1 word none c.if-start-text.false c.if-pen-eq0.true

pub returns-then-is_empty-clause-made : goal.returns-then-is_empty-clause-made
returns-then-is_empty-clause-made c =
    let l = c.loop-word.invariant in
    let word = rw l.0 at c.word-word.ensures in
    let none = eqb-true _ _ (sym c.is_empty.ensures ∙ c.if-is_empty.true) in
    sheet_over l.1 word none c.if-start-text.false c.if-pen-eq0.false

pub returns-in_err-entry-clause-made : goal.returns-in_err-entry-clause-made
returns-in_err-entry-clause-made c =
    let l = c.loop-word.invariant in
    let word = rw l.0 at c.word-word.ensures in
    let some = eqb-false _ _ (sym c.is_empty.ensures ∙ c.if-is_empty.false) in
    let r : c.from_residual.result ≡ Err c.in_err-entry.field-0.0 = search rules in
    rw r (sheet_wrong l.1 word some (rw l.0 at c.in_err-entry.ensures.says))

pub returns-then-not-fits-clause-made : goal.returns-then-not-fits-clause-made
returns-then-not-fits-clause-made c =
    let l = c.loop-word.invariant in
    let word = rw l.0 at c.word-word.ensures in
    let some = eqb-false _ _ (sym c.is_empty.ensures ∙ c.if-is_empty.false) in
    sheet_long l.1 word some (rw l.0 at c.in_ok-entry.ensures.says) (sym c.fits.ensures ∙ c.if-not-fits.true)

pub loop-word-preserved : goal.loop-word-preserved
loop-word-preserved c =
    let l = c.loop-word.invariant in
    let word = rw l.0 at c.word-word.ensures in
    let some = eqb-false _ _ (sym c.is_empty.ensures ∙ c.if-is_empty.false) in
    let says = rw l.0 at c.in_ok-entry.ensures.says in
    let wrote = c.write.ensures says.counts in
    let puts = writes_puts wrote in (
      c.in_ok-entry.ensures.text ∙ l.0,
      sheet_next l.1 word some says (sym c.fits.ensures ∙ c.if-not-fits.false) (l.2 ∙ c.requires.room) puts,
      puts_length puts ∙ l.2,
      rw wrote.leaves (written_same _ _) ∙ l.3,
    )
