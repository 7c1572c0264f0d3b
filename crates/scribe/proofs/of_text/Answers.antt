-- Each case is the one of its answer.
use borrow.Author.Rules.{rules}
use borrow.Author.Tests.{lt-ltb, le-ltb, eq-eqb, ne_eqb}
use mathlib.Core.Path.{◌≡◌, sym, ◌∙◌}
use native.Mathlib.Omega.{arith}
use lib.ListN.{length}
use Rattle.pen.specs.Words.{bytes}
use Rattle.pen.proofs.Putting.{writes_puts, puts_all}
use Rattle.schedule.specs.Reading.{sheet_of}
use Rattle.schedule.proofs.NumberOf.{some_number}
use Rattle.schedule.proofs.SayingFits.{complaint_fits}
use Rattle.scribe.specs.Answers.{text_answer}
use Rattle.scribe.proofs.Answering.{stands, writes_in, says_in}
use Rattle.scribe.proofs.of_text.Goals as goal

pub returns-then-text-gt-MOST : goal.returns-then-text-gt-MOST
unfolding text_answer bytes
returns-then-text-gt-MOST c =
    let long : length c.args.said.now ≡ 256 = search rules in
    rw (lt-ltb 262144 (length c.args.text.now) c.if-text-gt-MOST.true) (says_in (writes_puts c.words.ensures) long (omega arith))

pub returns-in-Ok : goal.returns-in-Ok
unfolding text_answer
returns-in-Ok c =
    let text = c.args.text.now in
    let long : length c.args.out.now ≡ 65600 = search rules in
    let made = c.in-Ok.ensures in
    let sheet = stands _ _ _ _ made.bytes in
    let written = puts_all (rw sheet at (writes_puts c.words-in-Ok.ensures)) (omega (arith, made.bytes.place, made.fits)) in
    rw (le-ltb 262144 (length text) c.if-text-gt-MOST.false, eq-eqb (sheet_of text).what 0 (sym made.what)) (writes_in written)

pub returns-in-Err : goal.returns-in-Err
unfolding text_answer
returns-in-Err c =
    let text = c.args.text.now in
    let long : length c.args.said.now ≡ 256 = search rules in
    let made = c.in-Err.ensures in
    let wrong = c.in-Err.stopped.wrong in
    let other = ne_eqb (sheet_of text).what 0 (λ none. some_number wrong.what (made.what ∙ none)) in
    let said = rw (c.number.ensures, made.at, made.what) at c.complain.ensures.lines in
    rw (le-ltb 262144 (length text) c.if-text-gt-MOST.false, other)
    (says_in said long (complaint_fits text (sheet_of text).at (sheet_of text).what))
