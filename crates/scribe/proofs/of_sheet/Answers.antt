-- Each case is the one of its answer.
use borrow.Author.Rules.{rules}
use borrow.Author.Tests.{lt-ltb, le-ltb}
use mathlib.Core.Path.{◌≡◌, sym}
use native.Mathlib.Omega.{arith}
use lib.ListN.{length}
use Rattle.pen.specs.Words.{bytes}
use Rattle.pen.proofs.Putting.{writes_puts, writes_then}
use Rattle.schedule.specs.Writing.{text_of}
use Rattle.scribe.specs.Answers.{sheet_answer}
use Rattle.scribe.proofs.Answering.{writes_in, says_in, place_fits}
use Rattle.scribe.proofs.of_sheet.Goals as goal

pub returns-then-sheet-gt-LIMIT : goal.returns-then-sheet-gt-LIMIT
unfolding sheet_answer bytes
returns-then-sheet-gt-LIMIT c =
    let long : length c.args.said.now ≡ 256 = search rules in
    rw (lt-ltb 16384 (length c.args.sheet.now) c.if-sheet-gt-LIMIT.true) (says_in (writes_puts c.words.ensures) long (omega arith))

pub returns-in-Ok : goal.returns-in-Ok
unfolding sheet_answer
returns-in-Ok c =
    let sheet = c.args.sheet.now in
    let made = c.in-Ok.ensures in
    rw (le-ltb 16384 (length sheet) c.if-sheet-gt-LIMIT.false, sym made.recites.whole) (writes_in (made.all c.if-sheet-gt-LIMIT.false))

pub returns-in-Err : goal.returns-in-Err
unfolding sheet_answer bytes
returns-in-Err c =
    let sheet = c.args.sheet.now in
    let long : length c.args.said.now ≡ 256 = search rules in
    let made = c.in-Err.ensures.recites in
    let said = rw made.at at (writes_puts (writes_then c.told.ensures c.words-in-Err.ensures)) in
    rw (le-ltb 16384 (length sheet) c.if-sheet-gt-LIMIT.false, sym made.whole) (says_in said long (place_fits (text_of sheet).at))
