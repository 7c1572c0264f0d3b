use Rattle.std.proofs.Common.{arith}
use borrow.Author.Tests.{eq-eqb, ne_eqb}
use Rattle.pen.specs.Words.{bytes}
use Rattle.schedule.specs.Writing.{verb_text}
use Rattle.pen.proofs.Putting.{writes_then}
use Rattle.schedule.proofs.writing.verb.Goals as goal

pub returns-in-2 : goal.returns-in-2
unfolding bytes verb_text
returns-in-2 c =
    let kind = c.args.call.kind in
    rw (ne_eqb kind 1 (omega (arith, c.in-2.is)), eq-eqb kind 2 c.in-2.is) (writes_then c.told-in-2.ensures c.ticket.ensures)
