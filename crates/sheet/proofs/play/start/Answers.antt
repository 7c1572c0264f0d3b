use Rattle.std.proofs.Common.{◌∙◌}
use Rattle.sheet.proofs.Seats.{asked_made}
use Rattle.sheet.proofs.play.start.Goals as goal

pub returns : goal.returns
returns c =
    let a = c.args in
    (rw (c.seat_of.ensures, c.asked.ensures) at c.start.ensures.whole) ∙ asked_made _ _ _ a.call
