use Rattle.std.proofs.Common.{arith}
use Rattle.sheet.proofs.Fielding.{whole_next, whole_turns}
use Rattle.view.proofs.Stage.whole.Goals as goal

pub turn-requires : goal.turn-requires
turn-requires c =
    let is = rw c.in-Turning.is at c.requires.1 in
    let next = whole_next _ _ _ _ is in
    let turns = whole_turns _ _ _ _ is in
    rw c.reading-in-Turning.ensures (omega (arith, next.0, turns.0))
