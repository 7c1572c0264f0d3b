use Rattle.std.proofs.Common.{arith, refl}
use Rattle.sheet.proofs.Fielding.{whole_next, found_here, none_here}
use Rattle.schedule.proofs.Recital.{standing_starts, standing_refused, standing_over, standing_next}
use Rattle.schedule.proofs.writing.lines.Goals as goal

pub loop-found-init : goal.loop-found-init
loop-found-init c = standing_starts _ _

pub returns-in_default : goal.returns-in_default
returns-in_default c = standing_refused c.loop-found.invariant _ (none_here _ _ c.read.ensures c.in_default.is)

pub line-requires : goal.line-requires
line-requires c = found_here _ _ c.read.ensures c.in-Some.is refl

pub returns-then-found-sheet : goal.returns-then-found-sheet
returns-then-found-sheet c =
    let read = found_here _ _ c.read.ensures c.in-Some.is refl in
    standing_over c.loop-found.invariant _ _ read c.line.ensures c.if-found-sheet.true

pub loop-found-smaller : goal.loop-found-smaller
loop-found-smaller c =
    let n = whole_next _ _ _ _ (found_here _ _ c.read.ensures c.in-Some.is refl) in
    omega (arith, n.0, n.1)

pub loop-found-preserved : goal.loop-found-preserved
loop-found-preserved c =
    let read = found_here _ _ c.read.ensures c.in-Some.is refl in
    standing_next c.loop-found.invariant _ _ read c.line.ensures c.if-found-sheet.false
