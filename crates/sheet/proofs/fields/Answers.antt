use Rattle.std.proofs.Common.{arith, refl}
use Rattle.turn.proofs.Refusing.{number_some}
use Rattle.sheet.proofs.Fielding.{found_here, none_here, whole_next}
use Rattle.sheet.proofs.FieldByField.{number_small, too_long_stands, standing_starts, malformed, field_refused, sheet_over, field_next}
use Rattle.sheet.proofs.fields.Goals as goal

pub returns-then-sheet-gt-LIMIT : goal.returns-then-sheet-gt-LIMIT
returns-then-sheet-gt-LIMIT c = too_long_stands _ _ _ c.if-sheet-gt-LIMIT.true

pub loop-found-init : goal.loop-found-init
loop-found-init c = rw c.requires (standing_starts _ _ _ c.if-sheet-gt-LIMIT.false)

pub returns-in_default : goal.returns-in_default
returns-in_default c = malformed _ _ _ _ _ _ _ c.loop-found.invariant (none_here _ _ c.read.ensures c.in_default.is)

pub field-requires : goal.field-requires
field-requires c =
    let g = c.loop-found.invariant in
    record { at = c.loop-found.at; short = g.short; read = found_here _ _ c.read.ensures c.in-Some.is refl; ready = g.ready }

pub returns-in-Err : goal.returns-in-Err
returns-in-Err c =
    field_refused _ _ _ _ _ _ _ c.loop-found.invariant _ _ (found_here _ _ c.read.ensures c.in-Some.is refl) _ _ _ _ c.in-Err.ensures
    (number_some c.in-Err.why) (number_small c.in-Err.why)

pub returns-then-found-sheet : goal.returns-then-found-sheet
returns-then-found-sheet c =
    sheet_over _ _ _ _ _ _ _ c.loop-found.invariant _ _ (found_here _ _ c.read.ensures c.in-Some.is refl) _ _ _ _ c.in_default-field.ensures refl
    c.if-found-sheet.true

pub loop-found-smaller : goal.loop-found-smaller
loop-found-smaller c =
    let n = whole_next _ _ _ _ (found_here _ _ c.read.ensures c.in-Some.is refl) in
    omega (arith, n.0, n.1)

pub loop-found-preserved : goal.loop-found-preserved
loop-found-preserved c =
    field_next _ _ _ _ _ _ _ c.loop-found.invariant _ _ (found_here _ _ c.read.ensures c.in-Some.is refl) _ _ _ _ c.in_default-field.ensures refl
    c.if-found-sheet.false
