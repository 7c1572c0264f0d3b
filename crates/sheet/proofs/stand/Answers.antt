use Rattle.std.proofs.Common.{rules, refl, ap, ◌∙◌}
use Rattle.sheet.specs.Play.{Desk}
use Rattle.sheet.proofs.FieldByField.{sheet_left}
use Rattle.sheet.proofs.Writing.{writes_lent}
use Rattle.sheet.proofs.stand.Goals as goal

pub shape_of-out-in-Ok : goal.shape_of-out-in-Ok
shape_of-out-in-Ok c = writes_lent _ _ _ c.fields.ensures.lines ∙ writes_lent _ _ _ c.totals.ensures

pub shape_of-out-in-Err : goal.shape_of-out-in-Err
shape_of-out-in-Err c = writes_lent _ _ _ c.fields.ensures.lines ∙ writes_lent _ _ _ c.refused.ensures

pub returns-in-Ok : goal.returns-in-Ok
returns-in-Ok c =
    let x = sheet_left _ _ _ _ _ _ _ c.in-Ok.ensures c.totals.ensures refl (search rules) refl refl refl refl in
    record { whole = x.0; fits = x.1 }

pub returns-in-Err : goal.returns-in-Err
returns-in-Err c =
    let shut = c.shut-shut.ensures in
    let floor = ap (λ (d : Desk). d.floor) shut in
    let records = ap (λ (d : Desk). d.records) shut in
    let x = sheet_left _ _ _ _ _ _ _ c.in-Err.ensures c.refused.ensures refl (search rules) refl floor records refl in
    record { whole = x.0; fits = x.1 }
