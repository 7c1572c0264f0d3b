-- A field is read whole, so its turns stand within the sheet.
use Rattle.std.proofs.Common.{arith, ap, ◌∙◌}
use Rattle.std.proofs.lemmas.List.{length-take, length-drop}
use Rattle.pen.proofs.Putting.{writes_none}
use Rattle.sheet.specs.declared.Field.{Field}
use Rattle.sheet.specs.Fields.{Whole}
use Rattle.sheet.specs.Play.{open_field, call_field}
use Rattle.sheet.proofs.Fielding.{whole_next, whole_turns}
use Rattle.sheet.proofs.OneTurn.{ready_le}
use Rattle.sheet.proofs.Desk.field.Goals as goal

pub slice_bounds-turns-count : goal.slice_bounds-turns-count
slice_bounds-turns-count c =
    let is = c.requires.read ∙ ap (λ (f : Field). Whole f c.args.found.next) c.in-Turning.is in
    (whole_turns _ _ _ _ is).2

pub slice_bounds-turns-start : goal.slice_bounds-turns-start
slice_bounds-turns-start c =
    let is = c.requires.read ∙ ap (λ (f : Field). Whole f c.args.found.next) c.in-Turning.is in
    (whole_turns _ _ _ _ is).2

pub slice_bounds-turns-end : goal.slice_bounds-turns-end
slice_bounds-turns-end c =
    let is = c.requires.read ∙ ap (λ (f : Field). Whole f c.args.found.next) c.in-Turning.is in
    let n = whole_next _ _ _ _ is in
    let w = whole_turns _ _ _ _ is in
    omega (arith, w.1, n.1)

pub turns-requires : goal.turns-requires
turns-requires c =
    let is = c.requires.read ∙ ap (λ (f : Field). Whole f c.args.found.next) c.in-Turning.is in
    let n = whole_next _ _ _ _ is in
    let w = whole_turns _ _ _ _ is in
    let fits = c.requires.short in
    simp (length-take, length-drop)
    (ready_le c.requires.at _ _ (omega (arith, w.0, w.1, w.2, n.1, fits)) c.requires.ready, omega (arith, w.0, w.1, n.1, fits))

pub returns-in-Opening : goal.returns-in-Opening
unfolding open_field
returns-in-Opening c = rw c.in-Opening.is (record { lines = writes_none c.args.pen.now; comes = c.open.ensures })

pub returns-in-Calling : goal.returns-in-Calling
unfolding call_field
returns-in-Calling c = rw c.in-Calling.is (record { lines = writes_none c.args.pen.now; comes = c.call.ensures })

pub returns-in-Turning : goal.returns-in-Turning
returns-in-Turning c = rw c.in-Turning.is c.turns.ensures
