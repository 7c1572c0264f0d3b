use Rattle.std.proofs.Common.{arith, ℕ, List, ◌≡◌, ◌≤◌, length, ap, ◌∙◌}
use Rattle.sheet.specs.declared.Field.{Field}
use Rattle.sheet.specs.declared.Field.TheVariants.{Turning}
use Rattle.sheet.specs.declared.Span.{Span}
use Rattle.sheet.specs.Fields.{Whole, read_field}
use Rattle.sheet.proofs.Fielding.{whole_next, whole_turns}
use Rattle.schedule.proofs.writing.line.Goals as goal

pub overflow_sub-next : goal.overflow_sub-next
overflow_sub-next c = let n = whole_next _ _ _ _ c.requires in omega (arith, n.0)

-- turns stand within the sheet
inside :
    (sheet : List ℕ) (at next : ℕ) {field : Field} {span : Span}
    → read_field sheet at ≡ Whole field next
    → field ≡ Turning span
    → (span.start ≤ span.end) × (span.end ≤ length sheet)
inside sheet at next read is =
    let whole = read ∙ ap (λ (f : Field). Whole f next) is in
    let n = whole_next _ _ _ _ whole in
    let w = whole_turns _ _ _ _ whole in
    (w.2, omega (arith, w.1, n.1))

pub slice_bounds-turns-count : goal.slice_bounds-turns-count
slice_bounds-turns-count c = (inside _ _ _ c.requires c.in-Turning.is).0

pub slice_bounds-turns-start : goal.slice_bounds-turns-start
slice_bounds-turns-start c = (inside _ _ _ c.requires c.in-Turning.is).0

pub slice_bounds-turns-end : goal.slice_bounds-turns-end
slice_bounds-turns-end c = (inside _ _ _ c.requires c.in-Turning.is).1
