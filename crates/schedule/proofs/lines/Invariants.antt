use Rattle.std.proofs.Common.{◌≡◌, ◌-◌, length}
use Rattle.schedule.proofs.Lining.{Standing}
use Rattle.schedule.proofs.lines.Given as goal

abbrev pub invariant-loop-word : goal.invariant-loop-word
invariant-loop-word l =
    (l.reader.text ≡ l.initial.reader.text) ×
    Standing l.text l.fn.pen.out.now l.pen.out.now l.reader.at l.pen.at ×
    (length l.pen.out.now ≡ length l.fn.pen.out.now) ×
    (l.pen.out.ghost_name ≡ l.fn.pen.out.ghost_name)

abbrev pub decreases-loop-word : goal.decreases-loop-word
decreases-loop-word l = length l.text - l.reader.at
