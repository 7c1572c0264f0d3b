use Rattle.std.proofs.Common.{arith}
use Rattle.mark.specs.Word.{count_marks}
use Rattle.mark.proofs.valid_slots.Goals as goal

pub returns : goal.returns
unfolding count_marks
returns c =
    let first = c.one_if_valid.ensures in
    let second = c.one_if_valid-2.ensures in
    let third = c.one_if_valid-3.ensures in
    (simp (first.0, second.0, third.0), omega (arith, first.1, second.1, third.1))
