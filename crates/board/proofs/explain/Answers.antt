-- What was written stands in the buffer.
use Rattle.std.proofs.Common.{sym, length-take-le}
use Rattle.pen.proofs.Writing.{wrote_within}
use Rattle.board.proofs.explain.Goals as goal

pub slice_bounds-said-end : goal.slice_bounds-said-end
slice_bounds-said-end g c = wrote_within _ _ _ _ c.refusal-long.ensures.lines

pub slice_bounds-write_all-end : goal.slice_bounds-write_all-end
slice_bounds-write_all-end g c = sym (length-take-le _ _ (wrote_within _ _ _ _ c.refusal-long.ensures.lines))
