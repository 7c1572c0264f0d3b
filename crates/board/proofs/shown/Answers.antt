-- What was written of a page stands in the buffer.
use Rattle.std.proofs.Common.{sym, length-take-le}
use Rattle.pen.proofs.Writing.{wrote_within}
use Rattle.board.proofs.shown.Goals as goal

pub slice_bounds-out-end : goal.slice_bounds-out-end
slice_bounds-out-end g c = wrote_within _ _ _ _ c.page_of-page.ensures.lines

pub slice_bounds-write_all-end : goal.slice_bounds-write_all-end
slice_bounds-write_all-end g c = sym (length-take-le _ _ (wrote_within _ _ _ _ c.page_of-page.ensures.lines))
