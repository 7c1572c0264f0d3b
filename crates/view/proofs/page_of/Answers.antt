use Rattle.std.proofs.Common.{arith}
use Rattle.pen.proofs.Putting.{writes_puts, puts_all}
use Rattle.view.proofs.Room.{page_fits}
use Rattle.view.proofs.OwnBoard.{own_scenes}
use Rattle.view.proofs.page_of.Goals as goal

pub returns : goal.returns
returns c =
    let sheet = c.args.sheet.now in
    let put = rw (own_scenes sheet c.words-words.result c.words-words.ensures.whole c.words-words.ensures.fits) at c.page-last.ensures in
    let fits = page_fits sheet c.args.page in
    record { lines = puts_all (writes_puts put.lines) (omega arith); last = put.is_last }
