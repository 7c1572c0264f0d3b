-- The lent part is as much of the board as the sheet's floor asks for.
use Rattle.sheet.specs.Listing.{own_play}
use Rattle.orders.proofs.Answers.{take_zeros}
use Rattle.orders.proofs.on_own_board.Goals as goal

pub returns : goal.returns
unfolding own_play
returns c =
    let words = c.words-words.ensures in
    rw (← words.whole, ← take_zeros _ 2048 words.fits) c.walked.ensures
