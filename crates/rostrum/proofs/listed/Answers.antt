-- The lent part is as long as the sheet's floor asks for, so that what is written is the sheet's listing.
use Rattle.std.proofs.Common.{ℕ, ◌∙◌, take, length-take-le}
use Rattle.std.specs.Prelude.{replicate}
use Rattle.sheet.proofs.AnyBoard.{listing_on}
use Rattle.rostrum.proofs.listed.Goals as goal

pub returns : goal.returns
returns c =
    let words = c.words-words in
    let part = take {A = ℕ} words.result (replicate 2048 0) in
    let long = length-take-le {A = ℕ} words.result (replicate 2048 0) words.ensures.fits ∙ words.ensures.whole in
    record { lines = rw (← listing_on c.args.sheet.now part long) c.list.ensures.whole.lines; fits = c.list.ensures.fits }
