use Rattle.std.proofs.Common.{◌≡◌, ap, ◌∙◌, arith}
use Rattle.pen.proofs.Putting.{writes_puts, puts_all}
use Rattle.view.specs.Scenes.{refusal_in, all_refused, refusal_text}
use Rattle.view.proofs.Room.{refusal_fits}
use Rattle.view.proofs.OwnBoard.{own_scenes}
use Rattle.view.proofs.refusal.Goals as goal

pub returns : goal.returns
unfolding refusal_text
returns c =
    let sheet = c.args.sheet.now in
    let said : refusal_in c.last.result.scene ≡ refusal_text sheet =
    c.last.ensures ∙ ap all_refused (own_scenes sheet c.words-words.result c.words-words.ensures.whole c.words-words.ensures.fits) in
    let fits = refusal_fits sheet in
    record { lines = puts_all (writes_puts (rw said at c.refused.ensures)) (omega arith) }
