use Rattle.turn.specs.Retire.{retired_as}
use Rattle.engine.proofs.Retiring.{retire_on_lem}
use Rattle.engine.proofs.take.retired.Goals as goal

pub returns : goal.returns
returns c =
    let a = c.args in
    retire_on_lem a.floor a.board.now a.w c.first_word-at.result c.on_bucket.new.lent
    (retired_as a.w c.on_bucket.result) c.first_word-at.ensures.0 c.on_bucket.ensures
