use Rattle.turn.specs.Turn.{tried_as}
use Rattle.engine.proofs.Turns.{turn_on}
use Rattle.engine.proofs.take.turn.Goals as goal

pub returns : goal.returns
returns c =
    let a = c.args in
    turn_on a.floor a.board.now a.w c.bucket_of-bucket.result c.try_turn.new.lent
    (tried_as a.w c.try_turn.result) c.bucket_of-bucket.ensures.0 c.try_turn.ensures
