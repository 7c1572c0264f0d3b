use Rattle.std.proofs.Common.{sym, ap, ◌∙◌}
use Rattle.floor.specs.Told.{turn_told}
use Rattle.floor.proofs.Numbers.{said_answer, turn_left}
use Rattle.floor.proofs.desk_turn.Goals as goal

pub returns : goal.returns
returns c = turn_left _ _ _ _ _ _ _ _ _ _ c.turn_at.ensures (c.turn.ensures ∙ ap turn_told (sym (said_answer _ c.turn_at.result)))
