use Rattle.std.proofs.Common.{Ok, Err, rules, sym}
use Rattle.turn.specs.Worker.{idle}
use Rattle.engine.proofs.Firsts.{firsts_none}
use Rattle.floor.proofs.Lapping.{laps}
use Rattle.floor.proofs.Opening.{open_left}
use Rattle.floor.proofs.desk_open_floor.Goals as goal

pub returns-in-Ok : goal.returns-in-Ok
returns-in-Ok c =
    open_left _ _ _ _ _ _ _ (Ok c.in-Ok.floor) _ c.in-Ok.ensures (laps _ (λ k old. idle) _ _ (λ k w u less made. search rules) c.lap.ensures)

pub returns-in-Err : goal.returns-in-Err
returns-in-Err c = rw c.into.ensures (open_left _ _ _ _ _ _ _ (Err c.in-Err.why) _ c.in-Err.ensures (sym (firsts_none _ _)))
