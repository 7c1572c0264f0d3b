use Rattle.std.proofs.Common.{rules}
use Rattle.floor.specs.Lent.{beside}
use Rattle.floor.proofs.Lapping.{laps}
use Rattle.floor.proofs.list.sleep_beside.Goals as goal

pub returns : goal.returns
returns c = laps _ (beside c.args.worker) _ _ (λ k w u less made. search rules) c.lap.ensures
