use lib.ListN.{replicate-append-replicate}
use Rattle.pen.proofs.Putting.{writes_none, writes_then}
use Rattle.schedule.proofs.turns.repeat.Goals as goal

pub loop-init : goal.loop-init
loop-init c = writes_none _

pub loop-preserved : goal.loop-preserved
loop-preserved c = rw (← replicate-append-replicate c.loop.counter 1 c.args.byte) (writes_then c.loop.invariant c.byte.ensures)
