use Rattle.std.proofs.Common.{◌-◌, length}
use Rattle.schedule.proofs.Recital.{Standing}
use Rattle.schedule.proofs.writing.lines.Given as goal

abbrev pub invariant-loop-found : goal.invariant-loop-found
invariant-loop-found l = Standing l.sheet l.fn.pen l.pen l.at

abbrev pub decreases-loop-found : goal.decreases-loop-found
decreases-loop-found l = length l.sheet - l.at
