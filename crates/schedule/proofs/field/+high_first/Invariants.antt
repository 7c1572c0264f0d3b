-- The bytes fall with each call.
use Rattle.schedule.proofs.field.+high_first.Given as goal

abbrev pub decreases-high_first : goal.decreases-high_first
decreases-high_first l = l.bytes
