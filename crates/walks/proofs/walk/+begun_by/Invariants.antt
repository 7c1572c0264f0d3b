-- The turns that are left fall with each turn; going on after one is the second half of it.
use Rattle.std.proofs.Common.{◌+◌, ◌*◌}
use Rattle.walks.proofs.walk.+begun_by.Given as goal

abbrev pub decreases-begun_by : goal.decreases-begun_by
decreases-begun_by l = 2 * l.depth + 1

abbrev pub decreases-going_on : goal.decreases-going_on
decreases-going_on l = 2 * l.depth
