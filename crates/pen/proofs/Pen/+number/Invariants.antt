-- The number falls with each call.
use Rattle.pen.proofs.Pen.+number.Given as goal

abbrev pub decreases-number : goal.decreases-number
decreases-number l = l.n
