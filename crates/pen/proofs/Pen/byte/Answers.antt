use Rattle.std.proofs.Common.{refl}
use Rattle.pen.proofs.Putting.{puts_byte, puts_beyond, puts_writes}
use Rattle.pen.proofs.Pen.byte.Goals as goal

pub returns-then-self : goal.returns-then-self
returns-then-self c = puts_writes refl refl (puts_byte _ _ _ c.if-self.true)

pub returns-else-self : goal.returns-else-self
returns-else-self c = puts_writes refl refl (puts_beyond _ _ _ c.if-self.false)
