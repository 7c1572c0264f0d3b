use Rattle.turn.specs.Asleep.{slept}
use Rattle.turn.proofs.sleep.slept.Goals as goal

pub returns-then-is_sound : goal.returns-then-is_sound
unfolding slept
returns-then-is_sound c = rw (c.more.ensures, ← c.is_sound.ensures, c.if-is_sound.true)

pub returns-else-is_sound : goal.returns-else-is_sound
unfolding slept
returns-else-is_sound c = rw (← c.is_sound.ensures, c.if-is_sound.false)
