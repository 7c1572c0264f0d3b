use Rattle.mark.proofs.Choices.{choices}
use Rattle.turn.proofs.Sound.{by_soundness}
use Rattle.turn.proofs.busy_refusal.Goals as goal

pub returns-then-is_sound : goal.returns-then-is_sound
returns-then-is_sound c = by_soundness _ _ _ (search choices)

pub returns-then-is_idle : goal.returns-then-is_idle
returns-then-is_idle c = by_soundness _ _ _ (search choices)

pub returns-else-is_idle : goal.returns-else-is_idle
returns-else-is_idle c = by_soundness _ _ _ (search choices)
