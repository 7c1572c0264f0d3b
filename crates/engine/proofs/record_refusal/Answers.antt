use Rattle.mark.proofs.Choices.{choices}
use Rattle.turn.proofs.Sound.{by_idleness}
use Rattle.engine.proofs.record_refusal.Goals as goal

pub returns-then-late : goal.returns-then-late
returns-then-late c = by_idleness _ _ _ _ _ (search choices)

pub returns-then-is_idle : goal.returns-then-is_idle
returns-then-is_idle c = by_idleness _ _ _ _ _ (search choices)

pub returns-then-is_sound : goal.returns-then-is_sound
returns-then-is_sound c = by_idleness _ _ _ _ _ (search choices)

pub returns : goal.returns
returns c = by_idleness _ _ _ _ _ (search choices)
