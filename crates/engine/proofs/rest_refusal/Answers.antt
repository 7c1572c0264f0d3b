use Rattle.std.proofs.Common.{sym, ◌∙◌}
use borrow.Author.Tests.{ne_eqb}
use Rattle.mark.proofs.Choices.{choices}
use Rattle.turn.proofs.Sound.{by_idleness}
use Rattle.engine.proofs.rest_refusal.Goals as goal

pub returns-then-is_idle : goal.returns-then-is_idle
returns-then-is_idle c = record { whole = rw (ne_eqb _ 3 (λ is. c.if-number-into.false (is ∙ sym c.into.ensures))) (by_idleness _ _ _ _ _ (search choices)) }

pub returns-then-is_sound : goal.returns-then-is_sound
returns-then-is_sound c = record { whole = rw (ne_eqb _ 3 (λ is. c.if-number-into.false (is ∙ sym c.into.ensures))) (by_idleness _ _ _ _ _ (search choices)) }

pub returns : goal.returns
returns c = record { whole = rw (ne_eqb _ 3 (λ is. c.if-number-into.false (is ∙ sym c.into.ensures))) (by_idleness _ _ _ _ _ (search choices)) }
