use Rattle.std.proofs.Common.{sym, ◌∙◌}
use Rattle.mark.proofs.Choices.{choices}
use Rattle.engine.specs.Refusals.{show_number}
use Rattle.engine.proofs.Sizes.{right}
use Rattle.engine.proofs.show_refusal.Goals as goal

pub returns-then-is_wrong : goal.returns-then-is_wrong
unfolding show_number
returns-then-is_wrong c = record { whole = search choices }

pub is_broken-requires : goal.is_broken-requires
unfolding show_number
is_broken-requires c = right _ _ (sym c.is_wrong.ensures ∙ c.if-is_wrong.false)

pub returns-then-is_broken : goal.returns-then-is_broken
unfolding show_number
returns-then-is_broken c = record { whole = search choices }

pub returns : goal.returns
unfolding show_number
returns c = record { whole = search choices }
