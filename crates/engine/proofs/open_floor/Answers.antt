use Rattle.std.proofs.Common.{sym, ◌∙◌}
use Rattle.engine.specs.Refusals.{wrong_sizes, open_number}
use Rattle.engine.specs.Calls.{planned, open_call}
use Rattle.engine.proofs.Sizes.{right_sizes}
use Rattle.engine.proofs.open_floor.Goals as goal

pub returns-then-are_wrong : goal.returns-then-are_wrong
unfolding open_call open_number wrong_sizes
returns-then-are_wrong c = record { whole = rw (sym c.are_wrong.ensures ∙ c.if-are_wrong.true) }

pub open-requires : goal.open-requires
unfolding open_call open_number wrong_sizes
open-requires c =
    let a = c.args in
    let ok = right_sizes (planned a.plan) a.board.now a.listed (sym c.are_wrong.ensures ∙ c.if-are_wrong.false) in
    (ok.buckets, ok.words)

pub returns : goal.returns
unfolding open_call open_number wrong_sizes
returns c = record { whole = rw (sym c.are_wrong.ensures ∙ c.if-are_wrong.false) (simp c.open.ensures) }
