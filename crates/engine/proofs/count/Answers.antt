use Rattle.std.proofs.Common.{◌≡◌, ℕ, Bool, true, false, cond, eqb, refl, sym, ◌∙◌}
use Rattle.engine.specs.Board.{lots_on, any_broken}
use Rattle.engine.specs.Refusals.{count_number}
use Rattle.engine.specs.Calls.{Refusal, Lots, count_call}
use Rattle.engine.proofs.Numbers.{count_done}
use Rattle.engine.proofs.Sizes.{right}
use Rattle.engine.proofs.count.Goals as goal

-- the loop's choice by the test is the call's choice by the number
by_number : (t : Bool) (lots : ℕ) → cond t (Refusal 7) (Lots lots) ≡ cond (eqb (cond t 7 0) 0) (Lots lots) (Refusal (cond t 7 0))
by_number true lots = refl
by_number false lots = refl

pub returns-then-is_wrong : goal.returns-then-is_wrong
unfolding count_call count_number
returns-then-is_wrong c = count_done _ _ _ (rw (sym c.is_wrong.ensures ∙ c.if-is_wrong.true))

pub count-requires : goal.count-requires
unfolding count_call count_number
count-requires c = let ok = right _ _ (sym c.is_wrong.ensures ∙ c.if-is_wrong.false) in (ok.buckets, ok.words)

pub returns : goal.returns
unfolding count_call count_number
returns c =
    let board = c.args.board.now in
    let n = c.args.floor.buckets in
    count_done _ _ _
    (rw (sym c.is_wrong.ensures ∙ c.if-is_wrong.false) (c.count.ensures ∙ by_number (any_broken board n) (lots_on board n)))
