use Rattle.std.proofs.Common.{ℕ, List, sym, ap, ap₂, ◌∙◌, subst, add-one, arith}
use Rattle.engine.proofs.Buckets.{mark_at_lem}
use Rattle.hall.specs.Index.{followed}
use Rattle.hall.specs.Calls.{fresh_index}
use Rattle.hall.specs.Reading.{Reads}
use Rattle.hall.proofs.Lots.{lots_le}
use Rattle.hall.proofs.Fresh.{none_valid, fresh_reads}
use Rattle.hall.proofs.display.make.Goals as goal

pub loop-b-init : goal.loop-b-init
unfolding fresh_index
loop-b-init c = c.clear.ensures

pub follow-requires : goal.follow-requires
follow-requires c =
    let board = c.args.board.now in
    let b = c.loop-b.b in
    let reads = subst (Reads board b) (sym c.loop-b.invariant) (fresh_reads board b (omega arith)) in
    (omega arith, λ other. (omega (arith, none_valid), omega (arith, reads.total, lots_le board b)))

pub loop-b-preserved : goal.loop-b-preserved
unfolding fresh_index
loop-b-preserved c =
    let board = c.args.board.now in
    let b = c.loop-b.b in
    c.follow.ensures
    ∙ ap₂ (λ (x : List ℕ) (m : ℕ). followed x b 0 m) c.loop-b.invariant (sym (mark_at_lem board b))
    ∙ ap (fresh_index board) (sym (add-one b))

pub returns : goal.returns
returns c = c.loop-b.invariant ∙ ap (fresh_index c.args.board.now) (omega arith)
