use Rattle.std.proofs.Common.{◌≡◌, ℕ, ◌+◌, ◌*◌, sym, ap, arith}
use borrow.Author.Tests.{ne_eqb}
use Rattle.turn.proofs.Refusing.{number_some}
use Rattle.engine.specs.Calls.{show_start, show_call}
use Rattle.engine.proofs.Parts.{part_at}
use Rattle.engine.proofs.Sizes.{shown_right}
use Rattle.engine.proofs.show.Goals as goal

pub first_word-at-requires : goal.first_word-at-requires
first_word-at-requires c =
    let ok = shown_right _ _ c.args.lot (sym c.in-Ok.ensures.whole) in
    (ok.some_bucket, ok.buckets)

pub overflow_add-result : goal.overflow_add-result
overflow_add-result c = omega (arith, c.first_word-at.ensures.1, (shown_right _ _ c.args.lot (sym c.in-Ok.ensures.whole)).buckets)

pub offset_bounds-board-at : goal.offset_bounds-board-at
offset_bounds-board-at c = omega (arith, c.first_word-at.ensures.1, (shown_right _ _ c.args.lot (sym c.in-Ok.ensures.whole)).buckets)

pub slice_bounds-result-end : goal.slice_bounds-result-end
slice_bounds-result-end c = omega (arith, c.first_word-at.ensures.1, (shown_right _ _ c.args.lot (sym c.in-Ok.ensures.whole)).words)

pub returns-in-Ok : goal.returns-in-Ok
unfolding show_call show_start
returns-in-Ok c =
    let a = c.args in
    record {
      words = rw (← c.in-Ok.ensures.whole) (part_at a.board.now _ _ c.first_word-at.ensures.0);
      start = rw (← c.in-Ok.ensures.whole) (ap (λ (n : ℕ). (a.board.ref_ptr.0, n)) (omega (arith, c.first_word-at.ensures.0)));
    }

-- an empty part begins where the board does
at_start : (o : ℕ) → 0 * 8 + o ≡ o + 8 * 0
at_start o = omega arith

pub returns-in-Err : goal.returns-in-Err
unfolding show_call show_start
returns-in-Err c =
    let a = c.args in
    let no = ne_eqb _ 0 (number_some c.in-Err.field-0) in
    record {
      words = rw (← c.in-Err.ensures.whole, no);
      start = rw (← c.in-Err.ensures.whole, no) (ap (λ (n : ℕ). (a.board.ref_ptr.0, n)) (at_start a.board.ref_ptr.1));
    }
