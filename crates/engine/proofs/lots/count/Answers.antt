use Rattle.std.proofs.Common.{◌≡◌, ◌*◌, refl, sym, ap, arith, ◌∙◌}
use Rattle.turn.specs.Bucket.{broken_bucket}
use Rattle.engine.specs.Board.{lots_on, any_under}
use Rattle.engine.specs.Calls.{Lots}
use Rattle.engine.proofs.AnyUnder.{any_next, any_at}
use Rattle.engine.proofs.Buckets.{lots_next}
use Rattle.engine.proofs.Parts.{part_at}
use Rattle.engine.proofs.lots.count.Goals as goal

pub loop-b-init : goal.loop-b-init
unfolding any_under lots_on
loop-b-init c = record { sound = refl; counted = refl; few = omega arith }

pub returns-then-is_broken : goal.returns-then-is_broken
returns-then-is_broken c =
    let found = ap broken_bucket (sym (part_at c.args.board.now (8 * c.loop-b.b) c.loop-b.b refl)) ∙ sym c.is_broken.ensures in
    rw (any_at _ c.loop-b.b _ c.loop-b-test.true (found ∙ c.if-is_broken.true))

pub loop-b-preserved : goal.loop-b-preserved
loop-b-preserved c =
    let found = ap broken_bucket (sym (part_at c.args.board.now (8 * c.loop-b.b) c.loop-b.b refl)) ∙ sym c.is_broken.ensures in record {
      sound = any_next _ c.loop-b.b c.loop-b.invariant.sound (found ∙ c.if-is_broken.false);
      counted = rw (c.valid_slots-lots.ensures.0, c.loop-b.invariant.counted) (lots_next _ c.loop-b.b);
      few = omega (arith, c.valid_slots-lots.ensures.1);
    }

pub returns : goal.returns
returns c =
    let all : c.loop-b.b ≡ c.args.buckets = omega arith in
    rw (← all, c.loop-b.invariant.sound) (ap Lots c.loop-b.invariant.counted)
