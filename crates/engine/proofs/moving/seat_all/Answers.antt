use Rattle.std.proofs.Common.{◌≡◌, ◌+◌, ◌*◌, Bool, ◌||◌, ◌++◌, refl, sym, ap, subst, ◌∙◌, add-one, arith}
use Rattle.engine.specs.Board.{any_under}
use Rattle.engine.specs.Move.{unsettled}
use Rattle.engine.specs.Seating.{lot_words_in, lot_words_on, too_many, Seated}
use Rattle.engine.proofs.Parts.{part_at}
use Rattle.engine.proofs.Settling.{crowded_words, seated_none, none_many}
use Rattle.engine.proofs.AnyUnder.{any_next, any_at}
use Rattle.engine.proofs.moving.seat_all.Goals as goal

pub loop-b-init : goal.loop-b-init
unfolding any_under lot_words_on
loop-b-init c =
    let a = c.args in record {
      settled = refl;
      seated = subst (Seated a.old.now a.buckets _) (sym c.requires.1.1) (seated_none a.old.now a.buckets (omega arith));
      many = none_many a.old.now a.buckets;
    }

pub returns-then-is_unsettled : goal.returns-then-is_unsettled
returns-then-is_unsettled c =
    let found = ap unsettled (sym (part_at c.args.old.now (8 * c.loop-b.b) c.loop-b.b refl)) ∙ sym c.is_unsettled.ensures in
    (rw (any_at _ c.loop-b.b _ c.loop-b-test.true (found ∙ c.if-is_unsettled.true)), λ none. absurd (omega (arith, none)))

pub loop-b-preserved : goal.loop-b-preserved
unfolding lot_words_on
loop-b-preserved c =
    let old = c.args.old.now in
    let n = c.args.buckets in
    let b = c.loop-b.b in
    let found = ap unsettled (sym (part_at old (8 * b) b refl)) ∙ sym c.is_unsettled.ensures in
    let next : lot_words_on old b ++ lot_words_in old b ≡ lot_words_on old (b + 1) = ap (lot_words_on old) (sym (add-one b)) in
    let more = c.seat_bucket-crowded.ensures (lot_words_on old b) c.loop-b.invariant.seated in record {
      settled = any_next _ b c.loop-b.invariant.settled (found ∙ c.if-is_unsettled.false);
      seated = subst (λ ws. Seated old n ws c.seat_bucket-crowded.new.from) next more.seated;
      many = ap (too_many old n) (sym next) ∙ more.many ∙ ap (λ (t : Bool). t || c.seat_bucket-crowded.result) c.loop-b.invariant.many;
    }

pub returns-then-crowded : goal.returns-then-crowded
returns-then-crowded c =
    let all : c.loop-b.b ≡ c.args.olds = omega arith in (
      rw (← all, c.loop-b.invariant.settled, crowded_words c.args.old.now c.args.buckets c.loop-b.b, c.loop-b.invariant.many, c.if-crowded.true),
      λ none. absurd (omega (arith, none)),
    )

pub returns : goal.returns
returns c =
    let all : c.loop-b.b ≡ c.args.olds = omega arith in (
      rw (← all, c.loop-b.invariant.settled, crowded_words c.args.old.now c.args.buckets c.loop-b.b, c.loop-b.invariant.many, c.if-crowded.false),
      λ none. rw (← all) c.loop-b.invariant.seated,
    )
