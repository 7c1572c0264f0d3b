use Rattle.std.proofs.Common.{◌≡◌, ℕ, ◌+◌, ◌*◌, ◌^◌, ◌<◌, ◌≤◌, List, length, get_or, refl, ap, ap₂, ◌∙◌, arith}
use Rattle.engine.specs.Board.{with_bucket}
use Rattle.engine.specs.Seating.{Fillable}
use Rattle.engine.proofs.Buckets.{laid, lay_next, laid_long, laid_all}
use Rattle.engine.proofs.Parts.{put_at, part_long}
use Rattle.engine.proofs.Filling.{left, left_long, slot_below, bucket_filled}
use Rattle.engine.proofs.moving.lay_all.Goals as goal

-- a word that is read for a bucket is one of the old board
slot_fits :
    (old board from : List ℕ) (olds n v : ℕ)
    → v < 2 ^ 32
    → Fillable old board from olds n
    → (b i p : ℕ)
    → b < n
    → i ≡ 3 * b + p
    → p ≤ 2
    → get_or from i 0 + 4 ≤ length old
slot_fits old board from olds n v fits s b i p under is few =
    let within = slot_below old olds n v fits s.some_bucket from s.seated s.room b under i p is (omega arith) s.some_old in
    omega (arith, within, s.old_words)

pub fill-requires : goal.fill-requires
fill-requires c =
    let a = c.args in
    let b = c.loop-b.b in
    let fits = slot_fits a.old.now a.board.now a.from.now a.olds a.buckets a.version c.ranges.version.fits c.requires b in (
      part_long c.loop-b.board (8 * b) (omega (arith, c.requires.words)),
      (
        fits (3 * b) 0 c.loop-b-test.true (omega arith) (omega arith),
        (fits (3 * b + 1) 1 c.loop-b-test.true refl (omega arith), fits (3 * b + 2) 2 c.loop-b-test.true refl (omega arith)),
      ),
    )

pub loop-b-preserved : goal.loop-b-preserved
loop-b-preserved c =
    let a = c.args in
    let s = c.requires in
    let b = c.loop-b.b in
    let under : b < a.buckets = omega arith in
    let new = left a.old.now a.olds a.buckets a.version in
    let new_long = left_long a.old.now a.olds a.buckets a.version s.some_bucket in
    let now =
    put_at c.loop-b.board (8 * b) b refl c.fill.new.bucket
    ∙ ap₂ (λ (x y : List ℕ). with_bucket x b y) c.loop-b.invariant.0
    (c.fill.ensures ∙ bucket_filled a.old.now a.olds a.buckets a.version c.ranges.version.fits s.some_bucket a.from.now s.seated s.room b under)
    ∙ lay_next new a.board.now b (omega (arith, new_long)) in
    (now, ap (λ (x : List ℕ). length x) now ∙ laid_long new a.board.now (b + 1) (omega (arith, new_long)) (omega (arith, s.words)))

pub returns : goal.returns
returns c =
    let a = c.args in
    let all : c.loop-b.b ≡ a.buckets = omega arith in
    c.loop-b.invariant.0
    ∙ ap (laid (left a.old.now a.olds a.buckets a.version) a.board.now) all
    ∙ laid_all _ a.board.now a.buckets c.requires.words (left_long a.old.now a.olds a.buckets a.version c.requires.some_bucket)
