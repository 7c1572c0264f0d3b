use Rattle.std.proofs.Common.{◌≡◌, ℕ, ◌+◌, ◌*◌, List, length, refl, sym, ap, ap₂, ◌∙◌, arith}
use Rattle.engine.specs.Board.{with_bucket, opened_board}
use Rattle.engine.proofs.Buckets.{length_opened, opened_bucket, laid, lay_next, laid_long, laid_all}
use Rattle.engine.proofs.Parts.{put_at}
use Rattle.engine.proofs.lay.open.Goals as goal

pub loop-b-preserved : goal.loop-b-preserved
loop-b-preserved c =
    let a = c.args in
    let b = c.loop-b.b in
    let new = opened_board a.buckets a.version in
    let under = length_opened a.version a.buckets in
    let now =
    put_at c.loop-b.board (8 * b) b refl c.clear.new.bucket
    ∙ ap₂ (λ (x y : List ℕ). with_bucket x b y) c.loop-b.invariant.0 (c.clear.ensures ∙ sym (opened_bucket a.version a.buckets b (omega arith)))
    ∙ lay_next new a.board.now b (omega arith) in
    (now, ap (λ (x : List ℕ). length x) now ∙ laid_long new a.board.now (b + 1) (omega arith) (omega arith))

pub returns : goal.returns
returns c =
    let a = c.args in
    let all : c.loop-b.b ≡ a.buckets = omega arith in
    c.loop-b.invariant.0
    ∙ ap (laid (opened_board a.buckets a.version) a.board.now) all
    ∙ laid_all _ a.board.now a.buckets c.requires.1 (length_opened a.version a.buckets)
