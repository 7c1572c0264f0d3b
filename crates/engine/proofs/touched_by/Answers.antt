use Rattle.std.proofs.Common.{sym, ◌∙◌, arith}
use Rattle.engine.proofs.Sizes.{right}
use Rattle.engine.proofs.touched_by.Goals as goal

pub bucket_of-bucket-requires : goal.bucket_of-bucket-requires
bucket_of-bucket-requires c =
    let fits = right _ _ (sym c.is_wrong.ensures ∙ c.if-is_wrong.false) in
    (fits.some_bucket, fits.buckets)

pub overflow_mul-result : goal.overflow_mul-result
overflow_mul-result c = omega (arith, c.bucket_of-bucket.ensures.1, (right _ _ (sym c.is_wrong.ensures ∙ c.if-is_wrong.false)).buckets)

pub offset_bounds-board-bucket : goal.offset_bounds-board-bucket
offset_bounds-board-bucket c = omega (arith, c.bucket_of-bucket.ensures.1, (right _ _ (sym c.is_wrong.ensures ∙ c.if-is_wrong.false)).buckets)

pub bounds-board-bucket : goal.bounds-board-bucket
bounds-board-bucket c = omega (arith, c.bucket_of-bucket.ensures.1, (right _ _ (sym c.is_wrong.ensures ∙ c.if-is_wrong.false)).words)
