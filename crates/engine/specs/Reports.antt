-- What a turn's report tells of the board, whatever the board and the record are. That each tells it is `turn_tells`, in proofs/Reports.
use Rattle.std.specs.Prelude.{ℕ, ◌≡◌, List}
use Rattle.turn.specs.declared.Worker.{Worker}
use Rattle.turn.specs.declared.Report.{Report}
use Rattle.turn.specs.Bucket.{cell, mark_cell}
use Rattle.turn.specs.Effects.{effect_on, effect_of}
use Rattle.engine.specs.declared.Floor.{Floor}
use Rattle.engine.specs.Board.{bucket_of, bucket_at}

-- §4.12: a turn of a worker with the record w: the board before the turn and after it, and the turn's report
pub record ReportTells (f : Floor) (board : List ℕ) (w : Worker) (board' : List ℕ) (r : Report) : Type 0 where
  -- it has the number of the bucket of the worker's lot
  pub bucket : r.bucket ≡ bucket_of w.key f.buckets
  -- and the mark word that stood in that bucket before the turn
  pub before : r.before ≡ cell (bucket_at board r.bucket) mark_cell
  -- and the mark word that stands there after the turn
  pub after : r.after ≡ cell (bucket_at board' r.bucket) mark_cell
  -- the second of them is what the reported action makes of the first
  pub effect : r.after ≡ effect_on (effect_of w r.action) r.before
