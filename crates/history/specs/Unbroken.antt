-- What holds of an opened board after every call: nothing is broken, and the sizes are right. That it does is `state_unbroken`, in
-- proofs/Unbroken.
use Rattle.std.specs.Prelude.{ℕ, ◌<◌, false, ◌≡◌, length}
use Rattle.turn.specs.Worker.{broken}
use Rattle.turn.specs.Bucket.{broken_bucket}
use Rattle.engine.specs.Board.{bucket_at}
use Rattle.engine.specs.Refusals.{wrong_sizes}
use Rattle.hall.specs.Reading.{Reads}
use Rattle.history.specs.History.{State, listed_of}

-- a state of which no part is broken
pub record Unbroken (s : State) : Type 0 where
  -- floor, board and list fit together
  pub sized : wrong_sizes s.floor s.board (length s.records) ≡ false
  -- no worker's record is broken
  pub records : (i : ℕ) → i < s.floor.workers → broken (listed_of s i) ≡ false
  -- no bucket is broken
  pub buckets : (b : ℕ) → b < s.floor.buckets → broken_bucket (bucket_at s.board b) ≡ false
  -- the index is the full reading of the board
  pub reads : Reads s.board s.floor.buckets s.index
