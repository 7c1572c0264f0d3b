-- What the display is told of the next bucket.
use Rattle.std.specs.Prelude.{ℕ, Result, Ok, Err, Option, Some, None}
use Rattle.turn.specs.declared.refusal.Refusal.{Refusal as Why}
use Rattle.turn.specs.Number.{number}

-- §21.4, §14.9: what the display is told of the next bucket: the number of refusal, that there is none, which is no number, or the bucket.
pub data Next : Type 0 where
  Refusal : ℕ → Next
  Nowhere : Next
  Bucket : ℕ → Next

-- so of a bucket, if there is one
abbrev pub bucket_if_any : Option ℕ → Next
bucket_if_any (Some b) = Bucket b
bucket_if_any None = Nowhere

-- and of the code's answer
abbrev pub next_as : Result (Option ℕ) Why → Next
next_as (Ok b) = bucket_if_any b
next_as (Err why) = Refusal (number why)
