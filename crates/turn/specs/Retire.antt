-- Retiring one worker on the bucket of its lot, refused or done.
use Rattle.std.specs.Prelude.{ℕ, cond, List, eqb, set, Result, Ok, Err}
use Rattle.turn.specs.declared.Worker.{Worker}
use Rattle.turn.specs.declared.refusal.Refusal.{Refusal}
use Rattle.turn.specs.Number.{number}
use Rattle.turn.specs.Worker.{no_slot, idle}
use Rattle.turn.specs.Bucket.{mark_cell, cell}
use Rattle.turn.specs.Effects.{retire, effect_on}
use Rattle.turn.specs.Turn.{After, after, bucket_refusal, busy_refusal}

-- §19.3: 7 for a broken bucket in which a slot is held, or 0
abbrev pub held_refusal : List ℕ → Worker → ℕ
held_refusal b w = cond (eqb w.held no_slot) 0 (bucket_refusal b)

-- §7.2: a broken record, an idle worker, a broken bucket in which it holds a slot; 0 where it is none of them
unfoldable pub retire_refusal : List ℕ → Worker → ℕ
retire_refusal b w = busy_refusal w (held_refusal b w)

-- §19.2: the bucket with the held slot given back, whatever its mark was; where none is held, as it was
abbrev pub vacated : List ℕ → Worker → List ℕ
vacated b w = cond (eqb w.held no_slot) b (set b mark_cell (effect_on (retire w.held) (cell b mark_cell)))

-- what a retiring hands back: the record as it now stands, and the number of refusal, or 0
pub record Retired : Type 0 where
  pub worker : Worker
  pub refusal : ℕ

-- §7.1: a retiring that is refused hands back its number, and the record as it was
abbrev pub not_retired : ℕ → Worker → Retired
not_retired number w = record { worker = w; refusal = number }

-- §19.1: one that is done hands back the idle record
abbrev pub is_retired : Retired
is_retired = record { worker = idle; refusal = 0 }

-- so of an answer for a worker with this record
abbrev pub retired_as : Worker → Result Worker Refusal → Retired
retired_as w (Ok v) = record { worker = v; refusal = 0 }
retired_as w (Err why) = not_retired (number why) w

-- retiring a worker on the words of its bucket
unfoldable pub retire_on : List ℕ → Worker → After Retired
retire_on b w = cond (eqb (retire_refusal b w) 0) (after (vacated b w) is_retired) (after b (not_retired (retire_refusal b w) w))
