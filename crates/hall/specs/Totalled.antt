-- What the display is told of the total.
use Rattle.std.specs.Prelude.{ℕ, Result, Ok, Err}
use Rattle.turn.specs.declared.refusal.Refusal.{Refusal as Why}
use Rattle.turn.specs.Number.{number}

-- §21.3, §14.9: what the display is told of the total: the number of refusal, or the slots.
pub data Totalled : Type 0 where
  Refusal : ℕ → Totalled
  Slots : ℕ → Totalled

-- so of the code's answer
abbrev pub totalled_as : Result ℕ Why → Totalled
totalled_as (Ok slots) = Slots slots
totalled_as (Err why) = Refusal (number why)
