-- A record of the lent list through a turn.
use Rattle.std.specs.Prelude.{ℕ, ◌≡◌, ◌<◌, cond, eqb, List, length, get_or}
use Rattle.turn.specs.declared.Worker.{Worker}
use Rattle.turn.specs.Asleep.{slept}
use Rattle.engine.specs.Calls.{blank}

-- §20.2: the record at a number, slept on through a turn of worker i, whose own stays
abbrev pub beside : ℕ → ℕ → Worker → Worker
beside i at w = cond (eqb at i) w (slept w)

-- every record of the list has become one that is made of it by its number
pub record Lapped (makes : ℕ → Worker → Worker → Type 0) (ws ws' : List Worker) : Type 0 where
  pub long : length ws' ≡ length ws
  pub each : (k : ℕ) → k < length ws → makes k (get_or ws k blank) (get_or ws' k blank)
