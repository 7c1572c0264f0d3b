-- How long a worker has slept: the turns of others since its start or its last turn, in its record.
use Rattle.std.specs.Prelude.{ℕ, ◌+◌, cond, leb}
use Rattle.turn.specs.declared.Worker.{Worker}
use Rattle.turn.specs.Worker.{sound}

-- §20.1: a count of 32 bits stays at the highest number
abbrev pub capped : ℕ → ℕ
capped n = cond (leb n 4294967295) n 4294967295

-- a record that has slept for so many turns
abbrev pub asleep_for : ℕ → Worker → Worker
asleep_for n w =
    record {
      kind = w.kind;
      place = w.place;
      key = w.key;
      ticket = w.ticket;
      slot = w.slot;
      word = w.word;
      held = w.held;
      seen = w.seen;
      asleep = n;
    }

-- §20.2: whoever has a turn is awake
abbrev pub awake : Worker → Worker
awake w = asleep_for 0 w

-- §20.2: a turn of another is slept through by who is busy, and by nobody else; no other field is touched
unfoldable pub slept : Worker → Worker
slept w = asleep_for (cond (sound w) (capped (w.asleep + 1)) w.asleep) w
