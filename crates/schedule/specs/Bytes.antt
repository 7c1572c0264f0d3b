-- The fields of a sheet as bytes.
use Rattle.std.specs.Prelude.{ℕ, zero, suc, ◌/◌, ◌%◌, Bool, cond, List, [], ◌∷◌, ◌++◌, length, eqb}
use Rattle.turn.specs.Worker.{insert_kind}
use Rattle.engine.specs.declared.Plan.{Plan}
use Rattle.sheet.specs.declared.Call.{Call}

-- §8.1: a number in so many bytes, the high byte first
unfoldable pub high_first : ℕ → ℕ → List ℕ
high_first zero n = []
high_first (suc more) n = high_first more (n / 256) ++ ((n % 256) ∷ [])

-- §8.1: a field: its tag, its length and its value
abbrev pub field : ℕ → List ℕ → List ℕ
field tag value = tag ∷ (high_first 2 (length value) ++ value)

-- §8.2: the field of a floor
abbrev pub floor_bytes : Plan → List ℕ
floor_bytes p = field 1 (high_first 1 p.workers ++ (high_first 2 p.buckets ++ high_first 4 p.version))

-- §8.3: the bytes of an insert's ticket; another call has none
abbrev pub ticket_bytes : Call → Bool → List ℕ
ticket_bytes c long = cond (eqb c.kind insert_kind) (cond long (high_first 8 c.ticket) (high_first 4 c.ticket)) []

-- §8.3: the field of a call, with its ticket in eight bytes where it is long
abbrev pub call_bytes : Call → Bool → List ℕ
call_bytes c long = field 2 (c.worker ∷ (c.kind ∷ (high_first 8 c.lot ++ ticket_bytes c long)))

-- §8.4: the field of turns
abbrev pub turns_bytes : List ℕ → List ℕ
turns_bytes turns = field 3 turns
