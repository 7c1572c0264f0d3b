-- What a read that stopped leaves of its input.
use Rattle.std.specs.Prelude.{ℕ, ◌≤◌, List, length, take, Option}
use Rattle.std.specs.Io.KnownBytes.{Consumes}

-- some bytes of the input are gone from it, and stand in order at the start of the buffer
abbrev pub TookFront : Option (List ℕ) → Option (List ℕ) → List ℕ → Type 0
TookFront old new buffer = (n : ℕ) × (n ≤ length buffer) × Consumes old new (take n buffer)
