-- What stands in a buffer after something was written to it.
use Rattle.std.specs.Prelude.{ℕ, ◌+◌, ◌-◌, ◌≡◌, List, ◌++◌, length, take, drop}
use Rattle.pen.specs.declared.Pen.{Pen}

-- bytes from a place on, and everything else as it was
unfoldable pub wrote : List ℕ → ℕ → List ℕ → List ℕ
wrote out at bytes = take at out ++ (bytes ++ drop (at + length bytes) out)

-- bytes were written from a place on; next is the place after them
pub record Wrote (out : List ℕ) (at : ℕ) (bytes later : List ℕ) (next : ℕ) : Type 0 where
  pub buffer : later ≡ wrote out at bytes
  pub place : next ≡ at + length bytes

-- as much of the bytes as there is room for from a place on
abbrev pub room_for : List ℕ → ℕ → List ℕ → List ℕ
room_for out at bytes = take (length out - at) bytes

-- bytes were put from a place on as far as there is room, and what has none is left out; next is the place after them
pub record Puts (out : List ℕ) (at : ℕ) (bytes later : List ℕ) (next : ℕ) : Type 0 where
  pub part : Wrote out at (room_for out at bytes) later next

-- the pen after it has written these bytes into its buffer, as far as there is room
unfoldable pub written : Pen → List ℕ → Pen
written pen said =
    let room : List ℕ = room_for pen.out.now pen.at said in
    record {
      out = record { ref_ptr = pen.out.ref_ptr; ghost_name = pen.out.ghost_name; now = wrote pen.out.now pen.at room };
      at = pen.at + length room;
    }

-- the pen wrote these bytes
pub record Writes (old : Pen) (said : List ℕ) (new : Pen) : Type 0 where
  pub leaves : new ≡ written old said
