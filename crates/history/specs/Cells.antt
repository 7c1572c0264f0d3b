-- The cells of an opened board: what a worker that holds a slot has put into it, and what stands in a valid slot. That it is so wherever a
-- stretch can begin, after every list of calls, is `state_cells`, in proofs/Cells.
use Rattle.std.specs.Prelude.{ℕ, ◌≤◌, ◌≡◌}
use Rattle.mark.specs.Word.{mark_of}
use Rattle.turn.specs.declared.Worker.{Worker}
use Rattle.turn.specs.Worker.{insert_kind, ticket_place}
use Rattle.turn.specs.Bucket.{cell, mark_cell, key_cell, value_cell}
use Rattle.engine.specs.Board.{bucket_of, bucket_at}
use Rattle.history.specs.History.{State, record_of}
use Rattle.history.specs.Values.{value_at}

-- the cells of a bucket
abbrev pub cells_at : State → ℕ → ℕ → ℕ
cells_at s b k = cell (bucket_at s.board b) k

-- the mark word of a bucket
abbrev pub mark_word_at : State → ℕ → ℕ
mark_word_at s b = cells_at s b mark_cell

-- the mark of a slot of a bucket
abbrev pub mark_at : State → ℕ → ℕ → ℕ
mark_at s b p = mark_of (mark_word_at s b) p

-- the key of a slot of a bucket; its value is `value_at`
abbrev pub key_at : State → ℕ → ℕ → ℕ
key_at s b p = cells_at s b (key_cell p)

-- the bucket of a worker's lot, of n
abbrev pub home : ℕ → Worker → ℕ
home n w = bucket_of w.key n

-- an insert that holds a slot
abbrev pub Holds : Worker → Type 0
Holds w = (w.kind ≡ insert_kind) × (w.held ≤ 2)

-- §5.8: an insert stores its lot
abbrev pub key_place : ℕ
key_place = 8

-- §15.5: what a worker w that holds a slot has put into it, in a bucket with the cells c
pub record Fills (c : ℕ → ℕ) (w : Worker) : Type 0 where
  -- its ticket, unless it has yet to store it
  pub value : (w.place ≡ ticket_place → ⊥) → c (value_cell w.held) ≡ w.ticket
  -- and its lot, unless it has yet to store one of the two
  pub key : (w.place ≡ ticket_place → ⊥) → (w.place ≡ key_place → ⊥) → c (key_cell w.held) ≡ w.key

-- §15.5: what stands in slot p of bucket b where it is valid
pub record Stands (s : State) (b p : ℕ) : Type 0 where
  -- a lot that belongs to this bucket
  pub lot : bucket_of (key_at s b p) s.floor.buckets ≡ b
  -- and a ticket
  pub ticket : 1 ≤ value_at s b p

-- §15.5: the cells of held and of valid slots
pub record Cells (s : State) : Type 0 where
  -- whoever holds a slot has filled it as far as it has come
  pub filled : (i : ℕ) → Holds (record_of s i) → Fills (cells_at s (home s.floor.buckets (record_of s i))) (record_of s i)
  -- whatever is valid has a lot of its bucket and a ticket
  pub valid : (b p : ℕ) → mark_at s b p ≡ 1 → Stands s b p
