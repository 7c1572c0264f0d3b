-- What a move leaves (§22). That it is so wherever a stretch can begin, after every list of calls, is `move_tells`, in proofs/MoveTells.
use Rattle.std.specs.Prelude.{ℕ, ◌≤◌, ◌<◌, true, false, [], ◌∷◌, ◌↔◌, ◌≡◌, length, replicate}
use Rattle.mark.specs.Word.{version}
use Rattle.turn.specs.Worker.{idle}
use Rattle.engine.specs.Calls.{Lots}
use Rattle.engine.specs.Board.{bucket_of, lots_on}
use Rattle.engine.specs.Refusals.{wrong_floor}
use Rattle.engine.specs.Calls.{count_call}
use Rattle.engine.specs.Move.{lines_on, lines_for, moved_floor}
use Rattle.hall.specs.Totalled.{Slots}
use Rattle.hall.specs.Calls.{total_call}
use Rattle.hall.specs.Reading.{Reads}
use Rattle.history.specs.Numbers.{OneOf}
use Rattle.history.specs.History.{State, workers_of, buckets_of}
use Rattle.history.specs.Values.{value_at}
use Rattle.history.specs.Cells.{mark_word_at, mark_at, key_at}
use Rattle.history.specs.Moves.{Lent, moves, move_number_of, after_step}

-- ---- lots on a board

-- a valid slot of a bucket with this lot and this ticket
pub record ValidIn (s : State) (b lot ticket : ℕ) : Type 0 where
  pub slot : ℕ
  pub valid : mark_at s b slot ≡ 1
  pub key : key_at s b slot ≡ lot
  pub value : value_at s b slot ≡ ticket

-- such a slot of some bucket
pub record ValidOn (s : State) (lot ticket : ℕ) : Type 0 where
  pub bucket : ℕ
  pub under : bucket < buckets_of s
  pub there : ValidIn s bucket lot ticket

-- every worker is idle
abbrev pub AllIdle : State → Type 0
AllIdle s = s.records ≡ replicate (workers_of s) idle

-- ---- a move that is accepted

-- the state that a move leaves
abbrev pub moved_to : State → Lent → State
moved_to s m = after_step s (moves m)

-- §22: what a move that is accepted leaves
pub record MoveTells (s : State) (m : Lent) : Type 0 where
  -- §22.3: N is the one asked for; W, the last ticket, the version and the records are as they were
  pub buckets : buckets_of (moved_to s m) ≡ m.buckets
  pub workers : workers_of (moved_to s m) ≡ workers_of s
  pub last : (moved_to s m).floor.last ≡ s.floor.last
  pub version_same : (moved_to s m).floor.version ≡ s.floor.version
  pub records : (moved_to s m).records ≡ s.records
  -- §22.1: every lot stands with its ticket in its bucket of the new ones
  pub goes :
      (b p : ℕ)
      → b < buckets_of s
      → mark_at s b p ≡ 1
      → ValidIn (moved_to s m) (bucket_of (key_at s b p) (buckets_of (moved_to s m))) (key_at s b p) (value_at s b p)
  -- and no other lot or ticket does
  pub comes : (c q : ℕ) → mark_at (moved_to s m) c q ≡ 1 → ValidOn s (key_at (moved_to s m) c q) (value_at (moved_to s m) c q)
  -- what is valid is in its bucket
  pub home : (c q : ℕ) → mark_at (moved_to s m) c q ≡ 1 → bucket_of (key_at (moved_to s m) c q) (buckets_of (moved_to s m)) ≡ c
  -- §22.3: every bucket has the floor's version
  pub versions : (c : ℕ) → c < buckets_of (moved_to s m) → version (mark_word_at (moved_to s m) c) ≡ (moved_to s m).floor.version
  -- and a slot that is not valid is empty, with zeros in its cells
  pub empty :
      (c q : ℕ)
      → c < buckets_of (moved_to s m)
      → q < 3
      → (mark_at (moved_to s m) c q ≡ 1 → ⊥)
      → (mark_at (moved_to s m) c q ≡ 0) × (key_at (moved_to s m) c q ≡ 0) × (value_at (moved_to s m) c q ≡ 0)
  -- §22.4: the index is the full reading of the new board
  pub reads : Reads (moved_to s m).board (buckets_of (moved_to s m)) (moved_to s m).index
  -- a count and a total are accepted, and tell the number of lots that they told before
  pub counted : count_call (moved_to s m).board (moved_to s m).floor ≡ Lots (lots_on s.board (buckets_of s))
  pub counted_before : count_call s.board s.floor ≡ Lots (lots_on s.board (buckets_of s))
  pub totalled : total_call (moved_to s m).board (moved_to s m).index (moved_to s m).floor ≡ Slots (lots_on s.board (buckets_of s))
  pub totalled_before : total_call s.board s.index s.floor ≡ Slots (lots_on s.board (buckets_of s))

-- ---- a move that is refused

-- §22.2: one of the new buckets would need a fourth slot for the lots of the old ones
pub record Crowds (s : State) (m : Lent) : Type 0 where
  pub bucket : ℕ
  pub under : bucket < m.buckets
  pub four : 4 ≤ length (lines_for m.buckets bucket (lines_on s.board (buckets_of s)))

-- no slot of the old buckets is being inserted
abbrev pub NoneInserted : State → Type 0
NoneInserted s = (b p : ℕ) → b < buckets_of s → mark_at s b p ≡ 2 → ⊥

-- §22.5: by which numbers moves are refused on an opened board
pub record MoveRefusals (s : State) (m : Lent) : Type 0 where
  -- none but these
  pub numbers : OneOf (0 ∷ 1 ∷ 7 ∷ 12 ∷ 13 ∷ []) (move_number_of s m)
  -- it leaves everything as it was
  pub stays : (move_number_of s m ≡ 0 → ⊥) → moved_to s m ≡ s
  -- 1 is for the second board alone
  pub sized : (move_number_of s m ≡ 1) ↔ (wrong_floor (moved_floor s.floor m.buckets) m.words ≡ true)
  -- where every worker is idle it is not refused by 12
  pub rested : AllIdle s → move_number_of s m ≡ 12 → ⊥
  -- where no slot is being inserted it is not refused by 7
  pub settled : NoneInserted s → move_number_of s m ≡ 7 → ⊥
  -- where both is so and the second board has its size, it is refused by 13 exactly if a bucket would need a fourth slot
  pub crowded :
      AllIdle s
      → NoneInserted s
      → wrong_floor (moved_floor s.floor m.buckets) m.words ≡ false
      → (move_number_of s m ≡ 13) ↔ Crowds s m
  -- and is accepted else
  pub accepted :
      AllIdle s
      → NoneInserted s
      → wrong_floor (moved_floor s.floor m.buckets) m.words ≡ false
      → (Crowds s m → ⊥)
      → move_number_of s m ≡ 0
