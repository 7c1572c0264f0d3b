-- Retiring a worker on an opened board. That all of it holds wherever a stretch can begin, after every list of calls, is `retirings`, in
-- proofs/Retirings.
use Rattle.std.specs.Prelude.{ℕ, ◌<◌, List, ◌∷◌, ◌++◌, ◌≡◌}
use Rattle.mark.specs.Word.{version, next_version}
use Rattle.turn.specs.Bucket.{mark_cell}
use Rattle.turn.specs.Places.{filled}
use Rattle.history.specs.History.{State, Call, retire, workers_of, listed_of, record_of, retire_by, after, state, FewInserts}
use Rattle.history.specs.Cells.{cells_at, mark_word_at, mark_at, home, Holds}
use Rattle.history.specs.HowLong.{IsIdle}

-- the bucket of worker i's lot
abbrev pub bucket_of_worker : State → ℕ → ℕ
bucket_of_worker s i = home s.floor.buckets (record_of s i)

-- worker i, which holds a slot in s, is retired, and t is left
pub record GivesBack (s : State) (i : ℕ) (t : State) : Type 0 where
  -- §19.2: the slot is empty then
  pub empties : mark_at t (bucket_of_worker s i) (record_of s i).held ≡ 0
  -- §19.2: and the version has moved on by one
  pub moves : version (mark_word_at t (bucket_of_worker s i)) ≡ next_version (version (mark_word_at s (bucket_of_worker s i)))
  -- every other mark of that bucket is as it was
  pub marks : (p : ℕ) → (p ≡ (record_of s i).held → ⊥) → mark_at t (bucket_of_worker s i) p ≡ mark_at s (bucket_of_worker s i) p

-- worker i, which is at a call in s, is retired, and t is left
pub record IsRetired (s : State) (i : ℕ) (t : State) : Type 0 where
  -- §19.1: it is idle then
  pub idles : IsIdle t i
  -- the other records and the floor are as they were
  pub others : (j : ℕ) → (j ≡ i → ⊥) → listed_of t j ≡ listed_of s j
  pub floor : t.floor ≡ s.floor
  -- §19.2: no cell is touched but the mark word of its bucket, and that only where it held a slot
  pub cells : (b k : ℕ) → (Holds (record_of s i) → b ≡ bucket_of_worker s i → k ≡ mark_cell → ⊥) → cells_at t b k ≡ cells_at s b k
  pub gives_back : Holds (record_of s i) → GivesBack s i t

-- retirings, where a stretch begins in this state and these are the calls since
pub record Retirings (first : State) (calls : List Call) : Type 0 where
  -- §19.3: whoever is at a call can be retired
  pub accepted : (i : ℕ) → i < workers_of first → (IsIdle (state first calls) i → ⊥) → (retire_by (state first calls) i).handed.refusal ≡ 0
  -- §19.1, §19.2: and then is
  pub retired :
      (i : ℕ) → i < workers_of first → (IsIdle (state first calls) i → ⊥) → IsRetired (state first calls) i (after (state first calls) (retire i))
  -- §19.5: a worker that held a slot and comes back after all has in mind a word that its bucket never has again, whatever is called since,
  -- while inserts are few: its commit would not be won
  pub never_again :
      (i : ℕ)
      → Holds (record_of (state first calls) i)
      → (later : List Call)
      → FewInserts first (calls ++ (retire i ∷ later))
      → mark_word_at (state first (calls ++ (retire i ∷ later))) (bucket_of_worker (state first calls) i) ≡ filled (record_of (state first calls) i)
      → ⊥
