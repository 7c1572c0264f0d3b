-- How long each worker has slept, told from what was called and done. That its record says so is `sleeps`, in proofs/Sleepers.
use Rattle.std.specs.Prelude.{ℕ, ◌+◌, ◌<◌, Bool, true, false, cond, ◌&&◌, List, [], ◌∷◌, ◌++◌, ◌≡◌, eqb}
use Rattle.turn.specs.Asleep.{capped}
use Rattle.engine.specs.Calls.{Started}
use Rattle.history.specs.Trace.{Turn, Entry, acted, retired, By, None, Continues}
use Rattle.history.specs.Counts.{turns_in}
use Rattle.history.specs.History.{State, Call, look, insert, remove, turn, retire, run, show, count, orders, ask_total, ask_next}
use Rattle.history.specs.History.{listed_of, workers_of, look_by, insert_by, remove_by, after, entries, trace_from, state, trace}
use Rattle.history.specs.HowLong.{IsIdle}

-- §20.5: the turns of others since worker i's last one, after these entries, if there were so many before them
unfoldable pub slept_through : ℕ → ℕ → List Entry → ℕ
slept_through i n [] = n
slept_through i n (acted e ∷ es) = slept_through i (cond (eqb e.worker i) 0 (n + 1)) es
slept_through i n (retired r ∷ es) = slept_through i n es

-- a start on worker j is one on worker i, and is accepted
abbrev pub started_on : ℕ → ℕ → Started → Bool
started_on i j x = eqb j i && eqb x.refusal 0

-- a call of the library is such a start
abbrev pub starts_on : ℕ → State → Call → Bool
starts_on i s (look j lot) = started_on i j (look_by s j lot)
starts_on i s (insert j lot t) = started_on i j (insert_by s j lot t)
starts_on i s (remove j lot) = started_on i j (remove_by s j lot)
starts_on i s (turn j) = false
starts_on i s (retire j) = false
starts_on i s (run turns) = false
starts_on i s (show lot) = false
starts_on i s count = false
starts_on i s (orders depth) = false
starts_on i s ask_total = false
starts_on i s (ask_next from) = false

-- §20.5: the turns of others since worker i's start or last turn, after these calls, if there were so many before them
unfoldable pub asleep_from : ℕ → ℕ → State → List Call → ℕ
asleep_from i n s [] = n
asleep_from i n s (c ∷ cs) = asleep_from i (cond (starts_on i s c) 0 (slept_through i n (entries s c))) (after s c) cs

-- §20.5: what the records tell of sleepers, where a stretch begins in this state and these are the calls since
pub record Sleeps (first : State) (calls : List Call) : Type 0 where
  -- a worker that is at a call has slept through the turns of others since its start or its last turn
  pub counted :
      (i : ℕ)
      → i < workers_of first
      → (IsIdle (state first calls) i → ⊥)
      → (listed_of (state first calls) i).asleep ≡ capped (asleep_from i 0 first calls)
  -- where the last that was done for it is its start, these are all the turns that were done since
  pub since_start :
      (earlier : List Call) (c : Call) (later : List Call) (i : ℕ)
      → calls ≡ earlier ++ (c ∷ later)
      → starts_on i (state first earlier) c ≡ true
      → let since = trace_from (after (state first earlier) c) later in
      None (By i) since
      → (listed_of (state first calls) i).asleep ≡ capped (turns_in since)
  -- and where it is a turn by which its call goes on, all that were done since that turn
  pub since_turn :
      (older : List Entry) (e : Turn) (newer : List Entry)
      → trace first calls ≡ older ++ (acted e ∷ newer)
      → Continues (acted e)
      → None (By e.worker) newer
      → (listed_of (state first calls) e.worker).asleep ≡ capped (turns_in newer)
