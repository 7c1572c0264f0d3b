-- The acts of one worker of the lent list, whatever their core is: what follows from what the core promises, and from the record that goes back into
-- the list, is so of the act. Assumes nothing.
use Rattle.std.proofs.Common.{ℕ, List, Result}
use denote.Ref.{MutBor}
use Rattle.turn.specs.declared.Worker.{Worker}
use Rattle.turn.specs.declared.refusal.Refusal.{Refusal as Why}
use Rattle.engine.specs.declared.Begun.{Begun}
use Rattle.engine.specs.declared.Floor.{Floor}
use Rattle.engine.specs.declared.Seat.{Seat}
use Rattle.engine.specs.Calls.{record_in, seat_in}
use Rattle.floor.specs.Acted.{put_as, told_as, Acted, begun_as, floor_as, Began}

module _ {T : Type 0} where
  -- with board and index lent to the core: what it promises of them before and after, and what the act promises, of the list besides
  pub act_follows :
      (came : MutBor (List ℕ) → MutBor (List ℕ) → Seat → Worker → Result (Worker × T) Why → MutBor (List ℕ) → MutBor (List ℕ) → Type 0)
      (core : List ℕ → List ℕ → Seat → Worker → List ℕ → List ℕ → Result (Worker × T) Why → Type 0)
      (act : List ℕ → List Worker → List ℕ → Floor → ℕ → List ℕ → List Worker → List ℕ → Result T Why → Type 0)
      → ((b x : MutBor (List ℕ)) (s : Seat) (w : Worker) (o : Result (Worker × T) Why) (b' x' : MutBor (List ℕ))
      → came b x s w o b' x' → core b.now x.now s w b'.now x'.now o)
      → ((board : List ℕ) (records : List Worker) (index : List ℕ) (f : Floor) (i : ℕ) (o : Result (Worker × T) Why) (board' index' : List ℕ)
      → core board index (seat_in f records i) (record_in records i) board' index' o
      → act board records index f i board' (put_as records i o) index' (told_as o))
      → (board : List ℕ) (records : List Worker) (index : List ℕ) (f : Floor) (i : ℕ) (board' : List ℕ) (records' : List Worker) (index' : List ℕ)
      (r : Result T Why)
      → Acted came board records index f i board' records' index' r
      → act board records index f i board' records' index' r
  act_follows came core act promised follows board records index f i board' records' index' r e =
      let met = promised _ _ _ _ _ _ _ e.core.met in
      let kept : core board index (seat_in f records i) (record_in records i) board' index' e.made =
      rw (← e.core.shows.0, ← e.core.shows.1, ← e.core.leaves.0, ← e.core.leaves.1) met in
      rw (e.put, e.told) (follows board records index f i e.made board' index' kept)

-- a start, whatever begins
pub began_follows :
    (begins : List ℕ → Seat → Worker → Result Begun Why → Type 0)
    (start : List ℕ → List Worker → Floor → ℕ → List Worker → Result Floor Why → Type 0)
    → ((board : List ℕ) (records : List Worker) (f : Floor) (i : ℕ) (o : Result Begun Why)
    → begins board (seat_in f records i) (record_in records i) o → start board records f i (begun_as records i o) (floor_as o))
    → (board : List ℕ) (records : List Worker) (f : Floor) (i : ℕ) (records' : List Worker) (r : Result Floor Why)
    → Began begins board records f i records' r
    → start board records f i records' r
began_follows begins start follows board records f i records' r e = rw (e.put, e.told) (follows board records f i e.made e.core)
