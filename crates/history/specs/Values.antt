-- No value comes back: tickets rise, each is stored once at most, and nothing else is written to a value cell. A state is one between two
-- calls; one inside a run is such a state of the same history without runs (Singly).
use Rattle.std.specs.Prelude.{ℕ, cond, List, [], ◌∷◌, ◌++◌, ◌⊎◌, ◌≡◌, eqb}
use Rattle.turn.specs.declared.Action.TheVariants.{Store}
use Rattle.turn.specs.Worker.{ticket_place}
use Rattle.turn.specs.Bucket.{cell, value_cell}
use Rattle.engine.specs.Board.{bucket_at}
use Rattle.history.specs.Numbers.{OneOf, Rising}
use Rattle.history.specs.Trace.{Turn, acted, IsTurn, Some, None}
use Rattle.history.specs.Moment.{AtTurn}
use Rattle.history.specs.History.{State, Call, look, insert, remove, turn, retire, run, show, count, orders, ask_total, ask_next, insert_by}
use Rattle.history.specs.History.{after, turn_entry, trace_from, state, trace}

-- the value that stands in a slot of a bucket; what is said of values below needs no bound on either number
abbrev pub value_at : State → ℕ → ℕ → ℕ
value_at s b p = cell (bucket_at s.board b) (value_cell p)

-- a turn that stores its worker's ticket
abbrev pub Stores : Turn → Type 0
Stores e = (e.was.place ≡ ticket_place) × (e.report.action ≡ Store)

-- a turn that stores this ticket
abbrev pub StoresTicket : ℕ → Turn → Type 0
StoresTicket t e = Stores e × (e.was.ticket ≡ t)

-- ---- tickets

-- the ticket of an insert that is accepted; no other call has one
abbrev pub spent_by : State → Call → List ℕ
spent_by s (look i lot) = []
spent_by s (insert i lot t) = cond (eqb (insert_by s i lot t).refusal 0) (t.number ∷ []) []
spent_by s (remove i lot) = []
spent_by s (turn i) = []
spent_by s (retire i) = []
spent_by s (run turns) = []
spent_by s (show lot) = []
spent_by s count = []
spent_by s (orders depth) = []
spent_by s ask_total = []
spent_by s (ask_next from) = []

-- the tickets that calls from a state spend, in their order
unfoldable pub tickets_from : State → List Call → List ℕ
tickets_from s [] = []
tickets_from s (c ∷ cs) = spent_by s c ++ tickets_from (after s c) cs

-- the tickets of the inserts that were accepted, in the order of their starts
abbrev pub tickets : State → List Call → List ℕ
tickets first calls = tickets_from first calls

-- ---- the theorem

-- §3.6: what holds where a stretch begins in this state and these are the calls since
pub record NoValueComesBack (first : State) (calls : List Call) : Type 0 where
  -- the accepted tickets rise, from above the last one at first
  pub rising : Rising first.floor.last (tickets first calls)
  -- the ticket that a turn stores is one of the accepted ones
  pub stores_ticket : (at : AtTurn (trace first calls)) → Stores at.turn → OneOf (tickets first calls) at.turn.was.ticket
  -- no turn stores a ticket that a turn before it stored
  pub stored_once : (at : AtTurn (trace first calls)) → Stores at.turn → None (IsTurn (StoresTicket at.turn.was.ticket)) at.before
  -- wherever the calls are cut before a turn that stores, no slot of any bucket had its ticket as a value then
  pub stood_nowhere :
      (earlier rest : List Call)
      → calls ≡ earlier ++ rest
      → (at : AtTurn (trace_from (state first earlier) rest))
      → Stores at.turn
      → (b p : ℕ)
      → value_at (state first earlier) b p ≡ at.turn.was.ticket
      → ⊥
  -- a turn that comes next and stores leaves its ticket as the value of the slot that it holds
  pub writes :
      (i : ℕ) (e : Turn)
      → turn_entry (state first calls) i ≡ acted e ∷ []
      → Stores e
      → value_at (after (state first calls) (turn i)) e.report.bucket e.was.held ≡ e.was.ticket
  -- a turn that comes next leaves every other value as it was, and all of them where it does not store
  pub spares :
      (i : ℕ) (e : Turn)
      → turn_entry (state first calls) i ≡ acted e ∷ []
      → (b p : ℕ)
      → (Stores e → b ≡ e.report.bucket → p ≡ e.was.held → ⊥)
      → value_at (after (state first calls) (turn i)) b p ≡ value_at (state first calls) b p
  -- a retiring leaves every value as it was
  pub retiring_spares : (i b p : ℕ) → value_at (after (state first calls) (retire i)) b p ≡ value_at (state first calls) b p
  -- a value is the one that stood there at first, or a ticket that a turn stored
  pub comes_from :
      (b p : ℕ)
      → (value_at (state first calls) b p ≡ value_at first b p) ⊎ Some (IsTurn (StoresTicket (value_at (state first calls) b p))) (trace first calls)
  -- where a value is not the one after some earlier calls, no slot of any bucket had it then or at any point before
  pub never_back :
      (early later last : List Call)
      → calls ≡ (early ++ later) ++ last
      → (b p c q : ℕ)
      → (value_at (state first calls) b p ≡ value_at (state first (early ++ later)) b p → ⊥)
      → value_at (state first early) c q ≡ value_at (state first calls) b p
      → ⊥
