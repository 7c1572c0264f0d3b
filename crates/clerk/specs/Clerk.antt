-- The whole board is one clerk: what is promised of every opening and every list of calls and moves since, accepted or refused. There is one
-- list through all moves. A run is its turns called one by one (`runs_are_turns`), so that what is said of the state after calls is said
-- after every call and after every turn. That it holds while inserts are few is `the_clerk`, in proofs/TheClerk; what is so however many
-- there were is `the_accounts`, in proofs/TheAccounts.
use Rattle.std.specs.Prelude.{ℕ, ◌+◌, ◌≤◌, ◌<◌, false, List, [], ◌∷◌, ◌++◌, ◌⊎◌, ◌↔◌, ◌≡◌, length}
use Rattle.mark.specs.Word.{mark_of}
use Rattle.turn.specs.Worker.{idle}
use Rattle.turn.specs.Bucket.{cell, mark_cell, key_cell, value_cell}
use Rattle.engine.specs.Board.{bucket_at}
use Rattle.engine.specs.Calls.{show_call, count_call}
use Rattle.engine.specs.Calls.{Lots}
use Rattle.engine.specs.Refusals.{wrong_floor}
use Rattle.engine.specs.Move.{Line, moved_floor}
use Rattle.hall.specs.Totalled.{Slots}
use Rattle.hall.specs.Calls.{total_call}
use Rattle.history.specs.Trace.{Retiring, Entry, retired, By, OwnEnd, None}
use Rattle.history.specs.History.{State, Call, Ticket, retire, record_of, begins, workers_of}
use Rattle.history.specs.History as History
use Rattle.history.specs.Moves.{Lent, Step, calls, moves, move_number_of, state_through, trace_through}
use Rattle.history.specs.Moved.{AllIdle, Crowds}
use Rattle.history.specs.Cells.{mark_at, home, Holds}
use Rattle.clerk.specs.Does.{Asked, look, insert, remove, TellsChange}
use Rattle.clerk.specs.Calls.{EndedCall, IsCallOf, HasMoments, Settles, asks, list_after}
use Rattle.walks.specs.Lists.{In, Ordered}
use Rattle.clerk.specs.Sequence.{Placed, OneByOne}

-- ---- the valid slots

-- slot p of a bucket of these words is valid, and has the lot and the ticket of a line
pub record HasLine (words : List ℕ) (p : ℕ) (l : Line) : Type 0 where
  pub few : p ≤ 2
  pub valid : mark_of (cell words mark_cell) p ≡ 1
  pub lot : cell words (key_cell p) ≡ l.lot
  pub ticket : cell words (value_cell p) ≡ l.ticket

-- slot p of bucket b of the board has the line
pub record Stands (s : State) (b p : ℕ) (l : Line) : Type 0 where
  pub under : b < s.floor.buckets
  pub slot : HasLine (bucket_at s.board b) p l

-- worker i is an insert that holds slot p of bucket b
pub record IsHeldBy (s : State) (b p i : ℕ) : Type 0 where
  pub holds : Holds (record_of s i)
  pub bucket : home s.floor.buckets (record_of s i) ≡ b
  pub slot : (record_of s i).held ≡ p

-- ---- the start of a call

-- the start by which worker i asks this
pub data IsStart (i : ℕ) : Asked → Call → Type 0 where
  looks : (lot : ℕ) → IsStart i (look lot) (History.look i lot)
  inserts : (lot : ℕ) (t : Ticket) → IsStart i (insert lot t.number) (History.insert i lot t)
  removes : (lot : ℕ) → IsStart i (remove lot) (History.remove i lot)

-- §17.3: a start among the calls and moves that was accepted
pub record Start (first : State) (steps : List Step) : Type 0 where
  pub earlier : List Step
  pub call : Call
  pub later : List Step
  pub cut : steps ≡ earlier ++ (calls call ∷ later)
  -- whose it is, and what it asks
  pub worker : ℕ
  pub asked : Asked
  pub is : IsStart worker asked call
  pub accepted : begins (state_through first earlier) call ≡ 0 → ⊥

-- §17.3: c is a call that ended, and was begun by that start
pub record BegunBy (first : State) (steps : List Step) (start : Start first steps) (c : EndedCall) : Type 0 where
  pub is : IsCallOf (trace_through first steps) c
  -- it is the same worker's, and asks the same
  pub worker : c.worker ≡ start.worker
  pub asked : c.asked ≡ start.asked
  -- the turns before the start, those of other workers until the call's first turn, and the rest
  pub waiting : List Entry
  pub rest : List Entry
  pub turns : trace_through first steps ≡ trace_through first start.earlier ++ (waiting ++ rest)
  pub others : None (By start.worker) waiting
  pub first_turn : c.first ≡ length (trace_through first start.earlier ++ waiting) + 1

-- §17.3: the worker is still at the call of that start
pub record StillAt (first : State) (steps : List Step) (start : Start first steps) : Type 0 where
  pub busy : record_of (state_through first steps) start.worker ≡ idle → ⊥
  pub asks_it : asks (record_of (state_through first steps) start.worker) ≡ start.asked
  -- no turn since the start has ended a call of that worker
  pub since : List Entry
  pub turns : trace_through first steps ≡ trace_through first start.earlier ++ since
  pub unended : None (OwnEnd start.worker) since

-- ---- a call that is never done

-- §19.6: the worker was retired from the call of that start
pub record RetiredFrom (first : State) (steps : List Step) (start : Start first steps) : Type 0 where
  -- what was done before the start, what was done since until the retiring, and the rest
  pub since : List Entry
  pub retiring : Retiring
  pub rest : List Entry
  pub turns : trace_through first steps ≡ trace_through first start.earlier ++ (since ++ (retired retiring ∷ rest))
  -- it is the same worker's, and the record asks what the start asked
  pub worker : retiring.worker ≡ start.worker
  pub asks_it : asks retiring.was ≡ start.asked
  -- no turn since the start has ended the call
  pub unended : None (OwnEnd start.worker) since

-- a trace, cut at a retiring
pub record AtRetiring (trace : List Entry) : Type 0 where
  pub before : List Entry
  pub retiring : Retiring
  pub after : List Entry
  pub cut : trace ≡ before ++ (retired retiring ∷ after)

-- §19.6: that retiring was from the call of one of the starts
pub record RetiredAt (first : State) (steps : List Step) (at : AtRetiring (trace_through first steps)) : Type 0 where
  pub start : Start first steps
  pub from : RetiredFrom first steps start
  pub same : from.retiring ≡ at.retiring
  pub rest : from.rest ≡ at.after

-- ---- all that is claimed

-- what is so however many inserts there were: of slots that are held, of starts and the calls that they began, of answers, and of the list
pub record Accounts (first : State) (steps : List Step) : Type 0 where
  -- §17.8: a slot is being inserted exactly if a worker holds it
  pub held :
      (b p : ℕ)
      → (mark_at (state_through first steps) b p ≡ 2) ↔ ((i : ℕ) × (i < workers_of first) × IsHeldBy (state_through first steps) b p i)
  -- §17.8: and no slot is held by two
  pub held_once : (b p i j : ℕ) → IsHeldBy (state_through first steps) b p i → IsHeldBy (state_through first steps) b p j → i ≡ j
  -- §17.8, §6.7: where every worker is idle no slot is being inserted, so that no move is refused by 7
  pub rested : AllIdle (state_through first steps) → (b p : ℕ) → mark_at (state_through first steps) b p ≡ 2 → ⊥
  -- §22.8: and a move to a board of the right size is refused by 13 alone, exactly where a new bucket would need a fourth slot
  pub idle_moves :
      AllIdle (state_through first steps)
      → (m : Lent)
      → wrong_floor (moved_floor (state_through first steps).floor m.buckets) m.words ≡ false
      → ((move_number_of (state_through first steps) m ≡ 13) ↔ Crowds (state_through first steps) m)
      × ((Crowds (state_through first steps) m → ⊥) → move_number_of (state_through first steps) m ≡ 0)
  -- §17.3: each call that ended was begun by a start that was accepted
  pub started : (c : EndedCall) → IsCallOf (trace_through first steps) c → (start : Start first steps) × BegunBy first steps start c
  -- §17.3, §19.6: each start that was accepted began a call that has ended, or its worker is at it still, or was retired from it
  pub accounted :
      (start : Start first steps)
      → ((c : EndedCall) × BegunBy first steps start c) ⊎ (StillAt first steps start ⊎ RetiredFrom first steps start)
  -- §17.3: no call was begun by two starts
  pub one_start :
      (c : EndedCall) (one two : Start first steps) → BegunBy first steps one c → BegunBy first steps two c → one.earlier ≡ two.earlier
  -- §17.3: no start began two calls
  pub one_call : (start : Start first steps) (c d : EndedCall) → BegunBy first steps start c → BegunBy first steps start d → c ≡ d
  -- §17.3: nor one that has ended while its worker is at it still
  pub not_ended : (start : Start first steps) (c : EndedCall) → BegunBy first steps start c → StillAt first steps start → ⊥
  -- §19.6: a call that its worker was retired from has not ended, and has no answer
  pub never_done : (start : Start first steps) (c : EndedCall) → BegunBy first steps start c → RetiredFrom first steps start → ⊥
  -- §19.6: and the worker is not at it still
  pub not_still : (start : Start first steps) → StillAt first steps start → RetiredFrom first steps start → ⊥
  -- §19.6: each retiring was from the call of a start that was accepted
  pub retired_from : (at : AtRetiring (trace_through first steps)) → RetiredAt first steps at
  -- §19.6: from no start's call was there a second one, told by what was done after it
  pub one_retiring : (start : Start first steps) (one two : RetiredFrom first steps start) → one.rest ≡ two.rest
  -- §19.6: and none was from the calls of two starts
  pub one_retired :
      (start other : Start first steps) (one : RetiredFrom first steps start) (two : RetiredFrom first steps other)
      → one.rest ≡ two.rest
      → start.earlier ≡ other.earlier
  -- §17.5: whether a call ended by a commit or a close is told by its answer
  pub told : (c : EndedCall) (is : IsCallOf (trace_through first steps) c) → Settles is.at.turn ↔ TellsChange c.asked c.answer
  -- §17.4: no lot is in the list twice
  pub listed_once : Ordered (λ x y. x.lot ≡ y.lot → ⊥) (list_after (trace_through first steps))
  -- §17.4: a lot in the list has a ticket of at least 1, so that the answer 0 says that it is not there
  pub ticketed : (l : Line) → In l (list_after (trace_through first steps)) → 1 ≤ l.ticket
  -- §19.6: a retiring, done or refused, leaves the list
  pub retiring_leaves : (i : ℕ) → list_after (trace_through first (steps ++ (calls (retire i) ∷ []))) ≡ list_after (trace_through first steps)
  -- §22.7: a move, done or refused, leaves the list
  pub move_leaves : (m : Lent) → list_after (trace_through first (steps ++ (moves m ∷ []))) ≡ list_after (trace_through first steps)

-- while inserts are few (§3.8) the board is one clerk
pub record Clerk (first : State) (steps : List Step) : Type 0 where
  -- §17.4: no lot twice: two valid slots with one lot are one slot
  pub no_lot_twice :
      (b p c q : ℕ) (l k : Line)
      → Stands (state_through first steps) b p l
      → Stands (state_through first steps) c q k
      → l.lot ≡ k.lot
      → (b ≡ c) × (p ≡ q)
  -- §17.4: the list: a lot with a ticket is in it exactly if it stands in a valid slot
  pub the_list : (l : Line) → In l (list_after (trace_through first steps)) ↔ ((b : ℕ) × (p : ℕ) × Stands (state_through first steps) b p l)
  -- §17.4: a count tells how long the list is
  pub counted :
      count_call (state_through first steps).board (state_through first steps).floor ≡ Lots (length (list_after (trace_through first steps)))
  -- §17.4, §21.3: and so does the display's total
  pub totalled :
      total_call (state_through first steps).board (state_through first steps).index (state_through first steps).floor
      ≡ Slots (length (list_after (trace_through first steps)))
  -- §17.4: the bucket that is shown for a lot tells whether the lot is in the list, and with which ticket
  pub shown :
      (l : Line)
      → In l (list_after (trace_through first steps))
      ↔ ((p : ℕ) × HasLine (show_call (state_through first steps).board (state_through first steps).floor l.lot) p l)
  -- §17.5, §17.6: won commits and closes are moments, and every other call that ended has one
  pub moments : HasMoments (trace_through first steps)
  -- §17.7: the calls that ended can be put one by one, so that the clerk gives each of them its answer
  pub one_by_one : (sequence : List Placed) × OneByOne (trace_through first steps) sequence
