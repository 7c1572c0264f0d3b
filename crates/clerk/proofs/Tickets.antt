-- Where tickets stand: every value is at most the last ticket, and the ticket of an insert under way is the value of no slot but the one that
-- it holds. For a turn writes no value but its worker's ticket, into the slot that the worker holds; no two inserts have the same
-- ticket; and the ticket of a new insert is greater than all before it. Assumes nothing.
use Prim.Native.Nat.{ℕ, ◌≤◌, ◌<◌}
use mathlib.Core.List.{List}
use mathlib.Core.Path.{◌≡◌, refl, sym, ap, ◌∙◌}
use native.Mathlib.Decide.{ℕ_discrete}
use native.Mathlib.Omega.{arith}
use Rattle.turn.specs.declared.Worker.{Worker}
use Rattle.turn.specs.Worker.{insert_kind, ticket_place}
use Rattle.turn.specs.Bucket.{value_cell}
use Rattle.turn.proofs.Values.{filled}
use Rattle.turn.proofs.Stays.{StaysOn}
use Rattle.engine.specs.Board.{bucket_of}
use Rattle.history.specs.Trace.{Turn, Retiring, Entry}
use Rattle.history.specs.History.{State, record_of}
use Rattle.history.specs.Values.{value_at}
use Rattle.history.specs.Cells.{home}
use Rattle.history.proofs.Steps.{Spends, unticketed, ticketed, Begins, Turns, Retires, step_of, spends_on}
use Rattle.history.proofs.Account.{still_on}
use Rattle.history.proofs.Spent.{Spent}
use Rattle.history.proofs.Cells.{retire_value}
use Rattle.history.proofs.Written.{stores_at, turn_spares, store_writes}
use Rattle.clerk.proofs.Steps.{Sized, each_turn, each_retiring, each_start, own_home, was_known, start_cells}

-- an insert under way
abbrev pub Inserts : Worker → Type 0
Inserts w = w.kind ≡ insert_kind

-- slot p of bucket b is the one that w holds, and w has stored its ticket there
pub record Own (n : ℕ) (w : Worker) (b p : ℕ) : Type 0 where
  pub bucket : b ≡ home n w
  pub slot : p ≡ w.held
  pub stored : w.place ≡ ticket_place → ⊥

-- where tickets stand on a board of n buckets
pub record Tickets (n : ℕ) (s : State) : Type 0 where
  -- every value is at most the last ticket
  pub values : (b p : ℕ) → p ≤ 2 → value_at s b p ≤ s.floor.last
  -- the ticket of an insert under way stands in no slot but the one that it holds, and there once it is stored
  pub stands : (i b p : ℕ) → Inserts (record_of s i) → p ≤ 2 → value_at s b p ≡ (record_of s i).ticket → Own n (record_of s i) b p

-- ---- a turn

-- v is the insert u a turn later: with the same ticket, and what was its own is so still
pub record SameInsert (n : ℕ) (u v : Worker) : Type 0 where
  pub insert : Inserts u
  pub ticket : v.ticket ≡ u.ticket
  pub own : (b p : ℕ) → p ≤ 2 → Own n u b p → Own n v b p

module _ (n : ℕ) {s t : State} {e : Turn} (act : Turns s e t) where
  abbrev v : Worker
  v = (step_of s e).stepped.worker

  -- an insert that a turn leaves goes on with the call that it was at
  goes_on : Inserts v → StaysOn e.was v
  goes_on insert = still_on act (λ is. omega (arith, insert, ap (λ (u : Worker). u.kind) is))

  -- the slot that an insert held before its turn is its own after it
  still_own : Inserts v → (b p : ℕ) → p ≤ 2 → b ≡ home n e.was → p ≡ e.was.held → Own n v b p
  still_own insert b p few bucket slot =
      let on = goes_on insert in
      let past = on.past (omega arith) in
      record { bucket = bucket ∙ ap (λ (k : ℕ). bucket_of k n) (sym on.call.key); slot = slot ∙ sym (on.held past); stored = past }

  -- an insert under way after a turn was under way before it, with the same ticket, and owns what it owned
  pub turn_same : (i : ℕ) → Inserts (record_of t i) → SameInsert n (record_of s i) (record_of t i)
  turn_same =
      each_turn act (λ j u. Inserts u → SameInsert n (record_of s j) u)
      (λ insert.
      let call = (goes_on insert).call in
      rw (← act.acts.was)
      (record { insert = sym call.kind ∙ insert; ticket = call.ticket; own = λ b p few own. still_own insert b p few own.bucket own.slot }))
      (λ j other insert. record { insert = insert; ticket = refl; own = λ b p few own. own })

module _
    (n : ℕ) {low : ℕ} {s t : State} {e : Turn} (past : List Entry) (ts : List ℕ) (sized : Sized n s) (act : Turns s e t)
    (spent : Spent low s past ts) (old : Tickets n s) where
  abbrev w : Worker
  w = e.was

  module _ (b p : ℕ) (few : p ≤ 2) where
    -- a value stays, or is the ticket that the turn stores
    data Value : Type 0 where
      stays : value_at t b p ≡ value_at s b p → Value
      stored : Inserts w → b ≡ home n w → p ≡ w.held → value_at t b p ≡ w.ticket → Value

    value : Value
    value = by (ℕ_discrete w.place ticket_place) (ℕ_discrete b e.report.bucket) (ℕ_discrete p w.held)
      where
        by : Dec (w.place ≡ ticket_place) → Dec (b ≡ e.report.bucket) → Dec (p ≡ w.held) → Value
        by (no quiet) here slot = stays (turn_spares act b p (λ stores is same. quiet stores.0))
        by (yes place) (no elsewhere) slot = stays (turn_spares act b p (λ stores is same. elsewhere is))
        by (yes place) (yes here) (no other) = stays (turn_spares act b p (λ stores is same. other same))
        by (yes place) (yes here) (yes slot) =
            let insert = (filled _ w act.ok (omega arith) (omega arith)).0 in
            stored insert (here ∙ own_home act sized) slot (rw (here, slot) (store_writes act (stores_at act place)))

    value_most : Value → value_at t b p ≤ t.floor.last
    value_most (stays same) = rw (same, act.last) (old.values b p few)
    value_most (stored insert here slot ticket) =
        let most = was_known act (λ u. Inserts u → u.ticket ≤ s.floor.last) (λ insert. spent.most _ (spent.accepted e.worker insert)) in
        rw (ticket, act.last) (most insert)

    value_stands : Value → (i : ℕ) → Inserts (record_of t i) → value_at t b p ≡ (record_of t i).ticket → Own n (record_of t i) b p
    value_stands (stays same) i insert is =
        let was = turn_same n act i insert in was.own b p few (old.stands i b p was.insert few (sym same ∙ is ∙ was.ticket))
    value_stands (stored inserts here slot ticket) i insert is =
        each_turn act (λ j u. Inserts u → value_at t b p ≡ u.ticket → Own n u b p)
        (λ insert is. still_own n act insert b p few here slot)
        (λ j other insert is.
        let differ = was_known act (λ u. Inserts u → (record_of s j).ticket ≡ u.ticket → ⊥) (spent.differ j e.worker other insert) in
        absurd (differ inserts (sym is ∙ ticket))) i insert is

  -- a turn keeps every ticket where it may stand
  pub turn_tickets : Tickets n t
  turn_tickets =
      record {
        values = λ b p few. value_most b p few (value b p few);
        stands = λ i b p insert few. value_stands b p few (value b p few) i insert;
      }

-- ---- a retiring

-- what holds of every insert with this ticket holds of it after a retiring, which leaves no new one
pub retiring_same :
    {s t : State} {r : Retiring}
    → Retires s r t
    → (P : Worker → Type 0) (x : ℕ)
    → ((i : ℕ) → Inserts (record_of s i) → x ≡ (record_of s i).ticket → P (record_of s i))
    → (i : ℕ)
    → Inserts (record_of t i)
    → x ≡ (record_of t i).ticket
    → P (record_of t i)
retiring_same act P x old = each_retiring act (λ j u. Inserts u → x ≡ u.ticket → P u) (λ insert. absurd (omega arith)) (λ j other. old j)

-- a retiring keeps every ticket where it may stand
pub retiring_tickets : (n : ℕ) {s t : State} {r : Retiring} → Retires s r t → Tickets n s → Tickets n t
retiring_tickets n {s} act old =
    record {
      values = λ b p few. rw (retire_value act b p, act.last) (old.values b p few);
      stands = λ i b p insert few is.
          retiring_same act (λ u. Own n u b p) (value_at s b p) (λ j inserts. old.stands j b p inserts few) i insert (sym (retire_value act b p) ∙ is);
    }

-- ---- a start

module _ {s t : State} {v : Worker} {spent : List ℕ} (start : Begins s v spent t) where
  -- the ticket of a new insert is above the last one
  above : Inserts v → s.floor.last < v.ticket
  above insert = by start.spends
    where
      by : Spends s.floor.last v spent t.floor.last → s.floor.last < v.ticket
      by (unticketed other none same) = absurd (other insert)
      by (ticketed over one same) = over

  -- what holds of every insert with ticket x, at most the last one, holds of it after a start: the ticket of a new insert is greater
  pub start_same :
      (P : Worker → Type 0) (x : ℕ)
      → x ≤ s.floor.last
      → ((i : ℕ) → Inserts (record_of s i) → x ≡ (record_of s i).ticket → P (record_of s i))
      → (i : ℕ)
      → Inserts (record_of t i)
      → x ≡ (record_of t i).ticket
      → P (record_of t i)
  start_same P x most old =
      each_start start (λ j u. Inserts u → x ≡ u.ticket → P u) (λ insert is. absurd (omega (arith, above insert, most, is))) (λ j other. old j)

-- a start keeps every ticket where it may stand
pub start_tickets :
    (n : ℕ) {s t : State} {v : Worker} {spent : List ℕ}
    → Begins s v spent t
    → Tickets n s
    → Tickets n t
start_tickets n {s} start old =
    record {
      values = λ b p few. rw (start_cells start b (value_cell p)) (omega (arith, old.values b p few, spends_on start.spends));
      stands = λ i b p insert few is.
          start_same start (λ u. Own n u b p) (value_at s b p) (old.values b p few) (λ j inserts. old.stands j b p inserts few) i insert
          (sym (start_cells start b (value_cell p)) ∙ is);
    }
