-- What is known of tickets on an opened board: those that were accepted rise from above the last one at first up to the last one, each insert
-- under way has one of them for itself, and no turn has stored it while the insert waits to. Assumes nothing.
use Prim.Native.Nat.{ℕ, ◌≤◌, ◌<◌}
use mathlib.Core.List.{List, [], ◌∷◌, ◌++◌, append-nil}
use mathlib.Core.Logic.{◌⊎◌, inl, inr}
use mathlib.Core.Path.{◌≡◌, refl, sym, subst, ◌∙◌}
use native.Mathlib.Omega.{arith}
use lib.ListN.{length, set}
use Rattle.turn.specs.declared.Worker.{Worker}
use Rattle.turn.specs.Worker.{insert_kind, idle}
use Rattle.turn.proofs.Values.{filled}
use Rattle.turn.proofs.Waits.{Waits, turn_insert, turn_waits}
use Rattle.history.specs.Trace.{Turn, Retiring, Entry, acted, retired, was_of, IsTurn, None}
use Rattle.history.specs.History.{State, record_of}
use Rattle.history.specs.Numbers.{OneOf, Rising}
use Rattle.history.specs.Values.{Stores, StoresTicket}
use Rattle.history.proofs.View.{each_worker}
use Rattle.history.proofs.States.{view}
use Rattle.history.proofs.Steps.{Spends, unticketed, ticketed, Begins, Turns, Retires, step_of, Lasts}
use Rattle.history.proofs.Cuts.{some_turn}
use Rattle.history.proofs.Later.{CutLast, last, sooner, cut_last, none_last, in_front, in_last, in_or_last, rising_last}

-- an insert under way
abbrev Inserts : Worker → Type 0
Inserts w = w.kind ≡ insert_kind

-- two inserts have different tickets
abbrev Differ : Worker → Worker → Type 0
Differ w u = Inserts w → Inserts u → w.ticket ≡ u.ticket → ⊥

-- the last ticket at first, a state, the entries before it, and the tickets accepted before it
pub record Spent (low : ℕ) (s : State) (past : List Entry) (ts : List ℕ) : Type 0 where
  pub least : low ≤ s.floor.last
  pub rising : Rising low ts
  pub most : (t : ℕ) → OneOf ts t → t ≤ s.floor.last
  pub accepted : (i : ℕ) → Inserts (record_of s i) → OneOf ts (record_of s i).ticket
  pub differ : (i j : ℕ) → (i ≡ j → ⊥) → Differ (record_of s i) (record_of s j)
  -- the ticket of an insert that waits was stored by no turn
  pub waits : (i : ℕ) → Waits (record_of s i) → None (IsTurn (StoresTicket (record_of s i).ticket)) past
  -- what a turn stored is an accepted ticket, and was stored by no turn before it
  pub stored : (before : List Entry) (e : Turn) (later : List Entry) → past ≡ before ++ (acted e ∷ later) → Stores e → OneOf ts e.was.ticket
  pub once :
      (before : List Entry) (e : Turn) (later : List Entry)
      → past ≡ before ++ (acted e ∷ later)
      → Stores e
      → None (IsTurn (StoresTicket e.was.ticket)) before

-- what holds of a new record beside each old one, and of each two old ones, holds of each two
module _ (s t : State) (i : ℕ) (v : Worker) (records : (view t).records ≡ set (view s).records i v) (within : i < length (view s).records) where
  each : (P : ℕ → Worker → Type 0) → P i v → ((j : ℕ) → (j ≡ i → ⊥) → P j (record_of s j)) → (j : ℕ) → P j (record_of t j)
  each P = each_worker (view s) (view t) i v records P within

  each_differ :
      ((j : ℕ) → (j ≡ i → ⊥) → Differ v (record_of s j))
      → ((k j : ℕ) → (k ≡ j → ⊥) → Differ (record_of s k) (record_of s j))
      → (k j : ℕ)
      → (k ≡ j → ⊥)
      → Differ (record_of t k) (record_of t j)
  each_differ mine old =
      each (λ (k : ℕ) (w : Worker). (j : ℕ) → (k ≡ j → ⊥) → Differ w (record_of t j))
      (each (λ (j : ℕ) (w : Worker). (i ≡ j → ⊥) → Differ v w) (λ same. absurd (same refl)) (λ j other differ. mine j other))
      (λ k other. each (λ (j : ℕ) (w : Worker). (k ≡ j → ⊥) → Differ (record_of s k) w)
      (λ differ first second same. mine k other second first (sym same)) (λ j another differ. old k j differ))

-- ---- a start

-- the tickets and the last one after a start of v, from those before it
record Grows (low old : ℕ) (v : Worker) (ts us : List ℕ) (new : ℕ) : Type 0 where
  least : low ≤ new
  rising : Rising low us
  most : (t : ℕ) → OneOf us t → t ≤ new
  more : (t : ℕ) → OneOf ts t → OneOf us t
  own : Inserts v → OneOf us v.ticket
  over : Inserts v → old < v.ticket

grows :
    (low old new : ℕ) (v : Worker) (ts spent : List ℕ)
    → low ≤ old
    → Rising low ts
    → ((t : ℕ) → OneOf ts t → t ≤ old)
    → Spends old v spent new
    → Grows low old v ts (ts ++ spent) new
grows low old new v ts spent least rising most (unticketed other none same) =
    rw (none, append-nil ts, same)
    (record { least = least; rising = rising; most = most; more = λ t there. there; own = λ is. absurd (other is); over = λ is. absurd (other is) })
grows low old new v ts spent least rising most (ticketed over one same) =
    rw (one, same)
    (record {
      least = omega arith;
      rising = rising_last low ts v.ticket (omega arith) (λ t there. let under = most t there in omega arith) rising;
      most = λ t there. by t (in_or_last t ts v.ticket there);
      more = λ t there. in_front t ts (v.ticket ∷ []) there;
      own = λ is. in_last v.ticket ts;
      over = λ is. over;
    })
  where
    by : (t : ℕ) → OneOf ts t ⊎ (t ≡ v.ticket) → t ≤ v.ticket
    by t (inl there) = let under = most t there in omega arith
    by t (inr is) = omega arith

module _ {low : ℕ} {s t : State} {v : Worker} {spent : List ℕ} (past : List Entry) (ts : List ℕ) (start : Begins s v spent t) (old : Spent low s past ts) where
  abbrev us : List ℕ
  us = ts ++ spent

  grown : Grows low s.floor.last v ts us t.floor.last
  grown = grows low s.floor.last t.floor.last v ts spent old.least old.rising old.most start.spends

  -- its ticket is none of those before
  fresh : Inserts v → OneOf ts v.ticket → ⊥
  fresh insert there = let most = old.most v.ticket there in omega (arith, grown.over insert)

  start_spent : Spent low t past us
  start_spent =
      let i = start.starts.who in
      let every = each s t i v start.starts.records start.starts.within in
      record {
        least = grown.least;
        rising = grown.rising;
        most = grown.most;
        accepted =
            every (λ (j : ℕ) (w : Worker). Inserts w → OneOf us w.ticket) grown.own (λ j other insert. grown.more _ (old.accepted j insert));
        differ =
            each_differ s t i v start.starts.records start.starts.within
            (λ j other first second same. fresh first (subst (λ (n : ℕ). OneOf ts n) (sym same) (old.accepted j second))) old.differ;
        waits =
            every (λ (j : ℕ) (w : Worker). Waits w → None (IsTurn (StoresTicket w.ticket)) past)
            (λ waits some.
            let found = some_turn _ past some in
            fresh waits.kind
            (subst (λ (n : ℕ). OneOf ts n) found.holds.1 (old.stored found.older found.turn found.newer found.cut found.holds.0)))
            (λ j other waits. old.waits j waits);
        stored = λ before e later cut stores. grown.more _ (old.stored before e later cut stores);
        once = old.once;
      }

-- ---- a turn

module _ {low : ℕ} {s t : State} {e : Turn} (past : List Entry) (ts : List ℕ) (act : Turns s e t) (old : Spent low s past ts) where
  abbrev i : ℕ
  i = e.worker

  abbrev w : Worker
  w = e.was

  abbrev v : Worker
  v = (step_of s e).stepped.worker

  abbrev now : List Entry
  now = past ++ (acted e ∷ [])

  -- what was known of the worker's record
  accepted_was : Inserts w → OneOf ts w.ticket
  accepted_was = rw act.acts.was (old.accepted i)

  waits_was : Waits w → None (IsTurn (StoresTicket w.ticket)) past
  waits_was = rw act.acts.was (old.waits i)

  differ_was : (j : ℕ) → (j ≡ i → ⊥) → Differ w (record_of s j)
  differ_was j other = rw act.acts.was (old.differ i j (λ is. other (sym is)))

  insert_was : Inserts v → Inserts w
  insert_was insert = (turn_insert _ w act.ok insert).0

  same_ticket : Inserts v → v.ticket ≡ w.ticket
  same_ticket insert = (turn_insert _ w act.ok insert).1

  -- a worker that stores is an insert with a slot, and waited
  stores_filled : Stores e → Inserts w × (w.held ≤ 2)
  stores_filled stores = let place = stores.0 in filled _ w act.ok (omega arith) (omega arith)

  stores_waits : Stores e → Waits w
  stores_waits stores = record { kind = (stores_filled stores).0; early = λ some. stores.0 }

  -- where the insert still waits, the turn did not store, and it waited before
  mine_waits : Waits v → None (IsTurn (StoresTicket v.ticket)) now
  mine_waits waits =
      let none = waits_was (record { kind = insert_was waits.kind; early = λ some. absurd (turn_waits _ w act.ok waits some) }) in
      rw (same_ticket waits.kind)
      (none_last _ past (acted e) none (λ stores. turn_waits _ w act.ok waits (stores_filled stores.0).1))

  -- another's ticket is not the one that the turn stores
  others_wait : (j : ℕ) → (j ≡ i → ⊥) → Waits (record_of s j) → None (IsTurn (StoresTicket (record_of s j).ticket)) now
  others_wait j other waits =
      none_last _ past (acted e) (old.waits j waits) (λ stores. differ_was j other (stores_filled stores.0).0 waits.kind stores.1)

  stored_then : (before : List Entry) (d : Turn) → CutLast past (acted e) before (acted d) → Stores d → OneOf ts d.was.ticket
  stored_then before d (last is at) stores =
      subst (λ (x : Entry). OneOf ts (was_of x).ticket) (sym at) (accepted_was (stores_filled (subst (IsTurn Stores) at stores)).0)
  stored_then before d (sooner rest cut) stores = old.stored before d rest cut stores

  once_then : (before : List Entry) (d : Turn) → CutLast past (acted e) before (acted d) → Stores d → None (IsTurn (StoresTicket d.was.ticket)) before
  once_then before d (last is at) stores =
      rw is
      (subst (λ (x : Entry). None (IsTurn (StoresTicket (was_of x).ticket)) past) (sym at) (waits_was (stores_waits (subst (IsTurn Stores) at stores))))
  once_then before d (sooner rest cut) stores = old.once before d rest cut stores

  turn_spent : Spent low t now ts
  turn_spent =
      let every = each s t i v act.acts.records act.acts.within in
      record {
        least = rw act.last old.least;
        rising = old.rising;
        most = rw act.last old.most;
        accepted =
            every (λ (j : ℕ) (x : Worker). Inserts x → OneOf ts x.ticket)
            (λ insert. rw (same_ticket insert) (accepted_was (insert_was insert))) (λ j other. old.accepted j);
        differ =
            each_differ s t i v act.acts.records act.acts.within
            (λ j other first second same. differ_was j other (insert_was first) second (sym (same_ticket first) ∙ same)) old.differ;
        waits = every (λ (j : ℕ) (x : Worker). Waits x → None (IsTurn (StoresTicket x.ticket)) now) mine_waits others_wait;
        stored = λ before d later cut. stored_then before d (cut_last (acted e) (acted d) later past before cut);
        once = λ before d later cut. once_then before d (cut_last (acted e) (acted d) later past before cut);
      }

-- ---- a retiring

retire_spent : {low : ℕ} {s t : State} {r : Retiring} (past : List Entry) (ts : List ℕ) → Retires s r t → Spent low s past ts → Spent low t (past ++ (retired r ∷ [])) ts
retire_spent {low} {s} {t} {r} past ts act old =
    let i = r.worker in
    let every = each s t i idle act.acts.records act.acts.within in
    record {
      least = rw act.last old.least;
      rising = old.rising;
      most = rw act.last old.most;
      accepted = every (λ (j : ℕ) (x : Worker). Inserts x → OneOf ts x.ticket) (λ insert. absurd (omega arith)) (λ j other. old.accepted j);
      differ =
          each_differ s t i idle act.acts.records act.acts.within
          (λ j other first second same. omega arith) old.differ;
      waits =
          every (λ (j : ℕ) (x : Worker). Waits x → None (IsTurn (StoresTicket x.ticket)) (past ++ (retired r ∷ [])))
          (λ waits. absurd (omega (arith, waits.kind))) (λ j other waits. none_last _ past (retired r) (old.waits j waits) (λ is. is));
      stored = λ before d later cut. stored_then before d (cut_last (retired r) (acted d) later past before cut);
      once = λ before d later cut. once_then before d (cut_last (retired r) (acted d) later past before cut);
    }
  where
    stored_then : (before : List Entry) (d : Turn) → CutLast past (retired r) before (acted d) → Stores d → OneOf ts d.was.ticket
    stored_then before d (last is at) stores = absurd (subst (IsTurn (λ t. Unit {0})) at tt)
    stored_then before d (sooner rest cut) stores = old.stored before d rest cut stores

    once_then : (before : List Entry) (d : Turn) → CutLast past (retired r) before (acted d) → Stores d → None (IsTurn (StoresTicket d.was.ticket)) before
    once_then before d (last is at) stores = absurd (subst (IsTurn (λ t. Unit {0})) at tt)
    once_then before d (sooner rest cut) stores = old.once before d rest cut stores

-- every accepted start, every turn done and every retiring done keep what is known of tickets
pub spent_lasts : {low : ℕ} → Lasts (Spent low)
spent_lasts = record { begins = start_spent; turns = turn_spent; retires = retire_spent }
