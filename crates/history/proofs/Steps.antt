-- Histories step by step, over whole states: what holds of an opened board with nothing behind it, and what every accepted start, every turn
-- that is done and every retiring that is done keep, holds after every list of calls. Assumes nothing.
use Prim.Native.Nat.{ℕ, ◌≤◌, ◌<◌}
use mathlib.Core.Bool.{Bool, true, false, cond}
use mathlib.Core.List.{List, [], ◌∷◌, ◌++◌, map, append_assoc, append-nil}
use mathlib.Core.Path.{◌≡◌, refl, sym, subst}
use native.Mathlib.Omega.{arith}
use lib.Dec.{eqb}
use lib.ListN.{length, set, take}
use lib.Seq.{set-get_or}
use borrow.Author.Tests.{eqb-true, leb-false}
use Rattle.mark.proofs.Choices.{by_cases}
use Rattle.turn.specs.declared.Worker.{Worker}
use Rattle.turn.specs.Worker.{insert_kind, no_slot, idle, look_for, insert_of, remove_of}
use Rattle.turn.specs.Places.{Step}
use Rattle.turn.specs.Places as Places
use Rattle.turn.specs.Turn.{Turned, After, report_of, refusing}
use Rattle.turn.specs.Turn as Turn
use Rattle.turn.specs.Retire.{Retired}
use Rattle.turn.specs.Bucket.{cell, mark_cell}
use Rattle.turn.specs.Retire.{not_retired}
use Rattle.turn.proofs.Sound.{Accepted}
use Rattle.turn.proofs.Retiring.{Retirable}
use Rattle.engine.specs.declared.Floor.{Floor}
use Rattle.engine.specs.Calls.{Started}
use Rattle.engine.specs.Board.{bucket_at, with_bucket}
use Rattle.engine.specs.Refusals.{spent, start_number}
use Rattle.engine.specs.Calls.{blank, spending, start_call, after_turn}
use Rattle.engine.proofs.Retiring.{vacated_nothing, vacated_cells}
use Rattle.history.specs.Trace.{Turn, Retiring, Entry, acted, retired}
use Rattle.history.specs.History.{State, Call, look, insert, remove, turn, retire, run, show, count, orders, ask_total, ask_next, listed_of, record_of, seat_of, run_of}
use Rattle.history.specs.History.{started_as, turned_as, retired_as, retire_entry, after, entry_of, turn_entry, entries, state_from, trace_from}
use Rattle.history.specs.Values.{spent_by, tickets_from}
use Rattle.history.proofs.View.{Starts, Acts}
use Rattle.history.proofs.States.{view}
use Rattle.history.proofs.Starting.{StartOf, of_look, of_insert, of_remove, not_refused, accepted_starts}
use Rattle.history.proofs.Acting.{number, done, entry, turned_is, done_accepted, done_acts}
use Rattle.history.proofs.Retiring as Going
use Rattle.history.proofs.Runs.{run_state, run_trace}

-- ---- a start

-- what the start of v spends where the last ticket was this: nothing, or its own ticket, which becomes the last one
pub data Spends (last : ℕ) (v : Worker) (spent : List ℕ) (new : ℕ) : Type 0 where
  unticketed : (v.kind ≡ insert_kind → ⊥) → spent ≡ [] → new ≡ last → Spends last v spent new
  ticketed : last < v.ticket → spent ≡ v.ticket ∷ [] → new ≡ v.ticket → Spends last v spent new

-- the last ticket never falls
pub spends_on : {last : ℕ} {v : Worker} {spent : List ℕ} {new : ℕ} → Spends last v spent new → last ≤ new
spends_on (unticketed other is new) = omega (arith, new)
spends_on (ticketed above is new) = omega (arith, above, new)

-- an accepted start: a worker's record becomes v, and these tickets are spent
pub record Begins (s : State) (v : Worker) (spent : List ℕ) (t : State) : Type 0 where
  pub starts : Starts (view s) v (view t)
  pub kind : StartOf v
  pub board : t.board ≡ s.board
  pub buckets : t.floor.buckets ≡ s.floor.buckets
  pub spends : Spends s.floor.last v spent t.floor.last
  -- it stands in the list, in the place of an idle one
  pub at : ℕ
  pub rested : listed_of s at ≡ idle
  pub listed : t.records ≡ set s.records at v

-- ---- a turn

-- what a turn that is done did to the bucket and the record
abbrev pub step_of : State → Turn → Step
step_of s e = Places.turn (bucket_at s.board e.report.bucket) e.was

-- a turn that is done
pub record Turns (s : State) (e : Turn) (t : State) : Type 0 where
  pub ok : Accepted (bucket_at s.board e.report.bucket) e.was
  pub acts : Acts s.floor.buckets (view s) (acted e) (step_of s e).stepped.worker (view t)
  pub report : e.report ≡ report_of e.report.bucket (bucket_at s.board e.report.bucket) (step_of s e)
  pub board : t.board ≡ with_bucket s.board e.report.bucket (step_of s e).bucket
  pub buckets : t.floor.buckets ≡ s.floor.buckets
  pub last : t.floor.last ≡ s.floor.last
  -- whoever else is busy has slept through it
  pub listed : t.records ≡ after_turn s.records e.worker (step_of s e).stepped.worker

module _ (s : State) (i : ℕ) where
  -- a turn that is not refused is done
  pub done_turns : number s i ≡ 0 → Turns s (entry s i) (turned_as s i (done s i))
  done_turns none = record { ok = done_accepted s i none; acts = done_acts s i none; report = refl; board = refl; buckets = refl; last = refl; listed = refl }

  -- what holds of a turn that is done, and of nothing done, holds of every turn
  pub by_turn :
      (Q : State → List Entry → Type 0)
      → ((e : Turn) (t : State) → Turns s e t → Q t (acted e ∷ []))
      → Q s []
      → Q (after s (turn i)) (turn_entry s i)
  by_turn Q acts same =
      let Holds : After Turned → Type 0 = λ x. Q (turned_as s i x) (entry_of s i x.handed.answer) in
      subst Holds (sym (turned_is s i))
      (by_cases Holds (eqb (number s i) 0) (done s i) (Turn.after s.board (refusing (number s i) (listed_of s i)))
      (λ is. acts (entry s i) (turned_as s i (done s i)) (done_turns (eqb-true _ 0 is))) (λ isnot. same))

-- ---- a retiring

-- a retiring that is done
pub record Retires (s : State) (r : Retiring) (t : State) : Type 0 where
  pub ok : Retirable (bucket_at s.board r.bucket) r.was
  pub acts : Acts s.floor.buckets (view s) (retired r) idle (view t)
  -- no cell but a mark word is touched, and where no slot was held none at all
  pub cells : (b k : ℕ) → (k ≡ mark_cell → ⊥) → cell (bucket_at t.board b) k ≡ cell (bucket_at s.board b) k
  pub board : r.was.held ≡ no_slot → t.board ≡ s.board
  pub buckets : t.floor.buckets ≡ s.floor.buckets
  pub last : t.floor.last ≡ s.floor.last
  pub listed : t.records ≡ set s.records r.worker idle

module _ (s : State) (i : ℕ) where
  -- a retiring that is not refused is done
  pub done_retires : Going.number s i ≡ 0 → Retires s (Going.entry s i) (retired_as s i (Going.done s i))
  done_retires none =
      let known = Going.retire_known s i none in
      record {
        ok = known.1;
        acts = Going.retire_acts s i none;
        cells = vacated_cells s.floor s.board (record_of s i) known.0;
        board = vacated_nothing s.floor s.board (record_of s i);
        buckets = refl;
        last = refl;
        listed = refl;
      }

  -- what holds of a retiring that is done, and of nothing done, holds of every retiring
  pub by_retiring :
      (Q : State → List Entry → Type 0)
      → ((r : Retiring) (t : State) → Retires s r t → Q t (retired r ∷ []))
      → Q s []
      → Q (after s (retire i)) (entries s (retire i))
  by_retiring Q acts same =
      let Holds : After Retired → Type 0 = λ x. Q (retired_as s i x) (retire_entry s i x) in
      subst Holds (sym (Going.retired_is s i))
      (by_cases Holds (eqb (Going.number s i) 0) (Going.done s i) (Turn.after s.board (not_retired (Going.number s i) (listed_of s i)))
      (λ is. acts (Going.entry s i) (retired_as s i (Going.done s i)) (done_retires (eqb-true _ 0 is)))
      (λ isnot. rw (isnot, set-get_or s.records i blank) same))

-- ---- what every step keeps

-- a property of a state, of the entries so far and of the tickets spent so far
module _ (P : State → List Entry → List ℕ → Type 0) where
  pub record Lasts : Type 0 where
    pub begins :
        {s t : State} {v : Worker} {spent : List ℕ} (past : List Entry) (ts : List ℕ)
        → Begins s v spent t
        → P s past ts
        → P t past (ts ++ spent)
    pub turns : {s t : State} {e : Turn} (past : List Entry) (ts : List ℕ) → Turns s e t → P s past ts → P t (past ++ (acted e ∷ [])) ts
    pub retires : {s t : State} {r : Retiring} (past : List Entry) (ts : List ℕ) → Retires s r t → P s past ts → P t (past ++ (retired r ∷ [])) ts

  -- every turn that is done keeps it
  abbrev pub TurnsKeep : Type 0
  TurnsKeep = (s t : State) (e : Turn) (past : List Entry) (ts : List ℕ) → Turns s e t → P s past ts → P t (past ++ (acted e ∷ [])) ts

  module _ (keeps : TurnsKeep) where
    -- what every turn done keeps, every turn keeps, done or refused
    pub turn_lasts : (s : State) (i : ℕ) (past : List Entry) (ts : List ℕ) → P s past ts → P (after s (turn i)) (past ++ turn_entry s i) ts
    turn_lasts s i past ts h =
        by_turn s i (λ (t : State) (es : List Entry). P t (past ++ es) ts) (λ e t act. keeps s t e past ts act h) (rw (append-nil past) h)

    -- what every turn done keeps, turns one after another keep
    pub turns_last :
        (turns : List ℕ) (s : State) (past : List Entry) (ts : List ℕ)
        → P s past ts
        → P (state_from s (map turn turns)) (past ++ trace_from s (map turn turns)) ts
    unfolding state_from trace_from
    turns_last [] s past ts h = rw (append-nil past) h
    turns_last (i ∷ turns) s past ts h =
        rw (← append_assoc past (turn_entry s i) (trace_from (after s (turn i)) (map turn turns)))
        (turns_last turns (after s (turn i)) (past ++ turn_entry s i) ts (turn_lasts s i past ts h))

    -- what every turn done keeps, a run keeps
    pub run_lasts : (s : State) (turns : List ℕ) (past : List Entry) (ts : List ℕ) → P s past ts → P (after s (run turns)) (past ++ entries s (run turns)) ts
    run_lasts s turns past ts h =
        subst (λ (t : State). P t (past ++ entries s (run turns)) ts) (sym (run_state s turns))
        (rw (run_trace s turns) (turns_last (take (run_of s turns).handed.totals.turns turns) s past ts h))

  module _ (lasts : Lasts) where
    kept : TurnsKeep
    kept s t e past ts act h = lasts.turns past ts act h

    start_lasts :
        (s : State) (i : ℕ) (late : Bool) (v : Worker) (g : Floor) (spent : List ℕ)
        → StartOf v
        → g.buckets ≡ s.floor.buckets
        → (late ≡ false → Spends s.floor.last v spent g.last)
        → (past : List Entry) (ts : List ℕ)
        → P s past ts
        → let x = start_call s.board (seat_of s i) (listed_of s i) late v g in
        P (started_as s i x) past (ts ++ cond (eqb x.refusal 0) spent [])
    unfolding start_call
    start_lasts s i late v g spent kind same spends past ts h =
        let refusal = start_number s.floor s.board (length s.records) i (listed_of s i) late in
        by_cases (λ (x : Started). P (started_as s i x) past (ts ++ cond (eqb x.refusal 0) spent [])) (eqb refusal 0) _ _
        (λ is.
        let none = eqb-true _ 0 is in
        let known = not_refused s.floor s.board (length s.records) i (listed_of s i) late none in
        lasts.begins past ts
        (record {
          starts = accepted_starts s i late g kind none;
          kind = kind;
          board = refl;
          buckets = same;
          spends = spends known.early;
          at = i;
          rested = known.was;
          listed = refl;
        })
        h)
        (λ isnot. rw (isnot, append-nil ts, set-get_or s.records i blank) h)

    -- a start without a ticket
    plain_lasts :
        (s : State) (i : ℕ) (v : Worker)
        → StartOf v
        → (v.kind ≡ insert_kind → ⊥)
        → (past : List Entry) (ts : List ℕ)
        → P s past ts
        → P (started_as s i (start_call s.board (seat_of s i) (listed_of s i) false v s.floor)) past (ts ++ [])
    plain_lasts s i v kind other past ts h =
        let x = start_call s.board (seat_of s i) (listed_of s i) false v s.floor in
        subst (λ (us : List ℕ). P (started_as s i x) past (ts ++ us)) (nothing (eqb x.refusal 0))
        (start_lasts s i false v s.floor [] kind refl (λ is. unticketed other refl refl) past ts h)
      where
        nothing : (t : Bool) → cond {A = List ℕ} t [] [] ≡ []
        nothing true = refl
        nothing false = refl

    call_lasts : (s : State) (c : Call) (past : List Entry) (ts : List ℕ) → P s past ts → P (after s c) (past ++ entries s c) (ts ++ spent_by s c)
    call_lasts s (look i lot) past ts h = rw (append-nil past) (plain_lasts s i (look_for lot) (of_look lot) (omega arith) past ts h)
    call_lasts s (insert i lot t) past ts h =
        rw (append-nil past) (start_lasts s i (spent s.floor t.number) (insert_of lot t.number) (spending s.floor t.number) (t.number ∷ [])
        (of_insert lot t.number) refl
        (λ early. ticketed (leb-false t.number s.floor.last early) refl refl) past ts h)
    call_lasts s (remove i lot) past ts h = rw (append-nil past) (plain_lasts s i (remove_of lot) (of_remove lot) (omega arith) past ts h)
    call_lasts s (turn i) past ts h = rw (append-nil ts) (turn_lasts kept s i past ts h)
    call_lasts s (retire i) past ts h =
        rw (append-nil ts)
        (by_retiring s i (λ (t : State) (es : List Entry). P t (past ++ es) ts) (λ r t act. lasts.retires past ts act h) (rw (append-nil past) h))
    call_lasts s (run turns) past ts h = rw (append-nil ts) (run_lasts kept s turns past ts h)
    call_lasts s (show lot) past ts h = rw (append-nil past, append-nil ts) h
    call_lasts s count past ts h = rw (append-nil past, append-nil ts) h
    call_lasts s (orders depth) past ts h = rw (append-nil past, append-nil ts) h
    call_lasts s ask_total past ts h = rw (append-nil past, append-nil ts) h
    call_lasts s (ask_next from) past ts h = rw (append-nil past, append-nil ts) h

    -- what every accepted start, every turn done and every retiring done keep, calls one after another keep
    pub calls_last :
        (cs : List Call) (s : State) (past : List Entry) (ts : List ℕ)
        → P s past ts
        → P (state_from s cs) (past ++ trace_from s cs) (ts ++ tickets_from s cs)
    unfolding state_from trace_from tickets_from
    calls_last [] s past ts h = rw (append-nil past, append-nil ts) h
    calls_last (c ∷ cs) s past ts h =
        rw (← append_assoc past (entries s c) (trace_from (after s c) cs), ← append_assoc ts (spent_by s c) (tickets_from (after s c) cs))
        (calls_last cs (after s c) (past ++ entries s c) (ts ++ spent_by s c) (call_lasts s c past ts h))
