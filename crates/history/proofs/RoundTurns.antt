-- A worker's starts and turns on a board of one bucket, while another worker sleeps: each turn of a busy worker is what the place table says, so
-- turns one after another are followed there, without the board. Assumes nothing.
use Prim.Native.Nat.{ℕ, zero, suc, ◌+◌, ◌≤◌, ◌<◌}
use mathlib.Core.Bool.{Bool, false, cond}
use mathlib.Core.List.{List, [], ◌∷◌, ◌++◌}
use mathlib.Core.Path.{◌≡◌, refl, sym, ap, subst, ◌∙◌}
use native.Mathlib.Omega.{arith}
use lib.Dec.{eqb}
use lib.ListN.{length, set, length-map}
use borrow.Author.Tests.{lt-leb}
use Rattle.turn.specs.declared.Worker.{Worker}
use Rattle.turn.specs.declared.Stepped.{Stepped}
use Rattle.turn.specs.Worker.{insert_kind, remove_kind, idle, insert_of, remove_of}
use Rattle.turn.specs.Asleep.{awake}
use Rattle.turn.specs.Places.{Step, leaves}
use Rattle.turn.specs.Places as Places
use Rattle.turn.specs.Turn.{Turned, After, report_of}
use Rattle.engine.specs.declared.Floor.{Floor}
use Rattle.engine.specs.Calls.{Started}
use Rattle.engine.specs.Board.{bucket_of, bucket_at}
use Rattle.engine.specs.Refusals.{spent, start_number}
use Rattle.engine.specs.Calls.{spending, start_call}
use Rattle.engine.proofs.Sizes.{right_listed}
use Rattle.engine.proofs.Sleeping.{put_awake}
use Rattle.history.specs.Trace.{Entry, acted, By, None}
use Rattle.history.specs.History.{State, Call, insert, remove, turn, Ticket, listed_of, record_of, seat_of, workers_of, buckets_of, inserts}
use Rattle.history.specs.History.{started_as, turned_as, after, turn_entry, entry_of, begun, is_start, state_from, trace_from, sum_from, state}
use Rattle.history.specs.Round.{turns_by}
use Rattle.history.specs.Unbroken.{Unbroken}
use Rattle.history.proofs.Ready.{Ready}
use Rattle.history.proofs.View.{new_record, old_record}
use Rattle.history.proofs.States.{view}
use Rattle.history.proofs.Histories.{state_from_append, trace_from_append, state_from_then, sum_from_append}
use Rattle.history.proofs.Acting.{number, done, entry, done_is}
use Rattle.history.proofs.Listed.{idle_up, idle_listed}
use Rattle.history.proofs.Steps.{Turns, step_of, done_turns}
use Rattle.history.proofs.Account.{own_bucket_lem}
use Rattle.history.proofs.Unrefused.{busy_moves, idle_starts}
use Rattle.history.proofs.Unbroken.{number_is, state_unbroken}
use Rattle.history.proofs.Cuts.{none_nil, none_more}

-- ---- turns by the place table

-- turns of worker i one after another
module _ (i : ℕ) where
  -- what a turn is in the trace
  abbrev pub acted_as : List ℕ → Worker → Step → Entry
  acted_as b w x = acted (record { worker = i; was = w; report = report_of 0 b x })

  -- so many, from this bucket and this record to those
  pub data Plays : ℕ → List ℕ → Worker → List ℕ → Worker → Type 0 where
    rests : {b : List ℕ} {w : Worker} → Plays 0 b w b w
    plays :
        {n : ℕ} {b c d : List ℕ} {w v : Worker} {x : Stepped}
        → Places.turn b w ≡ leaves c x
        → 1 ≤ w.kind
        → Plays n c x.worker d v
        → Plays (suc n) b w d v

  -- their entries
  abbrev pub entries_of : {n : ℕ} {b c : List ℕ} {w v : Worker} → Plays n b w c v → List Entry
  entries_of rests = []
  entries_of (plays {b = b} {c = c} {w = w} {x = x} is some more) = acted_as b w (leaves c x) ∷ entries_of more

  -- none of them is another worker's
  pub plays_own : (j : ℕ) → (j ≡ i → ⊥) → {n : ℕ} {b c : List ℕ} {w v : Worker} (p : Plays n b w c v) → None (By j) (entries_of p)
  plays_own j apart rests = none_nil (By j)
  plays_own j apart (plays is some more) = none_more (By j) _ _ (λ by. apart (sym by)) (plays_own j apart more)

-- a record with a kind is not idle
busy : {w : Worker} → 1 ≤ w.kind → w ≡ idle → ⊥
busy some is = omega (arith, some, ap (λ (w : Worker). w.kind) is)

-- of one bucket, it is every lot's
only_bucket : (lot n : ℕ) → n ≡ 1 → bucket_of lot n ≡ 0
only_bucket lot n one = rw one (omega arith)

-- ---- on a board

module _ {first : State} (ready : Ready first) where
  -- a state that follows the first one, by calls
  pub record Follows (s : State) : Type 0 where
    pub calls : List Call
    pub is : state first calls ≡ s

  -- the first one is
  pub follows_first : Follows first
  unfolding state_from
  follows_first = record { calls = []; is = refl }

  -- and what a call leaves of one
  follows_then : {s : State} → Follows s → (c : Call) → Follows (after s c)
  follows_then at c =
      record { calls = at.calls ++ (c ∷ []); is = state_from_then first at.calls c ∙ ap (λ (s : State). after s c) at.is }

  -- nothing is broken there
  follows_unbroken : {s : State} → Follows s → Unbroken s
  follows_unbroken at = subst Unbroken at.is (state_unbroken ready at.calls)

  -- worker i acts and worker j sleeps
  module _ (i j : ℕ) where
    -- on one bucket with the words b, when the last ticket was this: the record of i is w, and that of j is v
    pub record Stage (s : State) (last : ℕ) (b : List ℕ) (w v : Worker) : Type 0 where
      pub follows : Follows s
      pub acts : i < workers_of s
      pub sleeps : j < workers_of s
      pub one : buckets_of s ≡ 1
      pub spends : s.floor.last ≡ last
      pub bucket : bucket_at s.board 0 ≡ b
      pub actor : record_of s i ≡ w
      pub sleeper : record_of s j ≡ v

  -- the other worker acts
  pub turn_about : {i j : ℕ} {s : State} {last : ℕ} {b : List ℕ} {w v : Worker} → Stage i j s last b w v → Stage j i s last b v w
  turn_about at =
      record {
        follows = at.follows;
        acts = at.sleeps;
        sleeps = at.acts;
        one = at.one;
        spends = at.spends;
        bucket = at.bucket;
        actor = at.sleeper;
        sleeper = at.actor;
      }

  module _ {i j : ℕ} (apart : j ≡ i → ⊥) where
    -- ---- a turn

    module _ {s : State} {last : ℕ} {b : List ℕ} {w v : Worker} (at : Stage i j s last b w v) (some : 1 ≤ w.kind) where
      -- it is not refused
      none : number s i ≡ 0
      none =
          let ok = follows_unbroken at.follows in
          number_is s ok i (busy_moves s ok i at.acts (λ rests. busy some (sym at.actor ∙ idle_up s i rests)))

      -- it is done, and leaves this
      abbrev t : State
      t = turned_as s i (done s i)

      act : Turns s (entry s i) t
      act = done_turns s i none

      after_is : after s (turn i) ≡ t
      after_is = ap (turned_as s i) (done_is s i none)

      -- its bucket is the only one
      here : (entry s i).report.bucket ≡ 0
      here = only_bucket (record_of s i).key (buckets_of s) at.one

      -- what it does is what the table says of this bucket and this record
      step_is : step_of s (entry s i) ≡ Places.turn b w
      step_is = rw (here, at.bucket, at.actor)

      turned : Stage i j t last (Places.turn b w).bucket (Places.turn b w).stepped.worker v
      turned =
          record {
            follows = subst Follows after_is (follows_then at.follows (turn i));
            acts = at.acts;
            sleeps = at.sleeps;
            one = at.one;
            spends = at.spends;
            bucket = ap (bucket_at t.board) (sym here) ∙ own_bucket_lem act ∙ ap (λ (x : Step). x.bucket) step_is;
            actor = new_record (view s) (view t) i _ act.acts.records act.acts.within ∙ ap (λ (x : Step). x.stepped.worker) step_is;
            sleeper = old_record (view s) (view t) i _ act.acts.records j apart ∙ at.sleeper;
          }

      -- a turn leaves what the table says
      turn_stage : Stage i j (after s (turn i)) last (Places.turn b w).bucket (Places.turn b w).stepped.worker v
      turn_stage = rw after_is turned

      -- and is reported so
      turn_entry_lem : turn_entry s i ≡ acted_as i b w (Places.turn b w) ∷ []
      turn_entry_lem =
          ap (λ (x : After Turned). entry_of s i x.handed.answer) (done_is s i none)
          ∙ rw (here, at.bucket, at.actor)

    -- ---- a start

    module _ {s : State} {last : ℕ} {b : List ℕ} {v : Worker} (at : Stage i j s last b idle v) where
      -- a start that is early enough is accepted
      accepted : (late : Bool) → late ≡ false → start_number s.floor s.board (length s.records) i (listed_of s i) late ≡ 0
      accepted late early =
          let ok = follows_unbroken at.follows in
          idle_starts s ok i at.acts late (idle_listed s i ok at.acts at.actor) early

      -- there is a record for each worker
      listed : i < length (view s).records
      listed =
          let long = right_listed s.floor s.board _ (follows_unbroken at.follows).sized in
          rw (length-map s.records awake) (omega (arith, long, at.acts))

      -- so it hands back the new record and the floor
      start_is :
          (late : Bool) (u : Worker) (g : Floor)
          → late ≡ false
          → start_call s.board (seat_of s i) (listed_of s i) late u g ≡ record { worker = u; floor = g; refusal = 0 }
      unfolding start_call
      start_is late u g early = rw (accepted late early)

      -- and leaves them, and all else as it was
      start_stage :
          (c : Call) (late : Bool) (u : Worker) (g : Floor)
          → u.asleep ≡ 0
          → late ≡ false
          → after s c ≡ started_as s i (start_call s.board (seat_of s i) (listed_of s i) late u g)
          → g.workers ≡ workers_of s
          → g.buckets ≡ buckets_of s
          → Stage i j (after s c) g.last b u v
      start_stage c late u g up early is workers buckets =
          let t : State = started_as s i (record { worker = u; floor = g; refusal = 0 }) in
          let whole : after s c ≡ t = is ∙ ap (started_as s i) (start_is late u g early) in
          let put : (view t).records ≡ set (view s).records i u = put_awake s.records i u up in
          let new : Stage i j t g.last b u v =
          record {
            follows = subst Follows whole (follows_then at.follows c);
            acts = rw workers at.acts;
            sleeps = rw workers at.sleeps;
            one = buckets ∙ at.one;
            spends = refl;
            bucket = at.bucket;
            actor = new_record (view s) (view t) i u put listed;
            sleeper = old_record (view s) (view t) i u put j apart ∙ at.sleeper;
          } in
          subst (λ (x : State). Stage i j x g.last b u v) (sym whole) new

      -- a remove
      remove_stage : (lot : ℕ) → Stage i j (after s (remove i lot)) last b (remove_of lot) v
      remove_stage lot =
          subst (λ (n : ℕ). Stage i j (after s (remove i lot)) n b (remove_of lot) v) at.spends
          (start_stage (remove i lot) false (remove_of lot) s.floor refl refl refl refl refl)

      -- it begins no insert
      remove_begins : (lot : ℕ) → is_start insert_kind s (remove i lot) ≡ 0
      remove_begins lot = ap (λ (x : Started). cond (eqb (begun remove_kind x) insert_kind) 1 0) (start_is false (remove_of lot) s.floor refl)

      -- an insert with a ticket above the last one
      module _ (lot : ℕ) (t : Ticket) (above : last < t.number) where
        -- the ticket is not spent
        early : spent s.floor t.number ≡ false
        early = lt-leb t.number s.floor.last (omega (arith, above, at.spends))

        insert_stage : Stage i j (after s (insert i lot t)) t.number b (insert_of lot t.number) v
        insert_stage =
            start_stage (insert i lot t) (spent s.floor t.number) (insert_of lot t.number) (spending s.floor t.number) refl early refl refl refl

        -- it is one that is begun
        insert_begins : is_start insert_kind s (insert i lot t) ≡ 1
        insert_begins =
            ap (λ (x : Started). cond (eqb (begun insert_kind x) insert_kind) 1 0)
            (start_is (spent s.floor t.number) (insert_of lot t.number) (spending s.floor t.number) early)

    -- ---- calls

    -- calls from s that leave this, with these entries, and begin so many inserts
    pub record Goes (s : State) (calls : List Call) (es : List Entry) (last : ℕ) (b : List ℕ) (w v : Worker) (begins : ℕ) : Type 0 where
      pub stage : Stage i j (state_from s calls) last b w v
      pub trace_is : trace_from s calls ≡ es
      pub inserts_are : inserts s calls ≡ begins

    -- none at all
    pub goes_nowhere : {s : State} {last : ℕ} {b : List ℕ} {w v : Worker} → Stage i j s last b w v → Goes s [] [] last b w v 0
    unfolding state_from trace_from sum_from
    goes_nowhere at = record { stage = at; trace_is = refl; inserts_are = refl }

    -- one after another
    pub goes_then :
        {s : State} {cs ds : List Call} {es fs : List Entry} {last soon : ℕ} {b c : List ℕ} {w u v : Worker} {k n : ℕ}
        → Goes s cs es last b w v k
        → Goes (state_from s cs) ds fs soon c u v n
        → Goes s (cs ++ ds) (es ++ fs) soon c u v (k + n)
    goes_then {s} {cs} {ds} first then =
        record {
          stage = rw (state_from_append s cs ds) then.stage;
          trace_is = rw (trace_from_append s cs ds, first.trace_is, then.trace_is);
          inserts_are = omega (arith, sum_from_append (is_start insert_kind) s cs ds, first.inserts_are, then.inserts_are);
        }

    -- turns that the table follows leave what it says
    played_stage :
        {n : ℕ} {b c : List ℕ} {w u : Worker}
        → Plays i n b w c u
        → (s : State) (last : ℕ) (v : Worker)
        → Stage i j s last b w v
        → Stage i j (state_from s (turns_by i n)) last c u v
    unfolding state_from
    played_stage rests s last v at = at
    played_stage (plays is some more) s last v at = played_stage more (after s (turn i)) last v (rw is at (turn_stage at some))

    -- their entries are what the table says
    played_trace :
        {n : ℕ} {b c : List ℕ} {w u : Worker} (p : Plays i n b w c u) (s : State) (last : ℕ) (v : Worker)
        → Stage i j s last b w v
        → trace_from s (turns_by i n) ≡ entries_of i p
    unfolding trace_from
    played_trace rests s last v at = refl
    played_trace (plays is some more) s last v at =
        let more-are = played_trace more (after s (turn i)) last v (rw is at (turn_stage at some)) in
        let first_is = rw is at (turn_entry_lem at some) in
        rw (first_is, more-are)

    -- turns begin no call
    turns_begin : (n : ℕ) (s : State) → inserts s (turns_by i n) ≡ 0
    unfolding sum_from
    turns_begin zero s = refl
    turns_begin (suc n) s = omega (arith, turns_begin n (after s (turn i)))

    -- turns that the table follows
    pub goes_turns :
        {n : ℕ} {b c : List ℕ} {w u : Worker} (p : Plays i n b w c u) {s : State} {last : ℕ} {v : Worker}
        → Stage i j s last b w v
        → Goes s (turns_by i n) (entries_of i p) last c u v 0
    goes_turns {n} p {s} {last} {v} at =
        record { stage = played_stage p s last v at; trace_is = played_trace p s last v at; inserts_are = turns_begin n s }

    module _ {s : State} {last : ℕ} {b : List ℕ} {v : Worker} (at : Stage i j s last b idle v) (lot : ℕ) where
      -- the start of a remove
      pub goes_remove : Goes s (remove i lot ∷ []) [] last b (remove_of lot) v 0
      unfolding state_from trace_from sum_from
      goes_remove =
          record { stage = remove_stage at lot; trace_is = refl; inserts_are = omega (arith, remove_begins at lot) }

      -- the start of an insert
      pub goes_insert : (t : Ticket) → last < t.number → Goes s (insert i lot t ∷ []) [] t.number b (insert_of lot t.number) v 1
      unfolding state_from trace_from sum_from
      goes_insert t above =
          record { stage = insert_stage at lot t above; trace_is = refl; inserts_are = omega (arith, insert_begins at lot t above) }

  -- the same calls, seen from the other worker
  pub goes_about :
      {i j : ℕ} (apart : j ≡ i → ⊥) (other : i ≡ j → ⊥) {s : State} {calls : List Call} {es : List Entry}
      {last : ℕ} {b : List ℕ} {w v : Worker} {k : ℕ}
      → Goes apart s calls es last b w v k
      → Goes other s calls es last b v w k
  goes_about apart other goes =
      record { stage = turn_about goes.stage; trace_is = goes.trace_is; inserts_are = goes.inserts_are }
