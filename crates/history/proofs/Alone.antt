-- A worker alone: where each of its turns uses up one of so many that its call can take, a run of so many turns leaves it idle, and so do
-- they among any other calls, as long as it is alone; where no turn of it can end its call it never ends. Assumes nothing.
use Prim.Native.Nat.{ℕ, zero, suc, ◌+◌, ◌≤◌, ◌<◌}
use mathlib.Core.Bool.{Bool}
use mathlib.Core.List.{List, [], ◌∷◌, ◌++◌}
use mathlib.Core.Logic.Dec
use mathlib.Core.Logic.{◌⊎◌, inl, inr}
use mathlib.Core.Path.{◌≡◌, refl, sym, ap, subst, ◌∙◌}
use native.Mathlib.Decide.{ℕ_discrete}
use native.Mathlib.Omega.{arith}
use lib.ListN.{replicate, length-replicate}
use Rattle.mark.specs.Word.{mark_of}
use Rattle.turn.specs.declared.Worker.{Worker}
use Rattle.turn.specs.declared.Action.{Action}
use Rattle.turn.specs.declared.Stepped.{Stepped}
use Rattle.turn.specs.Worker.{no_slot, idle}
use Rattle.turn.specs.Bucket.{cell, mark_cell, value_cell}
use Rattle.turn.specs.Places.{goes_on, ends, turn}
use Rattle.turn.specs.Turn.{After}
use Rattle.turn.proofs.Sound.{Accepted}
use Rattle.engine.specs.declared.Floor.{Floor}
use Rattle.engine.specs.Board.{bucket_at}
use Rattle.engine.specs.Calls.{Ran, unbegun, record_in}
use Rattle.hall.specs.Calls.{Indexed, indexed, hall_run_from, hall_run}
use Rattle.hall.proofs.Stops.{hall_done_by, next_done, next_refused}
use Rattle.history.specs.Trace.{Turn, Retiring, Entry, acted, retired, who, By, Continues, Ends, OwnEnd, Some, None, total}
use Rattle.history.specs.Counts.{one_if}
use Rattle.history.specs.InCall.{own_turns}
use Rattle.history.specs.Numbers.{OneOf}
use Rattle.history.specs.History.{State, Call, run, record_of, ran_by, turned_as, after, state_from, trace_from}
use Rattle.history.specs.Unbroken.{Unbroken}
use Rattle.history.specs.Cells.{home}
use Rattle.history.specs.HowLong.{Disturbs, Alone, EndsAlone, GoesOnFor, NeverEndsAlone}
use Rattle.history.proofs.View.{new_record, old_record}
use Rattle.history.proofs.States.{view}
use Rattle.history.proofs.Acting.{done, entry}
use Rattle.history.proofs.Listed.{up_is, idle_up, idle_listed}
use Rattle.history.proofs.Steps.{Begins, Turns, Retires, step_of, done_turns, calls_last}
use Rattle.history.proofs.Account.{own_bucket_lem, progress_is, was_home, still_home}
use Rattle.history.proofs.Unrefused.{busy_moves, idle_stays, run_accepted}
use Rattle.history.proofs.Unbroken.{number_is, turn_unbroken}
use Rattle.history.proofs.Later.{none_last, some_front, some_last}
use Rattle.history.proofs.Cuts.{none_nil}
use Rattle.history.proofs.Counts.{one_yes, one_no, total_append}
use Rattle.history.proofs.Numbered.{answered_ends}
use Rattle.history.proofs.Cells.{Known, known_lasts}

-- every valid slot of a bucket has a ticket
abbrev pub Ticketed : List ℕ → Type 0
Ticketed b = (p : ℕ) → mark_of (cell b mark_cell) p ≡ 1 → 1 ≤ cell b (value_cell p)

-- the bucket of a worker's lot
abbrev own_bucket : ℕ → State → List ℕ
own_bucket i s = bucket_at s.board (home s.floor.buckets (record_of s i))

-- one entry more is a turn more, if it is the worker's own
own_more : (i : ℕ) (past : List Entry) (e : Entry) → own_turns i (past ++ (e ∷ [])) ≡ own_turns i past + one_if (ℕ_discrete (who e) i)
unfolding total
own_more i past e = omega (arith, total_append (λ (x : Entry). one_if (ℕ_discrete (who x) i)) past (e ∷ []))

-- what is known, by A, of a worker alone in a bucket that has had k turns of its call; Q holds if the call can end
module _ (A : List ℕ → ℕ → Worker → Type 0) (Q : Type 0) where
  -- its next turn leaves it at its call with one turn more, or ends the call
  pub data StepsTo (k : ℕ) (b : List ℕ) : Stepped → Type 0 where
    further : {a : Action} {full : Bool} {v : Worker} → A b (k + 1) v → StepsTo k b (goes_on a full v)
    final : Q → (a : Action) (answer : ℕ) → StepsTo k b (ends a answer)

  -- every accepted turn of a worker of which A is known steps so
  pub record Goes : Type 0 where
    pub busy : {b : List ℕ} {k : ℕ} {w : Worker} → A b k w → w ≡ idle → ⊥
    pub steps : {b : List ℕ} {k : ℕ} {w : Worker} → Accepted b w → Ticketed b → A b k w → StepsTo k (turn b w).bucket (turn b w).stepped

  -- how its turn came out
  data Afterwards (i k : ℕ) (t : State) (e : Turn) : Type 0 where
    goes : Continues (acted e) → A (own_bucket i t) (k + 1) (record_of t i) → Afterwards i k t e
    ended : Q → Ends (acted e) → record_of t i ≡ idle → Afterwards i k t e

  module _ (count : Goes) where
    -- ---- a turn

    module _ {s t : State} {e : Turn} (act : Turns s e t) (known : Known s) (k : ℕ) (had : A (own_bucket e.worker s) k (record_of s e.worker)) where
      abbrev x : Stepped
      x = (step_of s e).stepped

      record_then : record_of t e.worker ≡ x.worker
      record_then = new_record (view s) (view t) e.worker x.worker act.acts.records act.acts.within

      -- the bucket and the record that the turn found
      had_then : A (bucket_at s.board e.report.bucket) k e.was
      had_then = rw (was_home act, act.acts.was) had

      ticketed : Ticketed (bucket_at s.board e.report.bucket)
      ticketed p one = (known.cells.valid e.report.bucket p one).ticket

      by_step : {y : Stepped} → StepsTo k (step_of s e).bucket y → x ≡ y → Afterwards e.worker k t e
      by_step (further {v = v} more) is =
          let worker : x.worker ≡ v = ap (λ (y : Stepped). y.worker) is in
          let there : home t.floor.buckets (record_of t e.worker) ≡ e.report.bucket =
          ap (home t.floor.buckets) record_then ∙ still_home act (λ rests. count.busy more (sym worker ∙ rests)) in
          goes (progress_is act is)
          (rw (there, own_bucket_lem act, record_then, worker) more)
      by_step (final can a answer) is =
          ended can (answered_ends e answer (progress_is act is))
          (record_then ∙ ap (λ (y : Stepped). y.worker) is)

      turn_went : Afterwards e.worker k t e
      turn_went = by_step (count.steps act.ok ticketed had_then) refl

    -- ---- any calls

    module _ (i : ℕ) where
      -- the call can end, and has; or nothing so far has ended it, and the worker is at it
      abbrev Comes : State → List Entry → Type 0
      Comes s past = (Q × Some (OwnEnd i) past) ⊎ (None (OwnEnd i) past × A (own_bucket i s) (own_turns i past) (record_of s i))

      -- as long as the worker was alone
      record Counted (s : State) (past : List Entry) : Type 0 where
        known : Known s
        comes : Alone i past → Comes s past

      start_comes : {s t : State} {v : Worker} {spent : List ℕ} (past : List Entry) → Begins s v spent t → Comes s past → Comes t past
      start_comes past start (inl over) = inl over
      start_comes {s} {t} {v} past start (inr on) = inr (on.0, by (ℕ_discrete i start.starts.who))
        where
          by : Dec (i ≡ start.starts.who) → A (own_bucket i t) (own_turns i past) (record_of t i)
          by (yes own) = absurd (count.busy on.1 (ap (record_of s) own ∙ start.starts.was))
          by (no other) =
              let same = old_record (view s) (view t) start.starts.who v start.starts.records i other in
              rw (start.board, start.buckets, same) on.1

      turn_comes : {s t : State} {e : Turn} (past : List Entry) → Turns s e t → Known s → By i (acted e) → Comes s past → Comes t (past ++ (acted e ∷ []))
      turn_comes {e = e} past act known own (inl over) = inl (over.0, some_front (OwnEnd i) past (acted e ∷ []) over.1)
      turn_comes {s} {t} {e} past act known own (inr on) =
          by (subst (λ (j : ℕ). Afterwards j (own_turns i past) t e) own (turn_went act known (own_turns i past) (rw own on.1)))
        where
          by : Afterwards i (own_turns i past) t e → Comes t (past ++ (acted e ∷ []))
          by (goes continues had) =
              inr (none_last (OwnEnd i) past (acted e) on.0 (λ over. over.1 continues), rw (own_more i past (acted e), one_yes (ℕ_discrete e.worker i) own) had)
          by (ended can over rests) = inl (can, some_last (OwnEnd i) past (acted e) (own, over))

      -- the retiring of another worker that held no slot
      retire_comes :
          {s t : State} {r : Retiring} (past : List Entry)
          → Retires s r t
          → (By i (retired r) → ⊥)
          → r.was.held ≡ no_slot
          → Comes s past
          → Comes t (past ++ (retired r ∷ []))
      retire_comes {r = r} past act other free (inl over) = inl (over.0, some_front (OwnEnd i) past (retired r ∷ []) over.1)
      retire_comes {s} {t} {r} past act other free (inr on) =
          let same = old_record (view s) (view t) r.worker idle act.acts.records i (λ is. other (sym is)) in
          let had : A (own_bucket i t) (own_turns i past + 0) (record_of t i) =
          rw (act.board free, act.buckets, same) (subst (λ (k : ℕ). A (own_bucket i s) k (record_of s i)) (omega arith) on.1) in
          inr (none_last (OwnEnd i) past (retired r) on.0 (λ over. other over.0), rw (own_more i past (retired r), one_no (ℕ_discrete r.worker i) other) had)

      alone_before : (past : List Entry) (e : Entry) → Alone i (past ++ (e ∷ [])) → Alone i past
      alone_before past e alone some = alone (some_front (Disturbs i) past (e ∷ []) some)

      undisturbed : (past : List Entry) (e : Entry) → Alone i (past ++ (e ∷ [])) → Disturbs i e → ⊥
      undisturbed past e alone disturbs = alone (some_last (Disturbs i) past e disturbs)

      turn_counted : {s t : State} {e : Turn} (past : List Entry) → Turns s e t → Counted s past → Counted t (past ++ (acted e ∷ []))
      turn_counted {e = e} past act old =
          record {
            known = known_lasts.turns past [] act old.known;
            comes = λ alone.
                turn_comes past act old.known ((Dec.not-not (ℕ_discrete e.worker i)).0 (undisturbed past (acted e) alone))
                (old.comes (alone_before past (acted e) alone));
          }

      retire_counted : {s t : State} {r : Retiring} (past : List Entry) → Retires s r t → Counted s past → Counted t (past ++ (retired r ∷ []))
      retire_counted {r = r} past act old =
          record {
            known = known_lasts.retires past [] act old.known;
            comes = λ alone.
                let quiet = undisturbed past (retired r) alone in
                retire_comes past act (λ own. quiet (inl own)) ((Dec.not-not (ℕ_discrete r.was.held no_slot)).0 (λ some. quiet (inr some)))
                (old.comes (alone_before past (retired r) alone));
          }

      -- whatever is called, as long as the worker is alone
      comes_then :
          (s : State) → Known s → A (own_bucket i s) 0 (record_of s i) → (rest : List Call) → Alone i (trace_from s rest)
          → Comes (state_from s rest) (trace_from s rest)
      unfolding total
      comes_then s known had rest =
          (calls_last (λ s past ts. Counted s past)
          (record {
            begins = λ past ts start old.
                record { known = known_lasts.begins past ts start old.known; comes = λ alone. start_comes past start (old.comes alone) };
            turns = λ past ts act old. turn_counted past act old;
            retires = λ past ts act old. retire_counted past act old;
          }) rest s [] []
          (record { known = known; comes = λ alone. inr (none_nil (OwnEnd i), had) })).comes

    -- ---- a run

    module _ (f : Floor) (i : ℕ) (under : i < f.workers) where
      abbrev stands : Indexed (After Ran) → State
      stands x = record { board = x.left.words; floor = f; records = x.left.handed.records; index = x.index }

      -- after m more turns in a run that stood at x the worker is idle
      record Idled (m : ℕ) (x y : Indexed (After Ran)) : Type 0 where
        idles : record_in y.left.handed.records i ≡ idle
        within : y.left.handed.totals.turns ≤ x.left.handed.totals.turns + m
        stops : OneOf (0 ∷ 6 ∷ []) y.left.handed.stop

      -- or it is at its call still, and all of them are done
      record StillBusy (m k : ℕ) (x y : Indexed (After Ran)) : Type 0 where
        had : A (own_bucket i (stands y)) (k + m) (record_of (stands y) i)
        turns : y.left.handed.totals.turns ≡ x.left.handed.totals.turns + m
        stops : y.left.handed.stop ≡ 0

      abbrev Runs : ℕ → ℕ → Indexed (After Ran) → Indexed (After Ran) → Type 0
      Runs m k x y = (Q × Idled m x y) ⊎ StillBusy m k x y

      -- an idle worker has no turn
      idle_run :
          (m : ℕ) (x : Indexed (After Ran)) → Unbroken (stands x) → record_of (stands x) i ≡ idle → x.left.handed.stop ≡ 0 → Idled m x (hall_run_from f (replicate m i) x)
      unfolding hall_run_from
      idle_run zero x ok rests stop = record { idles = idle_listed (stands x) i ok under rests; within = omega arith; stops = inl stop }
      idle_run (suc m) x ok rests stop =
          let idles = idle_listed (stands x) i ok under rests in
          let six = idle_stays (stands x) ok i under idles in
          rw (next_refused f i (replicate m i) x (λ none. omega (arith, six, none)))
          (record { idles = idles; within = omega arith; stops = inr (inl six) })

      -- a turn of a run leaves what the turn of a history does
      done_stands : (x : Indexed (After Ran)) → turned_as (stands x) i (done (stands x) i) ≡ stands (hall_done_by f i x)
      done_stands x = rw (up_is (stands x) i)

      -- a busy one has turns until its call ends
      busy_run :
          (m k : ℕ) (x : Indexed (After Ran))
          → Unbroken (stands x)
          → Known (stands x)
          → x.left.handed.stop ≡ 0
          → A (own_bucket i (stands x)) k (record_of (stands x) i)
          → Runs m k x (hall_run_from f (replicate m i) x)
      unfolding hall_run_from
      busy_run zero k x ok known stop had =
          inr (record { had = subst (λ (n : ℕ). A (own_bucket i (stands x)) n (record_of (stands x) i)) (omega arith) had; turns = omega arith; stops = stop })
      busy_run (suc m) k x ok known stop had =
          let none = busy_moves (stands x) ok i under (λ rests. count.busy had (idle_up (stands x) i rests)) in
          let act = subst (Turns (stands x) (entry (stands x) i)) (done_stands x) (done_turns (stands x) i (number_is (stands x) ok i none)) in
          let still = subst Unbroken (done_stands x) (turn_unbroken (stands x) ok i (number_is (stands x) ok i none)) in
          rw (next_done f i (replicate m i) x none)
          (by (turn_went act known k had) (busy_run m (k + 1) (hall_done_by f i x) still (known_lasts.turns [] [] act known) refl)
          (λ rests. idle_run m (hall_done_by f i x) still rests refl))
        where
          later : {y : Indexed (After Ran)} → Idled m (hall_done_by f i x) y → Idled (suc m) x y
          later rests = record { idles = rests.idles; within = omega (arith, rests.within); stops = rests.stops }

          more : {y : Indexed (After Ran)} → Runs m (k + 1) (hall_done_by f i x) y → Runs (suc m) k x y
          more (inl rests) = inl (rests.0, later rests.1)
          more {y} (inr busy) =
              inr (record {
                had = subst (λ (n : ℕ). A (own_bucket i (stands y)) n (record_of (stands y) i)) (omega arith) busy.had;
                turns = omega (arith, busy.turns);
                stops = busy.stops;
              })

          by :
              {e : Turn} {y : Indexed (After Ran)}
              → Afterwards i k (stands (hall_done_by f i x)) e
              → (A (own_bucket i (stands (hall_done_by f i x))) (k + 1) (record_of (stands (hall_done_by f i x)) i) → Runs m (k + 1) (hall_done_by f i x) y)
              → (record_of (stands (hall_done_by f i x)) i ≡ idle → Idled m (hall_done_by f i x) y)
              → Runs (suc m) k x y
          by (goes continues had) busy resting = more (busy had)
          by (ended can over rests) busy resting = inl (can, later (resting rests))

    -- a run of a worker that is at a call in s
    module _ (s : State) (i : ℕ) (ok : Unbroken s) (known : Known s) (under : i < s.floor.workers) (had : A (own_bucket i s) 0 (record_of s i)) where
      -- before the first turn
      abbrev begins : Indexed (After Ran)
      begins = indexed s.index (unbegun s.board s.records 0)

      run_is : (n : ℕ) → n ≤ 65535 → ran_by s (replicate n i) ≡ hall_run_from s.floor (replicate n i) begins
      unfolding hall_run
      run_is n few = rw (run_accepted s ok (replicate n i) (omega (arith, length-replicate n i)))

      runs : (n : ℕ) → n ≤ 65535 → Runs s.floor i under n 0 begins (ran_by s (replicate n i))
      runs n few = rw (run_is n few) (busy_run s.floor i under n 0 begins ok known refl had)

      -- a call that can take so many turns ends within them
      module _ (most : ℕ) (fewer : (b : List ℕ) (k : ℕ) (w : Worker) → A b k w → k < most) (few : most ≤ 65535) where
        still_fewer :
            (rest : List Call) → Comes i (state_from s rest) (trace_from s rest) → None (OwnEnd i) (trace_from s rest) → own_turns i (trace_from s rest) < most
        still_fewer rest (inl over) unended = absurd (unended over.1)
        still_fewer rest (inr on) unended = fewer _ _ _ on.1

        ends_by : Runs s.floor i under most 0 begins (ran_by s (replicate most i)) → EndsAlone s i most
        ends_by (inr busy) = absurd (omega (arith, fewer _ _ _ busy.had))
        ends_by (inl rests) =
            record {
              busy = λ rests. count.busy had (idle_up s i rests);
              idles = rests.1.idles;
              within = omega (arith, rests.1.within);
              stops = rests.1.stops;
              meanwhile = λ rest alone unended. still_fewer rest (comes_then i s known had rest alone) unended;
            }

        pub ends_alone : EndsAlone s i most
        ends_alone = ends_by (runs most few)

      -- a call that cannot end goes on
      module _ (never : Q → ⊥) where
        goes_by :
            (n : ℕ)
            → Runs s.floor i under n 0 begins (ran_by s (replicate n i))
            → GoesOnFor s i n
        goes_by n (inl rests) = absurd (never rests.0)
        goes_by n (inr on) =
            record { turns = omega (arith, on.turns); stops = on.stops; busy = λ rests. count.busy on.had (idle_up (after s (run (replicate n i))) i rests) }

        still_none : (rest : List Call) → Comes i (state_from s rest) (trace_from s rest) → None (OwnEnd i) (trace_from s rest)
        still_none rest (inl over) = absurd (never over.0)
        still_none rest (inr on) = on.0

        pub never_alone : NeverEndsAlone s i
        never_alone =
            record { runs = λ n few. goes_by n (runs n few); meanwhile = λ rest alone. still_none rest (comes_then i s known had rest alone) }
