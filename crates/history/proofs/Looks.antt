-- A look's number of turns goes with its record, all along a history. Assumes nothing.
use Prim.Native.Nat.{ℕ, ◌+◌, ◌≤◌}
use mathlib.Core.List.{List, [], ◌∷◌, ◌++◌, append_assoc}
use mathlib.Core.Path.{◌≡◌, refl, sym, ap, subst, ◌∙◌}
use native.Mathlib.Decide.{ℕ_discrete}
use native.Mathlib.Omega.{arith}
use Rattle.turn.specs.declared.Worker.{Worker}
use Rattle.turn.specs.declared.Stepped.{Stepped}
use Rattle.turn.specs.Worker.{look_kind, idle, look_for}
use Rattle.engine.specs.Board.{bucket_at}
use Rattle.history.specs.Trace.{Turn, Retiring, Entry, acted, retired, IsTurn, Ends, Continues}
use Rattle.history.specs.InCall.{InCall, number_in_call}
use Rattle.history.specs.HowLong.{look_least, look_most}
use Rattle.history.specs.History.{State, Call, record_of, state, trace}
use Rattle.history.proofs.View.{each_worker}
use Rattle.history.proofs.States.{view}
use Rattle.history.proofs.Ready.{Ready, rests}
use Rattle.history.proofs.Cuts.{no_cut}
use Rattle.history.proofs.Later.{CutLast, last, sooner, cut_last}
use Rattle.history.proofs.Starting.{StartOf, of_look, of_insert, of_remove}
use Rattle.history.proofs.Steps.{Begins, Turns, Retires, step_of, calls_last}
use Rattle.history.proofs.Account.{progress_is, goes_busy, still_on}
use Rattle.history.proofs.Numbered.{answered_ends, one_more, had_from, had_append, ended_now, goes_now, others_now, in_call_had}
use Rattle.history.proofs.Looking.{Looked, look_started, Next, on, over, look_next}

-- what is known of a worker that has had k turns of its call
record Counts (k : ℕ) (w : Worker) : Type 0 where
  rests : w ≡ idle → k ≡ 0
  looks : w.kind ≡ look_kind → Looked k w

-- a look's turn that comes after these is not past its tenth, and where it ends the look not before its fourth
record Within (before : List Entry) (e : Turn) : Type 0 where
  most : had_from e.worker 0 before + 1 ≤ look_most
  least : Ends (acted e) → look_least ≤ had_from e.worker 0 before + 1

-- each worker's number of turns goes with its record, and each turn of a look so far was in time
record Numbered (s : State) (past : List Entry) : Type 0 where
  each : (i : ℕ) → Counts (had_from i 0 past) (record_of s i)
  turns : (before : List Entry) (e : Turn) (later : List Entry) → past ≡ before ++ (acted e ∷ later) → e.was.kind ≡ look_kind → Within before e

start_counts : {v : Worker} → StartOf v → (k : ℕ) → k ≡ 0 → Counts k v
start_counts (of_look lot) k none =
    record { rests = λ is. none; looks = λ is. subst (λ (n : ℕ). Looked n (look_for lot)) (sym none) (look_started lot) }
start_counts (of_insert lot t) k none = record { rests = λ is. none; looks = λ is. absurd (omega arith) }
start_counts (of_remove lot) k none = record { rests = λ is. none; looks = λ is. absurd (omega arith) }

start_numbered : {s t : State} {v : Worker} {spent : List ℕ} (past : List Entry) → Begins s v spent t → Numbered s past → Numbered t past
start_numbered {s} {t} {v} past start old =
    let who = start.starts.who in
    record {
      each =
          each_worker (view s) (view t) who v start.starts.records (λ (j : ℕ) (u : Worker). Counts (had_from j 0 past) u) start.starts.within
          (start_counts start.kind _ ((old.each who).rests start.starts.was)) (λ j other. old.each j);
      turns = old.turns;
    }

module _ {s t : State} {e : Turn} (past : List Entry) (act : Turns s e t) (old : Numbered s past) where
  abbrev i : ℕ
  i = e.worker

  abbrev had : ℕ
  had = had_from i 0 past

  abbrev v : Worker
  v = (step_of s e).stepped.worker

  had_then : (j : ℕ) → had_from j 0 (past ++ (acted e ∷ [])) ≡ one_more j (had_from j 0 past) (acted e)
  unfolding had_from
  had_then j = had_append j 0 past (acted e ∷ [])

  counts_was : Counts had e.was
  counts_was = rw act.acts.was (old.each i)

  -- the call that goes on is the one that went on before
  same_kind : v.kind ≡ look_kind → e.was.kind ≡ look_kind
  same_kind look =
      sym (still_on act (λ is. omega (arith, look, ap (λ (x : Worker). x.kind) is))).call.kind ∙ look

  -- what a look's turn leaves goes with its number, and it came in time
  by_next : {x : Stepped} → Next had x → (step_of s e).stepped ≡ x → Counts (one_more i had (acted e)) x.worker × Within past e
  by_next (on {v} looked) is =
      let goes : Continues (acted e) = progress_is act is in (
        record {
          rests = λ idles. absurd (omega (arith, looked.from, ap (λ (x : Worker). x.place) idles));
          looks = λ look. subst (λ (n : ℕ). Looked n v) (sym (goes_now i had (acted e) refl goes)) looked;
        },
        record { most = omega (arith, looked.most, looked.slot, looked.to); least = λ ends. absurd (ends goes) },
      )
  by_next (over answer least most) is =
      let ends : Ends (acted e) = answered_ends e answer (progress_is act is) in (
        record { rests = λ idles. ended_now i had (acted e) refl ends; looks = λ look. absurd (omega arith) },
        record { most = most; least = λ ends. least },
      )

  looks_next : e.was.kind ≡ look_kind → Counts (one_more i had (acted e)) v × Within past e
  looks_next look = by_next (look_next had e.was (counts_was.looks look) (bucket_at s.board e.report.bucket)) refl

  mine : Dec (e.was.kind ≡ look_kind) → Counts (one_more i had (acted e)) v
  mine (yes look) = (looks_next look).0
  mine (no other) =
      record { rests = λ is. ended_now i had (acted e) refl (λ goes. goes_busy act goes is); looks = λ look. absurd (other (same_kind look)) }

  turn_within : (before : List Entry) (d : Turn) → CutLast past (acted e) before (acted d) → d.was.kind ≡ look_kind → Within before d
  turn_within before d (last is at) =
      rw is (subst (λ (x : Entry). IsTurn (λ y. y.was.kind ≡ look_kind → Within past y) x) (sym at) (λ look. (looks_next look).1))
  turn_within before d (sooner rest cut) = old.turns before d rest cut

  turn_numbered : Numbered t (past ++ (acted e ∷ []))
  turn_numbered =
      record {
        each = λ j. rw (had_then j)
            (each_worker (view s) (view t) i v act.acts.records (λ (j : ℕ) (u : Worker). Counts (one_more j (had_from j 0 past) (acted e)) u) act.acts.within
            (mine (ℕ_discrete _ _)) (λ j other. rw (others_now j (had_from j 0 past) (acted e) (λ own. other (sym own))) (old.each j)) j);
        turns = λ before d later cut. turn_within before d (cut_last (acted e) (acted d) later past before cut);
      }

-- ---- a retiring

retire_numbered : {s t : State} {r : Retiring} (past : List Entry) → Retires s r t → Numbered s past → Numbered t (past ++ (retired r ∷ []))
unfolding had_from
retire_numbered {s} {t} {r} past act old =
    record {
      each = λ j. rw (had_then j)
          (each_worker (view s) (view t) r.worker idle act.acts.records (λ (j : ℕ) (u : Worker). Counts (one_more j (had_from j 0 past) (retired r)) u) act.acts.within
          (record { rests = λ is. ended_now r.worker _ (retired r) refl (λ goes. goes); looks = λ look. absurd (omega arith) })
          (λ j other. rw (others_now j (had_from j 0 past) (retired r) (λ own. other (sym own))) (old.each j)) j);
      turns = λ before d later cut. retire_within before d (cut_last (retired r) (acted d) later past before cut);
    }
  where
    had_then : (j : ℕ) → had_from j 0 (past ++ (retired r ∷ [])) ≡ one_more j (had_from j 0 past) (retired r)
    had_then j = had_append j 0 past (retired r ∷ [])

    retire_within : (before : List Entry) (d : Turn) → CutLast past (retired r) before (acted d) → d.was.kind ≡ look_kind → Within before d
    retire_within before d (last is at) look = absurd (subst (IsTurn (λ t. Unit {0})) at tt)
    retire_within before d (sooner rest cut) look = old.turns before d rest cut look

-- ---- histories

module _ {first : State} (ready : Ready first) where
  ready_numbered : Numbered first []
  unfolding had_from
  ready_numbered =
      record {
        each = λ i. record { rests = λ is. refl; looks = λ look. absurd (omega (arith, look, (rests ready i).kind)) };
        turns = λ before e later cut. absurd (no_cut before (acted e) later cut);
      }

  numbered : (calls : List Call) → Numbered (state first calls) (trace first calls)
  numbered calls =
      calls_last (λ s past ts. Numbered s past)
      (record {
        begins = λ past ts start old. start_numbered past start old;
        turns = λ past ts act old. turn_numbered past act old;
        retires = λ past ts act old. retire_numbered past act old;
      })
      calls first [] [] ready_numbered

  module _ (calls : List Call) (at : InCall (trace first calls)) (look : at.turn.was.kind ≡ look_kind) where
    within : Within (at.before ++ at.between) at.turn
    within = (numbered calls).turns _ at.turn at.after (at.cut ∙ sym (append_assoc at.before at.between (acted at.turn ∷ at.after))) look

    -- wherever the trace is cut into the call of a look, it has no more than ten turns
    pub look_at_most : number_in_call at ≤ look_most
    look_at_most = rw (in_call_had at) within.most

    -- wherever it is cut at the last turn of a look, that has had four at least
    pub look_at_least : Ends (acted at.turn) → look_least ≤ number_in_call at
    look_at_least ends = rw (in_call_had at) (within.least ends)
