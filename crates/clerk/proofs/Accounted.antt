-- Each start that was accepted began a call that has ended, or its worker is at it still, or was retired from it: from the start on, the worker
-- is busy with what the start asks until a turn ends that call or the worker is retired. Assumes nothing.
use Prim.Native.Nat.{ℕ}
use mathlib.Core.List.{List, [], ◌∷◌, ◌++◌, append_assoc, append-nil}
use mathlib.Core.Logic.{◌⊎◌, inl, inr}
use mathlib.Core.Path.{◌≡◌, refl, sym, ap, subst, ◌∙◌}
use native.Mathlib.Decide.{ℕ_discrete}
use Rattle.turn.specs.declared.Worker.{Worker}
use Rattle.turn.specs.declared.Progress.{Progress}
use Rattle.turn.specs.declared.Progress.TheVariants.{GoesOn, Ended}
use Rattle.turn.specs.Worker.{idle}
use Rattle.history.specs.Trace.{Turn, Retiring, Entry, acted, retired, was_of, By, OwnEnd, None}
use Rattle.history.specs.History.{State, record_of, after}
use Rattle.history.specs.Moves.{Lent, Step, calls, state_through, trace_through}
use Rattle.history.specs.Moved.{moved_to}
use Rattle.history.proofs.View.{new_record}
use Rattle.history.proofs.States.{view}
use Rattle.history.proofs.Ready.{Ready}
use Rattle.history.proofs.Through.{state_through_append, trace_through_append, call_keeps, steps_last}
use Rattle.history.proofs.Cuts.{none_nil}
use Rattle.history.proofs.Later.{none_last}
use Rattle.history.proofs.Steps.{Begins, Turns, Retires, step_of, Lasts}
use Rattle.history.proofs.Account.{goes_busy}
use Rattle.clerk.specs.Does.{Asked}
use Rattle.clerk.specs.Calls.{EndedCall, asks}
use Rattle.clerk.specs.Clerk.{Start, BegunBy, StillAt, RetiredFrom}
use Rattle.clerk.proofs.Enumerated.{call_of}
use Rattle.clerk.proofs.Steps.{each_turn, each_retiring, each_start, was_known, goes_asks}
use Rattle.clerk.proofs.Starting.{Taken, Tried, taken, refused, start_tried, start_turns}
use Rattle.clerk.proofs.Started.{begun_by_lem, rests_then}

-- ---- what becomes of a start

-- worker i, whose start came after the turns before, and asks this
module _ (i : ℕ) (asked : Asked) (before : List Entry) where
  -- a record that is at a call which asks it
  record Works (w : Worker) : Type 0 where
    busy : w ≡ idle → ⊥
    asks_it : asks w ≡ asked

  -- the worker is at that call still
  record Going (s : State) (past : List Entry) : Type 0 where
    works : Works (record_of s i)
    since : List Entry
    turns : past ≡ before ++ since
    unended : None (OwnEnd i) since

  -- what ends a call: a turn that answers it, or a retiring
  abbrev Fate : Entry → Type 0
  Fate (acted e) = (answer : ℕ) × (e.report.progress ≡ Ended answer)
  Fate (retired r) = Unit {0}

  -- the first entry since then that ended a call of that worker ended this one
  record Over (past : List Entry) : Type 0 where
    between : List Entry
    entry : Entry
    later : List Entry
    turns : past ≡ (before ++ between) ++ (entry ∷ later)
    unended : None (OwnEnd i) between
    own : By i entry
    asks_it : asks (was_of entry) ≡ asked
    fate : Fate entry

  -- its call is under way, or over
  abbrev Followed : State → List Entry → Type 0
  Followed s past = Going s past ⊎ Over past

  -- whatever comes after it, a call that is over stays over
  over_on : (past : List Entry) (e : Entry) → Over past → Over (past ++ (e ∷ []))
  over_on past e old =
      record {
        between = old.between;
        entry = old.entry;
        later = old.later ++ (e ∷ []);
        turns = ap (λ (l : List Entry). l ++ (e ∷ [])) old.turns ∙ append_assoc (before ++ old.between) (old.entry ∷ old.later) (e ∷ []);
        unended = old.unended;
        own = old.own;
        asks_it = old.asks_it;
        fate = old.fate;
      }

  -- what ends the call of the worker makes it one that is over
  over_now : {s : State} (past : List Entry) (e : Entry) → By i e → asks (was_of e) ≡ asked → Fate e → Going s past → Over (past ++ (e ∷ []))
  over_now past e own asks_it fate old =
      record {
        between = old.since;
        entry = e;
        later = [];
        turns = ap (λ (l : List Entry). l ++ (e ∷ [])) old.turns;
        unended = old.unended;
        own = own;
        asks_it = asks_it;
        fate = fate;
      }

  -- what ends no call of the worker leaves it at the call
  going_on :
      {s t : State} (past : List Entry) (e : Entry)
      → (OwnEnd i e → ⊥)
      → Works (record_of t i)
      → Going s past
      → Going t (past ++ (e ∷ []))
  going_on past e goes works old =
      record {
        works = works;
        since = old.since ++ (e ∷ []);
        turns = ap (λ (l : List Entry). l ++ (e ∷ [])) old.turns ∙ append_assoc before old.since (e ∷ []);
        unended = none_last (OwnEnd i) old.since e old.unended goes;
      }

  -- ---- a turn

  module _ {s t : State} {e : Turn} (past : List Entry) (act : Turns s e t) where
    abbrev now : List Entry
    now = past ++ (acted e ∷ [])

    -- the worker's record after the turn
    works_then : (By i (acted e) → Works (step_of s e).stepped.worker) → Works (record_of s i) → Works (record_of t i)
    works_then mine old = each_turn act (λ j u. j ≡ i → Works u) mine (λ j other is. rw is old) i refl

    -- the worker's record before its own turn
    works_was : By i (acted e) → Works (record_of s i) → Works e.was
    works_was own works = was_known act Works (rw own works)

    -- any turn leaves the worker at the call, or is the one that ends it
    going_then : Dec (By i (acted e)) → (p : Progress) → e.report.progress ≡ p → Going s past → Followed t now
    going_then (no other) p is old =
        inl (going_on past (acted e) (λ end. other end.0) (works_then (λ own. absurd (other own)) old.works) old)
    going_then (yes own) GoesOn goes old =
        inl (going_on past (acted e) (λ end. end.1 goes)
        (works_then (λ by. record { busy = goes_busy act goes; asks_it = goes_asks act goes ∙ (works_was own old.works).asks_it }) old.works) old)
    going_then (yes own) (Ended answer) ended old =
        inr (over_now past (acted e) own (works_was own old.works).asks_it (answer, ended) old)

    turn_followed : Followed s past → Followed t now
    turn_followed (inl old) = going_then (ℕ_discrete e.worker i) e.report.progress refl old
    turn_followed (inr old) = inr (over_on past (acted e) old)

  -- ---- a retiring

  module _ {s t : State} {r : Retiring} (past : List Entry) (act : Retires s r t) where
    retire_then : Dec (By i (retired r)) → Going s past → Followed t (past ++ (retired r ∷ []))
    retire_then (no other) old =
        inl (going_on past (retired r) (λ end. other end.0)
        (each_retiring act (λ j u. j ≡ i → Works u) (λ own. absurd (other own)) (λ j another is. rw is old.works) i refl) old)
    retire_then (yes own) old =
        let was : Works r.was = rw act.acts.was (rw own old.works) in
        inr (over_now past (retired r) own was.asks_it tt old)

    retire_followed : Followed s past → Followed t (past ++ (retired r ∷ []))
    retire_followed (inl old) = retire_then (ℕ_discrete r.worker i) old
    retire_followed (inr old) = inr (over_on past (retired r) old)

  -- ---- a start

  -- a start finds its worker at no call, so that it is not this worker's
  start_followed : {s t : State} {v : Worker} {spent : List ℕ} (past : List Entry) → Begins s v spent t → Followed s past → Followed t past
  start_followed past start (inr old) = inr old
  start_followed past start (inl old) =
      inl (record {
        works =
            each_start start (λ j u. j ≡ i → Works u) (λ is. absurd (old.works.busy (rw is at start.starts.was))) (λ j other is. rw is old.works) i
            refl;
        since = old.since;
        turns = old.turns;
        unended = old.unended;
      })

  -- ---- a move

  -- §22.3: a move leaves the records, and has no turn
  move_followed : (s : State) (m : Lent) (past : List Entry) → Followed s past → Followed (moved_to s m) past
  move_followed s m past (inl old) = inl (record { works = old.works; since = old.since; turns = old.turns; unended = old.unended })
  move_followed s m past (inr old) = inr old

  -- ---- any number of them

  followed_lasts : Lasts (λ s past ts. Followed s past)
  followed_lasts =
      record {
        begins = λ past ts start old. start_followed past start old;
        turns = λ past ts act old. turn_followed past act old;
        retires = λ past ts act old. retire_followed past act old;
      }

-- ---- from the start on

module _ {first : State} (ready : Ready first) (steps : List Step) (start : Start first steps) where
  abbrev i : ℕ
  i = start.worker

  abbrev s : State
  s = state_through first start.earlier

  abbrev t : State
  t = after s start.call

  abbrev before : List Entry
  before = trace_through first start.earlier

  pub accepted : Taken s i start.asked t
  accepted = by (start_tried s start.is)
    where
      by : Tried s i start.asked start.call → Taken s i start.asked t
      by (taken some new) = new
      by (refused none same) = absurd (start.accepted none)

  -- the start leaves its worker at the call
  works_first : Works i start.asked before (record_of t i)
  works_first =
      rw (new_record (view s) (view t) i accepted.new accepted.records accepted.within)
      (record { busy = λ is. accepted.busy (ap (λ (w : Worker). w.kind) is); asks_it = accepted.asks_it })

  followed_first : Followed i start.asked before t before
  followed_first = inl (record { works = works_first; since = []; turns = sym (append-nil before); unended = none_nil (OwnEnd i) })

  state_last : state_through first steps ≡ state_through t start.later
  unfolding state_through
  state_last = ap (state_through first) start.cut ∙ state_through_append first start.earlier (calls start.call ∷ start.later)

  trace_last : trace_through first steps ≡ before ++ trace_through t start.later
  unfolding trace_through
  trace_last =
      ap (trace_through first) start.cut
      ∙ trace_through_append first start.earlier (calls start.call ∷ start.later)
      ∙ ap (λ (l : List Entry). before ++ (l ++ trace_through t start.later)) (start_turns s start.is)

  followed_last : Followed i start.asked before (state_through first steps) (trace_through first steps)
  followed_last =
      subst (λ (u : State). Followed i start.asked before u (trace_through first steps)) (sym state_last)
      (subst (Followed i start.asked before _) (sym trace_last)
      (steps_last (Followed i start.asked before) (call_keeps (Followed i start.asked before) (followed_lasts i start.asked before))
      (move_followed i start.asked before) start.later t before followed_first))

  -- §17.3, §19.6: each start that was accepted began a call that has ended, or its worker is at it still, or was retired from it
  pub starts_accounted : ((c : EndedCall) × BegunBy first steps start c) ⊎ (StillAt first steps start ⊎ RetiredFrom first steps start)
  starts_accounted = by followed_last
    where
      ended :
          (e : Entry) (end : Over i start.asked before (trace_through first steps))
          → end.entry ≡ e
          → ((c : EndedCall) × BegunBy first steps start c) ⊎ (StillAt first steps start ⊎ RetiredFrom first steps start)
      ended (acted e) end is =
          let fate : Fate i start.asked before (acted e) = rw is at end.fate in
          inl (
            call_of (before ++ end.between) e fate.0,
            begun_by_lem first steps start end.between e end.later fate.0 (rw is at end.turns)
                (rests_then first ready start.earlier i (ap (λ (w : Worker). w.kind) accepted.was)) end.unended (rw is at end.own)
                (rw is at end.asks_it) fate.1,
          )
      ended (retired r) end is =
          inr (inr (record {
            since = end.between;
            retiring = r;
            rest = end.later;
            turns = (rw is at end.turns) ∙ append_assoc before end.between (retired r ∷ end.later);
            worker = rw is at end.own;
            asks_it = rw is at end.asks_it;
            unended = end.unended;
          }))

      by :
          Followed i start.asked before (state_through first steps) (trace_through first steps)
          → ((c : EndedCall) × BegunBy first steps start c) ⊎ (StillAt first steps start ⊎ RetiredFrom first steps start)
      by (inl on) =
          inr (inl (record {
            busy = on.works.busy;
            asks_it = on.works.asks_it;
            since = on.since;
            turns = on.turns;
            unended = on.unended;
          }))
      by (inr end) = ended end.entry end refl
