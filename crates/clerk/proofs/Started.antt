-- Each call that ended, and each that its worker was retired from, was begun by a start that was accepted: a busy worker's start stands among
-- the calls, it asks what the worker's record asks, and no call of that worker is over since. Assumes nothing.
use Prim.Native.Nat.{ℕ, ◌+◌}
use mathlib.Core.List.{List, [], ◌∷◌, ◌++◌, append_assoc, append-nil}
use mathlib.Core.Logic.{inl, inr}
use mathlib.Core.Path.{◌≡◌, refl, sym, ap, subst, ◌∙◌}
use lib.ListN.{length}
use Rattle.turn.specs.declared.Worker.{Worker}
use Rattle.turn.specs.declared.Progress.{Progress}
use Rattle.turn.specs.declared.Progress.TheVariants.{GoesOn, Ended}
use Rattle.history.specs.Trace.{Turn, Retiring, Entry, acted, retired, who, was_of, By, OwnEnd, None}
use Rattle.history.specs.InCall.{AtRest}
use Rattle.history.specs.History.{State, Call, look, insert, remove, turn, retire, run, show, count, orders, ask_total, ask_next, record_of, after, entries}
use Rattle.history.specs.Moves.{Step, calls, moves, after_step, entries_by, state_through, trace_through}
use Rattle.history.proofs.View.{each_worker}
use Rattle.history.proofs.States.{view}
use Rattle.history.proofs.Ready.{Ready, rests}
use Rattle.history.proofs.Through.{state_through_then, trace_through_then}
use Rattle.history.proofs.Cuts.{no_cut, none_nil, none_more}
use Rattle.history.proofs.Later.{CutLast, last, sooner, cut_last, none_last}
use Rattle.history.proofs.Numbered.{answered_ends}
use Rattle.history.proofs.Steps.{Turns, Retires, step_of, turn_lasts, run_lasts, by_retiring}
use Rattle.history.proofs.Account.{ended_idle, goes_busy, still_on}
use Rattle.clerk.specs.Does.{Asked}
use Rattle.clerk.specs.Calls.{EndedCall, IsCallOf, asks}
use Rattle.clerk.specs.Clerk.{IsStart, looks, inserts, removes, Start, BegunBy, AtRetiring, RetiredAt}
use Rattle.clerk.proofs.Since.{first_or, since, first_since}
use Rattle.clerk.proofs.Rests.{rest_on, awaits}
use Rattle.clerk.proofs.Enumerated.{call_of, call_is, cut_at_end, one_call_an_end}
use Rattle.clerk.proofs.Steps.{busy_kind, each_turn, each_retiring, goes_asks}
use Rattle.clerk.proofs.Starting.{Tried, taken, refused, start_tried}

-- ---- the call that a start began

module _ (first : State) (steps : List Step) (start : Start first steps) where
  abbrev before : List Entry
  before = trace_through first start.earlier

  -- where its worker was at rest before a start, the first turn since then that ends a call of that worker ends the one that the start began
  pub begun_by_lem :
      (between : List Entry) (e : Turn) (later : List Entry) (answer : ℕ)
      → trace_through first steps ≡ (before ++ between) ++ (acted e ∷ later)
      → AtRest start.worker before
      → None (OwnEnd start.worker) between
      → By start.worker (acted e)
      → asks e.was ≡ start.asked
      → e.report.progress ≡ Ended answer
      → BegunBy first steps start (call_of (before ++ between) e answer)
  begun_by_lem between e later answer cut rested unended own asked ended =
      let i = start.worker in
      let past = before ++ between in
      let a = awaits i between unended in
      let same : past ≡ (before ++ a.waiting) ++ a.rest =
      ap (λ (l : List Entry). before ++ l) a.is ∙ sym (append_assoc before a.waiting a.rest) in
      record {
        is = call_is (trace_through first steps) past e later cut answer ended;
        worker = own;
        asked = asked;
        waiting = a.waiting;
        rest = a.rest ++ (acted e ∷ later);
        turns = cut ∙ ap (λ (l : List Entry). l ++ (acted e ∷ later)) same ∙ simp append_assoc;
        others = a.others;
        first_turn =
            ap (λ (j : ℕ). first_or (since j past) (length past + 1)) own
            ∙ ap (λ (l : List Entry). first_or (since i l) (length l + 1)) same
            ∙ first_since i (before ++ a.waiting) a.rest (rest_on i before a.waiting a.others rested) a.begins a.unended;
      }

-- ---- where the call that a worker is at began

module _ (first : State) where
  -- after these calls and moves and their turns worker i is at the call that w asks, and has been since a start among them
  record AtCall (steps : List Step) (i : ℕ) (w : Worker) (past : List Entry) : Type 0 where
    start : Start first steps
    own : start.worker ≡ i
    asked : asks w ≡ start.asked
    -- the worker was at no call then, and has ended none since
    rested : AtRest start.worker (trace_through first start.earlier)
    between : List Entry
    turns : past ≡ trace_through first start.earlier ++ between
    unended : None (OwnEnd start.worker) between

  -- worker i with record w is at no call, or at one that began so
  record Stays (steps : List Step) (i : ℕ) (w : Worker) (past : List Entry) : Type 0 where
    rests : w.kind ≡ 0 → AtRest i past
    works : (w.kind ≡ 0 → ⊥) → AtCall steps i w past

  -- it is so of each worker, and each turn and each retiring so far was of a call that began so
  record Traced (steps : List Step) (s : State) (past : List Entry) : Type 0 where
    each : (i : ℕ) → Stays steps i (record_of s i) past
    turns : (before : List Entry) (e : Entry) (later : List Entry) → past ≡ before ++ (e ∷ later) → AtCall steps (who e) (was_of e) before

  -- ---- one call or move more

  module _ (steps : List Step) (a : Step) where
    -- a start among them is still among them
    abbrev start_then : Start first steps → Start first (steps ++ (a ∷ []))
    start_then start =
        record {
          earlier = start.earlier;
          call = start.call;
          later = start.later ++ (a ∷ []);
          cut = ap (λ (l : List Step). l ++ (a ∷ [])) start.cut ∙ append_assoc start.earlier (calls start.call ∷ start.later) (a ∷ []);
          worker = start.worker;
          asked = start.asked;
          is = start.is;
          accepted = start.accepted;
        }

    begun_then : {i : ℕ} {w : Worker} {past : List Entry} → AtCall steps i w past → AtCall (steps ++ (a ∷ [])) i w past
    begun_then b =
        record {
          start = start_then b.start;
          own = b.own;
          asked = b.asked;
          rested = b.rested;
          between = b.between;
          turns = b.turns;
          unended = b.unended;
        }

    stays_then : {i : ℕ} {w : Worker} {past : List Entry} → Stays steps i w past → Stays (steps ++ (a ∷ [])) i w past
    stays_then stays = record { rests = stays.rests; works = λ busy. begun_then (stays.works busy) }

    traced_then : {s : State} {past : List Entry} → Traced steps s past → Traced (steps ++ (a ∷ [])) s past
    traced_then old =
        record { each = λ i. stays_then (old.each i); turns = λ before e later cut. begun_then (old.turns before e later cut) }

  -- ---- a turn

  module _ (steps : List Step) (i : ℕ) (w : Worker) (past : List Entry) where
    -- a turn that does not end the call leaves it under way
    begun_on : (v : Worker) (e : Entry) → asks v ≡ asks w → (OwnEnd i e → ⊥) → AtCall steps i w past → AtCall steps i v (past ++ (e ∷ []))
    begun_on v e same goes b =
        record {
          start = b.start;
          own = b.own;
          asked = same ∙ b.asked;
          rested = b.rested;
          between = b.between ++ (e ∷ []);
          turns = ap (λ (l : List Entry). l ++ (e ∷ [])) b.turns ∙ append_assoc (trace_through first b.start.earlier) b.between (e ∷ []);
          unended = none_last (OwnEnd b.start.worker) b.between e b.unended (λ end. goes (end.0 ∙ b.own, end.1));
        }

    -- another worker's turn leaves a worker at rest, or its call under way
    stays_on : (e : Entry) → (By i e → ⊥) → Stays steps i w past → Stays steps i w (past ++ (e ∷ []))
    stays_on e other old =
        record {
          rests = λ none. rest_on i past (e ∷ []) (none_more (By i) e [] other (none_nil (By i))) (old.rests none);
          works = λ busy. begun_on w e refl (λ end. other end.0) (old.works busy);
        }

  -- an entry more, of a call that began so
  traced_on :
      (steps : List Step) (past : List Entry) (e : Entry)
      → AtCall steps (who e) (was_of e) past
      → ((before : List Entry) (d : Entry) (later : List Entry) → past ≡ before ++ (d ∷ later) → AtCall steps (who d) (was_of d) before)
      → (before : List Entry) (d : Entry) (later : List Entry)
      → past ++ (e ∷ []) ≡ before ++ (d ∷ later)
      → AtCall steps (who d) (was_of d) before
  traced_on steps past e mine old before d later cut = by (cut_last e d later past before cut)
    where
      by : CutLast past e before d → AtCall steps (who d) (was_of d) before
      by (last is at) = rw is (subst (λ (x : Entry). AtCall steps (who x) (was_of x) past) (sym at) mine)
      by (sooner rest cut) = old before d rest cut

  module _ (steps : List Step) {s t : State} {e : Turn} (past : List Entry) (act : Turns s e t) (old : Traced steps s past) where
    abbrev v : Worker
    v = (step_of s e).stepped.worker

    works_was : e.was.kind ≡ 0 → ⊥
    works_was = busy_kind _ _ act.ok.sound.stands

    begun_was : AtCall steps e.worker e.was past
    begun_was = (subst (λ (w : Worker). Stays steps e.worker w past) (sym act.acts.was) (old.each e.worker)).works works_was

    -- a worker whose turn goes on is at the same call, and one whose turn ends its call is at none
    mine : (p : Progress) → e.report.progress ≡ p → Stays steps e.worker v (past ++ (acted e ∷ []))
    mine GoesOn goes =
        record {
          rests = λ none. absurd (works_was (sym (still_on act (goes_busy act goes)).call.kind ∙ none));
          works = λ some. begun_on steps e.worker e.was past v (acted e) (goes_asks act goes) (λ end. end.1 goes) begun_was;
        }
    mine (Ended answer) over =
        record {
          rests = λ none.
              inr (record { older = past; entry = acted e; newer = []; cut = refl; holds = (refl, answered_ends e answer over, none_nil (By e.worker)) });
          works = λ some. absurd (some (ap (λ (x : Worker). x.kind) (ended_idle act answer over)));
        }

    turn_traced : Traced steps t (past ++ (acted e ∷ []))
    turn_traced =
        record {
          each =
              each_turn act (λ (j : ℕ) (u : Worker). Stays steps j u (past ++ (acted e ∷ [])))
              (mine e.report.progress refl) (λ j other. stays_on steps j (record_of s j) past (acted e) (λ own. other (sym own)) (old.each j));
          turns = traced_on steps past (acted e) begun_was old.turns;
        }

  -- ---- a retiring

  module _ (steps : List Step) {s t : State} {r : Retiring} (past : List Entry) (act : Retires s r t) (old : Traced steps s past) where
    abbrev now : List Entry
    now = past ++ (retired r ∷ [])

    retired_was : AtCall steps r.worker r.was past
    retired_was =
        (subst (λ (w : Worker). Stays steps r.worker w past) (sym act.acts.was) (old.each r.worker)).works
        (busy_kind _ _ act.ok.sound.stands)

    retire_traced : Traced steps t now
    retire_traced =
        record {
          each =
              each_retiring act (λ (j : ℕ) (u : Worker). Stays steps j u now)
              (record {
                rests = λ none.
                    inr (record { older = past; entry = retired r; newer = []; cut = refl; holds = (refl, (λ goes. goes), none_nil (By r.worker)) });
                works = λ some. absurd (some refl);
              })
              (λ j other. stays_on steps j (record_of s j) past (retired r) (λ own. other (sym own)) (old.each j));
          turns = traced_on steps past (retired r) retired_was old.turns;
        }

  -- ---- a start

  module _ (steps : List Step) (old : Traced steps (state_through first steps) (trace_through first steps)) where
    abbrev s : State
    s = state_through first steps

    -- after a start, accepted or refused, every worker is still at no call or at one that began so
    start_traced : (i : ℕ) (asked : Asked) (c : Call) → IsStart i asked c → Traced (steps ++ (calls c ∷ [])) (after s c) (trace_through first steps)
    start_traced i asked c is = by (start_tried s is)
      where
        by : Tried s i asked c → Traced (steps ++ (calls c ∷ [])) (after s c) (trace_through first steps)
        by (refused none same) = rw same (traced_then steps (calls c) old)
        by (taken accepted new) =
            record {
              each =
                  each_worker (view s) (view (after s c)) i new.new new.records
                  (λ (j : ℕ) (u : Worker). Stays (steps ++ (calls c ∷ [])) j u (trace_through first steps)) new.within
                  (record {
                    rests = λ none. absurd (new.busy none);
                    works = λ some. record {
                      start = record { earlier = steps; call = c; later = []; cut = refl; worker = i; asked = asked; is = is; accepted = accepted };
                      own = refl;
                      asked = new.asks_it;
                      rested = (old.each i).rests (ap (λ (x : Worker). x.kind) new.was);
                      between = [];
                      turns = sym (append-nil (trace_through first steps));
                      unended = none_nil (OwnEnd i);
                    };
                  })
                  (λ j other. stays_then steps (calls c) (old.each j));
              turns = λ before e later cut. begun_then steps (calls c) (old.turns before e later cut);
            }

    -- ---- any call

    call_traced : (c : Call) → Traced (steps ++ (calls c ∷ [])) (after s c) (trace_through first steps ++ entries s c)
    call_traced (look i lot) = rw (append-nil (trace_through first steps)) (start_traced i _ (look i lot) (looks lot))
    call_traced (insert i lot t) = rw (append-nil (trace_through first steps)) (start_traced i _ (insert i lot t) (inserts lot t))
    call_traced (remove i lot) = rw (append-nil (trace_through first steps)) (start_traced i _ (remove i lot) (removes lot))
    call_traced (turn i) =
        turn_lasts (λ (s : State) (past : List Entry) (ts : List ℕ). Traced (steps ++ (calls (turn i) ∷ [])) s past)
        (λ s t e past ts act traced. turn_traced _ past act traced) s i (trace_through first steps) [] (traced_then steps (calls (turn i)) old)
    call_traced (retire i) =
        by_retiring s i (λ (t : State) (es : List Entry). Traced (steps ++ (calls (retire i) ∷ [])) t (trace_through first steps ++ es))
        (λ r t act. retire_traced _ (trace_through first steps) act (traced_then steps (calls (retire i)) old))
        (rw (append-nil (trace_through first steps)) (traced_then steps (calls (retire i)) old))
    call_traced (run turns) =
        run_lasts (λ (s : State) (past : List Entry) (ts : List ℕ). Traced (steps ++ (calls (run turns) ∷ [])) s past)
        (λ s t e past ts act traced. turn_traced _ past act traced) s turns (trace_through first steps) []
        (traced_then steps (calls (run turns)) old)
    call_traced (show lot) = rw (append-nil (trace_through first steps)) (traced_then steps (calls (show lot)) old)
    call_traced count = rw (append-nil (trace_through first steps)) (traced_then steps (calls count) old)
    call_traced (orders depth) = rw (append-nil (trace_through first steps)) (traced_then steps (calls (orders depth)) old)
    call_traced ask_total = rw (append-nil (trace_through first steps)) (traced_then steps (calls ask_total) old)
    call_traced (ask_next from) = rw (append-nil (trace_through first steps)) (traced_then steps (calls (ask_next from)) old)

    -- a move leaves the records, and has no turn
    step_traced : (a : Step) → Traced (steps ++ (a ∷ [])) (after_step s a) (trace_through first steps ++ entries_by s a)
    step_traced (calls c) = call_traced c
    step_traced (moves m) =
        rw (append-nil (trace_through first steps))
        (record {
          each = λ i. stays_then steps (moves m) (old.each i);
          turns = λ before e later cut. begun_then steps (moves m) (old.turns before e later cut);
        })

  -- ---- histories

  -- it is so after these calls and moves
  abbrev TracedAll : List Step → Type 0
  TracedAll steps = Traced steps (state_through first steps) (trace_through first steps)

  more_traced : (steps : List Step) (a : Step) → TracedAll steps → TracedAll (steps ++ (a ∷ []))
  more_traced steps a old =
      subst (λ (t : State). Traced (steps ++ (a ∷ [])) t (trace_through first (steps ++ (a ∷ [])))) (sym (state_through_then first steps a))
      (subst (Traced (steps ++ (a ∷ [])) _) (sym (trace_through_then first steps a)) (step_traced steps old a))

  steps_traced : (more steps : List Step) → TracedAll steps → TracedAll (steps ++ more)
  steps_traced [] steps old = subst TracedAll (sym (append-nil steps)) old
  steps_traced (a ∷ more) steps old =
      subst TracedAll (append_assoc steps (a ∷ []) more) (steps_traced more (steps ++ (a ∷ [])) (more_traced steps a old))

  module _ (ready : Ready first) where
    first_traced : TracedAll []
    unfolding state_through trace_through
    first_traced =
        record {
          each = λ i. record { rests = λ none. inl (none_nil (By i)); works = λ busy. absurd (busy (rests ready i).kind) };
          turns = λ before e later cut. absurd (no_cut before e later cut);
        }

    all_traced : (steps : List Step) → TracedAll steps
    all_traced steps = steps_traced steps [] first_traced

    -- a worker that is at no call after some calls and moves is at rest after their turns
    pub rests_then : (steps : List Step) (i : ℕ) → (record_of (state_through first steps) i).kind ≡ 0 → AtRest i (trace_through first steps)
    rests_then steps i = ((all_traced steps).each i).rests

-- §17.3: each call that ended was begun by a start that was accepted
pub calls_started :
    {first : State} (ready : Ready first) (steps : List Step) (c : EndedCall)
    → IsCallOf (trace_through first steps) c
    → (start : Start first steps) × BegunBy first steps start c
calls_started {first} ready steps c is =
    let at = is.at in
    let e = at.turn in
    let past = at.before ++ at.between in
    let cut : trace_through first steps ≡ past ++ (acted e ∷ at.after) = cut_at_end (trace_through first steps) at in
    let b = (all_traced first ready steps).turns past (acted e) at.after cut in
    let now = trace_through first b.start.earlier ++ b.between in
    let cut_now : trace_through first steps ≡ now ++ (acted e ∷ at.after) = cut ∙ ap (λ (l : List Entry). l ++ (acted e ∷ at.after)) b.turns in
    let begun =
    begun_by_lem first steps b.start b.between e at.after c.answer cut_now b.rested b.unended (sym b.own) b.asked
    is.answer in
    let same : call_of now e c.answer ≡ c =
    one_call_an_end (trace_through first steps) _ c begun.is is (sym (is.last ∙ ap (λ (l : List Entry). length l + 1) b.turns)) in
    (b.start, subst (BegunBy first steps b.start) same begun)

-- §19.6: each retiring was from the call of a start that was accepted
pub retirings_started :
    {first : State} (ready : Ready first) (steps : List Step) (at : AtRetiring (trace_through first steps)) → RetiredAt first steps at
retirings_started {first} ready steps at =
    let r = at.retiring in
    let b = (all_traced first ready steps).turns at.before (retired r) at.after at.cut in
    record {
      start = b.start;
      from =
          record {
            since = b.between;
            retiring = r;
            rest = at.after;
            turns =
                at.cut
                ∙ ap (λ (l : List Entry). l ++ (retired r ∷ at.after)) b.turns
                ∙ append_assoc (trace_through first b.start.earlier) b.between (retired r ∷ at.after);
            worker = sym b.own;
            asks_it = b.asked;
            unended = b.unended;
          };
      same = refl;
      rest = refl;
    }
