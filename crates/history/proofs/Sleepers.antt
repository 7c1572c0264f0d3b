-- What the records tell of sleepers is what was called and done. Assumes nothing.
use Prim.Native.Nat.{ℕ, ◌+◌, ◌<◌}
use mathlib.Core.Bool.{Bool, true, false, cond, ◌&&◌, and-false, and-eq-true_iff}
use mathlib.Core.List.{List, [], ◌∷◌, ◌++◌, map}
use mathlib.Core.Logic.{◌⊎◌, inl, inr}
use mathlib.Core.Path.{◌≡◌, refl, sym, ap, subst, ◌∙◌}
use native.Mathlib.Decide.{ℕ_discrete}
use native.Mathlib.Omega.{arith}
use lib.Dec.{eqb}
use lib.ListN.{length, set, take}
use lib.Seq.{set-get_or, get_or-set_same, get_or-set_other}
use borrow.Author.Tests.{eqb-true, eq-eqb, ne_eqb, leb-false}
use Rattle.mark.proofs.Choices.{by_cases, not_both}
use Rattle.turn.specs.declared.Worker.{Worker}
use Rattle.turn.specs.Worker.{idle, look_for, insert_of, remove_of, may_stand, broken}
use Rattle.turn.specs.Asleep.{capped, slept}
use Rattle.turn.proofs.Sound.{Sound, not_broken}
use Rattle.turn.proofs.Kept.{not_idle, busy, sound_some, look_kept, insert_kept, remove_kept, turn_kept}
use Rattle.turn.proofs.Asleep.{slept_busy, by_slept, asleep_sound, capped_more, turn_awake}
use Rattle.engine.specs.declared.Floor.{Floor}
use Rattle.engine.specs.Calls.{Started}
use Rattle.engine.specs.Refusals.{spent, start_number}
use Rattle.engine.specs.Calls.{blank, record_in, spending, start_call}
use Rattle.engine.proofs.Sleeping.{own_after, other_after}
use Rattle.history.specs.Trace.{Turn, Retiring, Entry, acted, retired, who, By, None, Continues, total}
use Rattle.history.specs.Counts.{is_turn, one_if, turns_in}
use Rattle.history.specs.History.{State, Call, look, insert, remove, turn, retire, run, show, count, orders, ask_total, ask_next, listed_of, seat_of, run_of}
use Rattle.history.specs.History.{started_as, after, entries, state_from, trace_from, state}
use Rattle.history.specs.Asleep.{slept_through, started_on, starts_on, asleep_from, Sleeps}
use Rattle.history.proofs.Counts.{total_append}
use Rattle.history.proofs.Cuts.{no_cut}
use Rattle.history.proofs.Later.{CutSince, newest, older, cut_since, some_front, some_last}
use Rattle.history.proofs.Histories.{state_from_append}
use Rattle.history.proofs.Listed.{up_is, listed_within}
use Rattle.history.proofs.Ready.{Ready, rests}
use Rattle.history.proofs.Starting.{not_refused}
use Rattle.history.proofs.Steps.{Begins, Turns, Retires, step_of, Lasts, by_turn, by_retiring, calls_last}
use Rattle.history.proofs.Account.{goes_busy}
use Rattle.history.proofs.Runs.{run_state, run_trace}
use Rattle.history.proofs.SameSizes.{state_workers}
use Rattle.history.proofs.Unbroken.{state_unbroken}

-- ---- one worker's record through what is done

-- a sound record was sound before it slept through a turn
sound_was : (w : Worker) → Sound (slept w) → Sound w
sound_was w = by_slept (λ (v : Worker). Sound v → Sound w) w (λ s v. s) (λ s. s)

module _ (i : ℕ) where
  -- an accepted start of another leaves it
  begins_other : {s t : State} {v : Worker} {spent : List ℕ} (start : Begins s v spent t) → (i ≡ start.at → ⊥) → listed_of t i ≡ listed_of s i
  begins_other {s} {t} {v} start other = rw start.listed (get_or-set_other s.records start.at i v blank other)

  -- so does a retiring of another
  retires_other : {s t : State} {r : Retiring} → Retires s r t → (i ≡ r.worker → ⊥) → listed_of t i ≡ listed_of s i
  retires_other {s} {t} {r} act other = rw act.listed (get_or-set_other s.records r.worker i idle blank other)

  -- a turn of another is slept through
  turns_other : {s t : State} {e : Turn} → Turns s e t → (i ≡ e.worker → ⊥) → listed_of t i ≡ slept (listed_of s i)
  turns_other {s} {t} {e} act other = rw act.listed (other_after s.records e.worker (step_of s e).stepped.worker i other)

module _ {s t : State} {e : Turn} (act : Turns s e t) where
  -- its own worker's record is what the place table makes of it
  turns_own : listed_of t e.worker ≡ (step_of s e).stepped.worker
  turns_own = rw act.listed (own_after s.records e.worker (step_of s e).stepped.worker (listed_within s e.worker act.acts.within))

  -- and is awake
  own_awake : (listed_of t e.worker).asleep ≡ 0
  own_awake =
      let up : e.was.asleep ≡ 0 = ap (λ (w : Worker). w.asleep) (act.acts.was ∙ up_is s e.worker) in
      rw turns_own (turn_awake _ e.was act.ok up)

-- ---- turns of a trace with one entry more

turn_more : (es : List Entry) (e : Turn) → turns_in (es ++ (acted e ∷ [])) ≡ turns_in es + 1
unfolding total
turn_more es e = total_append (λ (x : Entry). one_if (is_turn x)) es (acted e ∷ [])

turn_same : (es : List Entry) (r : Retiring) → turns_in (es ++ (retired r ∷ [])) ≡ turns_in es
unfolding total
turn_same es r = omega (arith, total_append (λ (x : Entry). one_if (is_turn x)) es (retired r ∷ []))

-- ---- since a start, or a turn by which the call goes on

-- worker i is at a call in s, and has slept through so many turns
record Asleep (s : State) (i n : ℕ) : Type 0 where
  sound : Sound (listed_of s i)
  for : (listed_of s i).asleep ≡ capped n

-- another number of turns
asleep_as : {s : State} {i m n : ℕ} → m ≡ n → Asleep s i m → Asleep s i n
asleep_as {s} {i} = subst (Asleep s i)

-- a record that stays is as long asleep
asleep_still : {s t : State} {i n : ℕ} → listed_of t i ≡ listed_of s i → Asleep s i n → Asleep t i n
asleep_still same a = record { sound = rw same a.sound; for = rw same a.for }

-- a turn of another is one more
asleep_more : {s t : State} {i n : ℕ} → listed_of t i ≡ slept (listed_of s i) → Asleep s i n → Asleep t i (n + 1)
asleep_more {s} {t} {i} {n} is a =
    let w = listed_of s i in
    let now = is ∙ slept_busy w a.sound in
    record {
      sound = rw now (asleep_sound _ w a.sound);
      for = rw now (ap (λ (m : ℕ). capped (m + 1)) a.for ∙ capped_more n);
    }

module _ (i : ℕ) where
  -- whoever is at a call is not the one that a start is for
  begins_asleep : {s t : State} {v : Worker} {spent : List ℕ} {n : ℕ} → Begins s v spent t → Asleep s i n → Asleep t i n
  begins_asleep {s} start a = asleep_still (begins_other i start (λ is. sound_some _ a.sound (ap (listed_of s) is ∙ start.rested))) a

  -- turns of others are counted on
  abbrev Counts : ℕ → State → List Entry → List ℕ → Type 0
  Counts n s past ts = None (By i) past → Asleep s i (n + turns_in past)

  front : (past : List Entry) (d : Entry) → None (By i) (past ++ (d ∷ [])) → None (By i) past
  front past d none some = none (some_front (By i) past (d ∷ []) some)

  another : (past : List Entry) (d : Entry) → None (By i) (past ++ (d ∷ [])) → By i d → ⊥
  another past d none own = none (some_last (By i) past d own)

  counts_on : (n : ℕ) → Lasts (Counts n)
  unfolding total
  counts_on n =
      record {
        begins = λ past ts start old none. begins_asleep start (old none);
        turns = λ {s} {t} {e} past ts act old none.
            asleep_as (omega (arith, turn_more past e))
            (asleep_more (turns_other i act (λ is. another past (acted e) none (sym is))) (old (front past (acted e) none)));
        retires = λ {s} {t} {r} past ts act old none.
            asleep_as (omega (arith, turn_same past r))
            (asleep_still (retires_other i act (λ is. another past (retired r) none (sym is))) (old (front past (retired r) none)));
      }

  -- so they are over calls
  calls_count : (n : ℕ) (s : State) (cs : List Call) → Asleep s i n → None (By i) (trace_from s cs) → Asleep (state_from s cs) i (n + turns_in (trace_from s cs))
  unfolding total
  calls_count n s cs a = calls_last (Counts n) (counts_on n) cs s [] [] (λ none. asleep_as (omega arith) a)

-- ---- after its turn

-- just after a turn by which its call goes on a worker is at its call, and awake
own_asleep : {s t : State} {e : Turn} → Turns s e t → Continues (acted e) → Asleep t e.worker 0
own_asleep {s} {t} {e} act goes = record { sound = rw (turns_own act) (by (turn_kept _ e.was act.ok)); for = own_awake act }
  where
    by : Sound (step_of s e).stepped.worker ⊎ ((step_of s e).stepped.worker ≡ idle) → Sound (step_of s e).stepped.worker
    by (inl sound) = sound
    by (inr idles) = absurd (goes_busy act goes idles)

-- since such a turn
abbrev SinceTurn : State → List Entry → List ℕ → Type 0
SinceTurn s past ts =
    (before : List Entry) (e : Turn) (later : List Entry)
    → past ≡ before ++ (acted e ∷ later)
    → Continues (acted e)
    → None (By e.worker) later
    → Asleep s e.worker (turns_in later)

module _ {s t : State} (past : List Entry) (ts : List ℕ) (old : SinceTurn s past ts) where
  -- what was done since is another's
  later_turn : {e : Turn} → Turns s e t → SinceTurn t (past ++ (acted e ∷ [])) ts
  unfolding total
  later_turn {e} act before d later cut goes none = by (cut_since (acted e) (acted d) later past before cut)
    where
      by : CutSince past (acted e) before (acted d) later → Asleep t d.worker (turns_in later)
      by (newest is at empty) =
          subst (λ (j : ℕ). Asleep t j (turns_in later)) (ap who (sym at))
          (asleep_as (ap turns_in (sym empty)) (own_asleep act (subst Continues at goes)))
      by (older rest was since) =
          let none_then : None (By d.worker) (rest ++ (acted e ∷ [])) = rw (← since) none in
          let i = d.worker in
          asleep_as (sym (turn_more rest e) ∙ ap turns_in (sym since))
          (asleep_more (turns_other i act (λ is. another i rest (acted e) none_then (sym is))) (old before d rest was goes (front i rest (acted e) none_then)))

  later_retiring : {r : Retiring} → Retires s r t → SinceTurn t (past ++ (retired r ∷ [])) ts
  unfolding total
  later_retiring {r} act before d later cut goes none = by (cut_since (retired r) (acted d) later past before cut)
    where
      by : CutSince past (retired r) before (acted d) later → Asleep t d.worker (turns_in later)
      by (newest is at empty) = absurd (subst Continues at goes)
      by (older rest was since) =
          let none_then : None (By d.worker) (rest ++ (retired r ∷ [])) = rw (← since) none in
          let i = d.worker in
          asleep_as (sym (turn_same rest r) ∙ ap turns_in (sym since))
          (asleep_still (retires_other i act (λ is. another i rest (retired r) none_then (sym is))) (old before d rest was goes (front i rest (retired r) none_then)))

since_turn_lasts : Lasts SinceTurn
since_turn_lasts =
    record {
      begins = λ past ts start old before e later cut goes none. begins_asleep e.worker start (old before e later cut goes none);
      turns = λ past ts act old. later_turn past ts old act;
      retires = λ past ts act old. later_retiring past ts old act;
    }

-- ---- call by call

-- where worker i is at a call it has slept through so many turns
abbrev If : State → ℕ → ℕ → Type 0
If s i n = Sound (listed_of s i) → (listed_of s i).asleep ≡ capped n

-- entries after entries
slept_append : (i n : ℕ) (es fs : List Entry) → slept_through i n (es ++ fs) ≡ slept_through i (slept_through i n es) fs
unfolding slept_through
slept_append i n [] fs = refl
slept_append i n (acted e ∷ es) fs = slept_append i (slept_through i n (acted e ∷ [])) es fs
slept_append i n (retired r ∷ es) fs = slept_append i (slept_through i n (retired r ∷ [])) es fs

module _ (i n : ℕ) where
  -- a turn
  turn_if : (s : State) (j : ℕ) → If s i n → If (after s (turn j)) i (slept_through i n (entries s (turn j)))
  unfolding slept_through
  turn_if s j old = by_turn s j (λ (t : State) (es : List Entry). If t i (slept_through i n es)) (λ e t act. by act (ℕ_discrete i e.worker)) old
    where
      by : {t : State} {e : Turn} → Turns s e t → Dec (i ≡ e.worker) → If t i (cond (eqb e.worker i) 0 (n + 1))
      by {t} {e} act (yes is) sound = rw (eq-eqb e.worker i (sym is), is) (own_awake act)
      by {t} {e} act (no other) sound =
          let now = turns_other i act other in
          let was = sound_was _ (subst Sound now sound) in
          rw (ne_eqb e.worker i (λ same. other (sym same))) (asleep_more {s = s} {t = t} {i = i} {n = n} now (record { sound = was; for = old was })).for

  -- a retiring, which is no turn
  retire_if : (s : State) (j : ℕ) → If s i n → If (after s (retire j)) i (slept_through i n (entries s (retire j)))
  unfolding slept_through
  retire_if s j old = by_retiring s j (λ (t : State) (es : List Entry). If t i (slept_through i n es)) (λ r t act. by act (ℕ_discrete i r.worker)) old
    where
      by : {t : State} {r : Retiring} → Retires s r t → Dec (i ≡ r.worker) → If t i n
      by {t} {r} act (yes is) sound = absurd (sound_some _ sound (ap (listed_of t) is ∙ own_idle))
        where
          own_idle : listed_of t r.worker ≡ idle
          own_idle = rw act.listed (get_or-set_same s.records r.worker idle blank (listed_within s r.worker act.acts.within))
      by {t} {r} act (no other) sound = let same = retires_other i act other in rw same (old (subst Sound same sound))

  -- a start on worker j
  start_if :
      (s : State) (j : ℕ) (late : Bool) (v : Worker) (g : Floor)
      → v.asleep ≡ 0
      → If s i n
      → let x = start_call s.board (seat_of s j) (listed_of s j) late v g in
      If (started_as s j x) i (cond (started_on i j x) 0 n)
  unfolding start_call
  start_if s j late v g up old =
      let number = start_number s.floor s.board (length s.records) j (listed_of s j) late in
      by_cases (λ (x : Started). If (started_as s j x) i (cond (started_on i j x) 0 n)) (eqb number 0) _ _
      (λ is. accepted (not_refused s.floor s.board (length s.records) j (listed_of s j) late (eqb-true number 0 is)).within (ℕ_discrete i j))
      (λ isnot. rw (isnot, and-false (eqb j i), set-get_or s.records j blank) old)
    where
      accepted : j < length s.records → Dec (i ≡ j) → Sound (record_in (set s.records j v) i) → (record_in (set s.records j v) i).asleep ≡ capped (cond (eqb j i && true) 0 n)
      accepted within (yes is) = λ sound. rw (eq-eqb j i (sym is), is, get_or-set_same s.records j v blank within) up
      accepted within (no other) = rw (ne_eqb j i (λ same. other (sym same)), get_or-set_other s.records j i v blank other) old

-- turns one after another
turns_if :
    (i n : ℕ) (s : State) (turns : List ℕ) → If s i n
    → If (state_from s (map turn turns)) i (slept_through i n (trace_from s (map turn turns)))
unfolding state_from trace_from slept_through
turns_if i n s [] old = old
turns_if i n s (j ∷ turns) old =
    rw (slept_append i n (entries s (turn j)) (trace_from (after s (turn j)) (map turn turns)))
    (turns_if i (slept_through i n (entries s (turn j))) (after s (turn j)) turns (turn_if i n s j old))

-- a call
call_if : (i n : ℕ) (s : State) (c : Call) → If s i n → If (after s c) i (cond (starts_on i s c) 0 (slept_through i n (entries s c)))
unfolding slept_through
call_if i n s (look j lot) old = start_if i n s j false (look_for lot) s.floor refl old
call_if i n s (insert j lot t) old = start_if i n s j (spent s.floor t.number) (insert_of lot t.number) (spending s.floor t.number) refl old
call_if i n s (remove j lot) old = start_if i n s j false (remove_of lot) s.floor refl old
call_if i n s (turn j) old = turn_if i n s j old
call_if i n s (retire j) old = retire_if i n s j old
call_if i n s (run turns) old =
    subst (λ (t : State). If t i (slept_through i n (entries s (run turns)))) (sym (run_state s turns))
    (rw (run_trace s turns) (turns_if i n s (take (run_of s turns).handed.totals.turns turns) old))
call_if i n s (show lot) old = old
call_if i n s count old = old
call_if i n s (orders depth) old = old
call_if i n s ask_total old = old
call_if i n s (ask_next from) old = old

-- calls
calls_if : (i n : ℕ) (s : State) (cs : List Call) → If s i n → If (state_from s cs) i (asleep_from i n s cs)
unfolding state_from asleep_from
calls_if i n s [] old = old
calls_if i n s (c ∷ cs) old = calls_if i (cond (starts_on i s c) 0 (slept_through i n (entries s c))) (after s c) cs (call_if i n s c old)

-- ---- just after its start

-- a start on worker j that is one on worker i, and is accepted
start_asleep :
    (i : ℕ) (s : State) (j : ℕ) (late : Bool) (v : Worker) (g : Floor)
    → v.asleep ≡ 0
    → (v.place ≡ 0 → ⊥)
    → (late ≡ false → broken v ≡ false)
    → let x = start_call s.board (seat_of s j) (listed_of s j) late v g in
    started_on i j x ≡ true
    → Asleep (started_as s j x) i 0
unfolding start_call
start_asleep i s j late v g up some kept =
    let number = start_number s.floor s.board (length s.records) j (listed_of s j) late in
    by_cases (λ (x : Started). started_on i j x ≡ true → Asleep (started_as s j x) i 0) (eqb number 0) _ _
    (λ is on.
    let known = not_refused s.floor s.board (length s.records) j (listed_of s j) late (eqb-true number 0 is) in
    let own : j ≡ i = eqb-true j i ((and-eq-true_iff (eqb j i) true).0 on).0 in
    let now : record_in (set s.records j v) i ≡ v = rw (← own) (get_or-set_same s.records j v blank known.within) in
    record { sound = rw now (not_broken v (kept known.early) (busy v some)); for = rw now up })
    (λ isnot on. not_both _ (rw (isnot) (and-false (eqb j i))) on)

-- a call of the library that is such a start
starts_asleep : (i : ℕ) (s : State) (c : Call) → starts_on i s c ≡ true → Asleep (after s c) i 0
starts_asleep i s (look j lot) = start_asleep i s j false (look_for lot) s.floor refl (omega arith) (λ early. look_kept lot)
starts_asleep i s (insert j lot t) =
    start_asleep i s j (spent s.floor t.number) (insert_of lot t.number) (spending s.floor t.number) refl (omega arith)
    (λ early. insert_kept lot t.number (omega (arith, leb-false t.number s.floor.last early)))
starts_asleep i s (remove j lot) = start_asleep i s j false (remove_of lot) s.floor refl (omega arith) (λ early. remove_kept lot)
starts_asleep i s (turn j) = not_both false refl
starts_asleep i s (retire j) = not_both false refl
starts_asleep i s (run turns) = not_both false refl
starts_asleep i s (show lot) = not_both false refl
starts_asleep i s count = not_both false refl
starts_asleep i s (orders depth) = not_both false refl
starts_asleep i s ask_total = not_both false refl
starts_asleep i s (ask_next from) = not_both false refl

-- ---- histories

module _ {first : State} (ready : Ready first) (calls : List Call) where
  -- at first nobody is at a call
  ready_if : (i : ℕ) → If first i 0
  unfolding may_stand
  ready_if i sound =
      let none : (listed_of first i).kind ≡ 0 = ap (λ (w : Worker). w.kind) (sym (up_is first i)) ∙ (rests ready i).kind in
      not_both false refl (subst (λ (k : ℕ). may_stand k (listed_of first i).place ≡ true) none sound.stands)

  -- calls cut at one of them
  cut_state : (earlier : List Call) (c : Call) (later : List Call) → calls ≡ earlier ++ (c ∷ later) → state first calls ≡ state_from (after (state first earlier) c) later
  unfolding state_from
  cut_state earlier c later cut = ap (state first) cut ∙ state_from_append first earlier (c ∷ later)

  -- §20.5: wherever a stretch can begin, after every list of calls
  pub sleeps : Sleeps first calls
  sleeps =
      record {
        counted = λ i under some.
            let kept = (state_unbroken ready calls).records i (omega (arith, under, state_workers first calls)) in
            calls_if i 0 first calls (ready_if i) (not_broken _ kept (not_idle _ some));
        since_start = λ earlier c later i cut on none.
            let then = after (state first earlier) c in
            let all : 0 + turns_in (trace_from then later) ≡ turns_in (trace_from then later) = omega arith in
            rw (cut_state earlier c later cut) (asleep_as all (calls_count i 0 then later (starts_asleep i (state first earlier) c on) none)).for;
        since_turn = λ before e later cut goes none.
            (calls_last SinceTurn since_turn_lasts calls first [] [] (λ b d l c. absurd (no_cut b (acted d) l c)) before e later cut goes none).for;
      }
