-- A worker that has a call under way has had a turn of it, or stands as its start left it. Assumes nothing.
use Prim.Native.Nat.{ℕ, ◌+◌, ◌≤◌}
use mathlib.Core.List.{List, [], ◌∷◌, ◌++◌}
use mathlib.Core.Path.{◌≡◌, refl, sym, ap, ◌∙◌}
use native.Mathlib.Decide.{ℕ_discrete}
use native.Mathlib.Omega.{arith}
use lib.ListN.{length}
use Rattle.turn.specs.declared.Worker.{Worker}
use Rattle.turn.specs.declared.Progress.{Progress}
use Rattle.turn.specs.declared.Progress.TheVariants.{GoesOn, Ended}
use Rattle.turn.specs.Worker.{idle}
use Rattle.history.specs.Trace.{Turn, Retiring, Entry, acted, retired, Continues}
use Rattle.history.specs.History.{State, record_of}
use Rattle.history.proofs.Numbered.{answered_ends}
use Rattle.history.proofs.Starting.{StartOf, of_look, of_insert, of_remove}
use Rattle.history.proofs.Steps.{Begins, Turns, Retires, step_of}
use Rattle.history.proofs.Account.{ended_idle, goes_busy, still_on}
use Rattle.clerk.proofs.Since.{first_or, first_or_some, since, since_other, since_goes, since_ends, since_within}
use Rattle.clerk.proofs.Steps.{busy_kind, each_turn, each_retiring, each_start}

-- the record w of a worker whose call has its first turn at k, or had none where k is 0
pub record Under (k : ℕ) (w : Worker) : Type 0 where
  pub fresh : k ≡ 0 → (w.place ≤ 2) × (w.slot ≡ 0)
  pub rests : w.kind ≡ 0 → k ≡ 0

-- every worker has had a turn of its call, or stands as its start left it
abbrev pub Begun : List Entry → State → Type 0
Begun past s = (i : ℕ) → Under (since i past) (record_of s i)

-- ---- the first turn of a call, over a turn of its worker

-- the first turn of the call that a turn of the worker belongs to
abbrev pub first_turn : ℕ → List Entry → ℕ
first_turn i past = first_or (since i past) (length past + 1)

-- the first turn of a call is turn 1 at the earliest, and at the latest the turn that comes next
first_turn_among : (i : ℕ) (past : List Entry) → (1 ≤ first_turn i past) × (first_turn i past ≤ length past + 1)
first_turn_among i past = by (ℕ_discrete (since i past) 0)
  where
    by : Dec (since i past ≡ 0) → (1 ≤ first_turn i past) × (first_turn i past ≤ length past + 1)
    by (yes none) = rw none (omega arith, omega arith)
    by (no some) = rw (first_or_some (since i past) (length past + 1) (omega arith)) (omega arith, omega (arith, since_within i past))

-- the first turn of a call is the turn that comes next at the latest
pub first_turn_within : (i : ℕ) (past : List Entry) → first_turn i past ≤ length past + 1
first_turn_within i past = (first_turn_among i past).1

-- ---- a turn

module _ {s t : State} {e : Turn} (past : List Entry) (act : Turns s e t) where
  abbrev v : Worker
  v = (step_of s e).stepped.worker

  abbrev now : List Entry
  now = past ++ (acted e ∷ [])

  -- a worker that is busy after its turn has not ended its call
  busy_goes : (v ≡ idle → ⊥) → Continues (acted e)
  busy_goes busy = by e.report.progress refl
    where
      by : (p : Progress) → e.report.progress ≡ p → Continues (acted e)
      by GoesOn goes = goes
      by (Ended answer) over = absurd (busy (ended_idle act answer over))

  -- the call of a worker that is busy after its turn is under way, since the same turn
  pub busy_since : (v ≡ idle → ⊥) → since e.worker now ≡ first_turn e.worker past
  busy_since busy = since_goes e.worker past (acted e) refl (busy_goes busy)

  by_progress : (p : Progress) → e.report.progress ≡ p → Under (since e.worker now) v
  by_progress GoesOn goes =
      record {
        fresh = λ none. absurd (omega (arith, since_goes e.worker past (acted e) refl goes, (first_turn_among e.worker past).0));
        rests = λ none. absurd (busy_kind _ _ act.ok.sound.stands (sym (still_on act (goes_busy act goes)).call.kind ∙ none));
      }
  by_progress (Ended answer) over =
      let is : v ≡ idle = ended_idle act answer over in
      record {
        fresh = λ none. rw is (omega arith, refl);
        rests = λ same. since_ends e.worker past (acted e) refl (answered_ends e answer over);
      }

  -- the record that a turn leaves has had that turn, or rests
  pub own_under : Under (since e.worker now) v
  own_under = by_progress e.report.progress refl

  -- a turn leaves every worker with a turn of its call, or as its start left it
  pub turn_begun : Begun past s → Begun now t
  turn_begun old =
      each_turn act (λ j u. Under (since j now) u) own_under
      (λ j other. rw (since_other j past (acted e) (λ own. other (sym own))) (old j))

-- a retiring leaves its worker at no call, and every other with a turn of its call, or as its start left it
pub retiring_begun :
    {s t : State} {r : Retiring} (past : List Entry) → Retires s r t → Begun past s → Begun (past ++ (retired r ∷ [])) t
retiring_begun {r = r} past act old =
    each_retiring act (λ j u. Under (since j (past ++ (retired r ∷ []))) u)
    (record { fresh = λ none. (omega arith, refl); rests = λ is. since_ends r.worker past (retired r) refl (λ goes. goes) })
    (λ j other. rw (since_other j past (retired r) (λ own. other (sym own))) (old j))

-- a record that a start leaves is as its start left it
pub start_fresh : {v : Worker} → StartOf v → (v.place ≤ 2) × (v.slot ≡ 0)
start_fresh (of_look lot) = (omega arith, refl)
start_fresh (of_insert lot t) = (omega arith, refl)
start_fresh (of_remove lot) = (omega arith, refl)

-- a start leaves every worker with a turn of its call, or as its start left it
pub start_begun : {s t : State} {v : Worker} {spent : List ℕ} (past : List Entry) → Begins s v spent t → Begun past s → Begun past t
start_begun past start old =
    each_start start (λ j u. Under (since j past) u)
    (record {
      fresh = λ none. start_fresh start.kind;
      rests = λ is. (old start.starts.who).rests (ap (λ (w : Worker). w.kind) start.starts.was);
    })
    (λ j other. old j)
