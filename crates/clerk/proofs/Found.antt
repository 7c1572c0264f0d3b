-- Why a search that has found is right: at some turn of the call the lot stood with the ticket that was seen. It stood when the mark was
-- read, if the value and the key are still what they were then; and so they are where both readings of the value agree: a value changes
-- only to the ticket of an insert under way, and what was seen is none of these. Assumes nothing.
use Prim.Native.Nat.{ℕ, ◌+◌, ◌≤◌}
use mathlib.Core.List.{List, [], ◌∷◌, ◌++◌}
use mathlib.Core.Path.{◌≡◌, sym, ap, subst, ◌∙◌}
use native.Mathlib.Decide.{ℕ_discrete}
use native.Mathlib.Omega.{arith}
use lib.ListN.{length}
use Rattle.turn.specs.declared.Worker.{Worker}
use Rattle.turn.specs.declared.Stepped.{Stepped}
use Rattle.turn.specs.Worker.{idle}
use Rattle.turn.specs.Bucket.{mark_cell, key_cell, value_cell}
use Rattle.turn.proofs.Outcomes.{Same, Empty, Did, reads, loses, stores_value, stores_key, claims, commits, frees, closes}
use Rattle.turn.proofs.Outcomes as out
use Rattle.history.specs.Trace.{Turn, Retiring, Entry, acted, retired}
use Rattle.history.specs.History.{State, record_of}
use Rattle.history.specs.Values.{value_at}
use Rattle.history.specs.Cells.{cells_at, key_at, home, Holds}
use Rattle.history.proofs.Steps.{Begins, Turns, Retires, step_of}
use Rattle.history.proofs.Written.{stores_at, store_writes}
use Rattle.history.proofs.Cells.{Known, value_same, key_same, retire_value, retire_key}
use Rattle.clerk.specs.Does.{line}
use Rattle.walks.specs.Lists.{In}
use Rattle.clerk.proofs.Rows.{Rows, silent, row_at, ◌▹◌, among_first, Follow, follow}
use Rattle.clerk.proofs.Leads.{Leads, reads_leads}
use Rattle.clerk.proofs.Leads as leads
use Rattle.clerk.proofs.Deals.{held_cells}
use Rattle.clerk.proofs.Since.{since, since_other, first_or_some}
use Rattle.clerk.proofs.Sometime.{Sometime, sometime_on, sometime_now}
use Rattle.clerk.proofs.Begun.{Begun, first_turn, first_turn_within, busy_since, start_fresh}
use Rattle.clerk.proofs.Listing.{Lists}
use Rattle.clerk.proofs.Seen.{Sees, Seen}
use Rattle.clerk.proofs.Steps.{Sized, each_turn, each_retiring, each_start, own_did, was_known, start_cells}

-- where Had says of a ticket that the lot had it at some turn of the call
module _ (Had : ℕ → Type 0) (c : ℕ → ℕ) (w : Worker) where
  -- what is known at each place
  abbrev pub reasons : Rows
  reasons =
      silent  -- 0
      ∷ silent  -- 1
      ∷ silent  -- 2
      ∷ silent  -- 3
      ∷ (c (value_cell w.slot) ≡ w.seen → c (key_cell w.slot) ≡ w.key → Had w.seen)  -- 4: when the mark was read, the slot was valid
      ∷ (c (value_cell w.slot) ≡ w.seen → Had w.seen)  -- 5: and its key has been read
      ∷ silent  -- 6
      ∷ silent  -- 7
      ∷ silent  -- 8
      ∷ silent  -- 9
      ∷ ((ticket : ℕ) × Had ticket)  -- 10: the lot was found
      ∷ []

  -- what is known where the worker stands
  abbrev pub Reasons : Type 0
  Reasons = row_at reasons w.place

-- at some turn since this one a lot was in the list with this ticket
abbrev pub HadSince : ℕ → List Entry → ℕ → ℕ → Type 0
HadSince first past lot ticket = Sometime first past (In (line lot ticket))

-- the reasons of a worker with the record u, counted from this turn on
abbrev pub ReasonsFrom : ℕ → List Entry → State → ℕ → Worker → Type 0
ReasonsFrom n past s first u = Reasons (HadSince first past u.key) (cells_at s (home n u)) u

-- every worker has its reasons, from the first turn of its call on
abbrev pub Founded : ℕ → List Entry → State → Type 0
Founded n past s = (i : ℕ) → ReasonsFrom n past s (since i past) (record_of s i)

-- at the places of a start there is no reason to know
pub no_reasons : (Had : ℕ → Type 0) (c : ℕ → ℕ) (w : Worker) → w.place ≤ 2 → Reasons Had c w
no_reasons Had c w early = among_first 3 w.place (reasons Had c w) (omega arith) (tt ▹ tt ▹ tt ▹ tt)

-- ---- a worker that has no turn

-- what it had is kept, if the value that it saw stands only where it stood, and with the same key
reasons_on :
    (Had Then : ℕ → Type 0) (c d : ℕ → ℕ) (w : Worker)
    → ((ticket : ℕ) → Had ticket → Then ticket)
    → (4 ≤ w.place
    → w.place ≤ 5
    → d (value_cell w.slot) ≡ w.seen
    → (c (value_cell w.slot) ≡ w.seen) × (d (key_cell w.slot) ≡ c (key_cell w.slot)))
    → Reasons Had c w
    → Reasons Then d w
reasons_on Had Then c d w kept stood =
    let each : Follow w.place 0 (reasons Had c w) (reasons Then d w) =
    (λ at had. tt)
    ▹ (λ at had. tt)
    ▹ (λ at had. tt)
    ▹ (λ at had. tt)
    ▹ (λ at had value key. let was = stood (omega arith) (omega arith) value in kept _ (had was.0 (sym was.1 ∙ key)))
    ▹ (λ at had value. kept _ (had (stood (omega arith) (omega arith) value).0))
    ▹ (λ at had. tt)
    ▹ (λ at had. tt)
    ▹ (λ at had. tt)
    ▹ (λ at had. tt)
    ▹ (λ at had. (had.0, kept _ had.1))
    ▹ tt in
    follow w.place (reasons Had c w) (reasons Then d w) each

-- ---- the worker's own turn

-- of w, in a bucket with the cells c, whose call has its first turn at `first`
module _ (n : ℕ) (t : State) (e : Turn) (past : List Entry) (w : Worker) (first : ℕ) (c : ℕ → ℕ) where
  abbrev now : List Entry
  now = past ++ (acted e ∷ [])

  module _
      (old : Reasons (HadSince first past w.key) c w) (lists : Lists n now t) (early : first ≤ length past + 1) where
    had : (k : ℕ) → w.place ≡ k → row_at (reasons (HadSince first past w.key) c w) k
    had k is = rw (← is) old

    abbrev Then : Stepped → Type 0
    Then x = Reasons (HadSince first now x.worker.key) (cells_at t (home n x.worker)) x.worker

    by_empty : {x : Stepped} → Empty w x → Then x
    by_empty (out.none kind) = tt
    by_empty (out.free slot kind held few mark) = tt
    by_empty (out.full kind held all) = tt
    by_empty (out.ready kind held) = tt

    by_read : {x : Stepped} → Same c (cells_at t (home n w)) → Leads c w x → Then x
    by_read same (leads.begins place kind) = tt
    by_read same (leads.begins_remove place removes) = tt
    by_read same (leads.to3 place) = tt
    by_read same (leads.to4 place valid) = λ value key.
        sometime_now past (acted e) early
        (lists.all (line w.key w.seen) (record { slot = w.slot; has = (rw (same mark_cell) valid, key); value = value }))
    by_read same (leads.to5 place equal) = λ value. sometime_on past (acted e) (had 4 place (sym (same (value_cell w.slot)) ∙ value) equal)
    by_read same (leads.to2 passed more) = tt
    by_read same (leads.empty vain rest) = by_empty rest
    by_read same (leads.found place agree (out.answers kind)) = tt
    by_read same (leads.found place agree (out.refuses kind held)) = tt
    by_read same (leads.found place agree (out.gives_back kind held)) = (w.seen, sometime_on past (acted e) (had 5 place agree.0))
    by_read same (leads.to12 place matches) = tt
    by_read same (leads.to11 place other more) = tt
    by_read same (leads.not_there place removes other done) = tt
    by_read same (leads.to13 place) = tt

    founds_did : {x : Stepped} → Did c w (cells_at t (home n w)) x → Then x
    founds_did (reads same read) = by_read same (reads_leads c w read)
    founds_did (loses same swap missed) = tt
    founds_did (stores_value stored place fills) = tt
    founds_did (stores_key stored place fills) = tt
    founds_did (claims stored met place free) = tt
    founds_did (commits stored met place fills) = tt
    founds_did (frees stored place fills) = tt
    founds_did (closes stored met place removes) = tt

-- ---- a turn keeps it, and so does a start

module _
    (n : ℕ) {s t : State} {e : Turn} (past : List Entry) (sized : Sized n s) (act : Turns s e t) (known : Known s) (seen : Seen n s)
    (begun : Begun past s) (lists : Lists n (past ++ (acted e ∷ [])) t) (old : Founded n past s) where
  abbrev i : ℕ
  i = e.worker

  abbrev v : Worker
  v = (step_of s e).stepped.worker

  abbrev after : List Entry
  after = past ++ (acted e ∷ [])

  -- what a worker had before its turn, counted from the first turn of its call
  pub own_reasons : ReasonsFrom n past s (first_turn i past) e.was
  own_reasons = by (ℕ_discrete (since i past) 0)
    where
      by : Dec (since i past ≡ 0) → ReasonsFrom n past s (first_turn i past) e.was
      by (no some) =
          subst (λ (first : ℕ). ReasonsFrom n past s first e.was) (sym (first_or_some (since i past) (length past + 1) (omega arith)))
          (was_known act (ReasonsFrom n past s (since i past)) (old i))
      by (yes none) =
          let fresh : e.was.place ≤ 2 = was_known act (λ u. u.place ≤ 2) ((begun i).fresh none).0 in
          no_reasons (HadSince (first_turn i past) past e.was.key) (cells_at s (home n e.was)) e.was fresh

  mine : ReasonsFrom n after t (since i after) v
  mine = by (ℕ_discrete v.place 0)
    where
      by : Dec (v.place ≡ 0) → ReasonsFrom n after t (since i after) v
      by (yes none) = no_reasons (HadSince (since i after) after v.key) (cells_at t (home n v)) v (omega arith)
      by (no some) =
          subst (λ (first : ℕ). ReasonsFrom n after t first v) (sym (busy_since past act (λ is. some (ap (λ (u : Worker). u.place) is))))
          (founds_did n t e past e.was (first_turn i past) (cells_at s (home n e.was)) own_reasons lists (first_turn_within i past)
          (own_did act sized))

  -- another worker, which saw a value
  module _ (j : ℕ) (other : j ≡ i → ⊥) where
    abbrev u : Worker
    u = record_of s j

    abbrev b : ℕ
    b = home n u

    module _ (from : 4 ≤ u.place) (to : u.place ≤ 5) (value : value_at t b u.slot ≡ u.seen) where
      sees : Sees n s u
      sees = seen j (omega arith) to

      -- what it saw is not the ticket of the worker whose turn it is
      not_busy : Holds e.was → u.seen ≡ e.was.ticket → ⊥
      not_busy = rw act.acts.was (λ holds is. omega (arith, (sees.busy i holds.0 is).0))

      old_value : value_at s b u.slot ≡ u.seen
      old_value =
          sym (value_same act known b u.slot (λ here slot seven holds.
          not_busy holds
          (sym value
          ∙ ap (λ (k : ℕ). value_at t k u.slot) here
          ∙ ap (value_at t e.report.bucket) slot
          ∙ store_writes act (stores_at act seven))))
          ∙ value

      old_key : key_at t b u.slot ≡ key_at s b u.slot
      old_key =
          key_same act known b u.slot sees.slot (λ here slot eight holds.
          not_busy holds
          (sym old_value
          ∙ ap (λ (k : ℕ). value_at s k u.slot) here
          ∙ ap (value_at s e.report.bucket) slot
          ∙ (held_cells act known (record { kind = holds.0; held = holds.1 })).value (omega arith)))

    others : ReasonsFrom n after t (since j after) u
    others =
        subst (λ (first : ℕ). ReasonsFrom n after t first u) (sym (since_other j past (acted e) (λ own. other (sym own))))
        (reasons_on (HadSince (since j past) past u.key) (HadSince (since j past) after u.key) (cells_at s b) (cells_at t b) u
        (λ ticket. sometime_on past (acted e)) (λ from to value. (old_value from to value, old_key from to value)) (old j))

  -- a turn keeps the reasons of every worker
  pub turn_founded : Founded n after t
  turn_founded = each_turn act (λ j u. ReasonsFrom n after t (since j after) u) mine others

-- a retiring keeps the reasons of every worker
pub retiring_founded :
    (n : ℕ) {s t : State} {r : Retiring} (past : List Entry)
    → Retires s r t
    → Founded n past s
    → Founded n (past ++ (retired r ∷ [])) t
retiring_founded n {s} {t} {r} past act old =
    each_retiring act (λ j u. ReasonsFrom n then t (since j then) u)
    (no_reasons (HadSince (since r.worker then) then 0) (cells_at t (home n idle)) idle (omega arith)) others
  where
    then : List Entry
    then = past ++ (retired r ∷ [])

    others : (j : ℕ) → (j ≡ r.worker → ⊥) → ReasonsFrom n then t (since j then) (record_of s j)
    others j other =
        let u = record_of s j in
        let b = home n u in
        subst (λ (first : ℕ). ReasonsFrom n then t first u) (sym (since_other j past (retired r) (λ own. other (sym own))))
        (reasons_on (HadSince (since j past) past u.key) (HadSince (since j past) then u.key) (cells_at s b) (cells_at t b) u
        (λ ticket. sometime_on past (retired r))
        (λ from to value. (sym (retire_value act b u.slot) ∙ value, retire_key act b u.slot)) (old j))

-- a start keeps the reasons of every worker
pub start_founded :
    (n : ℕ) {s t : State} {v : Worker} {spent : List ℕ} (past : List Entry)
    → Begins s v spent t
    → Founded n past s
    → Founded n past t
start_founded n {s} {t} {v} past start old =
    each_start start (λ j u. ReasonsFrom n past t (since j past) u)
    (no_reasons (HadSince (since start.starts.who past) past v.key) (cells_at t (home n v)) v (start_fresh start.kind).0)
    (λ j other.
    let u = record_of s j in
    let same = start_cells start (home n u) in
    let Had : ℕ → Type 0 = HadSince (since j past) past u.key in
    reasons_on Had Had (cells_at s (home n u)) (cells_at t (home n u)) u (λ ticket had. had)
    (λ from to value. (sym (same (value_cell u.slot)) ∙ value, same (key_cell u.slot))) (old j))
