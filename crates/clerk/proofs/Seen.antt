-- What a search has seen as a value. Once it has read the mark and found the slot valid, it is the ticket of no insert under way. Before
-- that it may be one, but then the slot is the one that this insert holds, and a held slot is not valid. Assumes nothing.
use Prim.Native.Nat.{ℕ, ◌≤◌}
use mathlib.Core.List.{List}
use mathlib.Core.Path.{◌≡◌, refl, sym, ap, ◌∙◌}
use native.Mathlib.Omega.{arith}
use Rattle.turn.specs.declared.Worker.{Worker}
use Rattle.turn.specs.declared.Stepped.{Stepped}
use Rattle.turn.specs.Bucket.{mark_cell}
use Rattle.turn.proofs.Outcomes.{Same, Found, Empty, Did, reads, loses, stores_value, stores_key, claims, commits, frees, closes}
use Rattle.turn.proofs.Outcomes as out
use Rattle.engine.specs.Board.{bucket_of}
use Rattle.history.specs.Trace.{Turn, Retiring}
use Rattle.history.specs.History.{State, record_of}
use Rattle.history.specs.Cells.{cells_at, mark_at, home}
use Rattle.history.proofs.Steps.{Begins, Turns, Retires, spends_on}
use Rattle.history.proofs.Cells.{Known}
use Rattle.clerk.proofs.Leads.{Leads, reads_leads}
use Rattle.clerk.proofs.Leads as leads
use Rattle.clerk.proofs.Steps.{Sized, each_turn, each_retiring, each_start, own_did, was_known}
use Rattle.clerk.proofs.Begun.{start_fresh}
use Rattle.clerk.proofs.Tickets.{Inserts, Own, Tickets, turn_same, retiring_same, start_same}

-- a search past its first reading of a value: what it saw is at most the last ticket, and if it is the ticket of an insert under way, then the
-- search has not yet read the mark, and the slot is the one that this insert holds
pub record Sees (n : ℕ) (s : State) (w : Worker) : Type 0 where
  pub slot : w.slot ≤ 2
  pub most : w.seen ≤ s.floor.last
  pub busy : (h : ℕ) → Inserts (record_of s h) → w.seen ≡ (record_of s h).ticket → (w.place ≡ 3) × Own n (record_of s h) (home n w) w.slot

-- every search past its first reading of a value
abbrev pub Seen : ℕ → State → Type 0
Seen n s = (i : ℕ) → 3 ≤ (record_of s i).place → (record_of s i).place ≤ 5 → Sees n s (record_of s i)

-- P, where a search is past its first reading of a value
abbrev Past : (Worker → Type 0) → Worker → Type 0
Past P w = 3 ≤ w.place → w.place ≤ 5 → P w

-- ---- a turn

-- a search that is over is past it no more
over_empty : {w : Worker} {x : Stepped} → Empty w x → Past (λ v. ⊥) x.worker
over_empty (out.none kind) from to = omega arith
over_empty (out.free e kind held slot mark) from to = omega arith
over_empty (out.full kind held all) from to = omega arith
over_empty (out.ready kind held) from to = omega arith

over_found : {w : Worker} {x : Stepped} → Found w x → Past (λ v. ⊥) x.worker
over_found (out.answers kind) from to = omega arith
over_found (out.refuses kind held) from to = omega arith
over_found (out.gives_back kind held) from to = omega arith

module _
    (n : ℕ) {s t : State} {e : Turn} (sized : Sized n s) (act : Turns s e t) (known : Known t) (before : Tickets n s) (after : Tickets n t)
    (seen : Seen n s) where
  abbrev w : Worker
  w = e.was

  abbrev c : ℕ → ℕ
  c = cells_at s (home n w)

  abbrev d : ℕ → ℕ
  d = cells_at t (home n w)

  few : w.slot ≤ 2
  few = act.ok.sound.slot

  -- what is known of a search stays known, until its own turn
  still : (u : Worker) → Sees n s u → Sees n t u
  still u sees =
      record {
        slot = sees.slot;
        most = rw act.last sees.most;
        busy = λ h insert is.
            let was = turn_same n act h insert in
            let own = sees.busy h was.insert (is ∙ was.ticket) in
            (own.0, was.own _ _ sees.slot own.1);
      }

  own_still : Past (Sees n t) w
  own_still from to = still w (was_known act (Past (Sees n s)) (seen e.worker) from to)

  -- a slot that an insert holds is not valid
  not_valid : (h b p : ℕ) → Inserts (record_of t h) → p ≤ 2 → Own n (record_of t h) b p → mark_at t b p ≡ 1 → ⊥
  not_valid h b p insert slot own valid =
      let two = (known.kept.sure h (insert, omega (arith, own.slot))).board in
      let here : b ≡ home t.floor.buckets (record_of t h) = own.bucket ∙ ap (bucket_of (record_of t h).key) (sym (act.buckets ∙ sized)) in
      omega (arith, rw (here, own.slot) at valid, two)

  by_lead : {x : Stepped} → Same c d → Leads c w x → Past (Sees n t) x.worker
  by_lead same (leads.to3 place) from to =
      record {
        slot = few;
        most = rw act.last (before.values (home n w) w.slot few);
        busy = λ h insert is. (refl, after.stands h (home n w) w.slot insert few (same _ ∙ is));
      }
  by_lead same (leads.to4 place valid) from to =
      let old = own_still (omega arith) (omega arith) in
      record {
        slot = few;
        most = old.most;
        busy = λ h insert is. absurd (not_valid h _ _ insert few (old.busy h insert is).1 (rw (same mark_cell) valid));
      }
  by_lead same (leads.to5 place equal) from to =
      let old = own_still (omega arith) (omega arith) in
      record { slot = few; most = old.most; busy = λ h insert is. absurd (omega (arith, place, (old.busy h insert is).0)) }
  by_lead same (leads.empty vain rest) from to = absurd (over_empty rest from to)
  by_lead same (leads.found place agree rest) from to = absurd (over_found rest from to)
  by_lead same (leads.begins place kind) from to = absurd (omega arith)
  by_lead same (leads.begins_remove place removes) from to = absurd (omega arith)
  by_lead same (leads.to2 passed more) from to = absurd (omega arith)
  by_lead same (leads.to12 place matches) from to = absurd (omega arith)
  by_lead same (leads.to11 place other more) from to = absurd (omega arith)
  by_lead same (leads.not_there place removes other done) from to = absurd (omega arith)
  by_lead same (leads.to13 place) from to = absurd (omega arith)

  mine : {x : Stepped} → Did c w d x → Past (Sees n t) x.worker
  mine (reads same read) from to = by_lead same (reads_leads c w read) from to
  mine (loses same swap missed) from to = absurd (omega arith)
  mine (stores_value stored place fills) from to = absurd (omega arith)
  mine (stores_key stored place fills) from to = absurd (omega arith)
  mine (claims stored met place free) from to = absurd (omega arith)
  mine (commits stored met place fills) from to = absurd (omega arith)
  mine (frees stored place fills) from to = absurd (omega arith)
  mine (closes stored met place removes) from to = absurd (omega arith)

  -- a turn keeps what is known of the values that searches have seen
  pub turn_seen : Seen n t
  turn_seen = each_turn act (λ j. Past (Sees n t)) (mine (own_did act sized)) (λ j other from to. still (record_of s j) (seen j from to))

-- ---- a retiring

-- a retiring keeps what is known of the values that searches have seen
pub retiring_seen : (n : ℕ) {s t : State} {r : Retiring} → Retires s r t → Seen n s → Seen n t
retiring_seen n {s} {t} act seen =
    each_retiring act (λ j. Past (Sees n t)) (λ from to. absurd (omega arith))
    (λ j other from to.
    let u = record_of s j in
    let sees = seen j from to in
    record {
      slot = sees.slot;
      most = rw act.last sees.most;
      busy = retiring_same act (λ x. (u.place ≡ 3) × Own n x (home n u) u.slot) u.seen sees.busy;
    })

-- ---- a start

-- a start keeps what is known of the values that searches have seen
pub start_seen : (n : ℕ) {s t : State} {v : Worker} {spent : List ℕ} → Begins s v spent t → Seen n s → Seen n t
start_seen n {s} {t} start seen =
    each_start start (λ j. Past (Sees n t)) (λ from to. absurd (omega (arith, (start_fresh start.kind).0)))
    (λ j other from to.
    let u = record_of s j in
    let sees = seen j from to in
    record {
      slot = sees.slot;
      most = omega (arith, sees.most, spends_on start.spends);
      busy = start_same start (λ x. (u.place ≡ 3) × Own n x (home n u) u.slot) u.seen sees.most sees.busy;
    })
