-- On an opened board every slot that is being inserted is held by a worker: a turn makes a mark 2 only by its claim, and a worker lets a
-- slot go only by the commit or the free that takes the mark from it. Assumes nothing.
use Prim.Native.Nat.{ℕ, ◌≤◌, ◌<◌}
use mathlib.Core.List.{List, []}
use mathlib.Core.Logic.{◌⊎◌, inl, inr}
use mathlib.Core.Path.{◌≡◌, refl, sym, ap, subst, ◌∙◌}
use native.Mathlib.Decide.{ℕ_discrete}
use native.Mathlib.Omega.{arith}
use lib.ListN.{length, length-set}
use Rattle.mark.specs.Word.{mark_of, set_mark}
use Rattle.mark.proofs.Fields.{mark_set, mark_set_other, mark_bump}
use Rattle.turn.specs.declared.Worker.{Worker}
use Rattle.turn.specs.declared.Stepped.{Stepped}
use Rattle.turn.specs.Worker.{no_slot, idle, claimed}
use Rattle.turn.specs.Bucket.{mark_cell}
use Rattle.turn.specs.Places.{claim, filled}
use Rattle.turn.proofs.Outcomes.{Found, answers, refuses, gives_back, Empty, none, free, full, ready}
use Rattle.turn.proofs.Outcomes.{Did, reads, loses, stores_value, stores_key, claims, commits, frees, closes}
use Rattle.history.specs.Trace.{Turn, Retiring}
use Rattle.history.specs.History.{State, Call, record_of, state, workers_of}
use Rattle.history.specs.Cells.{cells_at, mark_at, home, Holds}
use Rattle.history.proofs.View.{new_record, old_record}
use Rattle.history.proofs.States.{view}
use Rattle.history.proofs.Ready.{Ready}
use Rattle.history.proofs.Beginning.{history_good}
use Rattle.history.proofs.Through.{Stretch}
use Rattle.history.proofs.Steps.{Begins, Turns, Retires, step_of, Lasts, calls_last}
use Rattle.history.proofs.Account.{other_cells, turn_account, was_home, still_home}
use Rattle.history.proofs.Cells.{holds_busy, retire_marks, retire_empties}
use Rattle.clerk.specs.Clerk.{IsHeldBy}
use Rattle.clerk.proofs.Leads.{Leads, reads_leads}
use Rattle.clerk.proofs.Leads as leads

-- ---- in the cells of a bucket

-- an insert that holds slot p
abbrev HasSlot : Worker → ℕ → Type 0
HasSlot w p = Holds w × (w.held ≡ p)

module _ (w : Worker) (p : ℕ) (has : HasSlot w p) where
  -- an insert that finds its lot while it holds a slot goes to give the slot back
  found_has : {x : Stepped} → Found w x → HasSlot x.worker p
  found_has (answers look) = absurd (omega (arith, has.0.0))
  found_has (refuses kind held) = absurd (omega (arith, has.0.1))
  found_has (gives_back kind held) = has

  -- an insert that finds no lot while it holds a slot goes to commit
  empty_has : {x : Stepped} → Empty w x → HasSlot x.worker p
  empty_has (none look) = absurd (omega (arith, has.0.0))
  empty_has (free slot kind held few empty) = has
  empty_has (full kind held all) = has
  empty_has (ready kind held) = has

  -- a read keeps the slot that its worker holds: a search that ends has held none, and a remove holds none
  leads_has : {c : ℕ → ℕ} {x : Stepped} → Leads c w x → HasSlot x.worker p
  leads_has (leads.begins place kind) = has
  leads_has (leads.begins_remove place removes) = has
  leads_has (leads.to3 place) = has
  leads_has (leads.to4 place valid) = has
  leads_has (leads.to5 place equal) = has
  leads_has (leads.to2 passed more) = has
  leads_has (leads.empty vain rest) = empty_has rest
  leads_has (leads.found place agree rest) = found_has rest
  leads_has (leads.to12 place matches) = has
  leads_has (leads.to11 place other more) = has
  leads_has (leads.not_there place removes other done) = absurd (omega (arith, removes.kind, has.0.0))
  leads_has (leads.to13 place) = has

-- a slot that has mark 2 after a set to another mark had it before, and is not the slot that was set
record Unset (m s p : ℕ) : Type 0 where
  two : mark_of m p ≡ 2
  other : s ≡ p → ⊥

unset : (m s x p : ℕ) → s ≤ 2 → x ≤ 1 → mark_of (set_mark m s x) p ≡ 2 → Unset m s p
unset m s x p slot few two =
    let other : s ≡ p → ⊥ = λ is. omega (arith, mark_set m s x (omega arith) (omega arith), ap (mark_of (set_mark m s x)) is, two) in
    record { two = sym (mark_set_other m s x p (omega arith) other) ∙ two; other = other }

module _ (c : ℕ → ℕ) (w : Worker) (d : ℕ → ℕ) (p : ℕ) where
  -- slot p had mark 2 before a turn that leaves v, and the worker holds it still if it held it
  record Lasting (v : Worker) : Type 0 where
    two : mark_of (c mark_cell) p ≡ 2
    still : HasSlot w p → HasSlot v p

  in_word_lem : (m : ℕ) → d mark_cell ≡ m → mark_of (d mark_cell) p ≡ 2 → mark_of m p ≡ 2
  in_word_lem m is two = ap (λ (n : ℕ). mark_of n p) (sym is) ∙ two

  -- a turn that leaves the mark word, and its worker the slot that it holds
  quiet : (v : Worker) → d mark_cell ≡ c mark_cell → (HasSlot w p → HasSlot v p) → mark_of (d mark_cell) p ≡ 2 → Lasting v
  quiet v same still two = record { two = in_word_lem (c mark_cell) same two; still = still }

  -- a turn that sets a mark other than 2 sets it at another slot than p, so that whoever holds p is not its worker
  takes : (v : Worker) (m s x : ℕ) → c mark_cell ≡ m → (HasSlot w p → s ≡ p) → s ≤ 2 → x ≤ 1 → mark_of (set_mark m s x) p ≡ 2 → Lasting v
  takes v m s x met own slot few two =
      let kept = unset m s x p slot few two in
      record { two = rw met kept.two; still = λ has. absurd (kept.other (own has)) }

  -- a slot with mark 2 after a turn is one that the worker has just claimed, or had it before, and who held it holds it still
  two_did : {x : Stepped} → w.slot ≤ 2 → Did c w d x → mark_of (d mark_cell) p ≡ 2 → Lasting x.worker ⊎ HasSlot x.worker p
  two_did few (reads same read) two = inl (quiet _ (same _) (λ has. leads_has w p has (reads_leads c w read)) two)
  two_did few (loses same swap missed) two = inl (quiet _ (same _) (λ has. has) two)
  two_did few (stores_value stored place fills) two = inl (quiet _ (stored.others _ (omega arith)) (λ has. has) two)
  two_did few (stores_key stored place fills) two = inl (quiet _ (stored.others _ (omega arith)) (λ has. has) two)
  two_did few (claims stored met place known) two = by (ℕ_discrete w.slot p)
    where
      v : Worker
      v = claimed (claim w) w

      by : Dec (w.slot ≡ p) → Lasting v ⊎ HasSlot v p
      by (yes is) = inr ((known.kind, few), is)
      by (no other) =
          inl (record {
            two = rw met (sym (mark_set_other w.word w.slot 2 p (omega arith) other) ∙ in_word_lem _ stored.there two);
            still = λ has. absurd (omega (arith, known.held, has.0.1));
          })
  two_did few (commits stored met place fills) two =
      inl (takes _ (filled w) w.held 1 met (λ has. has.1) fills.held (omega arith)
      (sym (mark_bump (set_mark (filled w) w.held 1) p) ∙ in_word_lem _ stored.there two))
  two_did few (frees stored place fills) two =
      inl (takes _ (c mark_cell) w.held 0 refl (λ has. has.1) fills.held (omega arith) (in_word_lem _ stored.there two))
  two_did few (closes stored met place removes) two =
      inl (takes _ w.word w.slot 0 met (λ has. absurd (omega (arith, removes.kind, has.0.0))) few (omega arith)
      (in_word_lem _ stored.there two))

-- ---- what every call and turn keeps

-- a worker holds slot p of bucket b
abbrev pub IsHeld : State → ℕ → ℕ → Type 0
IsHeld s b p = (i : ℕ) × (i < length (view s).records) × IsHeldBy s b p i

-- §17.8: every slot with mark 2 is held by a worker
abbrev pub Marked : State → Type 0
Marked s = (b p : ℕ) → mark_at s b p ≡ 2 → IsHeld s b p

-- a worker whose record stays holds on to what it held
still_held :
    (s t : State) (b p i : ℕ)
    → t.floor.buckets ≡ s.floor.buckets
    → record_of t i ≡ record_of s i
    → IsHeldBy s b p i
    → IsHeldBy t b p i
still_held s t b p i buckets same held =
    record { holds = rw same held.holds; bucket = rw (same, buckets) held.bucket; slot = rw same held.slot }

module _ {s t : State} {e : Turn} (act : Turns s e t) (old : Marked s) where
  abbrev i : ℕ
  i = e.worker

  abbrev bucket : ℕ
  bucket = e.report.bucket

  abbrev x : Stepped
  x = (step_of s e).stepped

  -- a turn leaves as many records
  listed : length (view t).records ≡ length (view s).records
  listed = rw act.acts.records (length-set (view s).records i x.worker)

  module _ (p : ℕ) where
    -- the worker of the turn holds slot p after it
    mine : HasSlot x.worker p → IsHeld t bucket p
    mine has =
        let now : record_of t i ≡ x.worker = new_record (view s) (view t) i x.worker act.acts.records act.acts.within in (
          i,
          rw listed act.acts.within,
          record { holds = rw now has.0; bucket = rw now (still_home act (holds_busy _ has.0)); slot = rw now has.1 },
        )

    -- another worker holds slot p, before the turn and after it
    others : (b j : ℕ) → (j ≡ i → ⊥) → j < length (view s).records → IsHeldBy s b p j → IsHeld t b p
    others b j other under held =
        (j, rw listed under, still_held s t b p j act.buckets (old_record (view s) (view t) i x.worker act.acts.records j other) held)

    -- a slot of the turn's bucket that had mark 2 before is held by whoever held it
    here :
        Lasting (cells_at s bucket) e.was (cells_at t bucket) p x.worker
        → IsHeld t bucket p
    here kept = let was = old bucket p kept.two in by was.0 was.1 was.2 (ℕ_discrete was.0 i)
      where
        by :
            (j : ℕ)
            → j < length (view s).records
            → IsHeldBy s bucket p j
            → Dec (j ≡ i)
            → IsHeld t bucket p
        by j under held (no other) = others bucket j other under held
        by j under held (yes is) =
            let own : IsHeldBy s bucket p i = subst (IsHeldBy s bucket p) is held in
            mine (kept.still (rw act.acts.was (own.holds, own.slot)))

    -- a slot of another bucket is held by whoever held it, which is not the worker of the turn
    there : (b : ℕ) → (b ≡ bucket → ⊥) → mark_at t b p ≡ 2 → IsHeld t b p
    there b another two =
        let was = old b p (ap (λ (m : ℕ). mark_of m p) (sym (other_cells act b mark_cell another)) ∙ two) in
        others b was.0
        (λ is. another
        (sym was.2.bucket
        ∙ ap (λ (j : ℕ). home s.floor.buckets (record_of s j)) is
        ∙ ap (home s.floor.buckets) (sym act.acts.was)
        ∙ sym (was_home act)))
        was.1 was.2

    -- a slot of the turn's bucket with mark 2 after the turn is held
    own : mark_at t bucket p ≡ 2 → IsHeld t bucket p
    own two = by (two_did (cells_at s bucket) e.was (cells_at t bucket) p act.ok.sound.slot (turn_account act) two)
      where
        by :
            Lasting (cells_at s bucket) e.was (cells_at t bucket) p x.worker ⊎ HasSlot x.worker p
            → IsHeld t bucket p
        by (inl kept) = here kept
        by (inr has) = mine has

  turn_marked : Marked t
  turn_marked b p two = by (ℕ_discrete b bucket)
    where
      by : Dec (b ≡ bucket) → IsHeld t b p
      by (yes is) = rw is (own p (rw is at two))
      by (no another) = there p b another two

start_marked : {s t : State} {v : Worker} {spent : List ℕ} → Begins s v spent t → Marked s → Marked t
start_marked {s} {t} {v} start old b p two =
    let who = start.starts.who in
    let was = old b p (rw start.board at two) in
    let j = was.0 in
    let held = was.2 in
    let other : j ≡ who → ⊥ = λ is. holds_busy _ held.holds (ap (record_of s) is ∙ start.starts.was) in
    let same : record_of t j ≡ record_of s j = old_record (view s) (view t) who v start.starts.records j other in
    (j, rw start.starts.records (rw (length-set (view s).records who v) was.1), still_held s t b p j start.buckets same held)

-- a slot that has mark 2 after a retiring had it before, and is not the one that was given back
retiring_marked : {s t : State} {r : Retiring} → Retires s r t → Marked s → Marked t
retiring_marked {s} {t} {r} act old b p two =
    let was = old b p (retire_marks act b p 2 (omega arith) two) in
    let j = was.0 in
    let other : j ≡ r.worker → ⊥ = λ is. gone (subst (IsHeldBy s b p) is was.2) in
    let same : record_of t j ≡ record_of s j = old_record (view s) (view t) r.worker idle act.acts.records j other in
    let long : length (view t).records ≡ length (view s).records =
    ap (λ (ws : List Worker). length ws) act.acts.records ∙ length-set (view s).records r.worker idle in
    (j, subst (λ (n : ℕ). j < n) (sym long) was.1, still_held s t b p j act.buckets same was.2)
  where
    gone : IsHeldBy s b p r.worker → ⊥
    gone held =
        let some : r.was.held ≡ no_slot → ⊥ = rw act.acts.was (λ none. omega (arith, held.holds.1)) in
        let here : r.bucket ≡ b = act.acts.bucket ∙ held.bucket in
        let slot : r.was.held ≡ p = ap (λ (w : Worker). w.held) act.acts.was ∙ held.slot in
        omega (arith, sym two ∙ ap (λ (b : ℕ). mark_at t b p) (sym here) ∙ ap (mark_at t r.bucket) (sym slot) ∙ retire_empties act some)

-- every accepted start, every turn done and every retiring done keep every slot with mark 2 held
marked_lasts : Lasts (λ s past ts. Marked s)
marked_lasts =
    record {
      begins = λ past ts start old. start_marked start old;
      turns = λ past ts act old. turn_marked act old;
      retires = λ past ts act old. retiring_marked act old;
    }

-- ---- histories

-- §17.8: wherever a stretch can begin and after every list of calls a slot with mark 2 is held by a worker
state_held :
    {first : State}
    → Ready first
    → (calls : List Call) (b p : ℕ)
    → mark_at (state first calls) b p ≡ 2
    → (i : ℕ) × (i < workers_of first) × IsHeldBy (state first calls) b p i
state_held {first} able calls b p two =
    let unmarked : Marked first = λ b p two. absurd (able.unheld b p two) in
    let held = calls_last (λ s past ts. Marked s) marked_lasts calls first [] [] unmarked b p two in
    (held.0, subst (λ (n : ℕ). held.0 < n) (history_good able calls).listed held.1, held.2)

-- §17.8: so in every state of a stretch
pub stretch_held :
    {s : State} (at : Stretch s) (b p : ℕ)
    → mark_at s b p ≡ 2
    → (i : ℕ) × (i < workers_of at.first) × IsHeldBy s b p i
stretch_held at b p two =
    subst (λ (u : State). mark_at u b p ≡ 2 → (i : ℕ) × (i < workers_of at.first) × IsHeldBy u b p i) (sym at.is)
    (state_held at.ready at.since b p) two
