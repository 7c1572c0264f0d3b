-- What an insert or a remove knows of its bucket, while its word is still the board's. No other worker can spoil it: a commit or a close there
-- makes the word another than the board's, and nothing else touches a valid slot. Assumes nothing.
use Prim.Native.Nat.{ℕ, ◌+◌, ◌^◌, ◌≤◌, ◌<◌}
use mathlib.Core.List.{List, [], ◌∷◌, ◌++◌}
use mathlib.Core.Path.{◌≡◌, refl, sym, ap, subst, ◌∙◌}
use native.Mathlib.Decide.{ℕ_discrete, dec_le}
use native.Mathlib.Omega.{arith}
use Rattle.mark.specs.Word.{mark_of}
use Rattle.turn.specs.declared.Worker.{Worker}
use Rattle.turn.specs.declared.Stepped.{Stepped}
use Rattle.turn.specs.Worker.{look_kind, idle}
use Rattle.turn.specs.Bucket.{mark_cell, key_cell, value_cell}
use Rattle.turn.proofs.Outcomes.{Empty, Found, Did, reads, loses, stores_value, stores_key, claims, commits, frees, closes}
use Rattle.turn.proofs.Outcomes as out
use Rattle.history.specs.Trace.{Turn, Retiring, Entry, acted, retired}
use Rattle.history.specs.History.{State, record_of}
use Rattle.history.specs.Cells.{cells_at, mark_word_at, mark_at, home}
use Rattle.history.specs.Values.{value_at}
use Rattle.history.proofs.View.{Aware}
use Rattle.history.proofs.Starting.{StartOf, of_look, of_insert, of_remove}
use Rattle.history.proofs.Steps.{Begins, Turns, Retires, step_of}
use Rattle.history.proofs.Account.{still_on}
use Rattle.history.proofs.Cells.{Known}
use Rattle.clerk.proofs.Rows.{Rows, silent, row_at, ◌▹◌, among_first, Follow, follow}
use Rattle.clerk.proofs.Leads.{Passed, not_valid, other_lot, past_last, changed, Leads, reads_leads}
use Rattle.clerk.proofs.Leads as leads
use Rattle.clerk.proofs.Counts.{bumps_in}
use Rattle.clerk.proofs.Deals.{SameSlot, same_slots, turn_deals, busy_slots, retiring_slots}
use Rattle.clerk.proofs.Recalls.{Current, current_met, Recalled, current_before, current_until}
use Rattle.clerk.proofs.Steps.{Sized, each_turn, each_retiring, each_start, own_did, still_there, was_known, start_cells}

-- of a bucket with the cells c
module _ (c : ℕ → ℕ) where
  -- slot p is valid with this lot
  abbrev pub HasLot : ℕ → ℕ → Type 0
  HasLot lot p = (mark_of (c mark_cell) p ≡ 1) × (c (key_cell p) ≡ lot)

  -- no slot before q is valid with this lot
  abbrev pub NoneBefore : ℕ → ℕ → Type 0
  NoneBefore lot q = (p : ℕ) → p < q → HasLot lot p → ⊥

  module _ (w : Worker) where
    abbrev Unseen : Type 0
    Unseen = NoneBefore w.key w.slot

    -- what was seen is the value of the slot
    abbrev SawValue : Type 0
    SawValue = w.seen ≡ c (value_cell w.slot)

    -- what is known at each place
    abbrev pub knowledge : Rows
    knowledge =
        silent  -- 0
        ∷ silent  -- 1
        ∷ Unseen  -- 2: the slots before this one have another lot, or none
        ∷ (Unseen × (mark_of (c mark_cell) w.slot ≡ 1 → SawValue))  -- 3: and if this one is valid, its value is what was seen
        ∷ (Unseen × (mark_of (c mark_cell) w.slot ≡ 1) × SawValue)  -- 4: it is valid
        ∷ (Unseen × HasLot w.key w.slot × SawValue)  -- 5: with the lot
        ∷ NoneBefore w.key 3  -- 6: no slot has the lot
        ∷ NoneBefore w.key 3  -- 7
        ∷ NoneBefore w.key 3  -- 8
        ∷ NoneBefore w.key 3  -- 9
        ∷ silent  -- 10
        ∷ silent  -- 11
        ∷ HasLot w.key w.slot  -- 12: this slot has the lot
        ∷ (HasLot w.key w.slot × SawValue)  -- 13: and what was seen is its value
        ∷ []

    -- what is known where the worker stands
    abbrev pub Knows : Type 0
    Knows = row_at knowledge w.place

-- what a worker knows if it is an insert or a remove, and its word is still the board's
abbrev pub KnowsNow : ℕ → State → Worker → Type 0
KnowsNow n s u = (u.kind ≡ look_kind → ⊥) → Current (mark_word_at s (home n u)) u.word → Knows (cells_at s (home n u)) u

-- every insert and every remove knows so what it should
abbrev pub Knowing : ℕ → State → Type 0
Knowing n s = (i : ℕ) → KnowsNow n s (record_of s i)

-- ---- valid slots that stay

module _ {c d : ℕ → ℕ} (same : (p : ℕ) → SameSlot c d p) where
  -- a slot that is valid with a lot was so before
  pub has_back : (lot p : ℕ) → HasLot d lot p → HasLot c lot p
  has_back lot p has = let old = (same p).back has.0 in (old, sym ((same p).key old) ∙ has.1)

  -- a slot that was valid with a lot is so still
  pub has_on : (lot p : ℕ) → HasLot c lot p → HasLot d lot p
  has_on lot p has = ((same p).on has.0, (same p).key has.0 ∙ has.1)

  none_on : (lot q : ℕ) → NoneBefore c lot q → NoneBefore d lot q
  none_on lot q none p under has = none p under (has_back lot p has)

  knows_on : (w : Worker) → Knows c w → Knows d w
  knows_on w =
      let slot = same w.slot in
      let none = none_on w.key w.slot in
      let all = none_on w.key 3 in
      let there = has_on w.key w.slot in
      let each : Follow w.place 0 (knowledge c w) (knowledge d w) =
      (λ at known. tt)
      ▹ (λ at known. tt)
      ▹ (λ at known. none known)
      ▹ (λ at known. (none known.0, λ valid. let was = slot.back valid in known.1 was ∙ sym (slot.value was)))
      ▹ (λ at known. (none known.0, slot.on known.1, known.2 ∙ sym (slot.value known.1)))
      ▹ (λ at known. (none known.0, there known.1, known.2 ∙ sym (slot.value known.1.0)))
      ▹ (λ at known. all known)
      ▹ (λ at known. all known)
      ▹ (λ at known. all known)
      ▹ (λ at known. all known)
      ▹ (λ at known. tt)
      ▹ (λ at known. tt)
      ▹ (λ at known. there known)
      ▹ (λ at known. (there known.0, known.1 ∙ sym (slot.value known.0.0)))
      ▹ tt in
      follow w.place (knowledge c w) (knowledge d w) each

-- ---- the worker's own turn

module _
    (c : ℕ → ℕ) (w : Worker) (old : Current (c mark_cell) w.word → Knows c w)
    (valued : (p : ℕ) → mark_of (c mark_cell) p ≡ 1 → 1 ≤ c (value_cell p)) where
  -- what it knew, where its word is the board's
  module _ (current : Current (c mark_cell) w.word) where
    knew : (k : ℕ) → w.place ≡ k → row_at (knowledge c w) k
    knew k is = rw (← is) (old current)

    -- one slot more
    past_slot : NoneBefore c w.key w.slot → (HasLot c w.key w.slot → ⊥) → NoneBefore c w.key (w.slot + 1)
    past_slot none isnot p under has = by (ℕ_discrete p w.slot)
      where
        by : Dec (p ≡ w.slot) → ⊥
        by (yes is) = isnot (rw is at has)
        by (no other) = none p (omega arith) has

    passed : Passed c w → NoneBefore c w.key (w.slot + 1)
    passed (not_valid place other) = past_slot (knew 3 place).0 (λ has. other has.0)
    passed (other_lot place other) = past_slot (knew 4 place).0 (λ has. other has.1)

    vain : leads.Vain c w → NoneBefore c w.key 3
    vain (past_last passes done) = λ p under. passed passes p (omega arith)
    vain (changed place differs) =
        let known = knew 5 place in
        let some = valued w.slot known.1.0 in
        absurd (differs (sym known.2, omega arith))

  by_empty :
      {x : Stepped}
      → Empty w x
      → (Current (c mark_cell) w.word → NoneBefore c w.key 3)
      → Current (c mark_cell) x.worker.word
      → Knows c x.worker
  by_empty (out.none kind) none current = tt
  by_empty (out.free e kind held slot mark) none current = none current
  by_empty (out.full kind held all) none current = tt
  by_empty (out.ready kind held) none current = none current

  by_found : {x : Stepped} → Found w x → Knows c x.worker
  by_found (out.answers kind) = tt
  by_found (out.refuses kind held) = tt
  by_found (out.gives_back kind held) = tt

  by_read : {x : Stepped} → Leads c w x → Current (c mark_cell) x.worker.word → Knows c x.worker
  by_read (leads.begins place kind) current = λ p under. absurd (omega arith)
  by_read (leads.begins_remove place removes) current = tt
  by_read (leads.to3 place) current = (knew current 2 place, λ valid. refl)
  by_read (leads.to4 place valid) current =
      let known = knew current 3 place in (known.0, valid, known.1 valid)
  by_read (leads.to5 place equal) current =
      let known = knew current 4 place in (known.0, (known.1, equal), known.2)
  by_read (leads.to2 passes more) current = passed current passes
  by_read (leads.empty missed rest) current = by_empty rest (λ was. vain was missed) current
  by_read (leads.found place agree rest) current = by_found rest
  by_read (leads.to12 place matches) current = (current.valid _ matches.1, matches.0)
  by_read (leads.to11 place other more) current = tt
  by_read (leads.not_there place removes other done) current = tt
  by_read (leads.to13 place) current = (knew current 12 place, refl)

  -- in the cells as they were, with the mark word as it was
  knows_did : {d : ℕ → ℕ} {x : Stepped} → Did c w d x → Current (d mark_cell) x.worker.word → Knows c x.worker
  knows_did (reads same read) current = by_read (reads_leads c w read) (rw (same mark_cell) at current)
  knows_did (loses same swap missed) current = tt
  knows_did (stores_value stored place fills) current = knew (rw (stored.others mark_cell (omega arith)) at current) 7 place
  knows_did (stores_key stored place fills) current = knew (rw (stored.others mark_cell (omega arith)) at current) 8 place
  knows_did (claims stored met place free) current = knew (current_met met) 6 place
  knows_did (commits stored met place fills) current = tt
  knows_did (frees stored place fills) current = tt
  knows_did (closes stored met place removes) current = tt

-- ---- a turn keeps it, and so does a start

-- before its first reading of the mark word there is nothing to know
pub nothing_known : (c : ℕ → ℕ) (w : Worker) → w.place ≤ 1 → Knows c w
nothing_known c w early = among_first 2 w.place (knowledge c w) (omega arith) (tt ▹ tt ▹ tt)

-- whose record stays knows what it knew, if a word that is still the board's was so before, with the same valid slots
knows_still :
    (n : ℕ) (s t : State) (w : Worker)
    → (Aware w
    → Current (mark_word_at t (home n w)) w.word
    → Current (mark_word_at s (home n w)) w.word × ((p : ℕ) → SameSlot (cells_at s (home n w)) (cells_at t (home n w)) p))
    → KnowsNow n s w
    → KnowsNow n t w
knows_still n s t w before knew other current = by (dec_le w.place 1)
  where
    by : Dec (w.place ≤ 1) → Knows (cells_at t (home n w)) w
    by (yes early) = nothing_known (cells_at t (home n w)) w early
    by (no late) = let was = before (record { other = other; from = omega arith }) current in knows_on was.1 w (knew other was.0)

module _
    (n : ℕ) {s t : State} {e : Turn} (past : List Entry) (sized : Sized n s) (act : Turns s e t) (known : Known s)
    (few : bumps_in (past ++ (acted e ∷ [])) < 2 ^ 32) (recalled : Recalled n past s) (old : Knowing n s) where
  abbrev w : Worker
  w = e.was

  abbrev v : Worker
  v = (step_of s e).stepped.worker

  mine : KnowsNow n t v
  mine other current = by (dec_le v.place 1)
    where
      by : Dec (v.place ≤ 1) → Knows (cells_at t (home n v)) v
      by (yes early) = nothing_known (cells_at t (home n v)) v early
      by (no late) =
          let busy : v ≡ idle → ⊥ = λ is. let none : v.place ≡ 0 = ap (λ (u : Worker). u.place) is in omega arith in
          let there = still_there act sized busy in
          let kind : w.kind ≡ look_kind → ⊥ = λ is. other ((still_on act busy).call.kind ∙ is) in
          let knew : KnowsNow n s w = was_known act (KnowsNow n s) (old e.worker) in
          let valued : (p : ℕ) → mark_at s (home n w) p ≡ 1 → 1 ≤ value_at s (home n w) p = λ p valid. (known.cells.valid (home n w) p valid).ticket in
          rw there
          (knows_on (busy_slots act known busy (home n w)) v
          (knows_did (cells_at s (home n w)) w (knew kind) valued (own_did act sized) (rw there at current)))

  others : (j : ℕ) → (j ≡ e.worker → ⊥) → KnowsNow n t (record_of s j)
  others j another =
      knows_still n s t (record_of s j) (λ aware current.
      current_before past act (turn_deals act known) (record_of s j).word (home n (record_of s j)) (recalled j aware) few current)
      (old j)

  -- a turn leaves every insert and every remove knowing what it should
  pub turn_knowing : Knowing n t
  turn_knowing = each_turn act (λ j u. KnowsNow n t u) mine others

-- a retiring leaves every insert and every remove knowing what it should
pub retiring_knowing :
    (n : ℕ) {s t : State} {r : Retiring} (past : List Entry)
    → Retires s r t
    → Known s
    → bumps_in (past ++ (retired r ∷ [])) < 2 ^ 32
    → Recalled n past s
    → Knowing n s
    → Knowing n t
retiring_knowing n {s} {t} {r} past act known few recalled old =
    each_retiring act (λ j u. KnowsNow n t u) (λ other current. nothing_known (cells_at t (home n idle)) idle (omega arith))
    (λ j another.
    knows_still n s t (record_of s j) (λ aware current. (
      current_until past act (record_of s j).word (home n (record_of s j)) (recalled j aware) few current,
      retiring_slots act known (home n (record_of s j)),
    )) (old j))

-- a record that a start leaves knows nothing yet
start_knows : {v : Worker} → StartOf v → (c : ℕ → ℕ) → (v.kind ≡ look_kind → ⊥) → Knows c v
start_knows (of_look lot) c other = absurd (other refl)
start_knows (of_insert lot t) c other = tt
start_knows (of_remove lot) c other = tt

-- a start leaves every insert and every remove knowing what it should
pub start_knowing : (n : ℕ) {s t : State} {v : Worker} {spent : List ℕ} → Begins s v spent t → Knowing n s → Knowing n t
start_knowing n {s} {t} {v} start old =
    each_start start (λ j u. KnowsNow n t u) (λ other current. start_knows start.kind (cells_at t (home n v)) other)
    (λ j another other current.
    knows_on (same_slots (start_cells start (home n (record_of s j)))) (record_of s j)
    (old j other (subst (λ (m : ℕ). Current m (record_of s j).word) (start_cells start (home n (record_of s j)) mark_cell) current)))
