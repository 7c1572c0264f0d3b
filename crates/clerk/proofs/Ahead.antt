-- Why the answer 0 is right: while the lot stands without a gap it stands in one slot, and a search or a remove goes through the slots in
-- their order, so that it has that slot still ahead of it. One that comes to its end without it has met a gap. Assumes nothing.
use Prim.Native.Nat.{ℕ, ◌+◌, ◌≤◌}
use mathlib.Core.List.{[], ◌∷◌}
use mathlib.Core.Path.{◌≡◌, sym, ap, ◌∙◌}
use native.Mathlib.Decide.{ℕ_discrete}
use native.Mathlib.Omega.{arith}
use Rattle.mark.specs.Word.{mark_of}
use Rattle.turn.specs.declared.Worker.{Worker}
use Rattle.turn.specs.declared.Stepped.{Stepped}
use Rattle.turn.specs.Worker.{go_to}
use Rattle.turn.specs.Bucket.{mark_cell, key_cell, value_cell}
use Rattle.turn.proofs.Outcomes.{Same, Did, reads, loses, stores_value, stores_key, claims, commits, frees, closes}
use Rattle.turn.proofs.Outcomes as out
use Rattle.history.specs.History.{State, record_of}
use Rattle.history.specs.Cells.{cells_at, home, Holds}
use Rattle.history.proofs.Cells.{marked_few}
use Rattle.clerk.proofs.Rows.{Rows, silent, row_at, ◌▹◌, Follow, follow}
use Rattle.clerk.proofs.Leads.{Passed, not_valid, other_lot, Vain, past_last, changed, Leads, reads_leads}
use Rattle.clerk.proofs.Leads as leads
use Rattle.clerk.proofs.Knows.{HasLot}

-- worker w in state s, on a board of n buckets, beside slot p of its bucket, in which its lot stands
module _ (n : ℕ) (s : State) (w : Worker) where
  abbrev cells : ℕ → ℕ
  cells = cells_at s (home n w)

  -- the slot that a worker looks at has not its lot, and nobody is about to put it there
  pub record NotHere : Type 0 where
    pub key : cells (key_cell w.slot) ≡ w.key → ⊥
    pub nobody : (h : ℕ) → Holds (record_of s h) → (record_of s h).key ≡ w.key → (record_of s h).held ≡ w.slot → ⊥

  module _ (p : ℕ) where
    -- if it looks at slot p, it saw what stands there
    abbrev SawIt : Type 0
    SawIt = p ≡ w.slot → w.seen ≡ cells (value_cell p)

    -- what is known at each place of a worker that has slot p still ahead
    abbrev pub ahead : Rows
    ahead =
        silent  -- 0
        ∷ silent  -- 1
        ∷ (w.slot ≤ p)  -- 2
        ∷ ((w.slot ≤ p) × SawIt)  -- 3
        ∷ ((w.slot ≤ p) × SawIt × ((p ≡ w.slot → ⊥) → NotHere))  -- 4: another slot that was valid has another lot
        ∷ ((p ≡ w.slot) × (w.seen ≡ cells (value_cell p)))  -- 5
        ∷ silent  -- 6
        ∷ silent  -- 7
        ∷ silent  -- 8
        ∷ silent  -- 9
        ∷ silent  -- 10
        ∷ ((w.slot ≤ p) × (mark_of w.word p ≡ 1))  -- 11: and it was valid in the word that was read
        ∷ []

    -- the worker has slot p still ahead, by the place where it stands
    abbrev pub IsAhead : Type 0
    IsAhead = row_at ahead w.place

  -- a worker's lot stands in a slot that it has still ahead
  pub record Ahead : Type 0 where
    pub slot : ℕ
    pub has : HasLot cells w.key slot
    pub ahead : IsAhead slot

-- ---- a worker that has no turn

module _ (n : ℕ) (s t : State) (w : Worker) (p : ℕ) where
  -- where the value of slot p stays, and nobody brings the lot into the slot that is looked at, slot p is still ahead
  pub ahead_on :
      cells_at t (home n w) (value_cell p) ≡ cells_at s (home n w) (value_cell p)
      → (w.slot ≤ p → NotHere n s w → NotHere n t w)
      → IsAhead n s w p
      → IsAhead n t w p
  ahead_on value apart =
      let each : Follow w.place 0 (ahead n s w p) (ahead n t w p) =
      (λ at was. tt)
      ▹ (λ at was. tt)
      ▹ (λ at was. was)
      ▹ (λ at was. (was.0, λ is. was.1 is ∙ sym value))
      ▹ (λ at was. (was.0, λ is. was.1 is ∙ sym value, λ other. apart was.0 (was.2 other)))
      ▹ (λ at was. (was.0, was.1 ∙ sym value))
      ▹ (λ at was. tt)
      ▹ (λ at was. tt)
      ▹ (λ at was. tt)
      ▹ (λ at was. tt)
      ▹ (λ at was. tt)
      ▹ (λ at was. was)
      ▹ tt in
      follow w.place (ahead n s w p) (ahead n t w p) each

-- ---- the worker's own turn

-- slot p, in which its lot stands with a ticket
module _ (n : ℕ) (s : State) (w : Worker) (p : ℕ) (before : IsAhead n s w p) where
  abbrev c : ℕ → ℕ
  c = cells_at s (home n w)

  module _ (has : HasLot c w.key p) (valued : 1 ≤ c (value_cell p)) where
    was : (k : ℕ) → w.place ≡ k → row_at (ahead n s w p) k
    was k is = rw (← is) before

    few : p ≤ 2
    few = marked_few _ p has.0

    -- a slot that is passed over is not p
    passed : Passed c w → w.slot + 1 ≤ p
    passed (not_valid place other) =
        let at = (was 3 place).0 in
        let apart : p ≡ w.slot → ⊥ = λ is. other (ap (mark_of (c mark_cell)) (sym is) ∙ has.0) in
        omega arith
    passed (other_lot place other) =
        let at = (was 4 place).0 in
        let apart : p ≡ w.slot → ⊥ = λ is. other (ap (λ (q : ℕ). c (key_cell q)) (sym is) ∙ has.1) in
        omega arith

    -- a search that has its lot ahead is not empty
    pub not_vain : Vain c w → ⊥
    not_vain (past_last passes done) = let at = passed passes in omega (arith, few)
    not_vain (changed place differs) =
        let at = was 5 place in
        let value : c (value_cell w.slot) ≡ c (value_cell p) = ap (λ (q : ℕ). c (value_cell q)) (sym at.0) in
        differs (value ∙ sym at.1, λ none. omega (arith, value, none))

    -- a key that a remove passes over is not that of p
    passed_key : w.place ≡ 11 → (leads.Matches c w → ⊥) → w.slot + 1 ≤ p
    passed_key place other =
        let at = was 11 place in
        let low : w.slot ≤ p = at.0 in
        let apart : p ≡ w.slot → ⊥ = λ is. other (ap (λ (q : ℕ). c (key_cell q)) (sym is) ∙ has.1, ap (mark_of w.word) (sym is) ∙ at.1) in
        omega arith

    -- a remove that has its lot ahead is not at its last key with another
    pub not_last : w.place ≡ 11 → (leads.Matches c w → ⊥) → 2 ≤ w.slot → ⊥
    not_last place other done = let at = passed_key place other in omega (arith, few)

    module _
        (t : State) (distinct : (q : ℕ) → (p ≡ q → ⊥) → mark_of (c mark_cell) q ≡ 1 → c (key_cell p) ≡ c (key_cell q) → ⊥)
        (held : (h : ℕ) → Holds (record_of t h) → (record_of t h).key ≡ w.key → mark_of (cells_at t (home n w) mark_cell) (record_of t h).held ≡ 2) where
      abbrev d : ℕ → ℕ
      d = cells_at t (home n w)

      -- a slot that is valid, and is not p, has another lot, and nobody holds it
      not_here : Same c d → mark_of (c mark_cell) w.slot ≡ 1 → (p ≡ w.slot → ⊥) → NotHere n t (go_to 4 w)
      not_here same valid other =
          record {
            key = λ is. distinct w.slot other valid (has.1 ∙ sym is ∙ same (key_cell w.slot));
            nobody = λ h holds key slot.
                omega (
                  arith,
                  sym valid ∙ ap (λ (m : ℕ). mark_of m w.slot) (sym (same mark_cell)) ∙ ap (mark_of (d mark_cell)) (sym slot) ∙ held h holds key,
                );
          }

      by_read : {x : Stepped} → Same c d → Leads c w x → IsAhead n t x.worker p
      by_read same (leads.begins place kind) = omega arith
      by_read same (leads.begins_remove place removes) = (omega arith, has.0)
      by_read same (leads.to3 place) = (was 2 place, λ is. ap (λ (q : ℕ). c (value_cell q)) (sym is) ∙ sym (same (value_cell p)))
      by_read same (leads.to4 place valid) =
          let at = was 3 place in (at.0, (λ is. at.1 is ∙ sym (same (value_cell p))), not_here same valid)
      by_read same (leads.to5 place equal) = by (ℕ_discrete p w.slot) (was 4 place)
        where
          by :
              Dec (p ≡ w.slot)
              → (w.slot ≤ p) × (p ≡ w.slot → w.seen ≡ c (value_cell p)) × ((p ≡ w.slot → ⊥) → NotHere n s w)
              → (p ≡ w.slot) × (w.seen ≡ d (value_cell p))
          by (yes is) at = (is, at.1 is ∙ sym (same (value_cell p)))
          by (no other) at = absurd ((at.2 other).key equal)
      by_read same (leads.to2 passes more) = passed passes
      by_read same (leads.empty vain rest) = absurd (not_vain vain)
      by_read same (leads.found place agree (out.answers kind)) = tt
      by_read same (leads.found place agree (out.refuses kind slot)) = tt
      by_read same (leads.found place agree (out.gives_back kind slot)) = tt
      by_read same (leads.to12 place matches) = tt
      by_read same (leads.to11 place other more) = (passed_key place other, (was 11 place).1)
      by_read same (leads.not_there place removes other done) = tt
      by_read same (leads.to13 place) = tt

      -- whatever the worker does, it has the slot still ahead
      pub ahead_did : {x : Stepped} → Did c w d x → IsAhead n t x.worker p
      ahead_did (reads same read) = by_read same (reads_leads c w read)
      ahead_did (loses same swap missed) = tt
      ahead_did (stores_value stored place fills) = tt
      ahead_did (stores_key stored place fills) = tt
      ahead_did (claims stored met place free) = tt
      ahead_did (commits stored met place fills) = tt
      ahead_did (frees stored place fills) = tt
      ahead_did (closes stored met place removes) = tt
