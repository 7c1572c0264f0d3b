-- An insert alone: one turn for the mark word, its search, then a claim that is won, two stores and a commit that is won. Where its bucket has an
-- empty slot or its lot stands there it takes no more than thirteen turns. Assumes nothing.
use Prim.Native.Nat.{ℕ, ◌+◌, ◌*◌, ◌≤◌, ◌<◌}
use mathlib.Core.Bool.{false}
use mathlib.Core.List.{List}
use mathlib.Core.Path.{◌≡◌, refl, sym, ap, subst, ◌∙◌}
use native.Mathlib.Decide.{ℕ_discrete}
use native.Mathlib.Omega.{arith}
use lib.ListN.{set}
use lib.Seq.{get_or-set_same, get_or-set_other}
use borrow.Author.Tests.{eq-eqb}
use Rattle.mark.specs.Word.{mark_of, set_mark}
use Rattle.mark.proofs.Fields.{mark_set, set_same}
use Rattle.turn.specs.declared.Worker.{Worker}
use Rattle.turn.specs.declared.Stepped.{Stepped}
use Rattle.turn.specs.declared.Action.TheVariants.{Read, Store, Won}
use Rattle.turn.specs.Worker.{insert_kind, no_slot, idle, go_to, read_word, claimed, insert_of}
use Rattle.turn.specs.Bucket.{cell, mark_cell}
use Rattle.turn.specs.Places.{Step, leaves, goes_on, ends, turn, held_value, held_key, claim, filled, commit}
use Rattle.turn.proofs.Sound.{Accepted}
use Rattle.turn.proofs.Outcome.{look_keeps}
use Rattle.history.specs.HowLong.{insert_most}
use Rattle.history.proofs.Alone.{Ticketed, StepsTo, final, Goes}
use Rattle.history.proofs.Alone as alone
use Rattle.history.proofs.Searching.{Has, Lets, empty_slot, lot_there, Searches, Searched, further, passed, free, full, found}
use Rattle.history.proofs.Searching.{search_begins, search_begun, search_next}

-- ---- the rows of a claim that is won, of the stores, and of a commit that is won

module _ (b : List ℕ) (w : Worker) where
  row6 : w.place ≡ 6 → cell b mark_cell ≡ w.word → turn b w ≡ leaves (set b mark_cell (claim w)) (goes_on Won false (claimed (claim w) w))
  unfolding turn
  row6 place met = rw (place, eq-eqb _ _ met)

  row7 : w.place ≡ 7 → turn b w ≡ leaves (set b (held_value w) w.ticket) (goes_on Store false (go_to 8 w))
  unfolding turn
  row7 place = rw place

  row8 : w.place ≡ 8 → turn b w ≡ leaves (set b (held_key w) w.key) (goes_on Store false (go_to 9 w))
  unfolding turn
  row8 place = rw place

  row9 : w.place ≡ 9 → cell b mark_cell ≡ filled w → turn b w ≡ leaves (set b mark_cell (commit w)) (ends Won 1)
  unfolding turn
  row9 place met = rw (place, eq-eqb _ _ met)

-- ---- with an empty slot, or the lot there

-- an insert at slot s and place p of its search that has had k turns: one for the mark word, three at most for each slot that it has passed,
-- two for one that is empty; or the slot with its lot is yet to come
pub data Left (c : ℕ → ℕ) (lot s p k : ℕ) : Type 0 where
  with_empty : (e : ℕ) → e ≤ 2 → mark_of (c mark_cell) e ≡ 0 → k + 1 ≤ 3 * s + p → (e < s → k + 2 ≤ 3 * s + p) → Left c lot s p k
  with_lot : (q : ℕ) → s ≤ q → q ≤ 2 → Has c lot q → k + 1 ≤ 3 * s + p → Left c lot s p k

-- an insert alone that has had k turns
pub data Inserted (c : ℕ → ℕ) (k : ℕ) (w : Worker) : Type 0 where
  begins : w.kind ≡ insert_kind → w.place ≡ 1 → w.held ≡ no_slot → k ≡ 0 → Lets c w.key → Inserted c k w
  searches : Searches c w → Left c w.key w.slot w.place k → Inserted c k w
  claims : w.kind ≡ insert_kind → w.place ≡ 6 → w.slot ≤ 2 → w.word ≡ c mark_cell → k + 4 ≤ insert_most → Inserted c k w
  fills :
      w.kind ≡ insert_kind → 7 ≤ w.place → w.place ≤ 9 → w.held ≤ 2 → w.word ≡ c mark_cell → mark_of w.word w.held ≡ 2 → k + 10 ≤ w.place + insert_most
      → Inserted c k w

-- an insert alone in a bucket
abbrev pub InsertAlone : List ℕ → ℕ → Worker → Type 0
InsertAlone b k w = Inserted (λ j. cell b j) k w

-- an insert has had no turn when it starts
pub insert_started : (b : List ℕ) (lot t : ℕ) → Lets (λ j. cell b j) lot → InsertAlone b 0 (insert_of lot t)
insert_started b lot t lets = begins refl refl refl refl lets

-- ---- what is left as the search goes on

module _ (c : ℕ → ℕ) (lot s p k : ℕ) where
  left_further : Left c lot s p k → Left c lot s (p + 1) (k + 1)
  left_further (with_empty e few empty most saved) = with_empty e few empty (omega arith) (λ under. let less = saved under in omega arith)
  left_further (with_lot q from few has most) = with_lot q from few has (omega arith)

  module _ (known : (3 ≤ p) × (p ≤ 4)) (valid : p ≡ 4 → mark_of (c mark_cell) s ≡ 1) where
    -- an empty slot is passed at place 3
    at_empty : (e : ℕ) → mark_of (c mark_cell) e ≡ 0 → k + 1 ≤ 3 * s + p → (e < s → k + 2 ≤ 3 * s + p) → e ≤ s → k ≤ 3 * s + 2
    at_empty e empty most saved upto = by (ℕ_discrete e s) (ℕ_discrete p 4)
      where
        by : Dec (e ≡ s) → Dec (p ≡ 4) → k ≤ 3 * s + 2
        by (yes is) (yes four) = absurd (omega (arith, sym (valid four) ∙ ap (mark_of (c mark_cell)) (sym is) ∙ empty))
        by (yes is) (no early) = omega arith
        by (no other) four = let less = saved (omega arith) in omega arith

    module _ (other : Has c lot s → ⊥) where
      -- the slot with the lot is not the one that is passed
      ahead : (q : ℕ) → s ≤ q → Has c lot q → s < q
      ahead q from has = by (ℕ_discrete q s)
        where
          by : Dec (q ≡ s) → s < q
          by (yes is) = absurd (other (subst (Has c lot) is has))
          by (no isnot) = omega arith

      left_passed : Left c lot s p k → Left c lot (s + 1) 2 (k + 1)
      left_passed (with_empty e few empty most saved) =
          with_empty e few empty (omega arith) (λ under. let less = at_empty e empty most saved (omega arith) in omega arith)
      left_passed (with_lot q from few has most) = let past = ahead q from has in with_lot q (omega arith) few has (omega arith)

      -- after the last slot
      left_free : Left c lot s p k → 2 ≤ s → s ≤ 2 → k + 5 ≤ insert_most
      left_free (with_empty e few empty most saved) from to = let less = at_empty e empty most saved (omega arith) in omega arith
      left_free (with_lot q from few has most) done to = absurd (let past = ahead q from has in omega arith)

-- ---- a turn of it

module _ (b : List ℕ) (k : ℕ) (w : Worker) where
  abbrev c : ℕ → ℕ
  c j = cell b j

  abbrev Then : Type 0
  Then = StepsTo InsertAlone (Unit {0}) k (turn b w).bucket (turn b w).stepped

  by_row : {s : Step} → turn b w ≡ s → StepsTo InsertAlone (Unit {0}) k s.bucket s.stepped → Then
  by_row is rest = subst (λ (s : Step). StepsTo InsertAlone (Unit {0}) k s.bucket s.stepped) (sym is) rest

  first_left : k ≡ 0 → Lets c w.key → Left c w.key 0 2 (k + 1)
  first_left none (empty_slot e few empty) = with_empty e few empty (omega arith) (λ under. absurd (omega arith))
  first_left none (lot_there q few has) = with_lot q (omega arith) few has (omega arith)

  begin_steps : w.kind ≡ insert_kind → w.place ≡ 1 → w.held ≡ no_slot → k ≡ 0 → Lets c w.key → Then
  begin_steps kind place held none lets =
      let next : InsertAlone b (k + 1) (read_word 2 (cell b mark_cell) w) = searches (search_begun b w kind held) (first_left none lets) in
      by_row (search_begins b w kind place) (alone.further next)

  search_steps : {x : Stepped} → Searches c w → Left c w.key w.slot w.place k → Searched c w x → StepsTo InsertAlone (Unit {0}) k b x
  search_steps at left (further {v} on place slot key) =
      alone.further (searches on (rw (place, slot, key) (left_further c _ _ _ k left)))
  search_steps at left (passed {v} past on place slot key) =
      alone.further (searches on (rw (place, slot, key) (left_passed c _ _ _ k (past.from, past.to) past.valid past.other left)))
  search_steps at left (free e past done few empty) =
      let had = left_free c _ _ _ k (past.from, past.to) past.valid past.other left done at.slot in
      alone.further (claims at.kind refl few at.word (omega arith))
  search_steps at left (full past done taken) = absurd (none left)
    where
      none : Left c w.key w.slot w.place k → ⊥
      none (with_empty e few empty most saved) = taken e few empty
      none (with_lot q from few has most) =
          let ahead = ahead c w.key w.slot w.place k (past.from, past.to) past.valid past.other q from has in omega arith
  search_steps at left (found has) = final tt Read 0

  module _ (ok : Accepted b w) where
    -- the mark word that a won swap leaves
    mark_now : (m : ℕ) → cell (set b mark_cell m) mark_cell ≡ m
    mark_now m = let long = ok.whole.eight in get_or-set_same b mark_cell m 0 (omega arith)

    claim_steps : w.kind ≡ insert_kind → w.place ≡ 6 → w.slot ≤ 2 → w.word ≡ c mark_cell → k + 4 ≤ insert_most → Then
    claim_steps kind place few word had =
        let next : InsertAlone (set b mark_cell (claim w)) (k + 1) (claimed (claim w) w) =
        fills kind (omega arith) (omega arith) few (sym (mark_now (claim w))) (mark_set w.word w.slot 2 (omega arith) (omega arith)) (omega arith) in
        by_row (row6 b w place (sym word)) (alone.further next)

    module _ (kind : w.kind ≡ insert_kind) (held : w.held ≤ 2) (word : w.word ≡ c mark_cell) (two : mark_of w.word w.held ≡ 2) where
      store_next : (j y p : ℕ) → 1 ≤ j → (7 ≤ p) × (p ≤ 9) → k + 11 ≤ p + insert_most → InsertAlone (set b j y) (k + 1) (go_to p w)
      store_next j y p beside known had =
          fills kind known.0 known.1 held (word ∙ sym (get_or-set_other b j mark_cell y 0 (omega arith))) two (omega arith)

      fill_steps : 7 ≤ w.place → w.place ≤ 9 → k + 10 ≤ w.place + insert_most → Dec (w.place ≡ 7) → Dec (w.place ≡ 8) → Then
      fill_steps from to had (yes seven) other =
          by_row (row7 b w seven) (alone.further (store_next _ _ 8 (omega arith) (omega arith) (omega arith)))
      fill_steps from to had (no past) (yes eight) =
          by_row (row8 b w eight) (alone.further (store_next _ _ 9 (omega arith) (omega arith) (omega arith)))
      fill_steps from to had (no past) (no later) =
          let met : filled w ≡ w.word = ap (set_mark w.word w.held) (sym two) ∙ set_same w.word w.held in
          by_row (row9 b w (omega arith) (sym word ∙ sym met)) (final tt Won 1)

    steps : Ticketed b → Inserted c k w → Then
    steps ticketed (begins kind place held none lets) = begin_steps kind place held none lets
    steps ticketed (searches at left) =
        rw (look_keeps b w at.from at.to) (search_steps at left (search_next b w ticketed at))
    steps ticketed (claims kind place few word had) = claim_steps kind place few word had
    steps ticketed (fills kind from to held word two had) = fill_steps kind held word two from to had (ℕ_discrete _ _) (ℕ_discrete _ _)

  busy : Inserted c k w → w ≡ idle → ⊥
  busy (begins kind place held none lets) is = omega (arith, kind, ap (λ (x : Worker). x.kind) is)
  busy (searches at left) is = omega (arith, at.kind, ap (λ (x : Worker). x.kind) is)
  busy (claims kind place few word had) is = omega (arith, kind, ap (λ (x : Worker). x.kind) is)
  busy (fills kind from to held word two had) is = omega (arith, kind, ap (λ (x : Worker). x.kind) is)

  search_fewer : Searches c w → Left c w.key w.slot w.place k → k < insert_most
  search_fewer at (with_empty e few empty most saved) = omega (arith, at.slot, at.to)
  search_fewer at (with_lot q from few has most) = omega (arith, at.slot, at.to)

-- an insert alone that can end has not had thirteen turns
pub insert_fewer : (b : List ℕ) (k : ℕ) (w : Worker) → InsertAlone b k w → k < insert_most
insert_fewer b k w (begins kind place held none lets) = omega arith
insert_fewer b k w (searches at left) = search_fewer b k w at left
insert_fewer b k w (claims kind place few word had) = omega arith
insert_fewer b k w (fills kind from to held word two had) = omega arith

-- each turn of an insert alone that can end goes on or ends it
pub insert_goes : Goes InsertAlone (Unit {0})
insert_goes =
    record {
      busy = λ {b} {k} {w} inserted. busy b k w inserted;
      steps = λ {b} {k} {w} ok ticketed inserted. steps b k w ok ticketed inserted;
    }
