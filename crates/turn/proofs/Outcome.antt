-- Every accepted turn has one of the outcomes of Outcomes. Assumes nothing.
use Prim.Native.Nat.{ℕ, ◌≤◌, ◌<◌}
use mathlib.Core.Bool.{◌&&◌, not, and-eq-true_iff}
use mathlib.Core.Path.{◌≡◌, refl, sym, subst, ◌∙◌}
use mathlib.Core.List.{List}
use native.Mathlib.Omega.{arith}
use lib.Dec.{eqb, ltb}
use lib.ListN.{length, get_or, set}
use lib.Seq.{get_or-set_same, get_or-set_other}
use borrow.Author.Tests.{eqb-true, eqb-false, ltb-true, ltb-false, eq-eqb, ne_eqb, not-true}
use Rattle.mark.specs.Word.{mark_of, first_empty}
use Rattle.mark.proofs.Choices.{by_cases, both_hold, granted, not_both}
use Rattle.mark.proofs.FirstEmpty.{first_empty_lem}
use Rattle.turn.specs.declared.Worker.{Worker}
use Rattle.turn.specs.declared.Stepped.{Stepped}
use Rattle.turn.specs.Bucket.{cell, mark_cell, key_cell, value_cell}
use Rattle.turn.specs.Places.{Step, swapped, does, rows, stays, turn, claim, filled, commit, close}
use Rattle.turn.specs.Places.{loses as misses}
use Rattle.turn.specs.Places.{look_found, find_slot, look_empty, next_slot, next_key, after1, after2, after3, after4, after5, after11, after12}
use Rattle.turn.proofs.Sound.{Accepted, accepted_works}
use Rattle.turn.proofs.Works.{Works, looking, inserting, claiming, filling, beginning, removing, From, among}
use Rattle.turn.proofs.Lands.{expects}
use Rattle.turn.proofs.Outcomes.{Same, Stored, passes, fails, Searcher, Remover, arrives, Found, Empty, NextSlot, next, last, NextKey, next_key_lem, no_key}
use Rattle.turn.proofs.Outcomes.{Reads, read1, read1_remove, read2, read3, read4, read5, read11, read12}
use Rattle.turn.proofs.Outcomes.{Holder, NoHolder, AtSwap, at6, at9, at13, Did, reads, loses, stores_value, stores_key, claims, commits, frees, closes}
use Rattle.turn.proofs.Outcomes as out

-- ---- what follows a look

module _ (w : Worker) (looks : Searcher w) where
  found : Found w (look_found w)
  unfolding look_found
  found =
      by_cases (Found w) _ _ _ (λ call. out.answers (eqb-true _ 1 call)) (λ other.
      let kind = looks.insert (eqb-false _ 1 other) in
      by_cases (Found w) _ _ _ (λ free. out.refuses kind (eqb-true _ 3 free)) (λ some.
      let most : w.held ≤ 3 = looks.few in
      let isnot : w.held ≡ 3 → ⊥ = eqb-false _ 3 some in
      out.gives_back kind (omega arith)))

  finds_slot : w.kind ≡ 2 → w.held ≡ 3 → Empty w (find_slot w)
  unfolding find_slot
  finds_slot kind held =
      let e = first_empty w.word in
      by_cases (Empty w) (ltb e 3) _ _
      (λ some. out.free e kind held (omega (arith, ltb-true e 3 some)) (first_empty_lem w.word).empty)
      (λ isfull. let all : 3 ≤ e = ltb-false e 3 isfull in out.full kind held (λ j few. (first_empty_lem w.word).before j (omega arith)))

  empty : Empty w (look_empty w)
  unfolding look_empty
  empty =
      by_cases (Empty w) _ _ _ (λ call. out.none (eqb-true _ 1 call)) (λ other.
      let kind = looks.insert (eqb-false _ 1 other) in
      by_cases (Empty w) _ _ _ (λ free. finds_slot kind (eqb-true _ 3 free)) (λ some.
      let most : w.held ≤ 3 = looks.few in
      let isnot : w.held ≡ 3 → ⊥ = eqb-false _ 3 some in
      out.ready kind (omega arith)))

  next_slot_lem : NextSlot w (next_slot w)
  unfolding next_slot
  next_slot_lem =
      by_cases (NextSlot w) (ltb w.slot 2) _ _ (λ more. next (ltb-true w.slot 2 more)) (λ done. last (ltb-false w.slot 2 done) empty)

-- ---- the reads

module _ (c : ℕ → ℕ) (w : Worker) where
  module _ (looks : Searcher w) where
    reads2 : w.place ≡ 2 → Reads c w (after2 w (c (value_cell w.slot)))
    unfolding after2
    reads2 is = read2 is looks

    reads3 : w.place ≡ 3 → Reads c w (after3 w (c mark_cell))
    unfolding after3
    reads3 is =
        by_cases (Reads c w) (eqb (mark_of (c mark_cell) w.slot) 1) _ _
        (λ valid. read3 is looks (passes (eqb-true _ 1 valid) arrives))
        (λ other. read3 is looks (fails (eqb-false _ 1 other) (next_slot_lem w looks)))

    reads4 : w.place ≡ 4 → Reads c w (after4 w (c (key_cell w.slot)))
    unfolding after4
    reads4 is =
        by_cases (Reads c w) (eqb (c (key_cell w.slot)) w.key) _ _
        (λ equal. read4 is looks (passes (eqb-true _ _ equal) arrives))
        (λ other. read4 is looks (fails (eqb-false _ _ other) (next_slot_lem w looks)))

    reads5 : w.place ≡ 5 → Reads c w (after5 w (c (value_cell w.slot)))
    unfolding after5
    reads5 is =
        let x = c (value_cell w.slot) in
        by_cases (Reads c w) (eqb x w.seen && not (eqb x 0)) _ _
        (λ hit.
        let both = (and-eq-true_iff (eqb x w.seen) (not (eqb x 0))).0 hit in
        read5 is looks (passes (eqb-true _ _ both.0, eqb-false _ _ (not-true _ both.1)) (found w looks)))
        (λ other. read5 is looks
        (fails (λ known. not_both _ other (both_hold _ _ (eq-eqb _ _ known.0) (granted _ (ne_eqb _ _ known.1)))) (empty w looks)))

  module _ (removes : Remover w) where
    next_keys : NextKey w (next_key w)
    unfolding next_key
    next_keys =
        by_cases (NextKey w) (ltb w.slot 2) _ _ (λ more. next_key_lem (ltb-true w.slot 2 more)) (λ done. no_key (ltb-false w.slot 2 done))

    reads11 : w.place ≡ 11 → Reads c w (after11 w (c (key_cell w.slot)))
    unfolding after11
    reads11 is =
        let same = eqb (c (key_cell w.slot)) w.key in
        let valid = eqb (mark_of w.word w.slot) 1 in
        by_cases (Reads c w) (same && valid) _ _
        (λ hit.
        let both = (and-eq-true_iff same valid).0 hit in
        read11 is removes (passes (eqb-true _ _ both.0, eqb-true _ _ both.1) arrives))
        (λ other. read11 is removes
        (fails (λ known. not_both _ other (both_hold _ _ (eq-eqb _ _ known.0) (eq-eqb _ _ known.1))) next_keys))

    reads12 : w.place ≡ 12 → Reads c w (after12 w (c (value_cell w.slot)))
    unfolding after12
    reads12 is = read12 is removes

  reads1 :
      w.place ≡ 1
      → (w.kind ≡ 3 → Remover w)
      → ((w.kind ≡ 3 → ⊥) → (w.kind ≡ 2) × (w.held ≤ 3))
      → Reads c w (after1 w (c mark_cell))
  unfolding after1
  reads1 place remove insert =
      by_cases (Reads c w) (eqb w.kind 3) _ _ (λ is. read1_remove place (remove (eqb-true _ 3 is)))
      (λ isnot. let known = insert (eqb-false _ 3 isnot) in read1 place known.0 known.1)

-- ---- a search, whatever stands in the bucket

module _ (b : List ℕ) (w : Worker) (looks : Searcher w) where
  abbrev ReadsAt : ℕ → Type 0
  ReadsAt p = w.place ≡ p → Reads (λ k. cell b k) w (does (get_or rows p stays) b w).stepped

  read_rows : From ReadsAt 2 4
  read_rows =
      let row2 : ReadsAt 2 = λ is. reads2 _ w looks is in
      let row3 : ReadsAt 3 = λ is. reads3 _ w looks is in
      let row4 : ReadsAt 4 = λ is. reads4 _ w looks is in
      let row5 : ReadsAt 5 = λ is. reads5 _ w looks is in
      (row2, (row3, (row4, (row5, tt))))

  -- how a turn of a search comes out, for any words in the bucket
  pub look_reads : 2 ≤ w.place → w.place ≤ 5 → Reads (λ k. cell b k) w (turn b w).stepped
  unfolding turn
  look_reads from to = among ReadsAt 2 4 w.place read_rows from (omega arith) refl

module _ (b : List ℕ) (w : Worker) where
  abbrev KeepsAt : ℕ → Type 0
  KeepsAt p = (does (get_or rows p stays) b w).bucket ≡ b

  -- a turn of a search leaves the bucket as it was
  pub look_keeps : 2 ≤ w.place → w.place ≤ 5 → (turn b w).bucket ≡ b
  unfolding turn
  look_keeps from to = let all : From KeepsAt 2 4 = (refl, (refl, (refl, (refl, tt)))) in among KeepsAt 2 4 w.place all from (omega arith)

-- ---- the rows of the places

module _ (b : List ℕ) (w : Worker) (eight : length b ≡ 8) where
  -- the cells of the bucket
  abbrev c : ℕ → ℕ
  c k = cell b k

  abbrev D : Step → Type 0
  D s = Did c w (λ k. cell s.bucket k) s.stepped

  abbrev At : ℕ → Type 0
  At p = w.place ≡ p → D (does (get_or rows p stays) b w)

  same : Same c c
  same k = refl

  stored : (j x : ℕ) → j < 8 → Stored c j x (λ k. cell (set b j x) k)
  stored j x under =
      record { there = get_or-set_same b j x 0 (omega arith); others = λ k other. get_or-set_other b j k x 0 other }

  swaps :
      (expected new : ℕ) (won : Stepped)
      → expects w ≡ expected
      → AtSwap w
      → (c mark_cell ≡ expected → Did c w (λ k. cell (set b mark_cell new) k) won)
      → D (swapped b expected new won (misses w))
  swaps expected new won known swap wins =
      by_cases D _ _ _ (λ is. wins (eqb-true _ expected is))
      (λ lost. loses same swap (λ is. eqb-false _ expected lost (sym is ∙ known)))

  look_rows : Searcher w → From At 2 4
  look_rows looks =
      let rows = read_rows b w looks in
      let row2 : At 2 = λ is. reads same (rows.0 is) in
      let row3 : At 3 = λ is. reads same (rows.1.0 is) in
      let row4 : At 4 = λ is. reads same (rows.1.1.0 is) in
      let row5 : At 5 = λ is. reads same (rows.1.1.1.0 is) in
      (row2, (row3, (row4, (row5, tt))))

  insert_row : w.kind ≡ 2 → w.held ≤ 3 → At 1
  insert_row kind held is = reads same (reads1 c w is (λ other. absurd (omega arith)) (λ isnot. (kind, held)))

  claim_row : NoHolder w → At 6
  claim_row known is =
      swaps w.word (claim w) _ (rw is) (at6 is known) (λ met. claims (stored mark_cell _ (omega arith)) met is known)

  fill_rows : Holder w → From At 7 4
  fill_rows known =
      let some : w.held ≤ 2 = known.held in
      let row7 : At 7 = λ is. stores_value (stored _ _ (omega arith)) is known in
      let row8 : At 8 = λ is. stores_key (stored _ _ (omega arith)) is known in
      let row9 : At 9 = λ is.
      swaps (filled w) (commit w) _ (rw is) (at9 is known) (λ met. commits (stored mark_cell _ (omega arith)) met is known) in
      let row10 : At 10 = λ is. frees (stored mark_cell _ (omega arith)) is known in
      (row7, (row8, (row9, (row10, tt))))

  remove_row : Remover w → At 1
  remove_row known is = reads same (reads1 c w is (λ kind. known) (λ isnot. absurd (isnot known.kind)))

  remove_rows : Remover w → From At 11 3
  remove_rows known =
      let row11 : At 11 = λ is. reads same (reads11 c w known is) in
      let row12 : At 12 = λ is. reads same (reads12 c w known is) in
      let row13 : At 13 = λ is.
      swaps w.word (close w) _ (rw is) (at13 is known) (λ met. closes (stored mark_cell _ (omega arith)) met is known) in
      (row11, (row12, (row13, tt)))

  outcome : Works w.kind w.place w.held → At w.place
  outcome (looking kind from to held) =
      let looks : Searcher w = record { call = λ is. held; insert = λ other. absurd (other kind); few = omega arith } in
      among At 2 4 _ (look_rows looks) from (omega arith)
  outcome (inserting kind from to held) =
      let looks : Searcher w = record { call = λ is. absurd (omega arith); insert = λ other. kind; few = held } in
      among At 1 5 _ (insert_row kind held, look_rows looks) from (omega arith)
  outcome (claiming kind place held) = subst At (sym place) (claim_row (record { kind = kind; held = held }))
  outcome (filling kind from to held) = among At 7 4 _ (fill_rows (record { kind = kind; held = held })) from (omega arith)
  outcome (beginning kind place held) = subst At (sym place) (remove_row (record { kind = kind; held = held }))
  outcome (removing kind from to held) = among At 11 3 _ (remove_rows (record { kind = kind; held = held })) from (omega arith)

-- every accepted turn has one of the outcomes
pub turn_did :
    (b : List ℕ) (w : Worker) → Accepted b w → Did (λ k. cell b k) w (λ k. cell (turn b w).bucket k) (turn b w).stepped
unfolding turn
turn_did b w ok = outcome b w ok.whole.eight (accepted_works b w ok) refl
