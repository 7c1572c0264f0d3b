-- Every accepted turn has one of the outcomes of Lands: each of those of Outcomes is one. Assumes nothing.
use Prim.Native.Nat.{ℕ, ◌+◌, ◌≤◌, ◌<◌}
use mathlib.Core.Bool.{Bool, true, false}
use mathlib.Core.Path.{◌≡◌, refl}
use mathlib.Core.List.{List}
use native.Mathlib.Decide.{ℕ_discrete}
use native.Mathlib.Omega.{arith}
use borrow.Author.Tests.{ne_eqb}
use Rattle.mark.specs.Word.{mark_of}
use Rattle.turn.specs.declared.Worker.{Worker}
use Rattle.turn.specs.declared.Action.TheVariants.{Read, Store}
use Rattle.turn.specs.declared.Stepped.{Stepped}
use Rattle.turn.specs.Worker.{go_to, saw}
use Rattle.turn.specs.Bucket.{cell, mark_cell}
use Rattle.turn.specs.Places.{goes_on, turn}
use Rattle.turn.proofs.Sound.{Accepted}
use Rattle.turn.proofs.Works.{Works, looking, inserting, claiming, filling, beginning, removing}
use Rattle.turn.proofs.Lands.{Aimed, elsewhere, moved, Swapper, filler, claimer}
use Rattle.turn.proofs.Lands.{Lands, reads, goes, loses, answers, claims, commits, frees, closes}
use Rattle.turn.proofs.Outcomes.{passes, fails, arrives, Searcher, Remover, Found, Empty, NextSlot, NextKey, Reads, Holder, AtSwap, Did}
use Rattle.turn.proofs.Outcomes as did
use Rattle.turn.proofs.Outcome.{turn_did}

-- ---- the reads past place 1

module _ (m n : ℕ) (w : Worker) (same : n ≡ m) (few : w.slot ≤ 2) (from : 2 ≤ w.place) where
  abbrev Follows : Stepped → Type 0
  Follows x = Lands m n w x

  -- the call goes on, at a place that asks for no aim
  on :
      (full : Bool) (p s v : ℕ)
      → Works w.kind p w.held
      → (s ≤ 2) × (p ≡ 6 → ⊥) × (p ≡ 7 → ⊥) × (p < 12)
      → Follows (goes_on Read full (moved p s v w))
  on full p s v fits to = goes Read full p s v same refl refl from fits to.2 to.0 (λ a. elsewhere _ (to.1, to.3))

  found_lands : {x : Stepped} → Found w x → Follows x
  found_lands (did.answers kind) = answers w.seen same
  found_lands (did.refuses kind held) = answers 0 same
  found_lands (did.gives_back kind held) = on false 10 _ _ (filling kind (omega arith) (omega arith) held) (omega arith)

  empty_lands : {x : Stepped} → Empty w x → Follows x
  empty_lands (did.none kind) = answers 0 same
  empty_lands (did.free e kind held slot empty) =
      goes Read false 6 e w.seen same refl refl from (claiming kind refl held) (omega arith) slot
      (λ a. record { at_claim = λ is. empty; at_close = λ from to. absurd (omega arith) })
  empty_lands (did.full kind held taken) = on true 1 0 _ (inserting kind (omega arith) (omega arith) (omega arith)) (omega arith)
  empty_lands (did.ready kind held) = on false 9 _ _ (filling kind (omega arith) (omega arith) held) (omega arith)

  module _ (looks : Searcher w) where
    looks_at : (p : ℕ) → 2 ≤ p → p ≤ 5 → Dec (w.kind ≡ 1) → Works w.kind p w.held
    looks_at p from to (yes is) = looking is from to (looks.call is)
    looks_at p from to (no other) = inserting (looks.insert other) (omega arith) to looks.few

    -- the look goes on
    look : (p s v : ℕ) → (2 ≤ p) × (p ≤ 5) × (s ≤ 2) → Follows (goes_on Read false (moved p s v w))
    look p s v to = on false p s v (looks_at p to.0 to.1 (ℕ_discrete w.kind 1)) (omega arith)

    slot_lands : {x : Stepped} → NextSlot w x → Follows x
    slot_lands (did.next more) = look 2 (w.slot + 1) _ (omega arith)
    slot_lands (did.last done empty) = empty_lands empty

  module _ (removes : Remover w) where
    key_lands : {x : Stepped} → NextKey w x → Follows x
    key_lands (did.next_key_lem more) =
        on false 11 _ _ (removing removes.kind (omega arith) (omega arith) removes.held) (omega arith)
    key_lands (did.no_key done) = answers 0 same

    -- to a place where the slot has to be valid
    to_close : (p v : ℕ) → (12 ≤ p) × (p ≤ 13) → (Aimed w → mark_of w.word w.slot ≡ 1) → Follows (goes_on Read false (saw p v w))
    to_close p v to valid =
        goes Read false p w.slot v same refl refl from (removing removes.kind (omega arith) to.1 removes.held) (omega arith) few
        (λ a. record { at_claim = λ is. absurd (omega arith); at_close = λ from to. valid a })

-- ---- all outcomes

module _ (c d : ℕ → ℕ) (w : Worker) (few : w.slot ≤ 2) where
  abbrev Comes : Stepped → Type 0
  Comes x = Lands (c mark_cell) (d mark_cell) w x

  reads_land : {x : Stepped} → d mark_cell ≡ c mark_cell → Reads c w x → Comes x
  reads_land same (did.read1 place kind held) =
      reads 2 same place (omega arith) (inserting kind (omega arith) (omega arith) held) (omega arith) (elsewhere _ (omega arith))
  reads_land same (did.read1_remove place removes) =
      let kind = removes.kind in
      reads 11 same place (omega arith) (removing kind (omega arith) (omega arith) removes.held) (omega arith) (elsewhere _ (omega arith))
  reads_land same (did.read2 place looks) = look _ _ w same few (omega arith) looks 3 _ _ (omega arith)
  reads_land same (did.read3 place looks (passes valid arrives)) = look _ _ w same few (omega arith) looks 4 _ _ (omega arith)
  reads_land same (did.read3 place looks (fails other after)) = slot_lands _ _ w same few (omega arith) looks after
  reads_land same (did.read4 place looks (passes equal arrives)) = look _ _ w same few (omega arith) looks 5 _ _ (omega arith)
  reads_land same (did.read4 place looks (fails other after)) = slot_lands _ _ w same few (omega arith) looks after
  reads_land same (did.read5 place looks (passes hit found)) = found_lands _ _ w same few (omega arith) found
  reads_land same (did.read5 place looks (fails other empty)) = empty_lands _ _ w same few (omega arith) empty
  reads_land same (did.read11 place removes (passes hit arrives)) =
      to_close _ _ w same few (omega arith) removes 12 _ (omega arith) (λ a. hit.1)
  reads_land same (did.read11 place removes (fails other after)) = key_lands _ _ w same few (omega arith) removes after
  reads_land same (did.read12 place removes) =
      to_close _ _ w same few (omega arith) removes 13 _ (omega arith) (λ a. a.at_close (omega arith) (omega arith))

  -- a store beside the mark word
  stores :
      (p : ℕ)
      → d mark_cell ≡ c mark_cell
      → Holder w
      → (7 ≤ w.place) × (w.place < 10) × (8 ≤ p) × (p ≤ 10)
      → Comes (goes_on Store false (go_to p w))
  stores p same fills to =
      goes Store false p w.slot w.seen same refl (rw (ne_eqb w.place 10 (omega arith))) (omega arith)
      (filling fills.kind (omega arith) to.3 fills.held) (omega arith) few (λ a. elsewhere _ (omega arith))

  -- a worker at a swap, who begins again if it is lost
  swapper : AtSwap w → Swapper w × Works w.kind 1 w.held
  swapper (did.at6 place known) =
      let kind = known.kind in
      (claimer w (omega arith), inserting kind (omega arith) (omega arith) (omega (arith, known.held)))
  swapper (did.at9 place known) =
      let kind = known.kind in
      (filler w kind place known.held, inserting kind (omega arith) (omega arith) (omega (arith, known.held)))
  swapper (did.at13 place known) = let kind = known.kind in (claimer w (omega arith), beginning kind refl known.held)

  lands : {x : Stepped} → Did c w d x → Comes x
  lands (did.reads same read) = reads_land (same mark_cell) read
  lands (did.loses same swap missed) = loses (same mark_cell) (swapper swap).0 missed (swapper swap).1
  lands (did.stores_value put place fills) = stores 8 (put.others mark_cell (omega arith)) fills (omega arith)
  lands (did.stores_key put place fills) = stores 9 (put.others mark_cell (omega arith)) fills (omega arith)
  lands (did.claims put met place known) = claims put.there known.kind place known.held met
  lands (did.commits put met place fills) = commits put.there fills.kind place fills.held met
  lands (did.frees put place fills) = frees put.there fills.kind place fills.held
  lands (did.closes put met place known) = closes put.there known.kind place known.held met

-- every accepted turn has one of the eight outcomes
pub turn_lands :
    (b : List ℕ) (w : Worker) → Accepted b w → Lands (cell b mark_cell) (cell (turn b w).bucket mark_cell) w (turn b w).stepped
turn_lands b w ok = lands (λ k. cell b k) (λ k. cell (turn b w).bucket k) w ok.sound.slot (turn_did b w ok)
