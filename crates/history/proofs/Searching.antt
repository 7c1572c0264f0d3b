-- The search of an insert that is alone in its bucket and holds no slot: how each of its turns comes out. Assumes nothing.
use Prim.Native.Nat.{ℕ, ◌+◌, ◌≤◌}
use mathlib.Core.Bool.{true, false}
use mathlib.Core.List.{List}
use mathlib.Core.Path.{◌≡◌, refl, sym}
use native.Mathlib.Omega.{arith}
use borrow.Author.Tests.{ne_eqb}
use Rattle.mark.specs.Word.{mark_of}
use Rattle.turn.specs.declared.Worker.{Worker}
use Rattle.turn.specs.declared.Stepped.{Stepped}
use Rattle.turn.specs.declared.Action.TheVariants.{Read}
use Rattle.turn.specs.Worker.{insert_kind, no_slot, at_slot, read_word}
use Rattle.turn.specs.Bucket.{cell, mark_cell, key_cell, value_cell}
use Rattle.turn.specs.Places.{leaves, goes_on, ends, turn, after1}
use Rattle.turn.proofs.Lands.{moved}
use Rattle.turn.proofs.Outcomes.{Reads, read1, read1_remove, read2, read3, read4, read5, read11, read12, arrives, Found, Empty, NextSlot, next, last}
use Rattle.turn.proofs.Outcomes as out
use Rattle.turn.proofs.Outcome.{look_reads}

-- in a bucket with the cells c
module _ (c : ℕ → ℕ) where
  -- slot p is valid with this lot
  pub record Has (lot p : ℕ) : Type 0 where
    pub valid : mark_of (c mark_cell) p ≡ 1
    pub key : c (key_cell p) ≡ lot

  -- what lets an insert of this lot end: a slot that is empty, or one with the lot
  pub data Lets (lot : ℕ) : Type 0 where
    empty_slot : (e : ℕ) → e ≤ 2 → mark_of (c mark_cell) e ≡ 0 → Lets lot
    lot_there : (q : ℕ) → q ≤ 2 → Has lot q → Lets lot

  -- an insert at its search: it has the mark word that stands there, and of its slot it knows the value, the mark and the lot as far as it has
  -- read them
  pub record Searches (w : Worker) : Type 0 where
    pub kind : w.kind ≡ insert_kind
    pub held : w.held ≡ no_slot
    pub from : 2 ≤ w.place
    pub to : w.place ≤ 5
    pub slot : w.slot ≤ 2
    pub word : w.word ≡ c mark_cell
    pub seen : 3 ≤ w.place → w.seen ≡ c (value_cell w.slot)
    pub valid : 4 ≤ w.place → mark_of (c mark_cell) w.slot ≡ 1
    pub key : 5 ≤ w.place → c (key_cell w.slot) ≡ w.key

  -- a search that passes its slot over: the slot is not valid, or has another lot
  pub record Passes (w : Worker) : Type 0 where
    pub from : 3 ≤ w.place
    pub to : w.place ≤ 4
    pub valid : w.place ≡ 4 → mark_of (c mark_cell) w.slot ≡ 1
    pub other : Has w.key w.slot → ⊥

  -- how a turn of a search comes out
  pub data Searched (w : Worker) : Stepped → Type 0 where
    -- it goes on at its slot
    further : {v : Worker} → Searches v → v.place ≡ w.place + 1 → v.slot ≡ w.slot → v.key ≡ w.key → Searched w (goes_on Read false v)
    -- it goes on at the next slot
    passed : {v : Worker} → Passes w → Searches v → v.place ≡ 2 → v.slot ≡ w.slot + 1 → v.key ≡ w.key → Searched w (goes_on Read false v)
    -- it has passed the last slot, and there is one to claim
    free : (e : ℕ) → Passes w → 2 ≤ w.slot → e ≤ 2 → mark_of (c mark_cell) e ≡ 0 → Searched w (goes_on Read false (at_slot 6 e w))
    -- it has passed the last slot, and there is none
    full : Passes w → 2 ≤ w.slot → ((e : ℕ) → e ≤ 2 → mark_of (c mark_cell) e ≡ 0 → ⊥) → Searched w (goes_on Read true (at_slot 1 0 w))
    -- it has found its lot
    found : Has w.key w.slot → Searched w (ends Read 0)

module _ (c : ℕ → ℕ) (w : Worker) (searches : Searches c w) where
  -- at a place and slot, with this value seen
  at :
      (p s v : ℕ)
      → (2 ≤ p) × (p ≤ 5) × (s ≤ 2)
      → (3 ≤ p → v ≡ c (value_cell s))
      → (4 ≤ p → mark_of (c mark_cell) s ≡ 1)
      → (5 ≤ p → c (key_cell s) ≡ w.key)
      → Searches c (moved p s v w)
  at p s v known seen valid key =
      record {
        kind = searches.kind;
        held = searches.held;
        from = known.0;
        to = known.1;
        slot = known.2;
        word = searches.word;
        seen = seen;
        valid = valid;
        key = key;
      }

  empty_searched : {x : Stepped} → Passes c w → 2 ≤ w.slot → Empty w x → Searched c w x
  empty_searched past done (out.none kind) = absurd (omega (arith, searches.kind))
  empty_searched past done (out.free e kind held slot empty) = free e past done slot (rw searches.word at empty)
  empty_searched past done (out.full kind held taken) = full past done (λ e few empty. taken e few (rw searches.word empty))
  empty_searched past done (out.ready kind held) = absurd (omega (arith, searches.held))

  next_searched : {x : Stepped} → Passes c w → NextSlot w x → Searched c w x
  next_searched past (next more) =
      passed past (at 2 (w.slot + 1) w.seen (omega arith) (λ late. absurd (omega arith)) (λ late. absurd (omega arith)) (λ late. absurd (omega arith)))
      refl refl refl
  next_searched past (last done empty) = empty_searched past done empty

  found_searched : {x : Stepped} → Has c w.key w.slot → Found w x → Searched c w x
  found_searched has (out.answers kind) = absurd (omega (arith, searches.kind))
  found_searched has (out.refuses kind held) = found has
  found_searched has (out.gives_back kind held) = absurd (omega (arith, searches.held))

  -- where every valid slot has a ticket
  module _ (ticketed : (p : ℕ) → mark_of (c mark_cell) p ≡ 1 → 1 ≤ c (value_cell p)) where
    reads_searched : {x : Stepped} → Reads c w x → Searched c w x
    reads_searched (read1 place kind held) = absurd (omega (arith, searches.from))
    reads_searched (read1_remove place removes) = absurd (omega (arith, searches.from))
    reads_searched (read2 place looks) =
        further (at 3 w.slot _ (omega (arith, searches.slot)) (λ late. refl) (λ late. absurd (omega arith)) (λ late. absurd (omega arith)))
        (omega arith) refl refl
    reads_searched (read3 place looks (out.passes valid arrives)) =
        further (at 4 w.slot w.seen (omega (arith, searches.slot)) (λ late. searches.seen (omega arith)) (λ late. valid) (λ late. absurd (omega arith)))
        (omega arith) refl refl
    reads_searched (read3 place looks (out.fails other rest)) =
        next_searched (record { from = omega arith; to = omega arith; valid = λ four. absurd (omega arith); other = λ has. other has.valid }) rest
    reads_searched (read4 place looks (out.passes equal arrives)) =
        further (at 5 w.slot w.seen (omega (arith, searches.slot)) (λ late. searches.seen (omega arith)) (λ late. searches.valid (omega arith)) (λ late. equal))
        (omega arith) refl refl
    reads_searched (read4 place looks (out.fails other rest)) =
        next_searched (record { from = omega arith; to = omega arith; valid = λ four. searches.valid (omega arith); other = λ has. other has.key }) rest
    reads_searched (read5 place looks (out.passes known hit)) =
        found_searched (record { valid = searches.valid (omega arith); key = searches.key (omega arith) }) hit
    reads_searched (read5 place looks (out.fails other empty)) =
        let some : 1 ≤ c (value_cell w.slot) = ticketed w.slot (searches.valid (omega arith)) in
        absurd (other (sym (searches.seen (omega arith)), λ none. omega arith))
    reads_searched (read11 place removes choice) = absurd (omega (arith, searches.to))
    reads_searched (read12 place removes) = absurd (omega (arith, searches.to))

-- ---- in a bucket

module _ (b : List ℕ) (w : Worker) where
  -- an insert's first turn reads the mark word
  pub search_begins : w.kind ≡ insert_kind → w.place ≡ 1 → turn b w ≡ leaves b (goes_on Read false (read_word 2 (cell b mark_cell) w))
  unfolding turn after1
  search_begins kind place = rw (place, ne_eqb w.kind 3 (omega arith))

  -- an insert that has just read the mark word searches
  pub search_begun : w.kind ≡ insert_kind → w.held ≡ no_slot → Searches (λ k. cell b k) (read_word 2 (cell b mark_cell) w)
  search_begun kind held =
      record {
        kind = kind;
        held = held;
        from = omega arith;
        to = omega arith;
        slot = omega arith;
        word = refl;
        seen = λ late. absurd (omega arith);
        valid = λ late. absurd (omega arith);
        key = λ late. absurd (omega arith);
      }

  -- how its next turn comes out, where every valid slot has a ticket
  pub search_next :
      ((p : ℕ) → mark_of (cell b mark_cell) p ≡ 1 → 1 ≤ cell b (value_cell p))
      → Searches (λ k. cell b k) w
      → Searched (λ k. cell b k) w (turn b w).stepped
  search_next ticketed searches =
      let looks : out.Searcher w =
      record { call = λ is. searches.held; insert = λ other. searches.kind; few = omega (arith, searches.held) } in
      reads_searched _ w searches ticketed (look_reads b w looks searches.from searches.to)
