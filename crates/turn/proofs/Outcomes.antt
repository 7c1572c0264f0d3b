-- The outcomes of an accepted turn, place by place, in cells: which one was read and what it held, which one was stored to and with
-- what. All other cells of the bucket are as they were. Assumes nothing.
use Prim.Native.Nat.{ℕ, ◌+◌, ◌≤◌, ◌<◌}
use mathlib.Core.Bool.{true, false}
use mathlib.Core.Path.{◌≡◌}
use Rattle.mark.specs.Word.{mark_of, set_mark}
use Rattle.turn.specs.declared.Worker.{Worker}
use Rattle.turn.specs.declared.Action.TheVariants.{Read, Store, Won, Lost}
use Rattle.turn.specs.declared.Stepped.{Stepped}
use Rattle.turn.specs.Worker.{go_to, at_slot, saw, read_word, claimed}
use Rattle.turn.specs.Bucket.{mark_cell, key_cell, value_cell}
use Rattle.turn.specs.Places.{goes_on, ends, claim, filled, commit, close}
use Rattle.turn.proofs.Lands.{expects}

-- ---- cells

-- all as they were
abbrev pub Same : (ℕ → ℕ) → (ℕ → ℕ) → Type 0
Same c d = (k : ℕ) → d k ≡ c k

-- cell j holds x, and the others are as they were
pub record Stored (c : ℕ → ℕ) (j x : ℕ) (d : ℕ → ℕ) : Type 0 where
  pub there : d j ≡ x
  pub others : (k : ℕ) → (k ≡ j → ⊥) → d k ≡ c k

-- ---- what follows a read

-- what follows where T holds, and where it does not
pub data Choice (T : Type 0) (A B : Stepped → Type 0) : Stepped → Type 0 where
  passes : {x : Stepped} → T → A x → Choice T A B x
  fails : {x : Stepped} → (T → ⊥) → B x → Choice T A B x

-- the record of a search: of a look, or of an insert with or without a slot
pub record Searcher (w : Worker) : Type 0 where
  pub call : w.kind ≡ 1 → w.held ≡ 3
  pub insert : (w.kind ≡ 1 → ⊥) → w.kind ≡ 2
  pub few : w.held ≤ 3

-- the record of a remove
pub record Remover (w : Worker) : Type 0 where
  pub kind : w.kind ≡ 3
  pub held : w.held ≡ 3

module _ (w : Worker) where
  -- on to a place
  pub data To (p : ℕ) : Stepped → Type 0 where
    arrives : To p (goes_on Read false (go_to p w))

  -- the search has found
  pub data Found : Stepped → Type 0 where
    answers : w.kind ≡ 1 → Found (ends Read w.seen)
    refuses : w.kind ≡ 2 → w.held ≡ 3 → Found (ends Read 0)
    gives_back : w.kind ≡ 2 → w.held ≤ 2 → Found (goes_on Read false (go_to 10 w))

  -- the search is empty
  pub data Empty : Stepped → Type 0 where
    none : w.kind ≡ 1 → Empty (ends Read 0)
    free : (e : ℕ) → w.kind ≡ 2 → w.held ≡ 3 → e ≤ 2 → mark_of w.word e ≡ 0 → Empty (goes_on Read false (at_slot 6 e w))
    full :
        w.kind ≡ 2 → w.held ≡ 3 → ((e : ℕ) → e ≤ 2 → mark_of w.word e ≡ 0 → ⊥)
        → Empty (goes_on Read true (at_slot 1 0 w))
    ready : w.kind ≡ 2 → w.held ≤ 2 → Empty (goes_on Read false (go_to 9 w))

  -- to the next slot of a search, or past the last
  pub data NextSlot : Stepped → Type 0 where
    next : w.slot < 2 → NextSlot (goes_on Read false (at_slot 2 (w.slot + 1) w))
    last : {x : Stepped} → 2 ≤ w.slot → Empty x → NextSlot x

  -- to the next key of a remove, or past the last
  pub data NextKey : Stepped → Type 0 where
    next_key_lem : w.slot < 2 → NextKey (goes_on Read false (at_slot 11 (w.slot + 1) w))
    no_key : 2 ≤ w.slot → NextKey (ends Read 0)

-- ---- a read, place by place

-- a read of a worker in a bucket with the cells c: what it read decides what follows
pub data Reads (c : ℕ → ℕ) (w : Worker) : Stepped → Type 0 where
  read1 : w.place ≡ 1 → w.kind ≡ 2 → w.held ≤ 3 → Reads c w (goes_on Read false (read_word 2 (c mark_cell) w))
  read1_remove : w.place ≡ 1 → Remover w → Reads c w (goes_on Read false (read_word 11 (c mark_cell) w))
  read2 : w.place ≡ 2 → Searcher w → Reads c w (goes_on Read false (saw 3 (c (value_cell w.slot)) w))
  read3 :
      {x : Stepped} → w.place ≡ 3 → Searcher w → Choice (mark_of (c mark_cell) w.slot ≡ 1) (To w 4) (NextSlot w) x
      → Reads c w x
  read4 :
      {x : Stepped} → w.place ≡ 4 → Searcher w → Choice (c (key_cell w.slot) ≡ w.key) (To w 5) (NextSlot w) x
      → Reads c w x
  read5 :
      {x : Stepped} → w.place ≡ 5 → Searcher w
      → Choice ((c (value_cell w.slot) ≡ w.seen) × (c (value_cell w.slot) ≡ 0 → ⊥)) (Found w) (Empty w) x
      → Reads c w x
  read11 :
      {x : Stepped} → w.place ≡ 11 → Remover w
      → Choice ((c (key_cell w.slot) ≡ w.key) × (mark_of w.word w.slot ≡ 1)) (To w 12) (NextKey w) x
      → Reads c w x
  read12 : w.place ≡ 12 → Remover w → Reads c w (goes_on Read false (saw 13 (c (value_cell w.slot)) w))

-- ---- a turn

-- the record of an insert that holds a slot
pub record Holder (w : Worker) : Type 0 where
  pub kind : w.kind ≡ 2
  pub held : w.held ≤ 2

-- the record of an insert that holds none
pub record NoHolder (w : Worker) : Type 0 where
  pub kind : w.kind ≡ 2
  pub held : w.held ≡ 3

-- a record whose turn is a swap
pub data AtSwap (w : Worker) : Type 0 where
  at6 : w.place ≡ 6 → NoHolder w → AtSwap w
  at9 : w.place ≡ 9 → Holder w → AtSwap w
  at13 : w.place ≡ 13 → Remover w → AtSwap w

-- a turn of w on a bucket with the cells c leaves the cells d, and x
pub data Did (c : ℕ → ℕ) (w : Worker) (d : ℕ → ℕ) : Stepped → Type 0 where
  reads : {x : Stepped} → Same c d → Reads c w x → Did c w d x
  loses : Same c d → AtSwap w → (expects w ≡ c mark_cell → ⊥) → Did c w d (goes_on Lost false (go_to 1 w))
  stores_value :
      Stored c (value_cell w.held) w.ticket d → w.place ≡ 7 → Holder w → Did c w d (goes_on Store false (go_to 8 w))
  stores_key : Stored c (key_cell w.held) w.key d → w.place ≡ 8 → Holder w → Did c w d (goes_on Store false (go_to 9 w))
  claims :
      Stored c mark_cell (claim w) d → c mark_cell ≡ w.word → w.place ≡ 6 → NoHolder w
      → Did c w d (goes_on Won false (claimed (claim w) w))
  commits : Stored c mark_cell (commit w) d → c mark_cell ≡ filled w → w.place ≡ 9 → Holder w → Did c w d (ends Won 1)
  frees : Stored c mark_cell (set_mark (c mark_cell) w.held 0) d → w.place ≡ 10 → Holder w → Did c w d (ends Store 0)
  closes : Stored c mark_cell (close w) d → c mark_cell ≡ w.word → w.place ≡ 13 → Remover w → Did c w d (ends Won w.seen)
