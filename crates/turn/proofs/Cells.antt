-- §4.1, §11.2: one memory action. A turn keeps the bucket's length, goes by one word and changes no other, makes of that word what it and
-- the worker's record say, and changes none where it comes out as a read or a lost swap. Assumes nothing.
use Prim.Native.Nat.{ℕ, zero, suc, ◌<◌}
use mathlib.Core.Bool.{Bool, true, false, cond}
use mathlib.Core.Path.{◌≡◌, refl, sym, ap, ◌∙◌}
use mathlib.Core.List.{List, [], ◌∷◌}
use lib.ListN.{length, get_or, set, length-set}
use lib.Seq.{get_or-set_same, get_or-set_other}
use Rattle.mark.proofs.Choices.{by_cases, not_both}
use Rattle.turn.specs.declared.Worker.{Worker}
use Rattle.turn.specs.declared.Action.{Action}
use Rattle.turn.specs.declared.Action.TheVariants.{Read, Store, Won, Lost}
use Rattle.turn.specs.Bucket.{cell, mark_cell}
use Rattle.turn.specs.Places.{Act, read, store, swap, Step, leaves, wins, loses, does, rows, stays, turn}

-- ---- by the three kinds of action, for any bucket and any worker

-- what holds of both outcomes of a swap holds of the swap
by_swap : (P : Step → Type 0) (t : Bool) (won lost : Step) → P won → P lost → P (cond t won lost)
by_swap P t won lost p q = by_cases P t won lost (λ is. p) (λ is. q)

module _ (b : List ℕ) (w : Worker) where
  does_long : (a : Act) → length (does a b w).bucket ≡ length b
  does_long (read at next) = refl
  does_long (store at what next) = length-set b (at w) _
  does_long (swap expected new won) =
      by_swap (λ (s : Step). length s.bucket ≡ length b) (wins b (expected w)) _ _ (length-set b mark_cell (new w)) refl

  -- a turn keeps the bucket's length
  pub turn_long : length (turn b w).bucket ≡ length b
  unfolding turn
  turn_long = does_long (get_or rows w.place stays)

-- ---- one word at most

-- the cell that an action reads, stores to or swaps
abbrev pub cell_of : Act → Worker → ℕ
cell_of (read at next) w = at w
cell_of (store at what next) w = at w
cell_of (swap expected new won) w = mark_cell

-- the cell that a worker's turn touches
abbrev pub touched : Worker → ℕ
touched w = cell_of (get_or rows w.place stays) w

module _ (b : List ℕ) (w : Worker) (j : ℕ) where
  does_one_cell : (a : Act) → (j ≡ cell_of a w → ⊥) → cell (does a b w).bucket j ≡ cell b j
  does_one_cell (read at next) other = refl
  does_one_cell (store at what next) other = get_or-set_other b (at w) j _ 0 other
  does_one_cell (swap expected new won) other =
      by_swap (λ (s : Step). cell s.bucket j ≡ cell b j) (wins b (expected w)) _ _
      (get_or-set_other b mark_cell j (new w) 0 other) refl

  -- a turn leaves every cell but the touched one as it was
  pub turn_one_cell : (j ≡ touched w → ⊥) → cell (turn b w).bucket j ≡ cell b j
  unfolding turn
  turn_one_cell = does_one_cell (get_or rows w.place stays)

-- ---- one word is all that a turn goes by

-- two buckets, of which only the touched cell is known to be the same
module _ (b c : List ℕ) (w : Worker) where
  does_one_reading : (a : Act) → cell b (cell_of a w) ≡ cell c (cell_of a w) → (does a b w).stepped ≡ (does a c w).stepped
  does_one_reading (read at next) same = ap (next w) same
  does_one_reading (store at what next) same = refl
  does_one_reading (swap expected new won) same = rw same (same_outcome (wins c (expected w)))
    where
      same_outcome :
          (t : Bool)
          → (cond t (leaves (set b mark_cell (new w)) (won w)) (leaves b (loses w))).stepped
          ≡ (cond t (leaves (set c mark_cell (new w)) (won w)) (leaves c (loses w))).stepped
      same_outcome true = refl
      same_outcome false = refl

  -- the record that a turn leaves, and how it comes out, depend on the touched cell alone
  pub turn_one_reading : cell b (touched w) ≡ cell c (touched w) → (turn b w).stepped ≡ (turn c w).stepped
  unfolding turn
  turn_one_reading = does_one_reading (get_or rows w.place stays)

  -- in a bucket that has the touched cell
  does_one_writing :
      (a : Act)
      → cell_of a w < length b
      → cell_of a w < length c
      → cell b (cell_of a w) ≡ cell c (cell_of a w)
      → cell (does a b w).bucket (cell_of a w) ≡ cell (does a c w).bucket (cell_of a w)
  does_one_writing (read at next) in_b in_c same = same
  does_one_writing (store at what next) in_b in_c same =
      get_or-set_same b (at w) _ 0 in_b ∙ ap (λ old. what old w) same ∙ sym (get_or-set_same c (at w) _ 0 in_c)
  does_one_writing (swap expected new won) in_b in_c same = rw same (same_word (wins c (expected w)))
    where
      same_word :
          (t : Bool)
          → cell (cond t (leaves (set b mark_cell (new w)) (won w)) (leaves b (loses w))).bucket mark_cell
          ≡ cell (cond t (leaves (set c mark_cell (new w)) (won w)) (leaves c (loses w))).bucket mark_cell
      same_word true = get_or-set_same b mark_cell (new w) 0 in_b ∙ sym (get_or-set_same c mark_cell (new w) 0 in_c)
      same_word false = same

  -- the touched cell afterwards depends on that cell and on the worker's record alone
  pub turn_one_writing :
      touched w < length b
      → touched w < length c
      → cell b (touched w) ≡ cell c (touched w)
      → cell (turn b w).bucket (touched w) ≡ cell (turn c w).bucket (touched w)
  unfolding turn
  turn_one_writing = does_one_writing (get_or rows w.place stays)

-- ---- a read and a lost swap change nothing

-- a read or a lost swap
abbrev pub is_quiet : Action → Bool
is_quiet Read = true
is_quiet Store = false
is_quiet Won = false
is_quiet Lost = true

-- what holds of each row of a table holds of the row that is found in it
abbrev pub Each : (Act → Type 0) → List Act → Type 0
Each P [] = Unit {0}
Each P (r ∷ rs) = P r × Each P rs

pub each_at : (P : Act → Type 0) (rs : List Act) → Each P rs → (d : Act) → P d → (n : ℕ) → P (get_or rs n d)
each_at P [] e d pd n = pd
each_at P (r ∷ rs) e d pd zero = e.0
each_at P (r ∷ rs) e d pd (suc n) = each_at P rs e.1 d pd n

-- an action that changes a word comes out as a store or a won swap
abbrev Loud : Act → Type 0
Loud (read at next) = Unit {0}
Loud (store at what next) = (w : Worker) → is_quiet (next w).action ≡ false
Loud (swap expected new won) = (w : Worker) → is_quiet (won w).action ≡ false

rows_loud : Each Loud rows
rows_loud =
    let loud : Worker → false ≡ false = λ w. refl in
    (tt, (tt, (tt, (tt, (tt, (tt, (loud, (loud, (loud, (loud, (loud, (tt, (tt, (loud, tt))))))))))))))

module _ (b : List ℕ) (w : Worker) where
  does_quiet : (a : Act) → Loud a → is_quiet (does a b w).stepped.action ≡ true → (does a b w).bucket ≡ b
  does_quiet (read at next) loud = λ quiet. refl
  does_quiet (store at what next) loud = not_both _ (loud w)
  does_quiet (swap expected new won) loud =
      by_swap (λ (s : Step). is_quiet s.stepped.action ≡ true → s.bucket ≡ b) (wins b (expected w)) _ _
      (not_both _ (loud w)) (λ quiet. refl)

  -- a turn that comes out as a read or a lost swap leaves the bucket as it was
  pub turn_quiet : is_quiet (turn b w).stepped.action ≡ true → (turn b w).bucket ≡ b
  unfolding turn
  turn_quiet = does_quiet (get_or rows w.place stays) (each_at Loud rows rows_loud stays tt w.place)
