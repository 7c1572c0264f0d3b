-- A worker that holds no slot has no business with the board, and none with the index: of both its retiring sees the lengths alone, and
-- it leaves them as they were. Assumes nothing.
use Prim.Native.Nat.{ℕ}
use mathlib.Core.Bool.{cond}
use mathlib.Core.List.{List}
use mathlib.Core.Path.{◌≡◌, refl, ap}
use lib.Dec.{eqb}
use lib.ListN.{length}
use borrow.Author.Tests.{eq-eqb}
use Rattle.mark.proofs.Choices.{by_cases}
use Rattle.turn.specs.declared.Worker.{Worker}
use Rattle.turn.specs.Worker.{no_slot}
use Rattle.turn.specs.Bucket.{cell, mark_cell}
use Rattle.turn.specs.Turn.{busy_refusal}
use Rattle.turn.specs.Retire.{retire_refusal}
use Rattle.engine.specs.declared.Floor.{Floor}
use Rattle.engine.specs.Refusals.{wrong_listed, wrong_sizes, no_worker, bucket_for, retire_number}
use Rattle.engine.proofs.Retiring.{vacated_nothing}
use Rattle.hall.specs.Index.{followed}
use Rattle.hall.specs.Refusals.{wrong_index, hall_retire_number}
use Rattle.hall.specs.Calls.{retired_index}
use Rattle.hall.proofs.Numbers.{untrue_none}

module _ (f : Floor) (board index : List ℕ) (w : Worker) (nothing : w.held ≡ no_slot) where
  -- §19.3: it is refused by 1, 2, 3 or 6, and never by 7 or 11
  pub unheld_number :
      (listed i : ℕ)
      → hall_retire_number f board index listed i w
      ≡ cond (wrong_index (length index)) 1 (cond (wrong_listed f (length board) listed) 1 (cond (no_worker f i) 2 (busy_refusal w 0)))
  unfolding hall_retire_number retire_number wrong_sizes retire_refusal
  unheld_number listed i =
      rw (eq-eqb w.held no_slot nothing)
      (ap (cond (wrong_index (length index)) 1) (untrue_none (cond (wrong_listed f (length board) listed) 1 (cond (no_worker f i) 2 (busy_refusal w 0)))))

  -- §19.3: refused or not, it leaves the index
  pub unheld_index : (number : ℕ) → retired_index f board index w number ≡ index
  unfolding followed
  unheld_index number =
      let word = cell (bucket_for f board w.key) mark_cell in
      by_cases (λ (l : List ℕ). l ≡ index) (eqb number 0) _ index
      (λ is. rw (vacated_nothing f board w nothing, eq-eqb word word refl)) (λ isnot. refl)
