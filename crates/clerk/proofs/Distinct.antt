-- Two valid slots of a bucket have different lots: a commit that is won finds its lot in none of them. Assumes nothing.
use Prim.Native.Nat.{ℕ}
use mathlib.Core.List.{List}
use mathlib.Core.Path.{◌≡◌, sym, ◌∙◌}
use native.Mathlib.Omega.{arith}
use Rattle.turn.specs.declared.Worker.{Worker}
use Rattle.turn.specs.Bucket.{mark_cell, key_cell}
use Rattle.history.specs.Trace.{Turn, Retiring}
use Rattle.history.specs.History.{State}
use Rattle.history.specs.Cells.{mark_at, key_at}
use Rattle.history.proofs.Steps.{Begins, Turns, Retires}
use Rattle.history.proofs.Cells.{Known, retire_marks, retire_key}
use Rattle.clerk.proofs.Deals.{turn_deals}
use Rattle.clerk.proofs.Fates.{From, old, new, valid_from}
use Rattle.clerk.proofs.Knows.{Knowing}
use Rattle.clerk.proofs.Won.{commit_new}
use Rattle.clerk.proofs.Steps.{Sized, start_cells}

-- two valid slots of a bucket have different lots
abbrev pub Distinct : State → Type 0
Distinct s = (b p q : ℕ) → (p ≡ q → ⊥) → mark_at s b p ≡ 1 → mark_at s b q ≡ 1 → key_at s b p ≡ key_at s b q → ⊥

module _
    (n : ℕ) {s t : State} {e : Turn} (sized : Sized n s) (act : Turns s e t) (known : Known s) (knowing : Knowing n s)
    (distinct : Distinct s) where
  -- a turn keeps the lots of two valid slots different
  pub turn_distinct : Distinct t
  turn_distinct b p q other one two same = by (valid_from b p (turn_deals act known) one) (valid_from b q (turn_deals act known) two)
    where
      by : From s e t b p → From s e t b q → ⊥
      by (old was key value) (old is lot ticket) = distinct b p q other was is (sym key ∙ same ∙ lot)
      by (new commit did here slot key value) (old is lot ticket) =
          commit_new n sized act known knowing commit did q (rw (← here) (is, sym lot ∙ sym same ∙ key))
      by (old was key value) (new commit did here slot lot ticket) =
          commit_new n sized act known knowing commit did p (rw (← here) (was, sym key ∙ same ∙ lot))
      by (new commit did here slot key value) (new again then there place lot ticket) = other (slot ∙ sym place)

-- a retiring keeps the lots of two valid slots different
pub retiring_distinct : {s t : State} {r : Retiring} → Retires s r t → Distinct s → Distinct t
retiring_distinct act distinct b p q other one two same =
    distinct b p q other (retire_marks act b p 1 (omega arith) one) (retire_marks act b q 1 (omega arith) two)
    (sym (retire_key act b p) ∙ same ∙ retire_key act b q)

-- a start keeps the lots of two valid slots different
pub start_distinct : {s t : State} {v : Worker} {spent : List ℕ} → Begins s v spent t → Distinct s → Distinct t
start_distinct start distinct b p q other one two same =
    distinct b p q other (rw (start_cells start b mark_cell) at one) (rw (start_cells start b mark_cell) at two)
    (sym (start_cells start b (key_cell p)) ∙ same ∙ start_cells start b (key_cell q))
