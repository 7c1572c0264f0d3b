-- The first empty slot is the least number whose mark reads as 0: at 3, which names no slot, every word reads 0. Assumes nothing.
use Rattle.std.proofs.Common.{◌≡◌, ℕ, ◌<◌, ◌≤◌, arith, below_none, below_more, eqb-true}
use borrow.Author.Tests.{eqb-false}
use Rattle.mark.specs.Word.{mark_of, first_empty}
use Rattle.mark.proofs.Choices.{by_cases}
use Rattle.mark.proofs.Slots.{mark_past}

pub record First (w s : ℕ) : Type 0 where
  pub within : s ≤ 3
  pub empty : mark_of w s ≡ 0
  pub before : (j : ℕ) → j < s → mark_of w j ≡ 0 → ⊥

module _ (w : ℕ) where
  abbrev Taken : ℕ → Type 0
  Taken j = mark_of w j ≡ 0 → ⊥

  first : (s : ℕ) → s ≤ 3 → ((j : ℕ) → j < s → Taken j) → mark_of w s ≡ 0 → First w s
  first s within before empty = record { within = within; empty = empty; before = before }

  pub first_empty_lem : First w (first_empty w)
  unfolding first_empty
  first_empty_lem =
      let b0 = below_none Taken in
      by_cases (First w) _ _ _ (λ e. first 0 (omega arith) b0 (eqb-true _ 0 e)) (λ n0.
      let b1 = below_more Taken 0 b0 (eqb-false _ 0 n0) in
      by_cases (First w) _ _ _ (λ e. first 1 (omega arith) b1 (eqb-true _ 0 e)) (λ n1.
      let b2 = below_more Taken 1 b1 (eqb-false _ 0 n1) in
      by_cases (First w) _ _ _ (λ e. first 2 (omega arith) b2 (eqb-true _ 0 e)) (λ n2.
      let b3 = below_more Taken 2 b2 (eqb-false _ 0 n2) in
      first 3 (omega arith) b3 (mark_past w 3 (omega arith)))))
