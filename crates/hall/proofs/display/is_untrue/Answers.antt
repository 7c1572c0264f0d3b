-- The bit and the total are compared with what was read of them. Assumes nothing.
use Rattle.std.proofs.Common.{◌≡◌, ℕ, ◌*◌, ◌-◌, Bool, ◌||◌, not, List, inl, inr, ap₂, ◌∙◌}
use mathlib.Core.Bool.{xor, beq}
use lib.Dec.{ltb}
use borrow.Author.Tests.{lt-ltb, le-ltb}
use Rattle.mark.proofs.Choices.{not_both}
use Rattle.hall.specs.Index.{total_in, bit_in, valid_in, untrue}
use Rattle.hall.proofs.display.is_untrue.Goals as goal
use Rattle.hall.proofs.display.is_untrue.Goals.{then-lit-valid, else-lit-valid}

abbrev told : ℕ → List ℕ → Bool → ℕ → Bool
told n index lit valid =
    not (beq lit (ltb 0 valid)) || (ltb (total_in index) valid || ltb (3 * n - (3 - valid)) (total_in index))

compared :
    (n : ℕ) (index : List ℕ) (b word : ℕ) (lit : Bool) (valid : ℕ)
    → lit ≡ bit_in index b
    → valid ≡ valid_in word
    → told n index lit valid ≡ untrue n index b word
unfolding untrue xor
compared n index b word lit valid is many = ap₂ (told n index) is many

pub returns-then-total-valid : goal.returns-then-total-valid
returns-then-total-valid c =
    let a = c.args in
    let is = compared a.buckets a.index.now a.bucket a.word _ _ c.is_lit-lit.ensures c.valid_slots-valid.ensures.0 in
    elim c.if-lit-valid.branch [
      | then-lit-valid w ↦ w.t-16-is ∙ w.if-lit-valid.true ∙ rw w.if-lit-valid.true at is
      | else-lit-valid w ↦
          elim c.if-total-valid.either [
            | inl other ↦ not_both _ w.if-lit-valid.false other
            | inr (_, below) ↦ w.t-16-is ∙ lt-ltb (total_in a.index.now) _ below ∙ rw (w.if-lit-valid.false, lt-ltb (total_in a.index.now) _ below) at is
          ]
    ]

pub returns-else-total-valid : goal.returns-else-total-valid
returns-else-total-valid c =
    let a = c.args in
    let is = compared a.buckets a.index.now a.bucket a.word _ _ c.is_lit-lit.ensures c.valid_slots-valid.ensures.0 in
    rw (c.if-total-valid.false.0, le-ltb (total_in a.index.now) _ c.if-total-valid.false.1) at is
