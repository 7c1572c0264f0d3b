-- A run of no turns is refused for its sizes alone. Assumes nothing.
use Rattle.std.proofs.Common.{◌≡◌, ℕ, Bool, true, false, cond, List, length, refl, sym, ◌∙◌}
use Rattle.std.proofs.lemmas.Result.{err_from_is_err_and}
use Rattle.mark.proofs.Choices.{chosen, passed, passes}
use Rattle.turn.specs.declared.refusal.Refusal.{Refusal}
use Rattle.turn.specs.Number.{number}
use Rattle.turn.proofs.Refusing.{number_some}
use Rattle.engine.specs.declared.Floor.{Floor}
use Rattle.engine.specs.Refusals.{wrong_sizes, run_refusal}
use Rattle.walks.specs.Calls.{not_small, size_number}
use Rattle.walks.proofs.small.size_refusal.Goals as goal

module _ (board : List ℕ) (f : Floor) (listed depth : ℕ) where
  -- the number is 1 where a run of no turns is refused
  wrong_sizes_lem : (why : Refusal) → number why ≡ run_refusal f (length board) listed 0 → number why ≡ size_number board f listed depth
  unfolding wrong_sizes
  wrong_sizes_lem why is = by (wrong_sizes f board listed) is
    where
      by : (t : Bool) → number why ≡ cond t 1 0 → number why ≡ cond t 1 (cond (not_small f depth) 10 0)
      by true same = same
      by false none = absurd (number_some why none)

  -- and goes by the class and the depth where it is not
  right_sizes : (x : ℕ) → ◌≡◌ {A = ℕ} 0 (run_refusal f (length board) listed 0) → x ≡ cond (not_small f depth) 10 0 → x ≡ size_number board f listed depth
  unfolding wrong_sizes
  right_sizes x none e = passed _ _ _ (wrong_sizes f board listed) (passes _ 0 0 (sym none)).0 e

pub returns-in_err-run_refusal : goal.returns-in_err-run_refusal
returns-in_err-run_refusal c =
    let p = err_from_is_err_and c.from_residual.result c.from_residual.ensures.1 in
    let a = c.args in
    rw (p.1, p.2) (wrong_sizes_lem a.board.now a.floor a.listed a.depth _ c.in_err-run_refusal.ensures.whole)

pub returns-then-is_large : goal.returns-then-is_large
returns-then-is_large c =
    let a = c.args in
    right_sizes a.board.now a.floor a.listed a.depth _ c.in_ok-run_refusal.ensures.whole
    (chosen _ _ _ _ (sym c.is_large.ensures ∙ c.if-is_large.true) refl)

pub returns : goal.returns
returns c =
    let a = c.args in
    right_sizes a.board.now a.floor a.listed a.depth _ c.in_ok-run_refusal.ensures.whole
    (passed _ _ _ _ (sym c.is_large.ensures ∙ c.if-is_large.false) refl)
