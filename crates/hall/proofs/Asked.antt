-- The questions: their number, and the promise of each from its equation. Assumes nothing.
use Prim.Native.Nat.{ℕ, ◌-◌}
use mathlib.Core.Bool.{Bool, true, false, cond, ◌||◌}
use mathlib.Core.List.{List}
use mathlib.Core.Path.{◌≡◌, refl, sym, ap, ◌∙◌}
use lib.Dec.{eqb, ltb}
use lib.ListN.{length}
use Rattle.std.proofs.Common.{Result, Option}
use Rattle.turn.specs.declared.refusal.Refusal.{Refusal}
use Rattle.turn.specs.Number.{number}
use Rattle.turn.proofs.Refusing.{number_some}
use borrow.Author.Tests.{eqb-true, eq-eqb}
use Rattle.mark.proofs.Choices.{by_cases}
use Rattle.bits.specs.Seek.{seek}
use Rattle.engine.specs.declared.Floor.{Floor}
use Rattle.engine.specs.Refusals.{wrong_floor}
use Rattle.engine.specs.Room.{Right}
use Rattle.hall.specs.Totalled.{Totalled, totalled_as}
use Rattle.hall.specs.Next.{Next, next_as}
use Rattle.hall.specs.Index.{bit_in}
use Rattle.hall.specs.Refusals.{wrong_index, question_number}
use Rattle.hall.specs.Calls.{first_of, total_call, totalled_number, next_call, next_number}
use Rattle.hall.specs.Promises.{TotalTold, NextTold}
use Rattle.hall.proofs.Numbers.{sizes_number, sized_one, right_both}
use Rattle.hall.proofs.Answers.{totalled_told, next_told}

module _ (f : Floor) (board index : List ℕ) where
  -- the test of the sizes, of a list that is as long as it should be
  abbrev pub sizes : ℕ
  sizes = sizes_number f board index f.workers

  -- is the test of a question
  pub asked_is : sizes ≡ question_number f board index
  unfolding question_number wrong_floor
  asked_is = rw (eq-eqb f.workers f.workers refl) (either (wrong_index (length index)) (wrong_floor f board))
    where
      either : (t u : Bool) → ◌≡◌ {A = ℕ} (cond t 1 (cond (u || false) 1 0)) (cond (t || u) 1 0)
      either true u = refl
      either false true = refl
      either false false = refl

  -- so where the sizes are wrong, its number is 1
  pub asked_first : (sizes ≡ 0 → ⊥) → question_number f board index ≡ 1
  unfolding question_number
  asked_first some =
      by_cases (λ (n : ℕ). (n ≡ 0 → ⊥) → n ≡ 1) (wrong_index (length index) || wrong_floor f board) 1 0
      (λ is other. refl) (λ isnot other. absurd (other refl))
      (λ none. some (asked_is ∙ none))

  -- and a refusal that has the number of the test has that of the question
  pub asked_one : (why : Refusal) → number why ≡ sizes → number why ≡ question_number f board index
  asked_one why is = sized_one f board index f.workers why is ∙ sym (asked_first (λ none. number_some why (is ∙ none)))

  module _ (sized : sizes ≡ 0) where
    pub asked_none : question_number f board index ≡ 0
    asked_none = sym asked_is ∙ sized

    pub asked_both : (length index ≡ 5) × Right f board
    asked_both = right_both f board index f.workers sized

-- the promise of a total, from its equation
pub total_told_lem :
    (board index : List ℕ) (f : Floor) (r : Result ℕ Refusal) → totalled_as r ≡ total_call board index f → TotalTold board index f r
unfolding total_call
total_told_lem board index f r whole =
    let n = question_number f board index in
    let told : totalled_number (total_call board index f) ≡ n =
    by_cases (λ (x : Totalled). totalled_number x ≡ n) (eqb n 0) _ _ (λ is. sym (eqb-true n 0 is)) (λ isnot. refl) in
    record { whole = whole; number = sym (totalled_told r) ∙ ap totalled_number whole ∙ told }

-- a next bucket that is no refusal has number 0
first_unrefused : (p : ℕ → Bool) (n from : ℕ) → next_number (first_of p n from) ≡ 0
unfolding first_of
first_unrefused p n from = by_cases (λ (x : Next). next_number x ≡ 0) (ltb (seek p from (n - from)) n) _ _ (λ is. refl) (λ isnot. refl)

-- the promise of a next bucket, from its equation
pub next_told_lem :
    (board index : List ℕ) (f : Floor) (from : ℕ) (r : Result (Option ℕ) Refusal) → next_as r ≡ next_call board index f from → NextTold board index f from r
unfolding next_call
next_told_lem board index f from r whole =
    let n = question_number f board index in
    let told : next_number (next_call board index f from) ≡ n =
    by_cases (λ (x : Next). next_number x ≡ n) (eqb n 0) _ _
    (λ is. first_unrefused (bit_in index) f.buckets from ∙ sym (eqb-true n 0 is)) (λ isnot. refl) in
    record { whole = whole; number = sym (next_told r) ∙ ap next_number whole ∙ told }
