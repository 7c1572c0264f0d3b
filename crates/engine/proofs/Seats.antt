-- 1 and 2, which come before all that a record or a bucket gives. Assumes nothing.
use Prim.Native.Nat.{ℕ}
use mathlib.Core.Bool.{Bool, true, false, cond}
use mathlib.Core.Path.{◌≡◌, refl, sym, ◌∙◌}
use mathlib.Core.List.{List}
use native.Mathlib.Omega.{arith}
use lib.ListN.{length}
use Rattle.mark.proofs.Choices.{passes}
use Rattle.engine.specs.declared.Floor.{Floor}
use Rattle.engine.specs.Refusals.{wrong_listed, wrong_sizes, no_worker, seat_number}
use Rattle.engine.specs.Room.{Right}
use Rattle.engine.proofs.Sizes.{right_sizes}

-- one of two tests gives its number, and else there is another
abbrev tested : Bool → Bool → ℕ → ℕ
tested t u rest = cond t 1 (cond u 2 rest)

comes_first : (t u : Bool) (rest : ℕ) → (tested t u 0 ≡ 0 → ⊥) → tested t u 0 ≡ tested t u rest
comes_first true u rest some = refl
comes_first false true rest some = refl
comes_first false false rest some = absurd (some refl)

comes_after : (t u : Bool) (rest : ℕ) → tested t u 0 ≡ 0 → rest ≡ tested t u rest
comes_after true u rest none = absurd (omega arith)
comes_after false true rest none = absurd (omega arith)
comes_after false false rest none = refl

-- a number that was tested for
module _ (n : ℕ) (f : Floor) (words listed i : ℕ) (is : n ≡ seat_number f words listed i) (rest : ℕ) where
  abbrev whole : ℕ
  whole = tested (wrong_listed f words listed) (no_worker f i) rest

  -- where it is one of them, it is the call's
  pub seat_first : (n ≡ 0 → ⊥) → n ≡ whole
  unfolding seat_number
  seat_first some = is ∙ comes_first (wrong_listed f words listed) (no_worker f i) rest (λ none. some (is ∙ none))

  -- where it is none, the call's is what comes after
  pub seat_after : n ≡ 0 → rest ≡ whole
  unfolding seat_number
  seat_after none = comes_after (wrong_listed f words listed) (no_worker f i) rest (sym is ∙ none)

-- and floor and board fit together
pub seat_right : (n : ℕ) (f : Floor) (board : List ℕ) (listed i : ℕ) → n ≡ seat_number f (length board) listed i → n ≡ 0 → Right f board
unfolding wrong_sizes seat_number
seat_right n f board listed i is none =
    right_sizes f board listed (passes (wrong_listed f (length board) listed) 0 (cond (no_worker f i) 2 0) (sym is ∙ none)).0
