-- What goes by a number that is tested against 1, 2 and 3 in turn, as the arms of a `match` find it. Assumes nothing.
use Prim.Native.Nat.{ℕ}
use mathlib.Core.Bool.{cond}
use lib.Dec.{eqb}
use Rattle.mark.proofs.Choices.{by_cases}

-- the first, second or third where the number is 1, 2 or 3, and else the last
abbrev keyed : {A : Type 0} → ℕ → A → A → A → A → A
keyed n a b c d = cond (eqb n 1) a (cond (eqb n 2) b (cond (eqb n 3) c d))

-- what holds of all four holds of the one that is chosen
pub by_key : {A : Type 0} (P : A → Type 0) (n : ℕ) (a b c d : A) → P a → P b → P c → P d → P (keyed n a b c d)
by_key P n a b c d of-a of-b of_c of-d =
    by_cases P (eqb n 1) a (cond (eqb n 2) b (cond (eqb n 3) c d)) (λ one. of-a)
    (λ other. by_cases P (eqb n 2) b (cond (eqb n 3) c d) (λ two. of-b) (λ other. by_cases P (eqb n 3) c d (λ three. of_c) (λ other. of-d)))
