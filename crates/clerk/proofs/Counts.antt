-- What is counted in a trace, with one turn more at its end. Assumes nothing.
use Prim.Native.Nat.{ℕ, ◌+◌}
use mathlib.Core.List.{List, [], ◌∷◌, ◌++◌}
use mathlib.Core.Path.{◌≡◌}
use native.Mathlib.Omega.{arith}
use Rattle.history.specs.Trace.{Entry, total}
use Rattle.history.specs.Counts.{one_if, how_many}
use Rattle.history.proofs.Counts.{bump_of, total_append, one_yes, one_no}

module _ {P : Entry → Type 0} (test : (e : Entry) → Dec (P e)) (past : List Entry) (e : Entry) where
  count_then : how_many test (past ++ (e ∷ [])) ≡ how_many test past + one_if (test e)
  unfolding total
  count_then = omega (arith, total_append (λ x. one_if (test x)) past (e ∷ []))

  -- a turn that is counted makes one more
  pub count_more : P e → how_many test (past ++ (e ∷ [])) ≡ how_many test past + 1
  count_more is = omega (arith, count_then, one_yes (test e) is)

  -- a turn that is not counted leaves as many
  pub count_same : (P e → ⊥) → how_many test (past ++ (e ∷ [])) ≡ how_many test past
  count_same isnot = omega (arith, count_then, one_no (test e) isnot)

-- what moved a version, in a trace
abbrev pub bumps_in : List Entry → ℕ
bumps_in past = total bump_of past

-- with one entry more
pub bumps_then : (past : List Entry) (e : Entry) → bumps_in (past ++ (e ∷ [])) ≡ bumps_in past + bump_of e
unfolding total
bumps_then past e = omega (arith, total_append bump_of past (e ∷ []))
