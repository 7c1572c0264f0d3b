-- What is said of a text fits: a line of it has 256 bytes at most. Assumes nothing.
use Prim.Native.Nat.{ℕ, ◌≤◌}
use mathlib.Core.List.{List}
use native.Mathlib.Omega.{arith}
use lib.Dec.{eqb}
use lib.ListN.{length, length-append}
use Rattle.mark.proofs.Choices.{by_cases}
use Rattle.pen.specs.Words.{bytes}
use Rattle.schedule.specs.Saying.{spot_of, expected, complaint}
use Rattle.pen.proofs.Decimal.{decimal_short}

-- what was expected takes no more than this
abbrev Short : List ℕ → Type 0
Short l = length l ≤ 64

expected_width : (what : ℕ) → Short (expected what)
unfolding expected bytes
expected_width what =
    by_cases Short (eqb what 1) _ _ (λ is. omega arith)
    (λ n. by_cases Short (eqb what 2) _ _ (λ is. omega arith)
    (λ n. by_cases Short (eqb what 3) _ _ (λ is. omega arith)
    (λ n. by_cases Short (eqb what 4) _ _ (λ is. omega arith)
    (λ n. by_cases Short (eqb what 5) _ _ (λ is. omega arith)
    (λ n. by_cases Short (eqb what 6) _ _ (λ is. omega arith)
    (λ n. by_cases Short (eqb what 7) _ _ (λ is. omega arith)
    (λ n. by_cases Short (eqb what 8) _ _ (λ is. omega arith)
    (λ n. by_cases Short (eqb what 9) _ _ (λ is. omega arith)
    (λ n. by_cases Short (eqb what 10) _ _ (λ is. omega arith)
    (λ n. by_cases Short (eqb what 11) _ _ (λ is. omega arith)
    (λ n. by_cases Short (eqb what 12) _ _ (λ is. omega arith)
    (λ n. by_cases Short (eqb what 13) _ _ (λ is. omega arith)
    (λ n. by_cases Short (eqb what 14) _ _ (λ is. omega arith)
    (λ n. by_cases Short (eqb what 15) _ _ (λ is. omega arith)
    (λ n. by_cases Short (eqb what 16) _ _ (λ is. omega arith)
    (λ n. by_cases Short (eqb what 17) _ _ (λ is. omega arith)
    (λ n. by_cases Short (eqb what 18) _ _ (λ is. omega arith)
    (λ n. omega arith))))))))))))))))))

pub complaint_fits : (text : List ℕ) (at what : ℕ) → length (complaint text at what) ≤ 256
unfolding complaint bytes
complaint_fits text at what =
    let line = decimal_short (spot_of text at).line in
    let column = decimal_short (spot_of text at).column in
    let said = expected_width what in
    simp length-append (omega arith)
