-- Whether a test holds of one of the first numbers: of the buckets of a board, above all. Assumes nothing.
use Prim.Native.Nat.{ℕ, zero, suc, ◌+◌, ◌<◌}
use mathlib.Core.Bool.{Bool, true, false, ◌||◌, or-true}
use mathlib.Core.Path.{◌≡◌, refl, ap₂, subst}
use native.Mathlib.Decide.{ℕ_discrete}
use native.Mathlib.Numerals.{add-one}
use native.Mathlib.Omega.{arith}
use Rattle.mark.proofs.Choices.{first_holds, not_both}
use Rattle.engine.specs.Board.{any_under}
use Rattle.engine.proofs.Sizes.{both_fail}

-- tests that are the same below n come out the same
pub any_same : (test other : ℕ → Bool) (n : ℕ) → ((b : ℕ) → b < n → other b ≡ test b) → any_under other n ≡ any_under test n
unfolding any_under
any_same test other zero same = refl
any_same test other (suc n) same =
    ap₂ (λ (x y : Bool). x || y) (any_same test other n (λ b under. same b (omega arith))) (same n (omega arith))

module _ (test : ℕ → Bool) where
  -- one number more of which it does not hold
  pub any_next : (b : ℕ) → any_under test b ≡ false → test b ≡ false → any_under test (b + 1) ≡ false
  unfolding any_under
  any_next b none is = rw (add-one b, none) is

  -- where it holds of none of them, it does not hold
  pub any_clear : (n : ℕ) → ((b : ℕ) → b < n → test b ≡ false) → any_under test n ≡ false
  unfolding any_under
  any_clear zero each = refl
  any_clear (suc n) each = rw (any_clear n (λ b under. each b (omega arith))) (each n (omega arith))

  -- and the other way round
  pub any_none : (n : ℕ) → any_under test n ≡ false → (b : ℕ) → b < n → test b ≡ false
  unfolding any_under
  any_none zero none b under = absurd (omega arith)
  any_none (suc n) none b under = by (ℕ_discrete b n) (both_fail _ _ none) (any_none n (both_fail _ _ none).0 b)
    where
      by : Dec (b ≡ n) → (any_under test n ≡ false) × (test n ≡ false) → (b < n → test b ≡ false) → test b ≡ false
      by (yes is) last earlier = rw is last.1
      by (no other) last earlier = earlier (omega arith)

  -- one of which it holds is enough
  pub any_at : (b n : ℕ) → b < n → test b ≡ true → any_under test n ≡ true
  unfolding any_under
  any_at b zero under is = absurd (omega arith)
  any_at b (suc n) under is = by (ℕ_discrete b n) (λ before. any_at b n before is)
    where
      by : Dec (b ≡ n) → (b < n → any_under test n ≡ true) → (any_under test n || test n) ≡ true
      by (yes last) earlier = rw (subst (λ (k : ℕ). test k ≡ true) last is) (or-true (any_under test n))
      by (no other) earlier = first_holds (any_under test n) _ (earlier (omega arith))

  -- and there is one
  pub any_some : (n : ℕ) → any_under test n ≡ true → (b : ℕ) × (b < n) × (test b ≡ true)
  unfolding any_under
  any_some zero is = not_both false refl is
  any_some (suc n) is = by (any_under test n) refl (any_some n)
    where
      by : (t : Bool) → any_under test n ≡ t → (any_under test n ≡ true → (b : ℕ) × (b < n) × (test b ≡ true)) → (b : ℕ) × (b < suc n) × (test b ≡ true)
      by true first earlier = let found = earlier first in (found.0, omega (arith, found.1), found.2)
      by false first earlier = (n, omega arith, rw first at is)
