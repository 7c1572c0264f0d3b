-- Equations whose right side goes by tests, as `cond (eqb m n) a b`. `search choices` closes one: a rule takes the first test's
-- outcome and leaves the equation with the case that it leads to. The outcome is a branch's fact, of the number itself or of a
-- call's result that the call's promise ties to it. Assumes nothing.
use Rattle.std.proofs.Common.{◌≡◌, ℕ, suc, ◌<◌, ◌≤◌, Bool, true, false, cond, not, ◌&&◌, ◌||◌, eqb, leb, sym, refl, ap, ◌∙◌, arith, le-ltb, lt-ltb, eq-eqb, ne_eqb, le-leb}
use borrow.Author.Tests.{lt-leb, not-true, not-false}

module _ {A : Type 0} (x a b : A) (t : Bool) where
  pub chosen : t ≡ true → x ≡ a → x ≡ cond t a b
  chosen h e = rw h e

  pub passed : t ≡ false → x ≡ b → x ≡ cond t a b
  passed h e = rw h e

module _ (x t u : Bool) where
  pub both : t ≡ true → x ≡ u → x ≡ (t && u)
  both h e = rw h e

  pub fails : t ≡ false → x ≡ false → x ≡ (t && u)
  fails h e = rw h e

  pub either : t ≡ true → x ≡ true → x ≡ (t || u)
  either h e = rw h e

  pub neither : t ≡ false → x ≡ u → x ≡ (t || u)
  neither h e = rw h e

-- a test made of tests
module _ (t u : Bool) where
  pub both_hold : t ≡ true → u ≡ true → (t && u) ≡ true
  both_hold h k = rw h k

  pub first_fails : t ≡ false → (t && u) ≡ false
  first_fails h = rw h

  pub second_fails : t ≡ true → u ≡ false → (t && u) ≡ false
  second_fails h k = rw h k

  pub first_holds : t ≡ true → (t || u) ≡ true
  first_holds h = rw h

  pub none_holds : t ≡ false → u ≡ false → (t || u) ≡ false
  none_holds h k = rw h k

module _ (t : Bool) where
  pub denied : t ≡ true → not t ≡ false
  denied h = rw h

  pub granted : t ≡ false → not t ≡ true
  granted h = rw h

-- a test that a call made
module _ (t r : Bool) (is : r ≡ t) where
  pub true_of : r ≡ true → t ≡ true
  true_of h = sym is ∙ h

  pub false_of : r ≡ false → t ≡ false
  false_of h = sym is ∙ h

  pub no_of : not r ≡ true → t ≡ false
  no_of h = sym is ∙ not-true r h

  pub yes_of : not r ≡ false → t ≡ true
  yes_of h = sym is ∙ not-false r h

  pub not_of : not r ≡ not t
  not_of = ap not is

module _ (m n k : ℕ) (is : k ≡ m) where
  pub eq_of : k ≡ n → eqb m n ≡ true
  eq_of h = rw (← is) (eq-eqb k n h)

  pub ne_of : (k ≡ n → ⊥) → eqb m n ≡ false
  ne_of h = rw (← is) (ne_eqb k n h)

  pub le_of : k ≤ n → leb m n ≡ true
  le_of h = rw (← is) (le-leb k n h)

  pub gt_of : n < k → leb m n ≡ false
  gt_of h = rw (← is) (lt-leb k n h)

-- what is left to show of the case that is chosen
pub ruleset cases = (chosen, passed, both, fails, either, neither)

-- how a test of numbers came out, and one made of tests
pub ruleset numbers = (eq-eqb, ne_eqb, lt-ltb, le-ltb, le-leb, lt-leb, eq_of, ne_of, le_of, gt_of)

pub ruleset tests = (both_hold, first_fails, second_fails, first_holds, none_holds, denied, granted, true_of, false_of, not_of)

pub ruleset choices = (cases, numbers, tests)

-- what holds of both cases, each with its test's outcome, holds of the choice
pub by_cases : {A : Type 0} (P : A → Type 0) (t : Bool) (a b : A) → (t ≡ true → P a) → (t ≡ false → P b) → P (cond t a b)
by_cases P true a b on-true on-false = on-true refl
by_cases P false a b on-true on-false = on-false refl

-- a choice of a number other than 0 that comes to 0 has passed over it
pub passes : (t : Bool) (n k : ℕ) → cond t (suc n) k ≡ 0 → (t ≡ false) × (k ≡ 0)
passes true n k none = absurd (omega arith)
passes false n k none = (refl, none)

-- a test has one outcome
pub not_both : {A : Type 0} (t : Bool) → t ≡ false → t ≡ true → A
not_both t off on = absurd (let z : ◌≡◌ {A = ℕ} 0 1 = cc in omega arith)
