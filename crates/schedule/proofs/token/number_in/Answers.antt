use Rattle.std.proofs.Common.{rules, arith, ◌∙◌, ◌≡◌, ◌<◌, false, true, ℕ, ◌≤◌, ◌⊎◌, inl, inr}
use borrow.Author.Tests.{le-leb, lt-leb}
use lib.Dec.{leb}
use Rattle.schedule.specs.Tokens.{is_digit}
use Rattle.schedule.proofs.Numbers.{and-false, counted_none, counted_empty, counted_few, counted_over, counted_all, counted_other, counted_many, counted_next}
use Rattle.schedule.proofs.token.number_in.Goals.{then-is_empty-via-then-is_empty, then-is_empty-via-else-is_empty+then-n-least, then-is_empty-via-else-is_empty+else-n-least+then-most-n}
use Rattle.schedule.proofs.token.number_in.Goals as goal

no_digit : (b : ℕ) → (b < 48) ⊎ (57 < b) → is_digit b ≡ false
no_digit b (inl low) = rw (lt-leb 48 b low)
no_digit b (inr high) = rw (lt-leb b 57 high) (and-false (leb 48 b))

a_digit : (b : ℕ) → (48 ≤ b) × (b ≤ 57) → is_digit b ≡ true
a_digit b h = rw (le-leb 48 b h.0, le-leb b 57 h.1)

pub loop-byte-init : goal.loop-byte-init
loop-byte-init c = counted_none _

pub returns-then-not-is_ascii_digit : goal.returns-then-not-is_ascii_digit
returns-then-not-is_ascii_digit c = counted_other _ _ _ c.loop-byte.invariant c.loop-byte-test.true (no_digit _ c.if-not-is_ascii_digit.ensures.cases)

pub returns-in_err-checked_mul : goal.returns-in_err-checked_mul
returns-in_err-checked_mul c =
    c.from_residual.ensures ∙ counted_many _ _ _ c.loop-byte.invariant c.loop-byte-test.true (omega (arith, c.in_err-checked_mul.ensures, c.ranges.most.fits))

pub returns-in_err-n : goal.returns-in_err-n
returns-in_err-n c =
    c.from_residual-in_err-n.ensures ∙ counted_many _ _ _ c.loop-byte.invariant c.loop-byte-test.true (omega (arith, c.in_err-n.ensures, c.in_ok-checked_mul.ensures, c.from.ensures, c.ranges.most.fits))

pub loop-byte-preserved : goal.loop-byte-preserved
loop-byte-preserved c = counted_next _ 0 0 c.loop-byte.invariant c.loop-byte-test.true (a_digit _ c.if-not-is_ascii_digit.ensures.cases) (omega (arith, c.in_ok-n.ensures, c.in_ok-checked_mul.ensures, c.from.ensures))

pub returns-then-is_empty : goal.returns-then-is_empty
returns-then-is_empty c =
    let l = c.loop-byte.invariant in
    let over = c.loop-byte-test.false in
    elim c.then-is_empty.branch [
      | then-is_empty-via-then-is_empty w ↦ counted_empty _ _ _ l over (search rules)
      | then-is_empty-via-else-is_empty+then-n-least w ↦ counted_few _ _ _ l over w.if-n-least.true
      | then-is_empty-via-else-is_empty+else-n-least+then-most-n w ↦ counted_over _ _ _ l over w.if-most-n.true
    ]

pub returns : goal.returns
returns c = counted_all _ _ _ c.loop-byte.invariant c.loop-byte-test.false (λ none. search rules) c.if-n-least.false c.if-most-n.false
