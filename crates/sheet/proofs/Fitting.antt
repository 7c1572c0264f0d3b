-- The lengths that a call and a sheet are tested for: what the tests say, and what they come to. Assumes nothing.
use Prim.Native.Nat.{ℕ, ◌+◌, ◌≤◌, ◌<◌}
use mathlib.Core.Bool.{Bool, true, false, ◌||◌}
use mathlib.Core.Path.{◌≡◌, refl}
use mathlib.Core.List.{List}
use native.Mathlib.Omega.{arith}
use lib.Dec.{eqb}
use lib.ListN.{length}
use borrow.Author.Tests.{eqb-true, le-leb, lt-leb}
use Rattle.mark.proofs.Choices.{by_cases, not_both}
use Rattle.sheet.specs.Fields.{Read, Refused, byte_at, length_at, is_whole, call_fits, field_of, read_field}

-- ---- a call's length

-- 10, and for an insert 14 or 18, by its ticket of four bytes or of eight
pub data CallFits (kind long : ℕ) : Type 0 where
  fits_short : long ≡ 10 → (kind ≡ 2 → ⊥) → CallFits kind long
  fits_four : kind ≡ 2 → long ≡ 14 → CallFits kind long
  fits_eight : kind ≡ 2 → long ≡ 18 → CallFits kind long

-- the test of an insert's length says so
insert_fits : (kind long : ℕ) → kind ≡ 2 → (eqb long 14 || eqb long 18) ≡ true → CallFits kind long
insert_fits kind long insert is = either (eqb long 14) refl is
  where
    either : (t : Bool) → eqb long 14 ≡ t → (t || eqb long 18) ≡ true → CallFits kind long
    either true four on = fits_four insert (eqb-true long 14 four)
    either false other on = fits_eight insert (eqb-true long 18 on)

-- the test of a call's length says so
pub call_fits_lem : (kind long : ℕ) → call_fits kind long ≡ true → CallFits kind long
unfolding call_fits
call_fits_lem kind long =
    by_cases (λ (t : Bool). t ≡ true → CallFits kind long) _ _ _
    (λ look is. let k = eqb-true kind 1 look in fits_short (eqb-true long 10 is) (omega arith))
    (λ other. by_cases (λ (t : Bool). t ≡ true → CallFits kind long) _ _ _
    (λ insert is. insert_fits kind long (eqb-true kind 2 insert) is)
    (λ none. by_cases (λ (t : Bool). t ≡ true → CallFits kind long) _ _ _
    (λ remove is. let k = eqb-true kind 3 remove in fits_short (eqb-true long 10 is) (omega arith))
    (λ off is. not_both false refl is)))

-- a call's value is 10 bytes long or more
pub fits_long : {kind long : ℕ} → CallFits kind long → 10 ≤ long
fits_long (fits_short is other) = omega arith
fits_long (fits_four insert is) = omega arith
fits_long (fits_eight insert is) = omega arith

-- and 18 at most, so that a ticket takes 8 bytes at most
pub fits_within : {kind long : ℕ} → CallFits kind long → long ≤ 18
fits_within (fits_short is other) = omega arith
fits_within (fits_four insert is) = omega arith
fits_within (fits_eight insert is) = omega arith

-- a shorter one fits no call
pub short_fits_not : (kind long : ℕ) → long < 10 → call_fits kind long ≡ false
short_fits_not kind long short = is_false _ (λ fits. let more = fits_long (call_fits_lem kind long fits) in omega arith)
  where
    is_false : (t : Bool) → (t ≡ true → ⊥) → t ≡ false
    is_false true never = absurd (never refl)
    is_false false never = refl

-- ---- what is cut off, and what is whole

module _ (sheet : List ℕ) (at : ℕ) where
  -- tag and length are not there
  pub read_short : length sheet < at + 3 → Refused at ≡ read_field sheet at
  unfolding read_field is_whole
  read_short short = rw (lt-leb (at + 3 + length_at sheet at) (length sheet) (omega arith))

  module _ (long : ℕ) (is : long ≡ length_at sheet at) where
    -- they are, and not the value
    pub read_cut : length sheet < at + 3 + long → Refused at ≡ read_field sheet at
    unfolding read_field is_whole
    read_cut short = rw (← is, lt-leb (at + 3 + long) (length sheet) short)

    -- all is there
    pub read_whole : (x : Read) → at + 3 + long ≤ length sheet → x ≡ field_of (byte_at sheet at) sheet at long → x ≡ read_field sheet at
    unfolding read_field is_whole
    read_whole x fits e = rw (← is, le-leb (at + 3 + long) (length sheet) fits) e
