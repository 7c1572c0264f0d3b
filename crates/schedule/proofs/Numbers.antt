-- The digits of a word as a number, digit by digit. Assumes nothing.
use Prim.Native.Nat.{ℕ, ◌+◌, ◌*◌, ◌-◌, ◌<◌, ◌≤◌}
use mathlib.Core.Path.{◌≡◌, refl, sym, ap, ◌∙◌}
use mathlib.Core.Bool.{Bool, true, false, cond, ◌&&◌}
use mathlib.Core.List.{List, [], ◌∷◌}
use native.Mathlib.Nat.{le_refl}
use native.Mathlib.Numerals.{add-one}
use native.Mathlib.Omega.{arith}
use borrow.Author.Tests.{eq-eqb, ne_eqb, le-leb, lt-leb}
use lib.ListN.{length, get_or, drop, drop_of_length-le}
use lib.Seq.{drop-cons}
use Rattle.std.proofs.Common.{Option, Some, None}
use Rattle.schedule.specs.Tokens.{is_digit, are_digits, value_after, is_number}

-- a test fails where its last part does
pub and-false : (t : Bool) → (t && false) ≡ false
and-false true = refl
and-false false = refl

-- digits only make a number larger
value_grows : (n : ℕ) (l : List ℕ) → n ≤ value_after n l
unfolding value_after
value_grows n [] = le_refl n
value_grows n (b ∷ l) = let more = value_grows (10 * n + (b - 48)) l in omega (arith, more)

module _ (digits : List ℕ) where
  -- the digits before a place come to a number
  pub record Counted (n i : ℕ) : Type 0 where
    pub right : are_digits (drop i digits) ≡ are_digits digits
    pub value : value_after n (drop i digits) ≡ value_after 0 digits

  pub counted_none : Counted 0 0
  counted_none = record { right = refl; value = refl }

  module _ (least most : ℕ) where
    -- the number of all of them, where they say one within the range
    abbrev number : Option ℕ
    number = cond (is_number least most digits) (Some (value_after 0 digits)) None

    is_not : is_number least most digits ≡ false → None ≡ number
    is_not other = rw other

    module _ {n i : ℕ} (k : Counted n i) where
      -- no more digits
      module _ (over : length digits ≤ i) where
        none_left : drop i digits ≡ []
        none_left = drop_of_length-le digits {i = i} over

        says : value_after 0 digits ≡ n
        unfolding value_after
        says = sym k.value ∙ ap (value_after n) none_left

        pub counted_empty : length digits ≡ 0 → None ≡ number
        unfolding is_number
        counted_empty none = is_not (rw (eq-eqb (length digits) 0 none))

        pub counted_few : n < least → None ≡ number
        unfolding is_number
        counted_few less = is_not (rw (says, lt-leb least n less, and-false, and-false))

        pub counted_over : most < n → None ≡ number
        unfolding is_number
        counted_over more = is_not (rw (says, lt-leb n most more, and-false, and-false, and-false))

        pub counted_all : (length digits ≡ 0 → ⊥) → least ≤ n → n ≤ most → Some n ≡ number
        unfolding is_number are_digits
        counted_all some low high =
            rw (ne_eqb (length digits) 0 some, sym k.right ∙ ap are_digits none_left, says, le-leb least n low, le-leb n most high)

      -- another byte
      module _ (inside : i < length digits) where
        abbrev b : ℕ
        b = get_or digits i 0

        first : drop i digits ≡ b ∷ drop (i + 1) digits
        first = rw (drop-cons digits i 0 inside, add-one i)

        pub counted_other : is_digit b ≡ false → None ≡ number
        unfolding is_number are_digits
        counted_other other =
            let wrong : are_digits digits ≡ false = sym k.right ∙ ap are_digits first ∙ (rw other) in
            is_not (rw (wrong, and-false))

        grown : value_after 0 digits ≡ value_after (10 * n + (b - 48)) (drop (i + 1) digits)
        unfolding value_after
        grown = sym k.value ∙ ap (value_after n) first

        pub counted_many : most < 10 * n + (b - 48) → None ≡ number
        unfolding is_number
        counted_many more =
            let large = value_grows (10 * n + (b - 48)) (drop (i + 1) digits) in
            is_not (rw (lt-leb (value_after 0 digits) most (omega (arith, grown, large, more)), and-false, and-false, and-false))

      pub counted_next : {m : ℕ} → i < length digits → is_digit (get_or digits i 0) ≡ true → m ≡ 10 * n + (get_or digits i 0 - 48) → Counted m (i + 1)
      unfolding are_digits
      counted_next inside is more =
          record {
            right = sym (ap are_digits (first inside) ∙ (rw is)) ∙ k.right;
            value = rw more (sym (grown inside));
          }
