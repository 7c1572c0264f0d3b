-- The next bucket, word by word. Assumes nothing.
use Prim.Native.Nat.{ℕ, ◌+◌, ◌-◌, ◌*◌, ◌/◌, ◌%◌, ◌≤◌, ◌<◌}
use mathlib.Core.Bool.{Bool, true, false, cond}
use mathlib.Core.List.{List}
use mathlib.Core.Path.{◌≡◌, refl, ap, ◌∙◌}
use native.Mathlib.Omega.{arith}
use lib.Dec.{ltb}
use lib.ListN.{get_or}
use borrow.Author.Tests.{lt-ltb, le-ltb, ltb-true, ltb-false}
use Rattle.std.proofs.Common.{Some, None}
use Rattle.std.specs.Bool.{then_some}
use Rattle.mark.proofs.Choices.{by_cases}
use Rattle.bits.specs.Seek.{seek}
use Rattle.bits.specs.Bits.{is_set, first_from, bit_if_any}
use Rattle.bits.proofs.Seeks.{seek_ge, seek_same, seek_further, seek_on}
use Rattle.hall.specs.Next.{Next, bucket_if_any}
use Rattle.hall.specs.Index.{bit_in}
use Rattle.hall.specs.Calls.{first_of}

-- ---- all of the bits, and those below n

-- of n numbers and some more, the first that passes is below n, or none of the n does
pub first_wide : (p : ℕ → Bool) (n from all : ℕ) → from < n → n ≤ all
    → first_of p n from ≡ cond (ltb (seek p from (all - from)) n) (Next.Bucket (seek p from (all - from))) Next.Nowhere
unfolding first_of
first_wide p n from all under within =
    let parts : all - from ≡ (n - from) + (all - n) = omega arith in
    let end : from + (n - from) ≡ n = omega arith in
    rw (parts, seek_on p from (n - from) (all - n), end)
    (by_cases
    (λ (b : ℕ).
    cond (ltb (seek p from (n - from)) n) (Next.Bucket (seek p from (n - from))) Next.Nowhere
    ≡ cond (ltb b n) (Next.Bucket b) Next.Nowhere)
    (ltb (seek p from (n - from)) n) (seek p from (n - from)) (seek p n (all - n)) (λ is. refl)
    (λ isnot. rw (isnot, le-ltb (seek p n (all - n)) n (seek_ge p n (all - n)))))

-- ---- one word

module _ (index : List ℕ) (k bit : ℕ) (in_word_lem : bit < 64) where
  abbrev word : ℕ
  word = get_or index (1 + k) 0

  -- the bits of a word are those of its 64 buckets
  word_first : seek (bit_in index) (64 * k + bit) (64 - bit) ≡ 64 * k + first_from word bit
  unfolding first_from
  word_first =
      seek_further (bit_in index) (64 * k) bit (64 - bit)
      ∙ ap (λ (n : ℕ). 64 * k + n)
      (seek_same (λ j. bit_in index (64 * k + j)) (is_set word) bit (64 - bit)
      (λ j from under.
      let in_first_lem : (64 * k + j) / 64 ≡ k = omega arith in
      let at_bit : (64 * k + j) % 64 ≡ j = omega arith in
      rw (in_first_lem, at_bit))
      ∙ rw (lt-ltb bit 64 in_word_lem))

  abbrev rest : ℕ
  rest = 256 - (64 * k + bit)

  split : k < 4 → seek (bit_in index) (64 * k + bit) rest
      ≡ cond (ltb (64 * k + first_from word bit) (64 * (k + 1))) (64 * k + first_from word bit) (seek (bit_in index) (64 * (k + 1)) (256 - 64 * (k + 1)))
  split last =
      let parts : rest ≡ (64 - bit) + (256 - 64 * (k + 1)) = omega arith in
      let next : 64 * k + bit + (64 - bit) ≡ 64 * (k + 1) = omega arith in
      rw (parts, seek_on (bit_in index) (64 * k + bit) (64 - bit) (256 - 64 * (k + 1)), word_first, next)

  -- a bit that is set in it is the first
  pub word_has : k < 4 → first_from word bit < 64 → seek (bit_in index) (64 * k + bit) rest ≡ 64 * k + first_from word bit
  word_has last found = split last ∙ rw (lt-ltb (64 * k + first_from word bit) (64 * (k + 1)) (omega (arith, found)))

  -- and where there is none, it is sought in the next word
  pub word_none : k < 4 → 64 ≤ first_from word bit
      → seek (bit_in index) (64 * k + bit) rest ≡ seek (bit_in index) (64 * (k + 1) + 0) (256 - (64 * (k + 1) + 0))
  word_none last none =
      let next : 64 * (k + 1) + 0 ≡ 64 * (k + 1) = omega arith in
      split last ∙ rw (le-ltb (64 * k + first_from word bit) (64 * (k + 1)) (omega (arith, none)), next)

-- at or past n there is none
pub first_past : (p : ℕ → Bool) (n from : ℕ) → n ≤ from → Next.Nowhere ≡ first_of p n from
unfolding first_of
first_past p n from past = rw (le-ltb (seek p from (n - from)) n (omega (arith, seek_ge p from (n - from))))

-- ---- what a word told

-- a bit that is told is one of the word's
pub some_bit : (i n : ℕ) → Some n ≡ bit_if_any i → (i < 64) × (n ≡ i)
some_bit i n = by (ltb i 64) refl
  where
    by : (t : Bool) → ltb i 64 ≡ t → Some n ≡ cond t (Some i) None → (i < 64) × (n ≡ i)
    by true is same = (ltb-true i 64 is, cc)
    by false is same = cc

-- and where none is, it has none
pub none_bit : (i : ℕ) → None ≡ bit_if_any i → 64 ≤ i
none_bit i = by (ltb i 64) refl
  where
    by : (t : Bool) → ltb i 64 ≡ t → None ≡ cond t (Some i) None → 64 ≤ i
    by true is same = cc
    by false is same = ltb-false i 64 is

-- a bucket is told where there is one of its number
pub bucket_told : (t : Bool) (b : ℕ) → bucket_if_any (then_some t b) ≡ cond t (Next.Bucket b) Next.Nowhere
bucket_told true b = refl
bucket_told false b = refl
