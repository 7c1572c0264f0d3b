-- An index that has moved on with a bucket: its length, its total, that bucket's bit, and every other. Assumes nothing.
use Prim.Native.Nat.{ℕ, ◌+◌, ◌-◌, ◌/◌, ◌%◌, ◌<◌}
use mathlib.Core.Bool.{Bool}
use mathlib.Core.List.{List}
use mathlib.Core.Path.{◌≡◌, refl, ap, ◌∙◌}
use native.Mathlib.Decide.{ℕ_discrete}
use native.Mathlib.Omega.{arith}
use lib.Dec.{eqb}
use lib.ListN.{length, get_or, set, length-set}
use lib.Seq.{get_or-set_same, get_or-set_other}
use Rattle.mark.proofs.Choices.{by_cases}
use Rattle.bits.specs.Bits.{is_set, with_bit}
use Rattle.bits.proofs.Bit.{bit_set, bit_set_other}
use Rattle.hall.specs.Index.{index_words, total_in, word_of, bit_in, with_bit_in, valid_in, occupied, moved, followed}

-- ---- with any total, and any bit for a bucket

module _ (index : List ℕ) (b : ℕ) (on : Bool) (total : ℕ) where
  abbrev changed : List ℕ
  changed = set (with_bit_in index b on) 0 total

  changed_long : length changed ≡ length index
  changed_long = length-set (with_bit_in index b on) 0 total ∙ length-set index (word_of b) _

  -- past the total, a word is as the bit has left it
  word_past : (k : ℕ) → get_or changed (1 + k) 0 ≡ get_or (with_bit_in index b on) (1 + k) 0
  word_past k = get_or-set_other (with_bit_in index b on) 0 (1 + k) total 0 (omega arith)

  module _ (five : length index ≡ index_words) where
    total_changed : total_in changed ≡ total
    total_changed =
        get_or-set_same (with_bit_in index b on) 0 total 0 (omega (arith, length-set index (word_of b) (with_bit (get_or index (word_of b) 0) (b % 64) on), five))

    module _ (within : b < 256) where
      own_word : get_or (with_bit_in index b on) (word_of b) 0 ≡ with_bit (get_or index (word_of b) 0) (b % 64) on
      own_word = get_or-set_same index (word_of b) _ 0 (omega (arith, five))

      bit_changed : bit_in changed b ≡ on
      bit_changed = ap (λ (x : ℕ). is_set x (b % 64)) (word_past (b / 64) ∙ own_word) ∙ bit_set (get_or index (word_of b) 0) (b % 64) on (omega arith)

      bit_changed_other : (c : ℕ) → (c ≡ b → ⊥) → bit_in changed c ≡ bit_in index c
      bit_changed_other c other = ap (λ (x : ℕ). is_set x (c % 64)) (word_past (c / 64)) ∙ by (ℕ_discrete (word_of c) (word_of b))
        where
          by : Dec (word_of c ≡ word_of b) → is_set (get_or (with_bit_in index b on) (word_of c) 0) (c % 64) ≡ bit_in index c
          by (yes same) =
              rw same
              (ap (λ (x : ℕ). is_set x (c % 64)) own_word
              ∙ bit_set_other (get_or index (word_of b) 0) (b % 64) on (omega arith) (c % 64) (λ is. other (omega (arith, same, is))))
          by (no apart) = ap (λ (x : ℕ). is_set x (c % 64)) (get_or-set_other index (word_of b) (word_of c) _ 0 apart)

-- ---- with those of another mark word

module _ (index : List ℕ) (b before after : ℕ) where
  pub moved_long : length (moved index b before after) ≡ length index
  moved_long = changed_long index b _ _

  module _ (five : length index ≡ index_words) where
    pub total_moved : total_in (moved index b before after) ≡ total_in index - valid_in before + valid_in after
    total_moved = total_changed index b _ _ five

    module _ (within : b < 256) where
      pub bit_moved : bit_in (moved index b before after) b ≡ occupied after
      bit_moved = bit_changed index b _ _ five within

      pub bit_moved_other : (c : ℕ) → (c ≡ b → ⊥) → bit_in (moved index b before after) c ≡ bit_in index c
      bit_moved_other = bit_changed_other index b _ _ five within

-- one that follows a bucket is as long as it was
pub followed_long : (index : List ℕ) (b before after : ℕ) → length (followed index b before after) ≡ length index
unfolding followed
followed_long index b before after =
    by_cases (λ (l : List ℕ). length l ≡ length index) (eqb before after) _ _ (λ is. refl) (λ isnot. moved_long index b before after)
