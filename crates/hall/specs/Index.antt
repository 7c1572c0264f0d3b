-- The index of the hall display (§21): five words, the number of valid slots and then one bit for each bucket.
use Rattle.std.specs.Prelude.{ℕ, ◌+◌, ◌-◌, ◌*◌, ◌/◌, ◌%◌, Bool, cond, ◌||◌, List, eqb, ltb, get_or, set}
use Rattle.std.specs.Bool.{xor}
use Rattle.mark.specs.Word.{count_marks}
use Rattle.bits.specs.Bits.{is_set, with_bit}

-- §21.1: how many words it has
abbrev pub index_words : ℕ
index_words = 5

-- §21.1: the number of valid slots, which is its first word
abbrev pub total_in : List ℕ → ℕ
total_in index = get_or index 0 0

-- §21.1: which of its words has the bit of bucket b
abbrev pub word_of : ℕ → ℕ
word_of b = 1 + b / 64

-- §21.1: whether the bit of bucket b is set
abbrev pub bit_in : List ℕ → ℕ → Bool
bit_in index b = is_set (get_or index (word_of b) 0) (b % 64)

-- the index with the bit of bucket b set or cleared
abbrev pub with_bit_in : List ℕ → ℕ → Bool → List ℕ
with_bit_in index b on = set index (word_of b) (with_bit (get_or index (word_of b) 0) (b % 64) on)

-- §2.9: the valid slots of a bucket, by its mark word
abbrev pub valid_in : ℕ → ℕ
valid_in word = count_marks 1 word

-- §21.1: whether there is one
abbrev pub occupied : ℕ → Bool
occupied word = ltb 0 (valid_in word)

-- the index with the valid slots and the bit of bucket b as another mark word has them
abbrev pub moved : List ℕ → ℕ → ℕ → ℕ → List ℕ
moved index b before after = set (with_bit_in index b (occupied after)) 0 (total_in index - valid_in before + valid_in after)

-- §21.2: what becomes of the index where the mark word of bucket b becomes another; nothing where it stays
unfoldable pub followed : List ℕ → ℕ → ℕ → ℕ → List ℕ
followed index b before after = cond (eqb before after) index (moved index b before after)

-- §21.5: the highest total that a bucket with this mark word leaves room for, of n: three for each, less its slots that are not valid
abbrev pub most_with : ℕ → ℕ → ℕ
most_with n word = 3 * n - (3 - valid_in word)

-- §21.5: the index does not tell what the marks of bucket b, of n, do: the bit says otherwise, or the total is below its valid slots, or so high
-- that other buckets would need more slots than they have
unfoldable pub untrue : ℕ → List ℕ → ℕ → ℕ → Bool
untrue n index b word =
    xor (bit_in index b) (occupied word)
    || (ltb (total_in index) (valid_in word) || ltb (most_with n word) (total_in index))
