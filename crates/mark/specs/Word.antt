-- The mark word of a bucket, in plain arithmetic. Figure 5 is the report's.
use Rattle.std.specs.Prelude.{ℕ, ◌+◌, ◌-◌, ◌*◌, ◌/◌, ◌%◌, ◌^◌, Bool, cond, ◌&&◌, ◌==◌, nat_le, nat_lt, Option, Some, None}

-- §2.5: the version, the low half of the word
unfoldable pub version : ℕ → ℕ
version word = word % 2 ^ 32

-- what a mark of one weighs in the word: 2^32 at slot 0, 2^40 at slot 1, 2^48 at slot 2
abbrev pub unit : ℕ → ℕ
unit slot = 2 ^ (32 + 8 * slot)

-- §2.5: the mark of a slot, which has a byte of its own; a number that names no slot has mark 0 (decision 11)
unfoldable pub mark_of : ℕ → ℕ → ℕ
mark_of word slot = cond (nat_lt slot 3) (word / unit slot % 256) 0

-- §2.5: byte 7 of a 64-bit word, all that stands above the marks (decision 14)
unfoldable pub byte7 : ℕ → ℕ
byte7 word = word / 2 ^ 56

-- §2.5: the word with this version and these three marks
unfoldable pub word_of : ℕ → ℕ → ℕ → ℕ → ℕ
word_of v m0 m1 m2 = v + 2 ^ 32 * m0 + 2 ^ 40 * m1 + 2 ^ 48 * m2

-- the word with another mark at a slot (figure 5, snap_set_map); a number that names no slot sets nothing (decision 11)
unfoldable pub set_mark : ℕ → ℕ → ℕ → ℕ
set_mark word slot mark = cond (nat_lt slot 3) (word - mark_of word slot * unit slot + mark * unit slot) word

-- §5.9: the version after this one; the highest is followed by 0
abbrev pub next_version : ℕ → ℕ
next_version v = (v + 1) % 2 ^ 32

-- the word with the next version (figure 5, snap_set_map_and_inc_version, which sets a mark too)
unfoldable pub bump : ℕ → ℕ
bump word = word - version word + next_version (version word)

-- §4.7: the lowest slot that is empty (figure 5, snap_get_empty_index), or 3 where there is none (decision 12)
unfoldable pub first_empty : ℕ → ℕ
first_empty word =
    cond (mark_of word 0 == 0) 0
    (cond (mark_of word 1 == 0) 1
    (cond (mark_of word 2 == 0) 2 3))

-- §4.7: a slot, and none for a number past the three
abbrev pub slot_if_any : ℕ → Option ℕ
slot_if_any slot = cond (nat_lt slot 3) (Some slot) None

-- §3.7: a word is well formed if no mark is over 2 and byte 7 is 0
unfoldable pub well_formed : ℕ → Bool
well_formed word = nat_le (mark_of word 0) 2 && (nat_le (mark_of word 1) 2 && (nat_le (mark_of word 2) 2 && byte7 word == 0))

-- 1 if a mark is n, else 0
abbrev pub is_mark : ℕ → ℕ → ℕ
is_mark n mark = cond (mark == n) 1 0

-- how many of the three marks are n
unfoldable pub count_marks : ℕ → ℕ → ℕ
count_marks n word = is_mark n (mark_of word 0) + is_mark n (mark_of word 1) + is_mark n (mark_of word 2)
