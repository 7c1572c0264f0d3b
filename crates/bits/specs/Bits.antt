-- The bits of a 64-bit word, in plain arithmetic. Bit i weighs 2^i.
use Rattle.std.specs.Prelude.{ℕ, ◌+◌, ◌-◌, ◌*◌, ◌/◌, ◌%◌, ◌^◌, Bool, cond, eqb, ltb, Option, Some, None}
use Rattle.bits.specs.Seek.{seek}

-- whether bit i is set
unfoldable pub is_set : ℕ → ℕ → Bool
is_set word i = eqb (word / 2 ^ i % 2) 1

-- the word with bit i set or cleared; a number past 63 names no bit, and changes nothing
unfoldable pub with_bit : ℕ → ℕ → Bool → ℕ
with_bit word i on = cond (ltb i 64) (word - word / 2 ^ i % 2 * 2 ^ i + cond on 1 0 * 2 ^ i) word

-- the first bit that is set at or after bit i, or 64 where there is none
unfoldable pub first_from : ℕ → ℕ → ℕ
first_from word i = cond (ltb i 64) (seek (is_set word) i (64 - i)) 64

-- a bit, and none for a number past 63
abbrev pub bit_if_any : ℕ → Option ℕ
bit_if_any i = cond (ltb i 64) (Some i) None
