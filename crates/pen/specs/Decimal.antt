-- Numbers as they are written.
use Rattle.std.specs.Prelude.{ℕ, zero, suc, ◌+◌, ◌/◌, ◌%◌, cond, List, [], ◌∷◌, ◌++◌, ltb}

-- §9.4: a number in decimal, the highest digit first, in at most so many digits; 48 is '0'
unfoldable pub decimal_in : ℕ → ℕ → List ℕ
decimal_in zero n = []
decimal_in (suc places) n = cond (ltb n 10) ((48 + n) ∷ []) (decimal_in places (n / 10) ++ ((48 + n % 10) ∷ []))

-- 20 digits are enough for every 64-bit number
abbrev pub decimal : ℕ → List ℕ
decimal n = decimal_in 20 n
