-- The first of some numbers that passes a test.
use Rattle.std.specs.Prelude.{ℕ, zero, suc, Bool, cond}

-- the first number from i on that passes, of so many; the one after them where none does
unfoldable pub seek : (ℕ → Bool) → ℕ → ℕ → ℕ
seek passes i zero = i
seek passes i (suc more) = cond (passes i) i (seek passes (suc i) more)
