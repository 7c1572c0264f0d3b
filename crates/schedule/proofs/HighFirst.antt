-- A number in so many bytes, the high byte first: the last of them. Assumes nothing.
use Prim.Native.Nat.{ℕ, zero, suc, ◌-◌, ◌/◌, ◌%◌}
use mathlib.Core.Path.{◌≡◌, refl}
use mathlib.Core.List.{[], ◌∷◌, ◌++◌}
use native.Mathlib.Omega.{arith}
use Rattle.schedule.specs.Bytes.{high_first}

pub high_none : (bytes n : ℕ) → bytes ≡ 0 → high_first bytes n ≡ []
unfolding high_first
high_none bytes n none = rw none

pub high_more : (bytes n : ℕ) → (bytes ≡ 0 → ⊥) → high_first bytes n ≡ high_first (bytes - 1) (n / 256) ++ ((n % 256) ∷ [])
unfolding high_first
high_more zero n some = absurd (some refl)
high_more (suc bytes) n some = let back : suc bytes - 1 ≡ bytes = omega arith in rw back
