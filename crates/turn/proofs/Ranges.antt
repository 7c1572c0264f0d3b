-- A number inside a range. Assumes nothing.
use Prim.Native.Nat.{ℕ, ◌≤◌}
use mathlib.Core.Bool.{true}
use mathlib.Core.Path.{◌≡◌}
use borrow.Author.Tests.{le-leb}
use Rattle.turn.specs.Worker.{within}

module _ (lo hi n : ℕ) where
  pub inside : lo ≤ n → n ≤ hi → within lo hi n ≡ true
  inside l h = rw (le-leb lo n l) (le-leb n hi h)
