-- Words that go by tests: `search tellings` closes a promise that writes them, one thing after another. Assumes nothing.
use Prim.Native.Nat.{ℕ}
use mathlib.Core.Bool.{Bool, true, false, cond}
use mathlib.Core.Path.{◌≡◌}
use mathlib.Core.List.{List}
use Rattle.mark.proofs.Choices.{numbers, tests}
use Rattle.pen.specs.declared.Pen.{Pen}
use Rattle.pen.specs.Written.{Writes}

module _ {old new : Pen} (t : Bool) (l m : List ℕ) where
  pub writes_chosen : t ≡ true → Writes old l new → Writes old (cond t l m) new
  writes_chosen h p = rw h p

  pub writes_passed : t ≡ false → Writes old m new → Writes old (cond t l m) new
  writes_passed h p = rw h p

pub ruleset tellings = (writes_chosen, writes_passed, numbers, tests)
