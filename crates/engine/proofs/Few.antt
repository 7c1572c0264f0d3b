-- A turn adds at most one to each of the totals, so that few turns leave them exact. Assumes nothing.
use Prim.Native.Nat.{ℕ, ◌+◌, ◌≤◌}
use mathlib.Core.Path.{◌≡◌}
use mathlib.Core.Bool.{Bool, true, false, cond}
use native.Mathlib.Omega.{arith}
use lib.Dec.{eqb}
use borrow.Author.Tests.{le-leb}
use Rattle.turn.specs.declared.Action.{Action}
use Rattle.turn.specs.declared.Action.TheVariants.{Read, Store, Won, Lost}
use Rattle.turn.specs.declared.Report.{Report}
use Rattle.turn.specs.Asleep.{capped}
use Rattle.engine.specs.declared.Totals.{Totals}
use Rattle.engine.specs.Room.{Few}
use Rattle.engine.specs.Calls.{changes, losses, tallied, capped_totals}

full_le : (full : Bool) → cond full 1 0 ≤ 1
full_le true = omega arith
full_le false = omega arith

changes_le : (place : ℕ) (a : Action) → changes place a ≤ 1
changes_le place Read = omega arith
changes_le place Store = full_le (eqb place 10)
changes_le place Won = omega arith
changes_le place Lost = omega arith

losses_le : (a : Action) → losses a ≤ 1
losses_le Read = omega arith
losses_le Store = omega arith
losses_le Won = omega arith
losses_le Lost = omega arith

-- one turn more
pub few_more : (n place : ℕ) (r : Report) (t : Totals) → Few n t → Few (n + 1) (tallied place r t)
few_more n place r t few =
    record {
      turns = omega (arith, few.turns);
      changes = omega (arith, few.changes, changes_le place r.action);
      lost = omega (arith, few.lost, losses_le r.action);
      full = omega (arith, few.full, full_le r.full);
    }

-- and so at most more
pub few_le : (n m : ℕ) (t : Totals) → n ≤ m → Few n t → Few m t
few_le n m t more few =
    record {
      turns = omega (arith, few.turns);
      changes = omega (arith, few.changes);
      lost = omega (arith, few.lost);
      full = omega (arith, few.full);
    }

exact : (n : ℕ) → n ≤ 4294967295 → capped n ≡ n
exact n few = rw (le-leb n 4294967295 few)

-- few turns are counted exactly
pub few_exact : (n : ℕ) (t : Totals) → n ≤ 4294967295 → Few n t → capped_totals t ≡ t
few_exact n t small few =
    rw (exact t.turns (omega (arith, few.turns)), exact t.changes (omega (arith, few.changes)))
    (rw (exact t.lost (omega (arith, few.lost)), exact t.full (omega (arith, few.full))))
