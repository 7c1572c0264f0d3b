-- Where a stretch can begin the board is good: every worker is idle, and the mark words are those at first. So every history is. Assumes nothing.
use Prim.Native.Nat.{ℕ, ◌+◌, ◌*◌}
use mathlib.Core.List.{List, []}
use mathlib.Core.Path.{refl, ◌∙◌}
use native.Mathlib.Omega.{arith}
use lib.ListN.{length-map}
use Rattle.mark.proofs.Fields.{version_lt}
use Rattle.turn.specs.Asleep.{awake}
use Rattle.turn.proofs.Lands.{elsewhere}
use Rattle.history.specs.Trace.{total}
use Rattle.history.specs.History.{State, Call, workers_of, buckets_of, state, trace, inserts, removes}
use Rattle.history.proofs.View.{left}
use Rattle.history.proofs.Held.{Kept}
use Rattle.history.proofs.Versions.{Tells}
use Rattle.history.proofs.Charges.{stale}
use Rattle.history.proofs.Counts.{onto}
use Rattle.history.proofs.Good.{Good, walk_good}
use Rattle.history.proofs.States.{view}
use Rattle.history.proofs.Ready.{Ready, ready_listed, rests, holds_none, counts_none}
use Rattle.history.proofs.Walking.{history_walk}

-- the mark word at first tells of no commit and no close
first_tells : (m b : ℕ) → Tells m b [] m
unfolding total
first_tells m b = record { bumps = omega (arith, version_lt m); valid = omega arith }

module _ {first : State} (ready : Ready first) where
  kept : Kept (buckets_of first) (view first)
  kept =
      record {
        aimed = λ i. let place = (rests ready i).place in elsewhere _ (omega arith);
        sure = λ i holds. absurd (holds_none ready i holds);
        apart = λ i j other holds theirs same equal. holds_none ready i holds;
      }

  -- where a stretch can begin the board is good, with nothing behind it
  pub ready_good : Good (workers_of first) (buckets_of first) (view first).marks (view first) [] 0
  unfolding total
  ready_good =
      record {
        listed = length-map first.records awake ∙ ready_listed ready;
        kept = kept;
        tells = λ b under. first_tells ((view first).marks b) b;
        behind = λ i holds. absurd (holds_none ready i holds);
        charge = omega (arith, counts_none ready (stale (buckets_of first) (view first).marks) refl);
        budget = omega (arith, counts_none ready left refl);
      }

  -- every history is good, with its turns behind it, the newest first
  pub history_good :
      (calls : List Call)
      → Good (workers_of first) (buckets_of first) (view first).marks (view (state first calls)) (onto (trace first calls) [])
      (2 * inserts first calls + removes first calls + 0)
  history_good calls = walk_good (workers_of first) (buckets_of first) (view first).marks (history_walk first calls) [] 0 ready_good
