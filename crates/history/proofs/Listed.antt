-- A worker's record as it stands in the list, and without how long it has slept. Assumes nothing.
use Prim.Native.Nat.{ℕ, ◌<◌}
use mathlib.Core.Path.{◌≡◌, sym, ap, subst, ◌∙◌}
use lib.ListN.{length, length-map}
use Rattle.turn.specs.Worker.{idle}
use Rattle.turn.specs.Asleep.{awake}
use Rattle.turn.proofs.Asleep.{awake_idle}
use Rattle.engine.proofs.Sleeping.{record_awake}
use Rattle.history.specs.History.{State, listed_of, record_of}
use Rattle.history.specs.Unbroken.{Unbroken}
use Rattle.history.proofs.States.{view}

module _ (s : State) (i : ℕ) where
  -- who has a record without its sleep has one in the list
  pub listed_within : i < length (view s).records → i < length s.records
  listed_within = subst (λ (n : ℕ). i < n) (length-map s.records awake)

  -- without its sleep it is awake
  pub up_is : record_of s i ≡ awake (listed_of s i)
  up_is = record_awake s.records i

  -- an idle one has none
  pub idle_up : listed_of s i ≡ idle → record_of s i ≡ idle
  idle_up rests = up_is ∙ ap awake rests

  -- and where nothing is broken one that is idle without it has none
  pub idle_listed : Unbroken s → i < s.floor.workers → record_of s i ≡ idle → listed_of s i ≡ idle
  idle_listed ok under rests = awake_idle (listed_of s i) (ok.records i under) (sym up_is ∙ rests)
