-- Histories reach the turns that the theorem of values speaks of, and a value that changes: the sleeper does, computed turn by turn.
-- Assumes nothing.
use mathlib.Core.List.{[], ◌∷◌}
use mathlib.Core.Path.{◌≡◌, refl}
use lib.ListN.{take}
use Rattle.history.specs.Trace.{IsTurn, Some}
use Rattle.history.specs.History.{opened, state}
use Rattle.history.specs.Trials.{sleeper}
use Rattle.history.specs.Values.{value_at, StoresTicket, tickets, tickets_from}
use Rattle.history.proofs.Found.{found}
use Rattle.history.proofs.Reached.{two_workers, sleeper_trace, computed}

-- tickets 1 and 2 are accepted and stored, and the value of one slot goes from 0 to 1 and to 2
pub record Rewrites : Type 0 where
  pub accepted : tickets (opened two_workers) sleeper ≡ 1 ∷ 2 ∷ []
  pub stored : Some (IsTurn (StoresTicket 1)) sleeper_trace
  pub stored_next : Some (IsTurn (StoresTicket 2)) sleeper_trace
  pub at_first : value_at (state (opened two_workers) (take 1 sleeper)) 0 0 ≡ 0
  pub between : value_at (state (opened two_workers) (take 2 sleeper)) 0 0 ≡ 1
  pub at_last : value_at (state (opened two_workers) sleeper) 0 0 ≡ 2

-- the sleeper's floor has such a slot
pub sleeper_rewrites : Rewrites
unfolding computed tickets_from
sleeper_rewrites =
    record {
      accepted = refl;
      stored = found (IsTurn (StoresTicket 1)) sleeper_trace 8 ((refl, refl), refl);
      stored_next = found (IsTurn (StoresTicket 2)) sleeper_trace 26 ((refl, refl), refl);
      at_first = refl;
      between = refl;
      at_last = refl;
    }
