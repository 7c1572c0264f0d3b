-- All orders from where an opened board stands. That it holds wherever the class is a small one is `orders_from_lem`, in proofs/AllOrders.
use Rattle.std.specs.Prelude.{ℕ, ◌+◌, ◌≤◌, ◌≡◌, List, length}
use Rattle.walks.specs.Calls.{orders_number}
use Rattle.walks.specs.AllOrders.{counts, AllOrders}
use Rattle.history.specs.Counts.{lost_swaps}
use Rattle.history.specs.History.{State, Call, state, trace, most_lost}

module _ (s : State) (depth : ℕ) where
  -- the number by which all orders are refused, or 0
  abbrev pub orders_number_of : ℕ
  orders_number_of = orders_number s.board s.floor s.records (length s.records) depth

  -- §18.4: the most swaps that are lost in one walk
  abbrev pub most_in_one : ℕ
  most_in_one = (counts s.floor s.board s.records depth).most

-- §18.3: all orders, where a stretch begins in this state and these are the calls since
pub record OrdersFrom (first : State) (calls : List Call) (depth : ℕ) : Type 0 where
  -- it is accepted
  pub accepted : orders_number_of (state first calls) depth ≡ 0
  -- every order is listed, nothing else is, and none twice
  pub listed : AllOrders (state first calls).floor (state first calls).board (state first calls).records depth
  -- §11.3: no walk loses more swaps than demand 3 leaves to it after those that are lost already
  pub bound : lost_swaps (trace first calls) + most_in_one (state first calls) depth ≤ most_lost first calls
