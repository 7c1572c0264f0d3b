-- What all orders promises (§12.1), by value and on the lent list.
use Rattle.std.specs.Prelude.{ℕ, ◌≡◌, List, length, Result}
use Rattle.turn.specs.declared.Worker.{Worker}
use Rattle.engine.specs.declared.Floor.{Floor}
use Rattle.walks.specs.declared.Class.{Class}
use Rattle.turn.specs.declared.refusal.Refusal.{Refusal}
use Rattle.turn.specs.Number.{result_number}
use Rattle.walks.specs.declared.Walks.{Walks}
use Rattle.walks.specs.declared.OrdersOutcome.{OrdersOutcome}
use Rattle.walks.specs.Told.{orders_told}
use Rattle.walks.specs.Calls.{orders_number, orders_call, walked_as, records_of}

-- all orders: nothing is lent that can be changed
pub record OrdersWalked (board : List ℕ) (f : Floor) (c : Class) (depth : ℕ) (r : Result Walks Refusal) : Type 0 where
  pub whole : walked_as r ≡ orders_call board f (records_of c) c.listed depth
  pub number : result_number r ≡ orders_number board f (records_of c) c.listed depth

-- §18.4, §18.5: all orders on the lent list: nothing is lent that can be changed
pub record OrdersLeft (board : List ℕ) (records : List Worker) (f : Floor) (depth : ℕ) (r : OrdersOutcome) : Type 0 where
  pub whole : r ≡ orders_told (orders_call board f records (length records) depth)
  pub number : r.refusal ≡ orders_number board f records (length records) depth
