-- What is claimed of the list of all orders. That it holds wherever the call is accepted is `all_orders_lem`, in proofs/TheOrders.
use Rattle.std.specs.Prelude.{ℕ, suc, ◌+◌, ◌≤◌, cond, ◌≡◌, length}
use mathlib.Core.List.{List, foldr}
use Rattle.turn.specs.declared.Worker.{Worker}
use Rattle.engine.specs.declared.Floor.{Floor}
use Rattle.walks.specs.declared.Walks.{Walks}
use Rattle.walks.specs.Lists.{Has, In, Ordered}
use Rattle.walks.specs.Orders.{ran, Order, orders, finishes, lost_in, counted}

-- §18.4: what is counted over the list
abbrev pub counts : Floor → List ℕ → List Worker → ℕ → Walks
counts f board records depth = counted f board records (orders f depth board records)

-- §18.3: the list of all orders of a class, to a depth
pub record AllOrders (f : Floor) (board : List ℕ) (records : List Worker) (depth : ℕ) : Type 0 where
  -- every order is in the list
  pub every : (turns : List ℕ) → Order f board records depth turns → In turns (orders f depth board records)
  -- nothing else is
  pub only : (turns : List ℕ) → In turns (orders f depth board records) → Order f board records depth turns
  -- and none is there twice
  pub once : Ordered (λ x y. x ≡ y → ⊥) (orders f depth board records)
  -- no turn of a walk is refused: the engine's run of an order does all its turns
  pub unrefused :
      (turns : List ℕ) → In turns (orders f depth board records)
      → ((ran f board records turns).handed.stop ≡ 0) × ((ran f board records turns).handed.totals.turns ≡ length turns)
  -- §18.4: a walk is counted for each of them, finished or cut
  pub walked : (counts f board records depth).finished + (counts f board records depth).cut ≡ length (orders f depth board records)
  -- the finished ones are those after which all are idle
  pub finished :
      (counts f board records depth).finished
      ≡ foldr (λ turns n. cond (finishes f board records turns) (suc n) n) 0 (orders f depth board records)
  -- the lost swaps are added up over all of them
  pub lost : (counts f board records depth).lost ≡ foldr (λ turns n. lost_in f board records turns + n) 0 (orders f depth board records)
  -- none has more than the most, and one has as many
  pub no_more : (turns : List ℕ) → In turns (orders f depth board records) → lost_in f board records turns ≤ (counts f board records depth).most
  pub reached : Has (λ turns. lost_in f board records turns ≡ (counts f board records depth).most) (orders f depth board records)
