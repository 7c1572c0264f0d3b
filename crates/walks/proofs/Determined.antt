-- §12.2, §7.1: two outcomes that meet the promise of all orders are equal; and one that is refused is its number alone. Assumes nothing.
use Prim.Native.Nat.{ℕ}
use mathlib.Core.Path.{◌≡◌}
use mathlib.Core.List.{List}
use borrow.Author.Tests.{ne_eqb}
use Rattle.mark.proofs.OneAnswer.{one_answer}
use Rattle.turn.specs.declared.Worker.{Worker}
use Rattle.engine.specs.declared.Floor.{Floor}
use Rattle.walks.specs.declared.Class.{Class}
use Rattle.std.proofs.Common.{Result, sym, ap, ◌∙◌}
use Rattle.turn.specs.declared.refusal.Refusal.{Refusal as Why}
use Rattle.turn.proofs.Refusing.{answer_same}
use Rattle.walks.specs.declared.Walks.{Walks}
use Rattle.walks.specs.Calls.{Walked, walked_as, walked_number}
use Rattle.walks.proofs.Outcomes.{walked_told}
use Rattle.walks.specs.declared.OrdersOutcome.{OrdersOutcome}
use Rattle.walks.specs.Calls.{Refusal, Orders}
use Rattle.walks.specs.Calls.{orders_number, orders_call}
use Rattle.walks.specs.Promises.{OrdersWalked, OrdersLeft}

-- no two answers are one with their number
walks_in : Walked → Walks
walks_in (Refusal number) = record { finished = 0; cut = 0; lost = 0; most = 0 }
walks_in (Orders walks) = walks

walked_same : (r t : Result Walks Why) → walked_as r ≡ walked_as t → r ≡ t
unfolding walks_in
walked_same r t is =
    answer_same r t (sym (walked_told r) ∙ ap walked_number is ∙ walked_told t)
    (λ x y told said. ap walks_in (sym (ap walked_as told) ∙ is ∙ ap walked_as said))

-- the counts, or the number
pub orders_determined :
    (board : List ℕ) (f : Floor) (c : Class) (depth : ℕ) (r t : Result Walks Why)
    → OrdersWalked board f c depth r
    → OrdersWalked board f c depth t
    → r ≡ t
orders_determined board f c depth r t p q = walked_same r t (one_answer p.whole q.whole)

-- on the lent list
pub desk_orders_determined :
    (board : List ℕ) (records : List Worker) (f : Floor) (depth : ℕ) (r t : OrdersOutcome)
    → OrdersLeft board records f depth r
    → OrdersLeft board records f depth t
    → r ≡ t
desk_orders_determined board records f depth r t p q = one_answer p.whole q.whole

-- refused, it has no counts
pub orders_refused :
    (board : List ℕ) (f : Floor) (records : List Worker) (listed depth : ℕ)
    → (orders_number board f records listed depth ≡ 0 → ⊥)
    → orders_call board f records listed depth ≡ Refusal (orders_number board f records listed depth)
unfolding orders_call
orders_refused board f records listed depth some = rw (ne_eqb (orders_number board f records listed depth) 0 some)
