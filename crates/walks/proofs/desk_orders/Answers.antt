use Rattle.walks.proofs.Outcomes.{orders_left}
use Rattle.walks.proofs.desk_orders.Goals as goal

pub returns : goal.returns
returns c =
    orders_left _ _ _ _ _ _ _ (rw (c.take_at.ensures, c.take_at-2.ensures, c.take_at-3.ensures)) c.all_orders.ensures c.orders.ensures
