-- What all orders answers, in numbers, for a caller that knows no enum.
use Rattle.walks.specs.Calls.{Walked}
use Rattle.walks.specs.Calls.{Refusal, Orders}
use Rattle.walks.specs.declared.OrdersOutcome.{OrdersOutcome}

-- §7.1, §14.9: a refusal has its number, and 0 for each count
abbrev pub orders_told : Walked → OrdersOutcome
orders_told (Refusal number) = record { refusal = number; finished = 0; cut = 0; lost = 0; most = 0 }
orders_told (Orders walks) =
    record { refusal = 0; finished = walks.finished; cut = walks.cut; lost = walks.lost; most = walks.most }
