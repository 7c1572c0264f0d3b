-- Figures that customers gave with what they asked for later, and some beside them, as trials.
use Rattle.std.specs.Prelude.{List, [], ◌∷◌}
use Rattle.trials.specs.Trial.{Trial, ◌⇒◌, opens, looks, inserts, removes, turns, totals, asleep_of, all_orders, accepted, goes_on, loses, ends, counts, is, wins, walked}
use Rattle.trials.specs.Trials.{A, B, C}

-- §18.6: two looks on an empty bucket
abbrev pub two_looks : Trial
two_looks =
    opens 2 1 0 ⇒ accepted
    ∷ looks A 7 ⇒ accepted
    ∷ looks B 7 ⇒ accepted
    ∷ all_orders 24 ⇒ walked 924 0 0 0
    ∷ []

-- §18.4: the two bids of P8, both about to swap: 38 orders are over within 11 turns, and in some a second swap is lost
abbrev pub both_swap : Trial
both_swap =
    opens 2 1 0 ⇒ accepted
    ∷ inserts A 7 1 ⇒ accepted
    ∷ inserts B 7 2 ⇒ accepted
    ∷ turns A 7 ⇒ goes_on
    ∷ turns B 7 ⇒ goes_on
    ∷ all_orders 11 ⇒ walked 38 314 354 2
    ∷ []

-- §18.4: three bids for three lots, all about to swap, to a depth that cuts every walk
abbrev pub three_swap : Trial
three_swap =
    opens 3 1 0 ⇒ accepted
    ∷ inserts A 7 1 ⇒ accepted
    ∷ inserts B 8 2 ⇒ accepted
    ∷ inserts C 9 3 ⇒ accepted
    ∷ turns A 7 ⇒ goes_on
    ∷ turns B 7 ⇒ goes_on
    ∷ turns C 7 ⇒ goes_on
    ∷ all_orders 6 ⇒ walked 0 696 1236 2
    ∷ []

-- §20.4: the sleeper of P6 has slept through 15 turns when its thirtieth comes, and is awake after it; the other has slept through none
abbrev pub sleeper : Trial
sleeper =
    opens 2 1 0 ⇒ accepted
    ∷ inserts A 7 1 ⇒ accepted
    ∷ turns A 11 ⇒ ends 1
    ∷ removes B 7 ⇒ accepted
    ∷ turns B 3 ⇒ goes_on
    ∷ removes A 7 ⇒ accepted
    ∷ asleep_of B ⇒ is 0
    ∷ turns A 4 ⇒ ends 1
    ∷ asleep_of B ⇒ is 4
    ∷ inserts A 7 2 ⇒ accepted
    ∷ turns A 11 ⇒ ends 1
    ∷ totals ⇒ counts 29 5 0 0
    ∷ asleep_of B ⇒ is 15
    ∷ turns B 4 ⇒ loses
    ∷ asleep_of B ⇒ is 0
    ∷ asleep_of A ⇒ is 0
    ∷ []

-- §20.4: the two bids of P8: one turn slept through, and the swap is lost
abbrev pub short_sleep : Trial
short_sleep =
    opens 2 1 0 ⇒ accepted
    ∷ inserts A 7 1 ⇒ accepted
    ∷ inserts B 7 2 ⇒ accepted
    ∷ turns A 7 ⇒ goes_on
    ∷ turns B 7 ⇒ goes_on
    ∷ turns A 8 ⇒ wins
    ∷ asleep_of B ⇒ is 1
    ∷ turns B 8 ⇒ loses
    ∷ []

-- §20.4: the repeated word of P11: ten turns slept through, and the swap is won
abbrev pub long_sleep : Trial
long_sleep =
    opens 3 1 0 ⇒ accepted
    ∷ inserts B 7 1 ⇒ accepted
    ∷ turns B 8 ⇒ wins
    ∷ inserts C 7 2 ⇒ accepted
    ∷ turns C 11 ⇒ ends 1
    ∷ turns B 18 ⇒ goes_on
    ∷ inserts A 8 3 ⇒ accepted
    ∷ turns A 8 ⇒ goes_on
    ∷ turns B 19 ⇒ ends 0
    ∷ inserts C 9 4 ⇒ accepted
    ∷ turns C 9 ⇒ wins
    ∷ asleep_of A ⇒ is 10
    ∷ turns A 9 ⇒ wins
    ∷ []

-- all of them
abbrev pub figures : List Trial
figures = two_looks ∷ both_swap ∷ three_swap ∷ sleeper ∷ short_sleep ∷ long_sleep ∷ []
