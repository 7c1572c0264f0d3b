-- The trials P1 to P11. Where a trial has turns, its last totals are those that the listing of its sheet ends with.
use Rattle.std.specs.Prelude.{ℕ, List, [], ◌∷◌, ◌++◌}
use Rattle.trials.specs.Trial.{Trial, ◌⇒◌, opens, looks, inserts, removes, turns, totals, mark_word, word_read, place_of, last_ticket}
use Rattle.trials.specs.Trial.{accepted, refused, goes_on, wins, loses, ends, counts, is}

-- the worker that P8 and P11 call A
abbrev pub A : ℕ
A = 0

-- the worker that P8 and P11 call B
abbrev pub B : ℕ
B = 1

-- the worker that P11 calls C
abbrev pub C : ℕ
C = 2

-- §10.1: a look finds nothing in an empty bucket
abbrev pub P1 : Trial
P1 =
    opens 1 1 0 ⇒ accepted
    ∷ looks 0 7 ⇒ accepted
    ∷ turns 0 6 ⇒ ends 0
    ∷ totals ⇒ counts 6 0 0 0
    ∷ []

-- the first bid for lot 7, on a board opened at a version, and the mark word that it leaves
abbrev pub first_bid : ℕ → ℕ → Trial
first_bid version word =
    opens 1 1 version ⇒ accepted
    ∷ inserts 0 7 1 ⇒ accepted
    ∷ turns 0 11 ⇒ ends 1
    ∷ mark_word ⇒ is word
    ∷ totals ⇒ counts 11 2 0 0
    ∷ []

-- §10.2: the first bid
abbrev pub P2 : Trial
P2 = first_bid 0 4294967297

-- §10.3: after the highest version comes 0
abbrev pub P3 : Trial
P3 = first_bid 4294967295 4294967296

-- §10.4: the lot is closed
abbrev pub P4 : Trial
P4 =
    P2
    ++ removes 0 7 ⇒ accepted
    ∷ turns 0 4 ⇒ ends 1
    ∷ mark_word ⇒ is 1
    ∷ totals ⇒ counts 15 3 0 0
    ∷ []

-- §10.5: a bid for a lot that stands changes nothing, and its ticket is spent
abbrev pub P5 : Trial
P5 =
    P2
    ++ inserts 0 7 2 ⇒ accepted
    ∷ turns 0 5 ⇒ ends 0
    ∷ mark_word ⇒ is 4294967297
    ∷ totals ⇒ counts 16 2 0 0
    ∷ last_ticket ⇒ is 2
    ∷ inserts 0 8 2 ⇒ refused 5
    ∷ []

-- §10.6: the sleeper
abbrev pub P6 : Trial
P6 =
    opens 2 1 0 ⇒ accepted
    ∷ inserts 0 7 1 ⇒ accepted
    ∷ turns 0 11 ⇒ ends 1
    ∷ totals ⇒ counts 11 2 0 0
    ∷ removes 1 7 ⇒ accepted
    ∷ turns 1 3 ⇒ goes_on
    ∷ removes 0 7 ⇒ accepted
    ∷ turns 0 4 ⇒ ends 1
    ∷ totals ⇒ counts 18 3 0 0
    ∷ inserts 0 7 2 ⇒ accepted
    ∷ turns 0 11 ⇒ ends 1
    ∷ totals ⇒ counts 29 5 0 0
    ∷ turns 1 4 ⇒ loses
    ∷ turns 1 8 ⇒ ends 2
    ∷ totals ⇒ counts 34 6 1 0
    ∷ mark_word ⇒ is 2
    ∷ []

-- §10.7: tickets that are not above the last
abbrev pub P7 : Trial
P7 =
    opens 2 1 0 ⇒ accepted
    ∷ inserts 0 7 0 ⇒ refused 5
    ∷ last_ticket ⇒ is 0
    ∷ inserts 0 7 1 ⇒ accepted
    ∷ inserts 1 8 1 ⇒ refused 5
    ∷ last_ticket ⇒ is 1
    ∷ inserts 1 8 2 ⇒ accepted
    ∷ []

-- §10.8: two bids for one lot at the same time
abbrev pub P8 : Trial
P8 =
    opens 2 1 0 ⇒ accepted
    ∷ inserts A 7 1 ⇒ accepted
    ∷ inserts B 7 2 ⇒ accepted
    ∷ turns A 7 ⇒ goes_on
    ∷ turns B 7 ⇒ goes_on
    ∷ totals ⇒ counts 14 0 0 0
    ∷ turns A 8 ⇒ wins
    ∷ turns B 8 ⇒ loses
    ∷ turns A 11 ⇒ ends 1
    ∷ turns B 13 ⇒ ends 0
    ∷ totals ⇒ counts 24 2 1 0
    ∷ mark_word ⇒ is 4294967297
    ∷ []

-- §10.9: a fourth lot finds no slot
abbrev pub P9 : Trial
P9 =
    opens 1 1 0 ⇒ accepted
    ∷ inserts 0 1 1 ⇒ accepted
    ∷ turns 0 11 ⇒ ends 1
    ∷ inserts 0 2 2 ⇒ accepted
    ∷ turns 0 12 ⇒ ends 1
    ∷ inserts 0 3 3 ⇒ accepted
    ∷ turns 0 13 ⇒ ends 1
    ∷ mark_word ⇒ is 282578783305731  -- version 3; marks 1, 1, 1
    ∷ inserts 0 4 4 ⇒ accepted
    ∷ turns 0 10 ⇒ goes_on
    ∷ totals ⇒ counts 46 6 0 1
    ∷ place_of 0 ⇒ is 1
    ∷ []

-- §10.10: lot 0 is a lot like any other
abbrev pub P10 : Trial
P10 =
    opens 1 1 0 ⇒ accepted
    ∷ inserts 0 0 5 ⇒ accepted
    ∷ turns 0 11 ⇒ ends 1
    ∷ looks 0 0 ⇒ accepted
    ∷ turns 0 4 ⇒ ends 5
    ∷ totals ⇒ counts 15 2 0 0
    ∷ []

-- §10.11: the mark word comes back, and the swap of who remembers it is won
abbrev pub P11 : Trial
P11 =
    opens 3 1 0 ⇒ accepted
    ∷ inserts B 7 1 ⇒ accepted
    ∷ turns B 8 ⇒ wins
    ∷ inserts C 7 2 ⇒ accepted
    ∷ turns C 11 ⇒ ends 1
    ∷ turns B 18 ⇒ goes_on
    ∷ inserts A 8 3 ⇒ accepted
    ∷ turns A 8 ⇒ goes_on
    ∷ totals ⇒ counts 37 3 1 0
    ∷ word_read A ⇒ is 1108101562369  -- version 1; marks 2, 1, 0
    ∷ turns B 19 ⇒ ends 0
    ∷ mark_word ⇒ is 1099511627777  -- version 1; marks 0, 1, 0
    ∷ inserts C 9 4 ⇒ accepted
    ∷ turns C 9 ⇒ wins
    ∷ mark_word ⇒ is 1108101562369  -- version 1; marks 2, 1, 0
    ∷ turns A 9 ⇒ wins
    ∷ totals ⇒ counts 48 6 1 0
    ∷ []

-- §12.6: all of them
abbrev pub trials : List Trial
trials = P1 ∷ P2 ∷ P3 ∷ P4 ∷ P5 ∷ P6 ∷ P7 ∷ P8 ∷ P9 ∷ P10 ∷ P11 ∷ []
