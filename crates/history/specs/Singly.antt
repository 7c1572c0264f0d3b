-- The same history without runs: in the place of each run the turns that it did, called one by one. A point inside a run is then a point
-- between two calls.
use Rattle.std.specs.Prelude.{List, [], ◌∷◌, ◌++◌, map, take}
use Rattle.history.specs.History.{State, Call, look, insert, remove, turn, retire, run, show, count, orders, ask_total, ask_next, run_of, after}

-- a call by itself, or the turns that a run does
abbrev pub single : State → Call → List Call
single s (look i lot) = look i lot ∷ []
single s (insert i lot t) = insert i lot t ∷ []
single s (remove i lot) = remove i lot ∷ []
single s (turn i) = turn i ∷ []
single s (retire i) = retire i ∷ []
single s (run turns) = map turn (take (run_of s turns).handed.totals.turns turns)
single s (show lot) = show lot ∷ []
single s count = count ∷ []
single s (orders depth) = orders depth ∷ []
single s ask_total = ask_total ∷ []
single s (ask_next from) = ask_next from ∷ []

-- calls from a state, with no run among them
unfoldable pub singly_from : State → List Call → List Call
singly_from s [] = []
singly_from s (c ∷ cs) = single s c ++ singly_from (after s c) cs

-- the calls of a history so
abbrev pub singly : State → List Call → List Call
singly first calls = singly_from first calls

-- no call is a run
abbrev pub NoRuns : List Call → Type 0
NoRuns [] = Unit {0}
NoRuns (run turns ∷ cs) = ⊥
NoRuns (look i lot ∷ cs) = NoRuns cs
NoRuns (insert i lot t ∷ cs) = NoRuns cs
NoRuns (remove i lot ∷ cs) = NoRuns cs
NoRuns (turn i ∷ cs) = NoRuns cs
NoRuns (retire i ∷ cs) = NoRuns cs
NoRuns (show lot ∷ cs) = NoRuns cs
NoRuns (count ∷ cs) = NoRuns cs
NoRuns (orders depth ∷ cs) = NoRuns cs
NoRuns (ask_total ∷ cs) = NoRuns cs
NoRuns (ask_next from ∷ cs) = NoRuns cs
