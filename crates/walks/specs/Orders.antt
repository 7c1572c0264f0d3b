-- All orders of the turns of a small class (§18): what an order is, the list of them all, and what is counted of their walks. A turn is
-- the engine's own: each of these goes by the engine's run of turns, and by nothing else.
use Rattle.std.specs.Prelude.{ℕ, zero, suc, ◌+◌, ◌≤◌, ◌<◌, max, Bool, true, false, cond, ◌&&◌, ◌≡◌, ◌⊎◌, length}
use mathlib.Core.List.{List, [], ◌∷◌, ◌++◌, map, flat_map}
use Rattle.turn.specs.declared.Worker.{Worker}
use Rattle.turn.specs.Worker.{is_idle}
use Rattle.turn.specs.Turn.{After}
use Rattle.engine.specs.declared.Floor.{Floor}
use Rattle.engine.specs.Calls.{Ran, record_in, run_call}
use Rattle.walks.specs.declared.Walks.{Walks}

-- ---- an order

-- §18.2: what the engine's run of these turns comes to
abbrev pub ran : Floor → List ℕ → List Worker → List ℕ → After Ran
ran f board records turns = run_call board f records (length records) turns

-- §18.1: whether all are idle
unfoldable pub all_idle : List Worker → Bool
all_idle [] = true
all_idle (w ∷ ws) = is_idle w && all_idle ws

-- §18.1: there is a worker of this number, and it is busy
pub record Busy (records : List Worker) (i : ℕ) : Type 0 where
  pub listed : i < length records
  pub busy : is_idle (record_in records i) ≡ false

-- §18.1: after so many turns nothing is left to do, or no turn is left of the depth
abbrev pub Over : List Worker → ℕ → ℕ → Type 0
Over records turns depth = (all_idle records ≡ true) ⊎ (turns ≡ depth)

-- §18.1: turns that are an order to a depth
pub record Order (f : Floor) (board : List ℕ) (records : List Worker) (depth : ℕ) (turns : List ℕ) : Type 0 where
  pub within : length turns ≤ depth
  -- each worker is busy when its turn comes, after the turns before it
  pub each : (before later : List ℕ) (i : ℕ) → turns ≡ before ++ (i ∷ later) → Busy (ran f board records before).handed.records i
  -- and it ends where it is over
  pub ends : Over (ran f board records turns).handed.records (length turns) depth

-- ---- the list of them all

-- §18.1: the numbers of the busy workers, if the first record has this number
unfoldable pub busy_from : ℕ → List Worker → List ℕ
busy_from i [] = []
busy_from i (w ∷ ws) = cond (is_idle w) (busy_from (suc i) ws) (i ∷ busy_from (suc i) ws)

-- §18.3: all orders to a depth: nothing is left to do, or the depth is used up, or each busy worker has a turn, and then come all orders from
-- where that turn leaves board and records
unfoldable pub orders : Floor → ℕ → List ℕ → List Worker → List (List ℕ)
orders f zero board records = [] ∷ []
orders f (suc depth) board records =
    cond (all_idle records) ([] ∷ [])
    (flat_map (λ i. let x = ran f board records (i ∷ []) in map (λ o. i ∷ o) (orders f depth x.words x.handed.records)) (busy_from 0 records))

-- ---- what is counted

-- no walk at all
abbrev pub no_walks : Walks
no_walks = record { finished = 0; cut = 0; lost = 0; most = 0 }

-- §18.2: one walk, finished or cut, with so many lost swaps
abbrev pub one_walk : Bool → ℕ → Walks
one_walk finished lost = record { finished = cond finished 1 0; cut = cond finished 0 1; lost = lost; most = lost }

-- §18.4: the counts of some walks and some others together
abbrev pub together : Walks → Walks → Walks
together a b =
    record { finished = a.finished + b.finished; cut = a.cut + b.cut; lost = a.lost + b.lost; most = max a.most b.most }

-- §18.2: whether the walk of an order is finished: all are idle after the engine's run of it
abbrev pub finishes : Floor → List ℕ → List Worker → List ℕ → Bool
finishes f board records order = all_idle (ran f board records order).handed.records

-- §18.2: the lost swaps of an order, as this run reports them
abbrev pub lost_in : Floor → List ℕ → List Worker → List ℕ → ℕ
lost_in f board records order = (ran f board records order).handed.totals.lost

-- §18.2: the walk of one order
abbrev pub walk_of : Floor → List ℕ → List Worker → List ℕ → Walks
walk_of f board records order = one_walk (finishes f board records order) (lost_in f board records order)

-- §18.4: the counts over a list of orders
unfoldable pub counted : Floor → List ℕ → List Worker → List (List ℕ) → Walks
counted f board records [] = no_walks
counted f board records (o ∷ os) = together (walk_of f board records o) (counted f board records os)
