-- How many walks there can be: three times as many for each turn more. So no count of a walk comes near the end of 64 bits. Assumes nothing.
use Prim.Native.Nat.{ℕ, zero, suc, ◌+◌, ◌-◌, ◌*◌, ◌≤◌, ◌<◌}
use mathlib.Core.Bool.{Bool, true, false}
use mathlib.Core.List.{List}
use mathlib.Core.Path.{◌≡◌}
use native.Mathlib.Omega.{arith}
use Rattle.mark.proofs.Choices.{by_cases}
use Rattle.turn.specs.declared.Worker.{Worker}
use Rattle.turn.specs.declared.Action.{Action}
use Rattle.turn.specs.declared.Action.TheVariants.{Read, Store, Won, Lost}
use Rattle.turn.specs.Worker.{is_idle}
use Rattle.turn.specs.Asleep.{slept}
use Rattle.turn.specs.Turn.{try_turn}
use Rattle.engine.specs.Calls.{losses}
use Rattle.walks.specs.declared.Walks.{Walks}
use Rattle.walks.specs.Orders.{one_walk, together}
use Rattle.walks.specs.Walk.{three_idle, begun_by, walks, Fit}

-- the most walks that there can be with so many turns left, where one walk counts for as much as 24
unfoldable most_walks : ℕ → ℕ
most_walks zero = 24
most_walks (suc depth) = 3 * most_walks depth

-- no count of some walks is more than n
record Few (n : ℕ) (w : Walks) : Type 0 where
  finished : w.finished ≤ n
  cut : w.cut ≤ n
  lost : w.lost ≤ n

-- a turn loses one swap at most
pub lost_once : (a : Action) → losses a ≤ 1
lost_once Read = omega arith
lost_once Store = omega arith
lost_once Won = omega arith
lost_once Lost = omega arith

-- so a turn leaves room for those that follow it, of which there is one less
pub room_left :
    (depth lost once t : ℕ) (a : Action)
    → depth ≡ t
    → lost + depth ≤ 23
    → (depth ≡ 0 → ⊥)
    → once ≡ losses a
    → (depth - 1 < t) × (lost + once + (depth - 1) ≤ 23)
room_left depth lost once t a is room some counts = omega (arith, lost_once a)

-- the counts of some walks and of some others come to no more than both bounds together
few_together : (m n : ℕ) (a b : Walks) → Few m a → Few n b → Few (m + n) (together a b)
few_together m n a b one two = record { finished = omega arith; cut = omega arith; lost = omega arith }

-- one walk that has lost 24 swaps at most, in any bound from 24 on
few_one : (n lost : ℕ) (ended : Bool) → lost ≤ 24 → 24 ≤ n → Few n (one_walk ended lost)
few_one n lost true little enough = record { finished = omega arith; cut = omega arith; lost = omega arith }
few_one n lost false little enough = record { finished = omega arith; cut = omega arith; lost = omega arith }

-- the bound is never below 24
most_some : (depth : ℕ) → 24 ≤ most_walks depth
unfolding most_walks
most_some zero = omega arith
most_some (suc depth) = let some = most_some depth in omega arith

-- the walks that begin with a turn of the first of three, where no walk can have lost more than 24 swaps at its end
few_begun :
    (n depth : ℕ) (rest : List ℕ → Worker → Worker → Worker → ℕ → Walks)
    → ((words : List ℕ) (a b c : Worker) (lost : ℕ) → lost + depth ≤ 24 → Few n (rest words a b c lost))
    → (words : List ℕ) (own next last : Worker) (lost : ℕ)
    → lost + depth ≤ 23
    → Few n (begun_by rest words own next last lost)
few_begun n depth rest bound words own next last lost room =
    let t = try_turn 0 words own in
    let now = lost + losses t.handed.said.report.action in
    by_cases (Few n) (is_idle own) _ _
    (λ is. record { finished = omega arith; cut = omega arith; lost = omega arith })
    (λ isnot. bound t.words t.handed.worker (slept next) (slept last) now (omega (arith, lost_once t.handed.said.report.action)))

-- no count of the walks with so many turns left is more than the most
few_walks :
    (depth : ℕ) (words : List ℕ) (a b c : Worker) (lost : ℕ)
    → lost + depth ≤ 24
    → Few (most_walks depth) (walks depth words a b c lost)
unfolding walks most_walks
few_walks zero words a b c lost room = few_one _ lost (three_idle a b c) (omega arith) (omega arith)
few_walks (suc depth) words a b c lost room =
    let most = most_walks depth in
    let one = few_begun most depth (walks depth) (few_walks depth) words a b c lost (omega arith) in
    let two = few_begun most depth (walks depth) (few_walks depth) words b c a lost (omega arith) in
    let three = few_begun most depth (walks depth) (few_walks depth) words c a b lost (omega arith) in
    let all = few_together _ _ _ _ (few_together _ _ _ _ one two) three in
    by_cases (Few (3 * most)) (three_idle a b c) _ _
    (λ is. few_one _ lost true (omega arith) (omega (arith, most_some depth)))
    (λ isnot. record { finished = omega (arith, all.finished); cut = omega (arith, all.cut); lost = omega (arith, all.lost) })

-- with fewer turns left there are no more walks
most_grows : (more depth : ℕ) → depth + more ≡ 23 → most_walks depth ≤ most_walks 23
unfolding most_walks
most_grows zero depth is = let same : depth ≡ 23 = omega arith in rw same (omega arith)
most_grows (suc more) depth is = let grows = most_grows more (suc depth) (omega arith) in omega (arith, grows)

-- counts of at most twice the walks with 23 turns left are not near the end of 64 bits
few_fit : (n : ℕ) (w : Walks) → n ≤ 2 * most_walks 23 → Few n w → Fit w
unfolding most_walks
few_fit n w little few = record { finished = omega arith; cut = omega arith; lost = omega arith }

module _ (depth : ℕ) (words : List ℕ) (lost : ℕ) (room : lost + depth ≤ 23) where
  -- the walks that begin with a turn of the first of three, with so many turns left after it
  begins : (own next last : Worker) → Few (most_walks depth) (begun_by (walks depth) words own next last lost)
  begins own next last = few_begun _ depth (walks depth) (few_walks depth) words own next last lost room

  -- no more than with 23 turns left
  most : most_walks depth ≤ most_walks 23
  most = most_grows (23 - depth) depth (omega arith)

  -- they fit
  pub begun_fit : (own next last : Worker) (r : Walks) → r ≡ begun_by (walks depth) words own next last lost → Fit r
  begun_fit own next last r is = rw is (few_fit _ _ (omega (arith, most)) (begins own next last))

  -- and so do two such counts together
  pub sum_fit :
      (own next last own₂ next₂ last₂ : Worker) (r r₂ both : Walks)
      → r ≡ begun_by (walks depth) words own next last lost
      → r₂ ≡ begun_by (walks depth) words own₂ next₂ last₂ lost
      → both ≡ together r r₂
      → Fit both
  sum_fit own next last own₂ next₂ last₂ r r₂ both is is₂ sum =
      rw (sum, is, is₂) (few_fit _ _ (omega (arith, most)) (few_together _ _ _ _ (begins own next last) (begins own₂ next₂ last₂)))
