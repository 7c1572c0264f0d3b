-- Where all orders are not refused, every order is in the list, nothing else is, and none twice; and each is counted. Assumes nothing.
use Prim.Native.Nat.{ℕ, zero, suc, ◌+◌, ◌≤◌}
use mathlib.Core.Bool.{Bool, true, false, cond}
use mathlib.Core.Path.{◌≡◌, refl, ap, subst, ◌∙◌}
use mathlib.Core.List.{List, [], ◌∷◌, foldr}
use mathlib.Core.Logic.{inl, inr}
use native.Mathlib.Decide.{dec_le}
use native.Mathlib.Omega.{arith}
use lib.ListN.{length}
use Rattle.turn.specs.declared.Worker.{Worker}
use Rattle.engine.specs.declared.Floor.{Floor}
use Rattle.walks.specs.Orders.{ran, Busy, Order, orders, one_walk, finishes, lost_in, counted}
use Rattle.walks.specs.Lists.{Has, In}
use Rattle.walks.specs.Calls.{orders_number}
use Rattle.walks.specs.AllOrders.{AllOrders}
use Rattle.walks.proofs.Sitting.{Sitting, turn_sits}
use Rattle.walks.proofs.Going.{ran_none, board_after, records_after, run_follows}
use Rattle.walks.proofs.Members.{every_order, nothing_else, once_each, some_order, order_rest}
use Rattle.walks.proofs.Classes.{walkable}

-- the engine's run of these turns does them all
abbrev Does : Floor → List ℕ → List Worker → List ℕ → Type 0
Does f board records turns =
    ((ran f board records turns).handed.stop ≡ 0) × ((ran f board records turns).handed.totals.turns ≡ length turns)

-- the run of an order does all its turns
all_done :
    (turns : List ℕ) (depth : ℕ) (f : Floor) (board : List ℕ) (records : List Worker)
    → depth ≤ 24 → Sitting f board records → Order f board records depth turns → Does f board records turns
all_done [] depth f board records few g o = rw (ran_none g) (refl, refl)
all_done (i ∷ turns) zero f board records few g o = absurd (let long = o.within in omega arith)
all_done (i ∷ turns) (suc depth) f board records few g o =
    let b : Busy records i = rw (ran_none g) at (o.each [] turns i refl) in
    let long = o.within in
    let follows = run_follows g b turns (omega arith) in
    let rest =
    all_done turns depth f (board_after g b) (records_after g b) (omega arith) (turn_sits g b) (order_rest g b depth turns (omega arith) o) in
    (follows.stop ∙ rest.0, follows.turns ∙ ap suc rest.1)

-- ---- what is counted over a list of orders

module _ (f : Floor) (board : List ℕ) (records : List Worker) where
  one_counted : (t : Bool) (lost : ℕ) → (one_walk t lost).finished + (one_walk t lost).cut ≡ 1
  one_counted true lost = refl
  one_counted false lost = refl

  each_counted : (os : List (List ℕ)) → (counted f board records os).finished + (counted f board records os).cut ≡ length os
  unfolding counted
  each_counted [] = refl
  each_counted (o ∷ os) =
      let one = one_counted (finishes f board records o) (lost_in f board records o) in
      let rest = each_counted os in
      omega arith

  one_finished : (t : Bool) (n lost : ℕ) → (one_walk t lost).finished + n ≡ cond t (suc n) n
  one_finished true n lost = omega arith
  one_finished false n lost = omega arith

  finished_counted :
      (os : List (List ℕ)) → (counted f board records os).finished ≡ foldr (λ turns n. cond (finishes f board records turns) (suc n) n) 0 os
  unfolding counted
  finished_counted [] = refl
  finished_counted (o ∷ os) = rw (← finished_counted os) (one_finished (finishes f board records o) _ (lost_in f board records o))

  lost_counted : (os : List (List ℕ)) → (counted f board records os).lost ≡ foldr (λ turns n. lost_in f board records turns + n) 0 os
  unfolding counted
  lost_counted [] = refl
  lost_counted (o ∷ os) = ap (λ (n : ℕ). lost_in f board records o + n) (lost_counted os)

  most_counted : (turns : List ℕ) (os : List (List ℕ)) → In turns os → lost_in f board records turns ≤ (counted f board records os).most
  unfolding counted
  most_counted turns [] has = absurd has
  most_counted turns (o ∷ os) (inl is) = rw (← is) (omega arith)
  most_counted turns (o ∷ os) (inr has) = let rest = most_counted turns os has in omega arith

  most_reached : (o : List ℕ) (os : List (List ℕ)) → Has (λ turns. lost_in f board records turns ≡ (counted f board records (o ∷ os)).most) (o ∷ os)
  unfolding counted
  most_reached o [] = inl (omega arith)
  most_reached o (p ∷ os) = by (dec_le (counted f board records (p ∷ os)).most (lost_in f board records o)) (most_reached p os)
    where
      by :
          Dec ((counted f board records (p ∷ os)).most ≤ lost_in f board records o)
          → Has (λ turns. lost_in f board records turns ≡ (counted f board records (p ∷ os)).most) (p ∷ os)
          → Has (λ turns. lost_in f board records turns ≡ (counted f board records (o ∷ p ∷ os)).most) (o ∷ p ∷ os)
      by (yes below) rest = inl (omega arith)
      by (no above) rest =
          let same : (counted f board records (p ∷ os)).most ≡ (counted f board records (o ∷ p ∷ os)).most = omega arith in
          inr (subst (λ (n : ℕ). Has (λ turns. lost_in f board records turns ≡ n) (p ∷ os)) same rest)

  -- in a list with an order in it
  reached_in :
      (turns : List ℕ) (os : List (List ℕ)) → In turns os → Has (λ o. lost_in f board records o ≡ (counted f board records os).most) os
  reached_in turns [] has = absurd has
  reached_in turns (o ∷ os) has = most_reached o os

pub all_orders_lem :
    (f : Floor) (board : List ℕ) (records : List Worker) (depth : ℕ)
    → orders_number board f records (length records) depth ≡ 0 → AllOrders f board records depth
all_orders_lem f board records depth none =
    let ok = walkable board f records (length records) depth refl none in
    let few = ok.small.most in
    let only = nothing_else depth few f board records ok.sits in
    record {
      every = every_order depth few f board records ok.sits;
      only = only;
      once = once_each depth f board records;
      unrefused = λ turns has. all_done turns depth f board records few ok.sits (only turns has);
      walked = each_counted f board records (orders f depth board records);
      finished = finished_counted f board records (orders f depth board records);
      lost = lost_counted f board records (orders f depth board records);
      no_more = λ turns has. most_counted f board records turns (orders f depth board records) has;
      reached = (let one = some_order depth f board records in reached_in f board records one.0 (orders f depth board records) one.1);
    }
