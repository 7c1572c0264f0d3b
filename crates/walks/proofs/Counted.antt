-- The recursion counts all orders: over a list of records, each busy worker in its turn, and the counts over the list of orders are the same.
-- Assumes nothing.
use Prim.Native.Nat.{ℕ, zero, suc, ◌+◌, ◌≤◌, ◌<◌}
use mathlib.Core.Bool.{Bool, true, cond}
use mathlib.Core.Path.{◌≡◌, refl, sym, ap, ap₂, ◌∙◌}
use mathlib.Core.List.{List, [], ◌∷◌, ◌++◌, map, flat_map}
use native.Mathlib.Omega.{arith}
use lib.ListN.{length}
use Rattle.mark.proofs.Choices.{by_cases}
use Rattle.turn.specs.declared.Worker.{Worker}
use Rattle.turn.specs.Worker.{is_idle}
use Rattle.turn.specs.Turn.{turn_refusal, try_turn}
use Rattle.turn.proofs.Sound.{whole_not_broken, sound_not_broken}
use Rattle.engine.specs.declared.Floor.{Floor}
use Rattle.engine.specs.Calls.{losses, record_in, after_turn}
use Rattle.walks.specs.declared.Walks.{Walks}
use Rattle.walks.specs.Lists.{Each}
use Rattle.walks.specs.Orders.{ran, all_idle, Busy, busy_from, orders, no_walks, one_walk, together, counted}
use Rattle.walks.proofs.Together.{together_none, none_together, together_assoc}
use Rattle.walks.proofs.Listed.{in_each}
use Rattle.walks.proofs.Sitting.{Sitting, busy_accepted, turn_sits}
use Rattle.walks.proofs.Going.{ran_none, board_after, records_after, loss_of, run_follows}
use Rattle.walks.proofs.Members.{begun_with, begun_with_lem, nothing_else}

-- ---- the recursion over a list of records

-- the walks after a turn of worker i, whose record is w
abbrev pub Next : Type 0
Next = ℕ → Worker → Walks

-- the walks that begin with a turn of a busy worker, of those whose numbers begin with i
unfoldable pub summed : Next → ℕ → List Worker → Walks
summed next i [] = no_walks
summed next i (w ∷ ws) = together (cond (is_idle w) no_walks (next i w)) (summed next (suc i) ws)

-- the walks that go on after a turn of worker i
abbrev pub turn_then : (List ℕ → List Worker → ℕ → Walks) → List ℕ → List Worker → ℕ → Next
turn_then rest board records lost i w =
    let t = try_turn 0 board w in
    rest t.words (after_turn records i t.handed.worker) (lost + losses t.handed.said.report.action)

-- all walks with so many turns left, and so many swaps lost before
unfoldable pub walks_from : ℕ → List ℕ → List Worker → ℕ → Walks
walks_from zero board records lost = one_walk (all_idle records) lost
walks_from (suc depth) board records lost =
    cond (all_idle records) (one_walk true lost) (summed (turn_then (walks_from depth) board records lost) 0 records)

-- ---- the counts over orders, with so many swaps lost before

unfoldable late : Floor → List ℕ → List Worker → ℕ → List (List ℕ) → Walks
late f board records lost [] = no_walks
late f board records lost (o ∷ os) =
    let x = ran f board records o in
    together (one_walk (all_idle x.handed.records) (lost + x.handed.totals.lost)) (late f board records lost os)

module _ (f : Floor) (board : List ℕ) (records : List Worker) where
  -- with none lost before they are the counts
  late_counted : (os : List (List ℕ)) → late f board records 0 os ≡ counted f board records os
  unfolding late counted
  late_counted [] = refl
  late_counted (o ∷ os) =
      let x = ran f board records o in
      let none : 0 + x.handed.totals.lost ≡ x.handed.totals.lost = omega arith in
      rw (none, late_counted os)

  late_append : (lost : ℕ) (os ps : List (List ℕ))
      → late f board records lost (os ++ ps) ≡ together (late f board records lost os) (late f board records lost ps)
  unfolding late
  late_append lost [] ps = sym (none_together _)
  late_append lost (o ∷ os) ps = rw (late_append lost os ps) (sym (together_assoc _ _ _))

  -- lists of orders put one after another, by busy worker
  late_flat :
      (lost k : ℕ) (ws : List Worker) (from : ℕ → List (List ℕ)) (next : Next)
      → ((j : ℕ) → Busy ws j → late f board records lost (from (k + j)) ≡ next (k + j) (record_in ws j))
      → late f board records lost (flat_map from (busy_from k ws)) ≡ summed next k ws
  unfolding late summed busy_from flat_map
  late_flat lost k [] from next each = refl
  late_flat lost k (w ∷ ws) from next each =
      let rest : late f board records lost (flat_map from (busy_from (suc k) ws)) ≡ summed next (suc k) ws =
      late_flat lost (suc k) ws from next (λ j b.
      let shift : suc k + j ≡ k + suc j = omega arith in
      rw shift (each (suc j) (record { listed = (let low = b.listed in omega arith); busy = b.busy }))) in
      by_cases
      (λ (t : List ℕ). late f board records lost (flat_map from t) ≡ together (cond (is_idle w) no_walks (next k w)) (summed next (suc k) ws))
      (is_idle w) _ _ (λ idle. rw (idle, rest) (sym (none_together _)))
      (λ busy.
      let first : k + 0 ≡ k = omega arith in
      let here : late f board records lost (from k) ≡ next k w =
      rw first at (each 0 (record { listed = omega arith; busy = busy })) in
      rw (busy) (late_append lost (from k) (flat_map from (busy_from (suc k) ws)) ∙ ap₂ together here rest))

-- ---- one turn of a busy worker

module _ {f : Floor} {board : List ℕ} {records : List Worker} (g : Sitting f board records) {i : ℕ} (b : Busy records i) where
  abbrev w : Worker
  w = record_in records i

  -- the turn as the recursion tries it is the place table's
  try_turns : (rest : List ℕ → List Worker → ℕ → Walks) (lost : ℕ)
      → turn_then rest board records lost i w ≡ rest (board_after g b) (records_after g b) (lost + loss_of g b)
  unfolding try_turn turn_refusal
  try_turns rest lost =
      let ok = busy_accepted g b in
      rw (sound_not_broken w ok.sound, b.busy, whole_not_broken board g.whole) refl

  -- the counts over orders that begin with it
  late_front :
      (lost : ℕ) (os : List (List ℕ)) → Each (λ o. length o ≤ 65534) os
      → late f board records lost (map (λ o. i ∷ o) os) ≡ late f (board_after g b) (records_after g b) (lost + loss_of g b) os
  unfolding late
  late_front lost [] short = refl
  late_front lost (o ∷ os) short =
      let follows = run_follows g b o short.0 in
      let y = ran f (board_after g b) (records_after g b) o in
      let sum : lost + (loss_of g b + y.handed.totals.lost) ≡ lost + loss_of g b + y.handed.totals.lost = omega arith in
      rw (follows.records, follows.lost, sum, late_front lost os short.1)

-- ---- all of them

-- the walk of no turns
late_none :
    {f : Floor} {board : List ℕ} {records : List Worker} → Sitting f board records → (lost : ℕ)
    → late f board records lost ([] ∷ []) ≡ one_walk (all_idle records) lost
unfolding late
late_none {f} {board} {records} g lost =
    let none : lost + 0 ≡ lost = omega arith in
    rw (ran_none g, none) (together_none _)

module _ (depth : ℕ) (few : depth < 24) (f : Floor) (board : List ℕ) (records : List Worker) (g : Sitting f board records) (lost : ℕ) where
  walks_from_next :
      ((board : List ℕ) (records : List Worker) (lost : ℕ) → Sitting f board records → late f board records lost (orders f depth board records) ≡ walks_from depth board records lost)
      → late f board records lost (orders f (suc depth) board records) ≡ walks_from (suc depth) board records lost
  unfolding orders walks_from
  walks_from_next rest =
      by_cases
      (λ (os : List (List ℕ)).
      late f board records lost os
      ≡ cond (all_idle records) (one_walk true lost) (summed (turn_then (walks_from depth) board records lost) 0 records))
      (all_idle records) _ _ (λ idle. rw idle (late_none g lost ∙ ap (λ (t : Bool). one_walk t lost) idle))
      (λ busy. rw busy (late_flat f board records lost 0 records (begun_with f depth board records) (turn_then (walks_from depth) board records lost) each))
    where
      each : (j : ℕ) → Busy records j
          → late f board records lost (begun_with f depth board records (0 + j)) ≡ turn_then (walks_from depth) board records lost (0 + j) (record_in records j)
      each j b =
          let here : 0 + j ≡ j = omega arith in
          let sits = turn_sits g b in
          let short : Each (λ o. length o ≤ 65534) (orders f depth (board_after g b) (records_after g b)) =
          in_each _ (orders f depth (board_after g b) (records_after g b)) (λ o has.
          let long = (nothing_else depth (omega arith) f (board_after g b) (records_after g b) sits o has).within in
          omega arith) in
          rw (here, begun_with_lem g b depth)
          (late_front g b lost (orders f depth (board_after g b) (records_after g b)) short
          ∙ rest (board_after g b) (records_after g b) (lost + loss_of g b) sits
          ∙ sym (try_turns g b (walks_from depth) lost))

late_walks_from :
    (depth : ℕ) → depth ≤ 24 → (f : Floor) (board : List ℕ) (records : List Worker) (lost : ℕ) → Sitting f board records
    → late f board records lost (orders f depth board records) ≡ walks_from depth board records lost
unfolding orders walks_from
late_walks_from zero few f board records lost g = late_none g lost
late_walks_from (suc depth) few f board records lost g =
    walks_from_next depth (omega arith) f board records g lost (λ b ws l sits. late_walks_from depth (omega arith) f b ws l sits)

-- the recursion over the list comes to the counts over all orders
pub walks_from_counted :
    (depth : ℕ) → depth ≤ 24 → (f : Floor) (board : List ℕ) (records : List Worker) → Sitting f board records
    → counted f board records (orders f depth board records) ≡ walks_from depth board records 0
walks_from_counted depth few f board records g =
    sym (late_counted f board records (orders f depth board records)) ∙ late_walks_from depth few f board records 0 g
