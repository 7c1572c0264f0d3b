-- The walk taken one turn on: how the walks with so many turns left come out by who is busy and by what is left. Assumes nothing.
use Prim.Native.Nat.{ℕ, zero, suc, ◌+◌, ◌-◌}
use mathlib.Core.Bool.{true, false}
use mathlib.Core.List.{List}
use mathlib.Core.Path.{◌≡◌, refl, ap, ◌∙◌}
use native.Mathlib.Omega.{arith}
use Rattle.turn.specs.declared.Worker.{Worker}
use Rattle.turn.specs.Turn.{Tried}
use Rattle.turn.specs.Worker.{is_idle}
use Rattle.turn.specs.Asleep.{slept}
use Rattle.turn.specs.Turn.{After, try_turn}
use Rattle.turn.proofs.Asleep.{slept_idles}
use Rattle.turn.proofs.Kept.{not_idle}
use Rattle.engine.specs.Calls.{losses}
use Rattle.walks.specs.declared.Walks.{Walks}
use Rattle.walks.specs.Orders.{one_walk, together}
use Rattle.walks.specs.Walk.{Walking, three_idle, begun_by, begun, walks}

module _ (words : List ℕ) (a b c : Worker) (lost : ℕ) where
  -- where all three are idle there is one walk, which is finished
  pub walk_ends : (depth : ℕ) → three_idle a b c ≡ true → walks depth words a b c lost ≡ one_walk true lost
  unfolding walks
  walk_ends zero is = rw is
  walk_ends (suc depth) is = rw is

  -- where somebody is busy and no turn is left there is one walk, which is cut
  pub walk_cut : (depth : ℕ) → three_idle a b c ≡ false → depth ≡ 0 → walks depth words a b c lost ≡ one_walk false lost
  unfolding walks
  walk_cut zero is none = rw is
  walk_cut (suc depth) is none = absurd (omega arith)

  -- where somebody is busy and turns are left, each of the three goes on with one, and the counts of the three are added up
  pub walk_on :
      (depth : ℕ) (one two three both all : Walks)
      → three_idle a b c ≡ false
      → (depth ≡ 0 → ⊥)
      → one ≡ begun_by (walks (depth - 1)) words a b c lost
      → two ≡ begun_by (walks (depth - 1)) words b c a lost
      → three ≡ begun_by (walks (depth - 1)) words c a b lost
      → both ≡ together one two
      → all ≡ together both three
      → all ≡ walks depth words a b c lost
  unfolding walks
  walk_on zero one two three both all busy some first second third sum sums = absurd (some refl)
  walk_on (suc depth) one two three both all busy some first second third sum sums =
      let same : suc depth - 1 ≡ depth = omega arith in
      rw (busy, ← same, ← first, ← second, ← third) (sums ∙ ap (λ (x : Walks). together x three) sum)

  -- where somebody is busy and turns are left, each of the three goes on with one
  pub walk_goes :
      (depth : ℕ) (r : Walks)
      → three_idle a b c ≡ false
      → (depth ≡ 0 → ⊥)
      → r ≡ begun (walks (depth - 1)) words a b c lost
      → r ≡ walks depth words a b c lost
  unfolding walks
  walk_goes zero r busy some goes = absurd (some refl)
  walk_goes (suc depth) r busy some goes =
      let same : suc depth - 1 ≡ depth = omega arith in rw (busy, ← same) goes

-- whose record is of a call is not idle
pub kind_busy : (w : Worker) → (w.kind ≡ 0 → ⊥) → is_idle w ≡ false
kind_busy w call = not_idle w (λ idle. call (ap (λ (v : Worker). v.kind) idle))

-- so somebody of three is busy where the first of them is at a call
pub kind_some : (a b c : Worker) → (a.kind ≡ 0 → ⊥) → three_idle a b c ≡ false
kind_some a b c call = rw (kind_busy a call) refl

-- nobody is idle, or busy, for having slept
pub idle_slept : (a b c : Worker) → three_idle a (slept b) (slept c) ≡ three_idle a b c
idle_slept a b c = rw (slept_idles b, slept_idles c)

-- who is busy has its turn, and the walks go on from what that leaves
pub begun_busy :
    (rest : Walking) (words : List ℕ) (own next last : Worker) (lost : ℕ) (x : After Tried) (once : ℕ) (r : Walks)
    → x ≡ try_turn 0 words own
    → once ≡ losses x.handed.said.report.action
    → is_idle own ≡ false
    → r ≡ rest x.words x.handed.worker (slept next) (slept last) (lost + once)
    → r ≡ begun_by rest words own next last lost
begun_busy rest words own next last lost x once r is counts busy e = rw (← is, busy, ← counts) e
