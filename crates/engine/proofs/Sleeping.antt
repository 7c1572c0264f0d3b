-- What a turn that is done leaves of each record: its own worker's is what the place table makes of it, and every other has slept one turn
-- more if it is busy. Assumes nothing.
use Prim.Native.Nat.{ℕ, zero, suc, ◌<◌}
use mathlib.Core.Path.{◌≡◌, refl, ap, ◌∙◌}
use mathlib.Core.List.{List, [], ◌∷◌, map}
use lib.ListN.{length, set, length-set, length-map, get_or-map}
use lib.Seq.{get_or-set_same, get_or-set_other}
use Rattle.turn.specs.declared.Worker.{Worker}
use Rattle.turn.specs.Worker.{sound, may_stand, fits}
use Rattle.turn.specs.Asleep.{awake, slept}
use Rattle.turn.specs.Turn.{Answer, Refused, Done}
use Rattle.turn.proofs.Asleep.{slept_only, is_awake}
use Rattle.engine.specs.Calls.{blank, record_in, after_turn, records_left}

-- ---- records that are all awake

-- a worker's among them
pub record_awake : (ws : List Worker) (i : ℕ) → record_in (map awake ws) i ≡ awake (record_in ws i)
record_awake ws i = get_or-map awake ws i blank

-- one that was put there
set_awake : (ws : List Worker) (i : ℕ) (w : Worker) → map awake (set ws i w) ≡ set (map awake ws) i (awake w)
set_awake [] i w = refl
set_awake (x ∷ ws) zero w = refl
set_awake (x ∷ ws) (suc i) w = ap (λ (l : List Worker). awake x ∷ l) (set_awake ws i w)

-- one that has slept for no turn
pub put_awake : (ws : List Worker) (i : ℕ) (w : Worker) → w.asleep ≡ 0 → map awake (set ws i w) ≡ set (map awake ws) i w
put_awake ws i w up = set_awake ws i w ∙ ap (set (map awake ws) i) (is_awake w up)

-- ---- after a turn

module _ (ws : List Worker) (i : ℕ) (w : Worker) where
  -- there are as many
  pub after_long : length (after_turn ws i w) ≡ length ws
  after_long = length-set (map slept ws) i w ∙ length-map ws slept

  -- and done or refused
  pub left_long : (a : Answer) → length (records_left ws i w a) ≡ length ws
  left_long (Refused number) = refl
  left_long (Done report) = after_long

  -- the worker's own
  pub own_after : i < length ws → record_in (after_turn ws i w) i ≡ w
  own_after inside = get_or-set_same (map slept ws) i w blank (rw (length-map ws slept) inside)

  -- another's
  pub other_after : (j : ℕ) → (j ≡ i → ⊥) → record_in (after_turn ws i w) j ≡ slept (record_in ws j)
  unfolding slept sound fits may_stand
  other_after j other = get_or-set_other (map slept ws) i j w blank other ∙ get_or-map slept ws j blank

  -- of which nothing is touched but how long it has slept
  pub awake_after : w.asleep ≡ 0 → map awake (after_turn ws i w) ≡ set (map awake ws) i w
  awake_after up = put_awake (map slept ws) i w up ∙ ap (λ (l : List Worker). set l i w) (awake_slept ws)
    where
      awake_slept : (ws : List Worker) → map awake (map slept ws) ≡ map awake ws
      awake_slept [] = refl
      awake_slept (x ∷ ws) = rw (slept_only x, awake_slept ws)
