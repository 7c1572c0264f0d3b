-- A look that has had k turns, whatever words stood in its bucket at each of them: two or three for each slot that it has passed, and those at
-- its own. So it ends with one of its fourth to tenth turns. Assumes nothing.
use Prim.Native.Nat.{ℕ, zero, suc, ◌+◌, ◌*◌, ◌≤◌, ◌<◌}
use mathlib.Core.Bool.{false}
use mathlib.Core.List.{List}
use mathlib.Core.Path.{◌≡◌, refl, ap, subst, ◌∙◌}
use native.Mathlib.Decide.{ℕ_discrete}
use native.Mathlib.Omega.{arith}
use Rattle.turn.specs.declared.Worker.{Worker}
use Rattle.turn.specs.declared.Stepped.{Stepped}
use Rattle.turn.specs.declared.Action.TheVariants.{Read}
use Rattle.turn.specs.declared.Progress.TheVariants.{GoesOn}
use Rattle.turn.specs.Worker.{look_kind, no_slot, look_for}
use Rattle.turn.specs.Places.{goes_on, ends, turn}
use Rattle.turn.proofs.Lands.{moved}
use Rattle.turn.proofs.Outcomes.{Reads, read1, read1_remove, read2, read3, read4, read5, read11, read12, passes, fails, arrives}
use Rattle.turn.proofs.Outcomes.{Empty, NextSlot, next, last, answers, refuses, gives_back}
use Rattle.turn.proofs.Outcomes as out
use Rattle.turn.proofs.Outcome.{look_reads}
use Rattle.history.specs.HowLong.{look_least, look_most, record_at, progress_at, LookTakes}

-- ---- one turn

-- a look that has had k turns
pub record Looked (k : ℕ) (w : Worker) : Type 0 where
  pub kind : w.kind ≡ look_kind
  pub held : w.held ≡ no_slot
  pub from : 2 ≤ w.place
  pub to : w.place ≤ 5
  pub slot : w.slot ≤ 2
  -- two turns or three for each slot before this one, and one for each place before this one
  pub least : 2 * w.slot + w.place ≤ k + 2
  pub most : k + 2 ≤ 3 * w.slot + w.place

-- a look has had no turn when it starts
pub look_started : (lot : ℕ) → Looked 0 (look_for lot)
look_started lot =
    record { kind = refl; held = refl; from = omega arith; to = omega arith; slot = omega arith; least = omega arith; most = omega arith }

-- what the next turn of a look that has had k leaves: the look goes on, or it ends with a turn from the fourth to the tenth
pub data Next (k : ℕ) : Stepped → Type 0 where
  on : {v : Worker} → Looked (k + 1) v → Next k (goes_on Read false v)
  over : (answer : ℕ) → look_least ≤ k + 1 → k + 1 ≤ look_most → Next k (ends Read answer)

module _ (k : ℕ) (w : Worker) (looked : Looked k w) where
  -- where a look stands after k + 1 turns
  abbrev Fits : ℕ → ℕ → Type 0
  Fits p s = (2 ≤ p) × (p ≤ 5) × (s ≤ 2) × (2 * s + p ≤ k + 3) × (k + 3 ≤ 3 * s + p)

  to_place :
      (p s v : ℕ)
      → Fits p s
      → Next k (goes_on Read false (moved p s v w))
  to_place p s v fits =
      on (record {
        kind = looked.kind;
        held = looked.held;
        from = fits.0;
        to = fits.1;
        slot = fits.2;
        least = omega (arith, fits.3);
        most = omega (arith, fits.4);
      })

  module _ (few : 3 * w.slot + w.place ≤ look_most + 1) (late : look_least + 1 ≤ 2 * w.slot + w.place) where
    over_now : (answer : ℕ) → Next k (ends Read answer)
    over_now answer = over answer (omega (arith, looked.least)) (omega (arith, looked.most))

    empty_next : {x : Stepped} → Empty w x → Next k x
    empty_next (out.none kind) = over_now 0
    empty_next (out.free e kind held slot mark) = absurd (omega (arith, looked.kind))
    empty_next (out.full kind held taken) = absurd (omega (arith, looked.kind))
    empty_next (out.ready kind held) = absurd (omega (arith, looked.kind))

  slot_next : {x : Stepped} → (3 ≤ w.place) × (w.place ≤ 4) → NextSlot w x → Next k x
  slot_next at (next more) = to_place 2 (w.slot + 1) w.seen (omega (arith, looked.least, looked.most))
  slot_next at (last done empty) = let few = looked.slot in empty_next (omega arith) (omega arith) empty

  -- on to the next place, at the same slot
  same_slot : (p v : ℕ) → (p ≡ w.place + 1) × (p ≤ 5) → Next k (goes_on Read false (moved p w.slot v w))
  same_slot p v at =
      let from = looked.from in
      to_place p w.slot v (omega arith, omega arith, looked.slot, omega (arith, looked.least), omega (arith, looked.most))

  reads_next : {c : ℕ → ℕ} {x : Stepped} → Reads c w x → Next k x
  reads_next (read1 place kind held) = absurd (omega (arith, looked.from))
  reads_next (read1_remove place removes) = absurd (omega (arith, looked.from))
  reads_next (read2 place looks) = same_slot 3 _ (omega arith)
  reads_next (read3 place looks (passes valid arrives)) = same_slot 4 _ (omega arith)
  reads_next (read3 place looks (fails other rest)) = slot_next (omega arith) rest
  reads_next (read4 place looks (passes equal arrives)) = same_slot 5 _ (omega arith)
  reads_next (read4 place looks (fails other rest)) = slot_next (omega arith) rest
  reads_next (read5 place looks (passes known (answers kind))) = let few = looked.slot in over_now (omega arith) (omega arith) _
  reads_next (read5 place looks (passes known (refuses kind held))) = absurd (omega (arith, looked.kind))
  reads_next (read5 place looks (passes known (gives_back kind held))) = absurd (omega (arith, looked.kind))
  reads_next (read5 place looks (fails other empty)) = let few = looked.slot in empty_next (omega arith) (omega arith) empty
  reads_next (read11 place removes choice) = absurd (omega (arith, looked.to))
  reads_next (read12 place removes) = absurd (omega (arith, looked.to))

  -- whatever words stand in the bucket, a look's next turn goes on so, or ends it in time
  pub look_next : (b : List ℕ) → Next k (turn b w).stepped
  look_next b =
      let looks : out.Searcher w =
      record { call = λ is. looked.held; insert = λ other. absurd (other looked.kind); few = omega (arith, looked.held) } in
      reads_next (look_reads b w looks looked.from looked.to)

-- ---- all turns

module _ (lot : ℕ) (words : ℕ → List ℕ) where
  abbrev at : ℕ → Worker
  at k = record_at words (look_for lot) k

  abbrev Before : ℕ → Type 0
  Before k = (j : ℕ) → j < k → progress_at words (look_for lot) j ≡ GoesOn

  before_next : (k : ℕ) → Before k → progress_at words (look_for lot) k ≡ GoesOn → Before (suc k)
  before_next k before now j under = by (ℕ_discrete j k)
    where
      by : Dec (j ≡ k) → progress_at words (look_for lot) j ≡ GoesOn
      by (yes is) = rw is now
      by (no other) = before j (omega arith)

  by_turn :
      (k : ℕ)
      → Before k
      → (Looked (suc k) (at (suc k)) → Before (suc k) → LookTakes lot words)
      → {x : Stepped}
      → Next k x
      → (turn (words k) (at k)).stepped ≡ x
      → LookTakes lot words
  unfolding record_at
  by_turn k before rest (on {v} looked) is =
      let record_is : at (suc k) ≡ v = ap (λ (s : Stepped). s.worker) is in
      rest (rw record_is (subst (λ (n : ℕ). Looked n v) (omega arith) looked))
      (before_next k before (ap (λ (s : Stepped). s.progress) is))
  by_turn k before rest (over answer least most) is =
      record {
        turns = k + 1;
        least = least;
        most = most;
        goes_on = λ j under. before j (omega arith);
        answer = answer;
        ends = λ j same.
            let here : j ≡ k = omega arith in
            ap (progress_at words (look_for lot)) here ∙ ap (λ (s : Stepped). s.progress) is;
      }

  ends_from : (fuel k : ℕ) → k + fuel ≡ look_most → Looked k (at k) → Before k → LookTakes lot words
  ends_from zero k enough looked before = absurd (omega (arith, looked.most, looked.slot, looked.to))
  ends_from (suc fuel) k enough looked before =
      by_turn k before (ends_from fuel (suc k) (omega arith)) (look_next k (at k) looked (words k)) refl

  -- a look ends with one of its fourth to tenth turns, whatever words stand in the bucket at each
  pub look_takes : LookTakes lot words
  unfolding record_at
  look_takes = ends_from look_most 0 refl (look_started lot) (λ j under. absurd (omega arith))
