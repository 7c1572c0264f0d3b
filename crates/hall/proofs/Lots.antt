-- The lots of a board where one bucket counts apart. Assumes nothing.
use Prim.Native.Nat.{ℕ, zero, suc, ◌+◌, ◌*◌, ◌≤◌, ◌<◌}
use mathlib.Core.List.{List}
use mathlib.Core.Path.{◌≡◌, refl, sym, ap, ap₂}
use native.Mathlib.Decide.{ℕ_discrete}
use native.Mathlib.Omega.{arith}
use Rattle.mark.proofs.Counts.{count_le}
use Rattle.turn.specs.Bucket.{cell, mark_cell}
use Rattle.engine.specs.Board.{bucket_at, lots_on}
use Rattle.hall.specs.Index.{valid_in}

-- the mark word of bucket b
abbrev pub mark_at : List ℕ → ℕ → ℕ
mark_at board b = cell (bucket_at board b) mark_cell

-- a bucket has three slots, so n have 3n
pub lots_le : (board : List ℕ) (n : ℕ) → lots_on board n ≤ 3 * n
unfolding lots_on
lots_le board zero = omega arith
lots_le board (suc n) = omega (arith, lots_le board n, count_le 1 (mark_at board n))

-- what the valid slots of one bucket leave to the others
pub record Beside (board : List ℕ) (n b : ℕ) : Type 0 where
  pub enough : valid_in (mark_at board b) ≤ lots_on board n
  pub few : lots_on board n + 3 ≤ 3 * n + valid_in (mark_at board b)

pub lots_beside : (board : List ℕ) (n b : ℕ) → b < n → Beside board n b
unfolding lots_on
lots_beside board zero b under = absurd (omega arith)
lots_beside board (suc n) b under = by (ℕ_discrete b n) (λ earlier. lots_beside board n b earlier)
  where
    by : Dec (b ≡ n) → (b < n → Beside board n b) → Beside board (suc n) b
    by (yes last) earlier =
        let same = ap (λ (k : ℕ). valid_in (mark_at board k)) last in
        record { enough = omega (arith, same); few = omega (arith, same, lots_le board n) }
    by (no other) earlier =
        let rest = earlier (omega (arith, other)) in
        record { enough = omega (arith, rest.enough); few = omega (arith, rest.few, count_le 1 (mark_at board n)) }

-- boards with the same mark words have as many lots
lots_same : (board later : List ℕ) (n : ℕ) → ((c : ℕ) → c < n → mark_at later c ≡ mark_at board c) → lots_on later n ≡ lots_on board n
unfolding lots_on
lots_same board later zero same = refl
lots_same board later (suc n) same =
    ap₂ (λ (lots word : ℕ). lots + valid_in word) (lots_same board later n (λ c under. same c (omega arith))) (same n (omega arith))

-- and if they differ in bucket b alone, they differ by what is valid there
pub lots_change :
    (board later : List ℕ) (b n : ℕ)
    → b < n
    → ((c : ℕ) → (c ≡ b → ⊥) → mark_at later c ≡ mark_at board c)
    → lots_on later n + valid_in (mark_at board b) ≡ lots_on board n + valid_in (mark_at later b)
unfolding lots_on
lots_change board later b zero under others = absurd (omega arith)
lots_change board later b (suc n) under others = by (ℕ_discrete b n) (λ earlier. lots_change board later b n earlier others)
  where
    by :
        Dec (b ≡ n)
        → (b < n → lots_on later n + valid_in (mark_at board b) ≡ lots_on board n + valid_in (mark_at later b))
        → lots_on later n + valid_in (mark_at later n) + valid_in (mark_at board b) ≡ lots_on board n + valid_in (mark_at board n) + valid_in (mark_at later b)
    by (yes last) earlier =
        omega (
          arith,
          lots_same board later n (λ c below. others c (omega (arith, last))),
          ap (λ (k : ℕ). valid_in (mark_at board k)) last,
          ap (λ (k : ℕ). valid_in (mark_at later k)) last,
        )
    by (no other) earlier = omega (arith, earlier (omega (arith, other)), ap valid_in (others n (λ is. other (sym is))))
