-- A bucket as the part of the board that is lent to a turn, and put back. Assumes nothing.
use Prim.Native.Nat.{ℕ, ◌+◌, ◌-◌, ◌*◌, ◌≤◌}
use mathlib.Core.Path.{◌≡◌, ap₂, ◌∙◌}
use mathlib.Core.List.{List, ◌++◌}
use native.Mathlib.Omega.{arith}
use lib.ListN.{length, take, drop}
use borrow.Rule.Slice.PartMut as part
use borrow.Rule.Slice.PartMut.{mid_len}
use Rattle.engine.specs.Board.{bucket_at, with_bucket}

eight : (at : ℕ) → at + 8 - at ≡ 8
eight at = omega arith

module _ (board : List ℕ) (at b : ℕ) (start : at ≡ 8 * b) where
  -- the part that is lent is the bucket
  pub part_at : take (at + 8 - at) (drop at board) ≡ bucket_at board b
  part_at = ap₂ (λ (k a : ℕ). take k (drop a board)) (eight at) start

  -- and what comes back stands in its place
  pub put_at : (words : List ℕ) → take at board ++ (words ++ drop (at + 8 - at) (drop at board)) ≡ with_bucket board b words
  put_at words = ap₂ (λ (k a : ℕ). take a board ++ (words ++ drop k (drop a board))) (eight at) start

-- it is eight words long
pub part_long : (board : List ℕ) (at : ℕ) → at + 8 ≤ length board → length (take (at + 8 - at) (drop at board)) ≡ 8
part_long board at within = mid_len at (at + 8) board within ∙ eight at

-- a bucket put back as it was
pub put_same : (board : List ℕ) (b : ℕ) → with_bucket board b (bucket_at board b) ≡ board
put_same board b = part.put_same (8 * b) 8 board
