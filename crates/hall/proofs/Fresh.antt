-- An index that is made afresh is the full reading of the board (§22.4). Assumes nothing.
use Prim.Native.Nat.{ℕ, zero, suc, ◌≤◌, ◌<◌}
use mathlib.Core.List.{List}
use mathlib.Core.Path.{◌≡◌, refl, sym, ap, ◌∙◌}
use native.Mathlib.Decide.{ℕ_discrete}
use native.Mathlib.Omega.{arith}
use lib.Dec.{eqb, ltb}
use borrow.Author.Tests.{eqb-true}
use Rattle.mark.specs.Word.{mark_of, count_marks}
use Rattle.mark.proofs.Choices.{by_cases}
use Rattle.engine.specs.Board.{lots_on}
use Rattle.hall.specs.Index.{bit_in, valid_in, moved, followed}
use Rattle.hall.specs.Calls.{fresh_index}
use Rattle.hall.specs.Reading.{Reads, occupied_at}
use Rattle.hall.proofs.Lots.{mark_at}
use Rattle.hall.proofs.Followed.{moved_long, total_moved, bit_moved, bit_moved_other}
use Rattle.hall.proofs.Reading.{reads_nothing}

-- a word without marks has no valid slot
pub none_valid : valid_in 0 ≡ 0
unfolding count_marks mark_of
none_valid = refl

-- one bucket more
module _ (board index : List ℕ) (n : ℕ) (room : n < 256) (reads : Reads board n index) where
  abbrev word : ℕ
  word = mark_at board n

  -- where its word has nothing to follow
  reads_none : 0 ≡ word → Reads board (suc n) index
  unfolding lots_on
  reads_none same =
      record {
        five = reads.five;
        total = omega (arith, reads.total, ap valid_in same, none_valid);
        bits = λ b under. by b (ℕ_discrete b n) under;
        unused = λ b past few. reads.unused b (omega arith) few;
      }
    where
      by : (b : ℕ) → Dec (b ≡ n) → b < suc n → bit_in index b ≡ occupied_at board b
      by b (yes is) under = rw is (reads.unused n (omega arith) room ∙ sym (ap (ltb 0) (ap valid_in (sym same) ∙ none_valid)))
      by b (no other) under = reads.bits b (omega arith)

  -- where it has something
  reads_moved : Reads board (suc n) (moved index n 0 word)
  unfolding lots_on
  reads_moved =
      record {
        five = moved_long index n 0 word ∙ reads.five;
        total = omega (arith, total_moved index n 0 word reads.five, reads.total, none_valid);
        bits = λ b under. by b (ℕ_discrete b n) under;
        unused = λ b past few. bit_moved_other index n 0 word reads.five room b (λ is. omega (arith, is)) ∙ reads.unused b (omega arith) few;
      }
    where
      by : (b : ℕ) → Dec (b ≡ n) → b < suc n → bit_in (moved index n 0 word) b ≡ occupied_at board b
      by b (yes is) under = rw is (bit_moved index n 0 word reads.five room)
      by b (no other) under = bit_moved_other index n 0 word reads.five room b other ∙ reads.bits b (omega arith)

  reads_more : Reads board (suc n) (followed index n 0 word)
  unfolding followed
  reads_more = by_cases (Reads board (suc n)) (eqb 0 word) _ _ (λ is. reads_none (eqb-true 0 word is)) (λ isnot. reads_moved)

-- §22.4: an index made afresh is the full reading
pub fresh_reads : (board : List ℕ) (n : ℕ) → n ≤ 256 → Reads board n (fresh_index board n)
unfolding fresh_index
fresh_reads board zero room = reads_nothing board 0 room (λ b under. absurd (omega arith))
fresh_reads board (suc n) room = reads_more board (fresh_index board n) n (omega arith) (fresh_reads board n (omega arith))
