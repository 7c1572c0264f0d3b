-- An index that is the full reading of the board is untrue for no bucket, stays the full reading where a bucket is followed, and is what an
-- opening makes; the display's questions are answered from it as from the board. Assumes nothing.
use Prim.Native.Nat.{ℕ, zero, suc, ◌+◌, ◌-◌, ◌/◌, ◌%◌, ◌^◌, ◌≤◌, ◌<◌}
use mathlib.Core.Bool.{Bool, false}
use mathlib.Core.List.{List}
use mathlib.Core.Path.{◌≡◌, refl, sym, ap, ◌∙◌}
use native.Mathlib.Decide.{ℕ_discrete}
use native.Mathlib.Nat.{zero-div}
use native.Mathlib.Omega.{arith}
use lib.Dec.{eqb, ltb}
use lib.ListN.{get_or, replicate, get_or-replicate}
use borrow.Author.Tests.{eqb-true, ltb-true, ltb-false}
use Rattle.mark.proofs.Choices.{by_cases}
use Rattle.mark.proofs.Counts.{count_le}
use Rattle.bits.specs.Bits.{is_set}
use Rattle.bits.specs.Seek.{seek}
use Rattle.bits.proofs.Seeks.{seek_ge, seek_passes, seek_first, seek_same}
use Rattle.engine.specs.Board.{lots_on}
use Rattle.hall.specs.Next as Next
use Rattle.hall.specs.Index.{index_words, bit_in, valid_in, occupied, moved, followed, untrue}
use Rattle.hall.specs.Calls.{first_of, next_in}
use Rattle.hall.specs.Reading.{Reads, occupied_at, next_on, IsNext}
use Rattle.hall.proofs.Lots.{mark_at, lots_beside, lots_change}
use Rattle.hall.proofs.Agrees.{agreeing}
use Rattle.hall.proofs.Followed.{moved_long, total_moved, bit_moved, bit_moved_other}

module _ {board index : List ℕ} {n : ℕ} (reads : Reads board n index) (b : ℕ) (within : b < n) where
  -- it is untrue for no bucket
  pub reads_true : untrue n index b (mark_at board b) ≡ false
  reads_true =
      let beside = lots_beside board n b within in
      let total = reads.total in
      agreeing n index b (mark_at board b)
      (record {
        bit = reads.bits b within;
        enough = omega (arith, total, beside.enough);
        few = omega (arith, total, beside.few, count_le 1 (mark_at board b));
      })

  -- where the mark word of one bucket changes, it follows
  module _ (later : List ℕ) (room : n ≤ 256) (others : (c : ℕ) → (c ≡ b → ⊥) → mark_at later c ≡ mark_at board c) where
    in_room : b < 256
    in_room = omega arith

    abbrev before : ℕ
    before = mark_at board b

    abbrev after : ℕ
    after = mark_at later b

    reads_moved : Reads later n (moved index b before after)
    reads_moved =
        record {
          five = moved_long index b before after ∙ reads.five;
          total =
              omega (
                arith,
                total_moved index b before after reads.five,
                reads.total,
                (lots_beside board n b within).enough,
                lots_change board later b n within others,
              );
          bits = λ c under. by c (ℕ_discrete c b) under;
          unused = λ c past few. bit_moved_other index b before after reads.five in_room c (λ is. omega (arith, is)) ∙ reads.unused c past few;
        }
      where
        by : (c : ℕ) → Dec (c ≡ b) → c < n → bit_in (moved index b before after) c ≡ occupied_at later c
        by c (yes is) under = rw is (bit_moved index b before after reads.five in_room)
        by c (no other) under =
            bit_moved_other index b before after reads.five in_room c other ∙ reads.bits c under ∙ ap occupied (sym (others c other))

    -- and where it does not, nothing has to
    reads_still : before ≡ after → Reads later n index
    reads_still same =
        record {
          five = reads.five;
          total = omega (arith, reads.total, lots_change board later b n within others, ap valid_in same);
          bits = λ c under. reads.bits c under ∙ ap occupied (by c (ℕ_discrete c b));
          unused = reads.unused;
        }
      where
        by : (c : ℕ) → Dec (c ≡ b) → mark_at board c ≡ mark_at later c
        by c (yes is) = rw is same
        by c (no other) = sym (others c other)

    pub reads_followed : Reads later n (followed index b before after)
    unfolding followed
    reads_followed = by_cases (Reads later n) (eqb before after) _ _ (λ is. reads_still (eqb-true before after is)) (λ isnot. reads_moved)

-- ---- an opening

-- five zeros have no bit
no_bits : (b : ℕ) → b < 256 → bit_in (replicate index_words 0) b ≡ false
unfolding is_set
no_bits b few =
    let none : ◌≡◌ {A = ℕ} (get_or (replicate index_words 0) (1 + b / 64) 0) 0 = get_or-replicate index_words (1 + b / 64) 0 0 (omega arith) in
    rw (none, zero-div (2 ^ (b % 64)))

-- and are the full reading of a board on which nothing is valid
pub reads_nothing : (board : List ℕ) (n : ℕ) → n ≤ 256 → ((b : ℕ) → b < n → valid_in (mark_at board b) ≡ 0) → Reads board n (replicate index_words 0)
unfolding lots_on
reads_nothing board n room none =
    record {
      five = refl;
      total = sym (no_lots n none);
      bits = λ b under. no_bits b (omega arith) ∙ sym (ap (ltb 0) (none b under));
      unused = λ b past few. no_bits b few;
    }
  where
    no_lots : (n : ℕ) → ((b : ℕ) → b < n → valid_in (mark_at board b) ≡ 0) → lots_on board n ≡ 0
    no_lots zero none = refl
    no_lots (suc n) none = omega (arith, no_lots n (λ b under. none b (omega arith)), none n (omega arith))

-- ---- the questions

-- the next bucket by the index is the next one on the board
pub reads_next : {board index : List ℕ} {n : ℕ} → Reads board n index → (from : ℕ) → next_in index n from ≡ next_on board n from
unfolding first_of
reads_next {board} {index} {n} reads from =
    rw (seek_same (bit_in index) (occupied_at board) from (n - from) (λ b past under. reads.bits b (omega arith)))

-- and the first that passes is the first that does
pub first_is : (p : ℕ → Bool) (n from : ℕ) → IsNext p n from (first_of p n from)
unfolding first_of
first_is p n from =
    let b : ℕ = seek p from (n - from) in
    by_cases (IsNext p n from) (ltb b n) (Next.Bucket b) Next.Nowhere
    (λ is.
    let under = ltb-true b n is in (
      seek_ge p from (n - from),
      (under, (seek_passes p from (n - from) (omega (arith, seek_ge p from (n - from))), λ c past before. seek_first p from (n - from) c past before)),
    ))
    (λ isnot c past few. seek_first p from (n - from) c past (omega (arith, ltb-false b n isnot)))
