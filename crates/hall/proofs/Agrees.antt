-- What it says that an index is not untrue for a bucket (§21.5): and where it has followed the bucket, it is so again. Assumes nothing.
use Prim.Native.Nat.{ℕ, ◌≤◌, ◌<◌}
use mathlib.Core.Bool.{Bool, true, false, xor}
use mathlib.Core.List.{List}
use mathlib.Core.Path.{◌≡◌, refl, sym}
use native.Mathlib.Decide.{ℕ_discrete}
use native.Mathlib.Omega.{arith}
use lib.ListN.{length}
use borrow.Author.Tests.{eq-eqb, ne_eqb, ltb-false, le-ltb}
use Rattle.mark.proofs.Choices.{none_holds}
use Rattle.mark.proofs.Counts.{count_le}
use Rattle.engine.proofs.Sizes.{both_fail}
use Rattle.hall.specs.Index.{index_words, total_in, bit_in, valid_in, occupied, moved, followed, most_with, untrue}
use Rattle.hall.proofs.Followed.{total_moved, bit_moved}

-- its bit is as the marks have it, and the total is one that the other buckets allow
pub record Agrees (n : ℕ) (index : List ℕ) (b word : ℕ) : Type 0 where
  pub bit : bit_in index b ≡ occupied word
  pub enough : valid_in word ≤ total_in index
  pub few : total_in index ≤ most_with n word

-- tests that do not differ are equal
same_bits : (t u : Bool) → xor t u ≡ false → t ≡ u
unfolding xor
same_bits true true is = refl
same_bits true false is = is
same_bits false true is = sym is
same_bits false false is = refl

no_difference : (t : Bool) → xor t t ≡ false
unfolding xor
no_difference true = refl
no_difference false = refl

module _ (n : ℕ) (index : List ℕ) (b word : ℕ) where
  pub agrees : untrue n index b word ≡ false → Agrees n index b word
  unfolding untrue
  agrees is =
      let all = both_fail _ _ is in
      let range = both_fail _ _ all.1 in
      record { bit = same_bits _ _ all.0; enough = ltb-false _ _ range.0; few = ltb-false _ _ range.1 }

  pub agreeing : Agrees n index b word → untrue n index b word ≡ false
  unfolding untrue
  agreeing ok =
      rw ok.bit
      (none_holds _ _ (no_difference (occupied word))
      (none_holds _ _ (le-ltb (total_in index) (valid_in word) ok.enough) (le-ltb (most_with n word) (total_in index) ok.few)))

-- §21.5: any index that is true for a bucket is true for it when it has followed the bucket, whatever else stands in it
pub true_followed :
    (n : ℕ) (index : List ℕ) (b before after : ℕ)
    → length index ≡ index_words
    → b < n
    → n ≤ 256
    → untrue n index b before ≡ false
    → untrue n (followed index b before after) b after ≡ false
unfolding followed
true_followed n index b before after five within room is = by (ℕ_discrete before after)
  where
    ok : Agrees n index b before
    ok = agrees n index b before is

    by : Dec (before ≡ after) → untrue n (followed index b before after) b after ≡ false
    by (yes same) = rw (eq-eqb before after same, ← same) is
    by (no other) =
        rw (ne_eqb before after other)
        (agreeing n (moved index b before after) b after
        (record {
          bit = bit_moved index b before after five (omega arith);
          enough = omega (arith, total_moved index b before after five);
          few =
              omega (
                arith,
                total_moved index b before after five,
                ok.enough,
                ok.few,
                count_le 1 before,
                count_le 1 after,
              );
        }))
