-- What it says that all orders are not refused; and records of a list by value, as many as there are, with somebody idle in the other places.
-- Assumes nothing.
use Prim.Native.Nat.{ℕ, zero, suc, ◌≤◌, ◌<◌}
use mathlib.Core.Bool.{false, cond, and-eq-true_iff, and-false}
use mathlib.Core.Path.{◌≡◌, refl, sym, ap, ◌∙◌}
use mathlib.Core.List.{List, [], ◌∷◌}
use native.Mathlib.Decide.{dec_le}
use native.Mathlib.Omega.{arith}
use lib.Dec.{leb}
use lib.ListN.{length, take}
use borrow.Author.Tests.{leb-true, lt-leb, not-false, ne_eqb}
use Rattle.mark.proofs.Choices.{by_cases, passes}
use Rattle.turn.specs.declared.Worker.{Worker}
use Rattle.turn.specs.Worker.{broken, idle}
use Rattle.turn.specs.Bucket.{broken_bucket}
use Rattle.turn.proofs.Sound.{whole_parts}
use Rattle.engine.specs.declared.Floor.{Floor}
use Rattle.engine.specs.Board.{bucket_at}
use Rattle.engine.specs.Refusals.{wrong_sizes, any_record}
use Rattle.engine.specs.Calls.{record_in}
use Rattle.engine.proofs.Sizes.{both_fail, right_sizes, right_listed}
use Rattle.walks.specs.declared.Class.{Class}
use Rattle.walks.specs.Calls.{Refusal}
use Rattle.walks.specs.Walk.{seated, walks}
use Rattle.walks.specs.Calls.{not_small, orders_number, orders_call, records_of, class_of}
use Rattle.walks.proofs.Sitting.{Sitting, bucket_is_board}
use Rattle.walks.proofs.Counted.{walks_from}
use Rattle.walks.proofs.Three.{walks_from_idle, walks_from_three}

-- ---- a small class

-- the parts of the test
pub record Small (f : Floor) (depth : ℕ) : Type 0 where
  pub buckets : f.buckets ≤ 1
  pub workers : f.workers ≤ 3
  pub some : 1 ≤ depth
  pub most : depth ≤ 24

pub small_parts : (f : Floor) (depth : ℕ) → not_small f depth ≡ false → Small f depth
small_parts f depth is =
    let all = (and-eq-true_iff _ _).0 (not-false _ is) in
    let rest = (and-eq-true_iff _ _).0 all.1 in
    let range = (and-eq-true_iff _ _).0 rest.1 in
    record {
      buckets = leb-true _ 1 all.0;
      workers = leb-true _ 3 rest.0;
      some = leb-true 1 _ range.0;
      most = leb-true _ 24 range.1;
    }

-- of a list in which no record is broken, each is not
pub each_sound : (ws : List Worker) → any_record broken ws ≡ false → (i : ℕ) → i < length ws → broken (record_in ws i) ≡ false
unfolding any_record
each_sound [] none i low = absurd (omega arith)
each_sound (w ∷ ws) none zero low = (both_fail (broken w) _ none).0
each_sound (w ∷ ws) none (suc i) low = each_sound ws (both_fail (broken w) _ none).1 i (omega arith)

-- and a list of which each is not has no broken record
pub all_sound : (ws : List Worker) → ((i : ℕ) → i < length ws → broken (record_in ws i) ≡ false) → any_record broken ws ≡ false
unfolding any_record
all_sound [] each = refl
all_sound (w ∷ ws) each = rw (each 0 (omega arith)) (all_sound ws (λ i low. each (suc i) (omega arith)))

-- where all orders are not refused there is a small class, and it is not broken
pub record Walkable (board : List ℕ) (f : Floor) (records : List Worker) (depth : ℕ) : Type 0 where
  pub small : Small f depth
  pub sits : Sitting f board records

pub walkable :
    (board : List ℕ) (f : Floor) (records : List Worker) (listed depth : ℕ)
    → length records ≡ listed → orders_number board f records listed depth ≡ 0 → Walkable board f records depth
unfolding orders_number
walkable board f records listed depth long none =
    let sizes = passes (wrong_sizes f board listed) 0 _ none in
    let class = passes (not_small f depth) 9 _ sizes.1 in
    let sound = passes (any_record broken records) 2 _ class.1 in
    let whole = passes (broken_bucket (bucket_at board 0)) 6 _ sound.1 in
    let right = right_sizes f board listed sizes.0 in
    let small = small_parts f depth class.0 in
    let one : f.buckets ≡ 1 = omega (arith, small.buckets, right.some_bucket) in
    let eight : length board ≡ 8 = (let words = right.words in omega arith) in
    record {
      small = small;
      sits =
          record {
            one = one;
            whole = whole_parts board (rw (bucket_is_board board eight) at whole.0);
            listed = long ∙ right_listed f board listed sizes.0;
            some = right.some_worker;
            few = right.workers;
            sound = each_sound records sound.0;
          };
    }

-- ---- records by value

-- those that are listed, with somebody idle in the other places
pub walks_from_seated :
    (depth : ℕ) (words : List ℕ) (a b c : Worker) (listed lost : ℕ)
    → 1 ≤ listed → listed ≤ 3
    → walks_from depth words (take listed (a ∷ b ∷ c ∷ [])) lost ≡ walks depth words a (seated b 1 listed) (seated c 2 listed) lost
walks_from_seated depth words a b c zero lost some few = absurd (omega arith)
walks_from_seated depth words a b c (suc zero) lost some few =
    sym (walks_from_idle depth words (a ∷ []) lost) ∙ sym (walks_from_idle depth words (a ∷ idle ∷ []) lost) ∙ walks_from_three depth words a idle idle lost
walks_from_seated depth words a b c (suc (suc zero)) lost some few =
    sym (walks_from_idle depth words (a ∷ b ∷ []) lost) ∙ walks_from_three depth words a b idle lost
walks_from_seated depth words a b c (suc (suc (suc zero))) lost some few = walks_from_three depth words a b c lost
walks_from_seated depth words a b c (suc (suc (suc (suc n)))) lost some few = absurd (omega arith)

-- so many of three are listed
pub length_records : (c : Class) → c.listed ≤ 3 → length (records_of c) ≡ c.listed
length_records c few = by c.listed few
  where
    by : (n : ℕ) → n ≤ 3 → length (take n (c.first ∷ c.second ∷ c.third ∷ [])) ≡ n
    by zero few = refl
    by (suc zero) few = refl
    by (suc (suc zero)) few = refl
    by (suc (suc (suc zero))) few = refl
    by (suc (suc (suc (suc n)))) few = absurd (omega arith)

-- a list of three at most is its class
class_is : (ws : List Worker) → length ws ≤ 3 → records_of (class_of ws) ≡ ws
class_is [] few = refl
class_is (a ∷ []) few = refl
class_is (a ∷ b ∷ []) few = refl
class_is (a ∷ b ∷ c ∷ []) few = refl
class_is (a ∷ b ∷ c ∷ d ∷ ws) few = absurd (omega arith)

-- a longer one is refused for its size, whatever its records are
module _ (board : List ℕ) (f : Floor) (listed depth : ℕ) (many : 3 < listed) (records : List Worker) where
  abbrev number : ℕ
  number = cond (wrong_sizes f board listed) 1 10

  too_many : orders_number board f records listed depth ≡ number
  unfolding orders_number
  too_many =
      by_cases (λ (n : ℕ). n ≡ number) (wrong_sizes f board listed) _ _ (λ wrong. rw wrong)
      (λ right.
      let is = right_listed f board listed right in
      rw (right, lt-leb f.workers 3 (omega arith), and-false (leb f.buckets 1)))

  refused_so : orders_call board f records listed depth ≡ Refusal number
  unfolding orders_call
  refused_so =
      let some : number ≡ 0 → ⊥ = by_cases (λ (n : ℕ). n ≡ 0 → ⊥) (wrong_sizes f board listed) 1 10 (λ t e. omega arith) (λ t e. omega arith) in
      rw (too_many, ne_eqb number 0 some)

module _ (board : List ℕ) (f : Floor) (records : List Worker) (depth : ℕ) where
  abbrev by_value : List Worker
  by_value = records_of (class_of records)

  -- what is told of a list is told of its records by value, if of a list that is too long anything is told alike
  by_value_lem : {A : Type 0} (told : List Worker → A) → (3 < length records → (ws : List Worker) → told ws ≡ told records) → told by_value ≡ told records
  by_value_lem {A} told alike = by (dec_le (length records) 3)
    where
      by : Dec (length records ≤ 3) → told by_value ≡ told records
      by (yes few) = ap told (class_is records few)
      by (no many) = alike (omega arith) by_value

  -- all orders of a list by value are those of the list: the number, and the whole answer
  pub same_number : orders_number board f by_value (length records) depth ≡ orders_number board f records (length records) depth
  same_number =
      by_value_lem (λ ws. orders_number board f ws (length records) depth)
      (λ many ws. too_many board f (length records) depth many ws ∙ sym (too_many board f (length records) depth many records))

  pub same_call : orders_call board f by_value (length records) depth ≡ orders_call board f records (length records) depth
  same_call =
      by_value_lem (λ ws. orders_call board f ws (length records) depth)
      (λ many ws. refused_so board f (length records) depth many ws ∙ sym (refused_so board f (length records) depth many records))
