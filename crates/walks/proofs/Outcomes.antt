-- How the call comes out: refused for its size, refused for a record or the bucket, or walked. Assumes nothing.
use Prim.Native.Nat.{ℕ, zero, suc, ◌*◌, ◌≤◌}
use mathlib.Core.Bool.{false, ◌||◌, or-false}
use mathlib.Core.Path.{◌≡◌, refl, sym, ap, subst, ◌∙◌}
use mathlib.Core.List.{List, [], ◌∷◌}
use native.Mathlib.Omega.{arith}
use lib.ListN.{length, take}
use borrow.Author.Tests.{ne_eqb}
use Rattle.mark.proofs.Choices.{by_cases, passes}
use Rattle.turn.specs.declared.Worker.{Worker}
use Rattle.turn.specs.Worker.{broken}
use Rattle.turn.proofs.Kept.{idle_kept}
use Rattle.engine.specs.declared.Floor.{Floor}
use Rattle.engine.specs.Refusals.{wrong_sizes, any_record}
use Rattle.engine.proofs.Sizes.{right_sizes, right_listed}
use Rattle.walks.specs.declared.Class.{Class}
use Rattle.walks.specs.declared.OrdersOutcome.{OrdersOutcome}
use Rattle.std.proofs.Common.{Result, Ok, Err}
use Rattle.turn.specs.declared.refusal.Refusal.{Refusal as Why}
use Rattle.turn.specs.Number.{number as number_of, result_number}
use Rattle.turn.proofs.Refusing.{number_some}
use Rattle.walks.specs.declared.Walks.{Walks}
use Rattle.walks.specs.Calls.{Walked, walked_as}
use Rattle.walks.specs.Calls.{Refusal, Orders}
use Rattle.walks.specs.Walk.{seated, class_number, walks}
use Rattle.walks.specs.Calls.{not_small, size_number, orders_number, orders_call, walked_number, records_of, class_of}
use Rattle.walks.specs.Told.{orders_told}
use Rattle.walks.specs.Promises.{OrdersWalked, OrdersLeft}
use Rattle.walks.proofs.Sitting.{bucket_is_board}
use Rattle.walks.proofs.Counted.{walks_from_counted}
use Rattle.walks.proofs.Classes.{Small, small_parts, walkable, walks_from_seated, length_records, same_number, same_call}

-- nobody who is seated in a place that is left is broken
any_seated :
    (a b c : Worker) (listed : ℕ) → 1 ≤ listed → listed ≤ 3
    → any_record broken (take listed (a ∷ b ∷ c ∷ [])) ≡ (broken a || (broken (seated b 1 listed) || broken (seated c 2 listed)))
unfolding any_record
any_seated a b c zero some few = absurd (omega arith)
any_seated a b c (suc zero) some few = rw idle_kept
any_seated a b c (suc (suc zero)) some few = rw idle_kept
any_seated a b c (suc (suc (suc zero))) some few = rw (or-false (broken c))
any_seated a b c (suc (suc (suc (suc n)))) some few = absurd (omega arith)

module _ (board : List ℕ) (f : Floor) (c : Class) (depth : ℕ) where
  abbrev number : ℕ
  number = orders_number board f (records_of c) c.listed depth

  -- an answer that is a refusal
  refused_by_lem : (why : Why) → number_of why ≡ number → OrdersWalked board f c depth (Err why)
  unfolding orders_call
  refused_by_lem why is = record { whole = rw (← is, ne_eqb (number_of why) 0 (number_some why)); number = is }

  -- for the sizes or the depth
  pub refused_size : (why : Why) → number_of why ≡ size_number board f c.listed depth → OrdersWalked board f c depth (Err why)
  unfolding orders_number
  refused_size why is = refused_by_lem why (is ∙ same (sym is))
    where
      n : ℕ
      n = number_of why

      some : n ≡ 0 → ⊥
      some = number_some why

      same : size_number board f c.listed depth ≡ n → size_number board f c.listed depth ≡ number
      same e =
          by_cases (λ (m : ℕ). (m ≡ n) → m ≡ number) (wrong_sizes f board c.listed) _ _ (λ wrong m-is. rw wrong)
          (λ right m-is.
          by_cases (λ (m : ℕ). (m ≡ n) → m ≡ number) (not_small f depth) _ _ (λ large k-is. rw (right, large))
          (λ small k-is. absurd (some (sym k-is))) m-is)
          e

  -- where these are right
  module _ (right : size_number board f c.listed depth ≡ 0) where
    sizes : wrong_sizes f board c.listed ≡ false
    sizes = (passes (wrong_sizes f board c.listed) 0 _ right).0

    small_one : not_small f depth ≡ false
    small_one = (passes (not_small f depth) 9 _ (passes (wrong_sizes f board c.listed) 0 _ right).1).0

    pub small : Small f depth
    small = small_parts f depth small_one

    pub few : (1 ≤ c.listed) × (c.listed ≤ 3)
    few =
        let is = right_listed f board c.listed sizes in
        let some = (right_sizes f board c.listed sizes).some_worker in
        let most = small.workers in
        (omega arith, omega arith)

    pub eight : length board ≡ 8
    eight =
        let fits = right_sizes f board c.listed sizes in
        let words = fits.words in
        let some = fits.some_bucket in
        let most = small.buckets in
        let one : f.buckets ≡ 1 = omega arith in
        words ∙ ap (λ (n : ℕ). 8 * n) one

    abbrev second : Worker
    second = seated c.second 1 c.listed

    abbrev third : Worker
    third = seated c.third 2 c.listed

    number_is : class_number board c.first second third ≡ number
    unfolding orders_number
    number_is =
        rw (
          sizes,
          small_one,
          any_seated c.first c.second c.third c.listed few.0 few.1,
          bucket_is_board board eight,
        ) refl

    -- for a record or the bucket
    pub refused_class : (why : Why) → number_of why ≡ class_number board c.first second third → OrdersWalked board f c depth (Err why)
    refused_class why is = refused_by_lem why (is ∙ number_is)

    -- and where nothing refuses it, all is walked
    pub walked_all : class_number board c.first second third ≡ 0 → OrdersWalked board f c depth (Ok (walks depth board c.first second third 0))
    unfolding orders_call
    walked_all none =
        let zero_is : number ≡ 0 = sym number_is ∙ none in
        let ok = walkable board f (records_of c) c.listed depth (length_records c few.1) zero_is in
        let is =
        walks_from_counted depth small.most f board (records_of c) ok.sits
        ∙ walks_from_seated depth board c.first c.second c.third c.listed 0 few.0 few.1 in
        record { whole = rw (zero_is, is); number = sym zero_is }

-- ---- on the lent list

-- the number of the answer is the one that crosses to C
pub walked_told : (r : Result Walks Why) → walked_number (walked_as r) ≡ result_number r
walked_told (Ok walks) = refl
walked_told (Err why) = refl

told_number : (w : Walked) → (orders_told w).refusal ≡ walked_number w
told_number (Refusal number) = refl
told_number (Orders walks) = refl

-- the class of the list is walked, and the answer told
pub orders_left :
    (board : List ℕ) (records : List Worker) (f : Floor) (depth : ℕ) (class : Class) (w : Result Walks Why) (r : OrdersOutcome)
    → class ≡ class_of records
    → OrdersWalked board f class depth w
    → r ≡ orders_told (walked_as w)
    → OrdersLeft board records f depth r
orders_left board records f depth class w r is walked e =
    let done = subst (λ (c : Class). OrdersWalked board f c depth w) is walked in
    record {
      whole = e ∙ ap orders_told (done.whole ∙ same_call board f records depth);
      number = rw e (told_number (walked_as w) ∙ walked_told w ∙ done.number ∙ same_number board f records depth);
    }
