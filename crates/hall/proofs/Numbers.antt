-- The numbers of the calls that take the index, and what they say of a turn that was tried. Assumes nothing.
use Prim.Native.Nat.{ℕ}
use mathlib.Core.Bool.{Bool, true, false, cond}
use mathlib.Core.List.{List}
use mathlib.Core.Path.{◌≡◌, refl, sym, ap, ◌∙◌}
use native.Mathlib.Omega.{arith}
use lib.Dec.{eqb}
use lib.ListN.{length}
use borrow.Author.Tests.{eqb-true, eqb-false, eq-eqb, ne_eqb, not-false}
use Rattle.mark.proofs.Choices.{by_cases}
use Rattle.turn.specs.declared.Worker.{Worker}
use Rattle.turn.specs.declared.refusal.Refusal.{Refusal}
use Rattle.turn.specs.Number.{number}
use Rattle.turn.proofs.Refusing.{number_some}
use Rattle.turn.specs.Turn.{Tried}
use Rattle.turn.specs.Turn.{Said}
use Rattle.turn.specs.Bucket.{cell, mark_cell}
use Rattle.turn.specs.Retire.{retire_refusal}
use Rattle.turn.specs.Turn.{After, after, answer_of}
use Rattle.engine.specs.declared.Floor.{Floor}
use Rattle.engine.specs.declared.Touched.{Touched}
use Rattle.engine.specs.Board.{bucket_of}
use Rattle.engine.specs.Refusals.{wrong_listed, wrong_sizes, no_worker, bucket_for, each_number, turn_number, retire_number, run_refusal}
use Rattle.engine.specs.Calls.{tried, touched_by}
use Rattle.engine.specs.Promises.{BucketTouched}
use Rattle.engine.specs.Room.{Right}
use Rattle.engine.proofs.Sizes.{floor_right, right_sizes}
use Rattle.hall.specs.Refusals.{wrong_index, untrue_after, untrue_for, untrue_if_held, hall_turn_number, hall_retire_number, hall_run_refusal}
use Rattle.hall.specs.Calls.{index_left}

-- ---- 1, and 11 after all others

-- where the sizes are wrong, the number is 1
abbrev wrong_number : Bool → Bool → ℕ
wrong_number t u = cond t 1 (cond u 1 0)

pub first_number : (t u : Bool) (n : ℕ) (x : Bool) → (wrong_number t u ≡ 0 → ⊥) → cond t 1 (untrue_after (cond u 1 n) x) ≡ 1
first_number true u n x some = refl
first_number false true n x some = refl
first_number false false n x some = absurd (some refl)

-- where they are right, neither is
pub no_first : (t u : Bool) → wrong_number t u ≡ 0 → (t ≡ false) × (u ≡ false)
no_first true u none = absurd (omega arith)
no_first false true none = absurd (omega arith)
no_first false false none = (refl, refl)

-- the test of the sizes gives 1, if it gives a number at all
pub only_one : (t u : Bool) → (wrong_number t u ≡ 0 → ⊥) → wrong_number t u ≡ 1
only_one true u some = refl
only_one false true some = refl
only_one false false some = absurd (some refl)

-- where the index is true, or there is another number, 11 does not come
pub after_same : (n : ℕ) (t : Bool) → (n ≡ 0 → t ≡ false) → untrue_after n t ≡ n
after_same n t ok = by_cases (λ (x : ℕ). x ≡ n) (eqb n 0) _ _ (λ is. rw (ok (eqb-true n 0 is)) (sym (eqb-true n 0 is))) (λ isnot. refl)

pub untrue_none : (n : ℕ) → untrue_after n false ≡ n
untrue_none n = after_same n false (λ none. refl)

-- ---- a turn that was tried

-- one that was refused leaves the index
pub refused_index : (index : List ℕ) (s : Said) → eqb s.refusal 0 ≡ false → index ≡ index_left index (answer_of s)
refused_index index s is = rw is

-- one that was done reports the bucket and its mark word
pub tried_reports :
    (n : ℕ) (f : Floor) (board : List ℕ) (w : Worker) (later : List ℕ) (r : Tried)
    → after later r ≡ tried n f board w
    → r.said.refusal ≡ 0
    → (r.said.report.bucket ≡ bucket_of w.key f.buckets) × (r.said.report.before ≡ cell (bucket_for f board w.key) mark_cell)
unfolding tried
tried_reports n f board w later r =
    by_cases
    (λ (x : After Tried).
    after later r ≡ x
    → r.said.refusal ≡ 0
    → (r.said.report.bucket ≡ bucket_of w.key f.buckets) × (r.said.report.before ≡ cell (bucket_for f board w.key) mark_cell))
    (eqb n 0) _ _
    (λ is same none.
    (ap (λ (x : After Tried). x.handed.said.report.bucket) same, ap (λ (x : After Tried). x.handed.said.report.before) same))
    (λ isnot same none. absurd (eqb-false n 0 isnot (sym (ap (λ (x : After Tried). x.handed.said.refusal) same) ∙ none)))

-- ---- the bucket that is touched

-- where floor and board fit together, it is the bucket of the lot, with its mark word
pub touched_is :
    (board : List ℕ) (f : Floor) (lot : ℕ) (r : Touched)
    → Right f board
    → BucketTouched board f lot r
    → (r.bucket ≡ bucket_of lot f.buckets) × (r.word ≡ cell (bucket_for f board lot) mark_cell)
touched_is board f lot r fits is =
    let there : Touched = record { bucket = bucket_of lot f.buckets; word = cell (bucket_for f board lot) mark_cell } in
    let found : touched_by board f lot ≡ there = rw (floor_right f board fits) in
    let same = is.whole ∙ found in
    (ap (λ (x : Touched). x.bucket) same, ap (λ (x : Touched). x.word) same)

-- ---- the numbers of the calls

module _ (f : Floor) (board index : List ℕ) (listed : ℕ) where
  -- the test of the sizes
  abbrev pub sizes_number : ℕ
  sizes_number = hall_run_refusal f (length board) listed (length index) 0

  abbrev unsized : Bool
  unsized = wrong_listed f (length board) listed

  abbrev short : Bool
  short = wrong_index (length index)

  -- with five words it is the engine's
  pub five_sized : length index ≡ 5 → run_refusal f (length board) listed 0 ≡ sizes_number
  five_sized five = rw (eq-eqb (length index) 5 five)

  pub sized_none : length index ≡ 5 → ◌≡◌ {A = ℕ} 0 (run_refusal f (length board) listed 0) → sizes_number ≡ 0
  sized_none five none = sym (none ∙ five_sized five)

  -- with any other number of words it is 1
  pub short_sized : (length index ≡ 5 → ⊥) → ◌≡◌ {A = ℕ} 1 sizes_number
  short_sized other = rw (ne_eqb (length index) 5 other)

  -- so a refusal that has its number has 1
  pub sized_one : (why : Refusal) → number why ≡ sizes_number → number why ≡ 1
  sized_one why is = is ∙ only_one short unsized (λ none. number_some why (is ∙ none))

  -- where they are right, there are five words, and floor and board fit together
  pub right_both : sizes_number ≡ 0 → (length index ≡ 5) × Right f board
  unfolding wrong_sizes
  right_both none =
      let neither = no_first short unsized none in
      (eqb-true (length index) 5 (not-false _ neither.0), right_sizes f board listed neither.1)

  module _ (i : ℕ) (w : Worker) where
    -- where they are wrong, a turn and a retiring have 1
    pub turn_first : (sizes_number ≡ 0 → ⊥) → hall_turn_number f board index listed i w ≡ 1
    unfolding hall_turn_number turn_number wrong_sizes
    turn_first some = first_number short unsized (each_number f board i w) (untrue_for f board index w) some

    pub retire_first : (sizes_number ≡ 0 → ⊥) → hall_retire_number f board index listed i w ≡ 1
    unfolding hall_retire_number retire_number wrong_sizes
    retire_first some =
        first_number short unsized (cond (no_worker f i) 2 (retire_refusal (bucket_for f board w.key) w)) (untrue_if_held f board index w) some

    -- and where they are right, 11 comes after the engine's number
    pub turn_after :
        sizes_number ≡ 0 → hall_turn_number f board index listed i w ≡ untrue_after (turn_number f board listed i w) (untrue_for f board index w)
    unfolding hall_turn_number
    turn_after none = rw (no_first short unsized none).0

    pub retire_after :
        sizes_number ≡ 0 → hall_retire_number f board index listed i w ≡ untrue_after (retire_number f board listed i w) (untrue_if_held f board index w)
    unfolding hall_retire_number
    retire_after none = rw (no_first short unsized none).0
