-- Where nothing is broken and the sizes are right, no call is refused by 1, 3, 7 or 11: which numbers of refusal are left, call by call.
-- Assumes nothing.
use Prim.Native.Nat.{ℕ, ◌≤◌, ◌<◌}
use mathlib.Core.Bool.{Bool, false, cond, not}
use mathlib.Core.List.{List, [], ◌∷◌}
use mathlib.Core.Logic.{inl, inr}
use mathlib.Core.Path.{◌≡◌, refl, ◌∙◌}
use native.Mathlib.Nat.{mod-lt}
use native.Mathlib.Omega.{arith}
use lib.Dec.{eqb, ltb}
use lib.ListN.{length}
use borrow.Author.Tests.{leb-false, lt-leb, le-ltb}
use Rattle.mark.proofs.Choices.{by_cases}
use Rattle.turn.specs.Worker.{no_slot, idle, is_idle}
use Rattle.turn.specs.Bucket.{broken_bucket}
use Rattle.turn.specs.Turn.{turn_refusal}
use Rattle.turn.specs.Retire.{retire_refusal}
use Rattle.turn.proofs.Kept.{not_idle, is_idle_lem, idle_kept}
use Rattle.engine.specs.declared.Floor.{Floor}
use Rattle.engine.proofs.AnyUnder.{any_clear}
use Rattle.engine.specs.Refusals.{wrong_floor, wrong_sizes, no_worker, bucket_for}
use Rattle.engine.specs.Refusals.{start_number, each_number, turn_number, retire_number, run_number, show_number, count_number}
use Rattle.engine.proofs.Sizes.{both_fail, right_sizes, right_listed}
use Rattle.engine.proofs.Keeps.{each_unrefused}
use Rattle.walks.specs.Calls.{not_small, orders_number}
use Rattle.walks.proofs.Classes.{all_sound}
use Rattle.hall.specs.Refusals.{hall_each_number, hall_turn_number, hall_retire_number, hall_run_number, question_number}
use Rattle.hall.proofs.Plain.{five_run}
use Rattle.hall.proofs.Same.{each_same, turn_same_number, retire_same_number}
use Rattle.history.specs.History.{State, listed_of}
use Rattle.history.specs.Numbers.{OneOf}
use Rattle.history.specs.Unbroken.{Unbroken}

-- ---- one of some numbers

-- a choice between two numbers is one of some, if each is where it is chosen
either_of : (ms : List ℕ) (t : Bool) (m n : ℕ) → OneOf ms m → (t ≡ false → OneOf ms n) → OneOf ms (cond t m n)
either_of ms t m n one other = by_cases (OneOf ms) t m n (λ is. one) other

-- ---- the numbers that are left

-- floor and board fit together where the list is tested too
floor_fits : (f : Floor) (board : List ℕ) (listed : ℕ) → wrong_sizes f board listed ≡ false → wrong_floor f board ≡ false
unfolding wrong_sizes wrong_floor
floor_fits f board listed is = (both_fail _ _ is).0

module _ (s : State) (ok : Unbroken s) where
  -- the bucket of any lot is not broken
  lot_unbroken : (lot : ℕ) → broken_bucket (bucket_for s.floor s.board lot) ≡ false
  lot_unbroken lot = ok.buckets _ (mod-lt lot (right_sizes _ _ _ ok.sized).some_bucket)

  -- a start is accepted, or refused by 2, 4 or 5
  pub start_numbers :
      (i : ℕ) (late : Bool)
      → OneOf (0 ∷ 2 ∷ 4 ∷ 5 ∷ []) (start_number s.floor s.board (length s.records) i (listed_of s i) late)
  unfolding start_number wrong_sizes
  start_numbers i late =
      let w = listed_of s i in
      let left : List ℕ = 0 ∷ 2 ∷ 4 ∷ 5 ∷ [] in
      rw ok.sized
      (either_of left (no_worker s.floor i) 2 _ (inr (inl refl))
      (λ there. rw (ok.records i (leb-false _ _ there))
      (either_of left (not (is_idle w)) 4 _ (inr (inr (inl refl)))
      (λ idle. either_of left late 5 0 (inr (inr (inr (inl refl)))) (λ early. inl refl)))))

  -- the index makes no turn's number another
  pub each_index : (i : ℕ) → hall_each_number s.floor s.board s.index i (listed_of s i) ≡ each_number s.floor s.board i (listed_of s i)
  each_index i = each_same s.floor ok.reads i (listed_of s i) (right_sizes _ _ _ ok.sized)

  -- a turn of a run is done, or refused by 2 or 6
  each_plain : (i : ℕ) → OneOf (0 ∷ 2 ∷ 6 ∷ []) (each_number s.floor s.board i (listed_of s i))
  unfolding each_number turn_refusal
  each_plain i =
      let w = listed_of s i in
      let left : List ℕ = 0 ∷ 2 ∷ 6 ∷ [] in
      either_of left (no_worker s.floor i) 2 _ (inr (inl refl))
      (λ there. rw (ok.records i (leb-false _ _ there))
      (either_of left (is_idle w) 6 _ (inr (inr (inl refl))) (λ busy. rw (lot_unbroken w.key) (inl refl))))

  pub each_numbers : (i : ℕ) → OneOf (0 ∷ 2 ∷ 6 ∷ []) (hall_each_number s.floor s.board s.index i (listed_of s i))
  each_numbers i = rw (each_index i) (each_plain i)

  module _ (i : ℕ) (under : i < s.floor.workers) where
    -- a turn of a busy worker is never refused
    pub busy_moves : (listed_of s i ≡ idle → ⊥) → hall_each_number s.floor s.board s.index i (listed_of s i) ≡ 0
    busy_moves busy =
        let w = listed_of s i in
        each_index i
        ∙ each_unrefused s.floor s.board i w under (ok.records i under) (not_idle w busy) (lot_unbroken w.key)

    -- a turn of an idle worker is refused by 6
    idle_plain : listed_of s i ≡ idle → each_number s.floor s.board i (listed_of s i) ≡ 6
    unfolding each_number turn_refusal
    idle_plain is = rw (lt-leb s.floor.workers i under, is, idle_kept, is_idle_lem)

    pub idle_stays : listed_of s i ≡ idle → hall_each_number s.floor s.board s.index i (listed_of s i) ≡ 6
    idle_stays is = each_index i ∙ idle_plain is

    -- the start of an idle worker is accepted, unless its ticket is spent
    pub idle_starts : (late : Bool) → listed_of s i ≡ idle → late ≡ false → start_number s.floor s.board (length s.records) i (listed_of s i) late ≡ 0
    unfolding start_number wrong_sizes
    idle_starts late is early = rw (ok.sized, lt-leb s.floor.workers i under, is, idle_kept, is_idle_lem, early)

  -- a turn call is done, or refused by 2 or 6
  pub turn_numbers : (i : ℕ) → OneOf (0 ∷ 2 ∷ 6 ∷ []) (hall_turn_number s.floor s.board s.index (length s.records) i (listed_of s i))
  unfolding turn_number
  turn_numbers i = rw (turn_same_number s.floor ok.reads (length s.records) i (listed_of s i), ok.sized) (each_plain i)

  -- a retiring is done, or refused by 2 or 6
  pub retire_numbers : (i : ℕ) → OneOf (0 ∷ 2 ∷ 6 ∷ []) (hall_retire_number s.floor s.board s.index (length s.records) i (listed_of s i))
  unfolding retire_number retire_refusal
  retire_numbers i =
      let w = listed_of s i in
      let left : List ℕ = 0 ∷ 2 ∷ 6 ∷ [] in
      rw (retire_same_number s.floor ok.reads (length s.records) i w, ok.sized)
      (either_of left (no_worker s.floor i) 2 _ (inr (inl refl))
      (λ there. rw (ok.records i (leb-false _ _ there))
      (either_of left (is_idle w) 6 _ (inr (inr (inl refl)))
      (λ busy. rw (lot_unbroken w.key) (either_of left (eqb w.held no_slot) 0 0 (inl refl) (λ held. inl refl))))))

  -- a busy worker's retiring is never refused
  pub busy_retires :
      (i : ℕ)
      → i < s.floor.workers
      → (listed_of s i ≡ idle → ⊥)
      → hall_retire_number s.floor s.board s.index (length s.records) i (listed_of s i) ≡ 0
  unfolding retire_number retire_refusal
  busy_retires i under busy =
      let w = listed_of s i in
      rw (retire_same_number s.floor ok.reads (length s.records) i w, ok.sized, lt-leb s.floor.workers i under, ok.records i under, not_idle w busy, lot_unbroken w.key)
      (by_cases (λ (n : ℕ). n ≡ 0) (eqb w.held no_slot) 0 0 (λ none. refl) (λ held. refl))

  -- a run is refused as a whole by 9 only
  pub run_numbers : (turns : List ℕ) → OneOf (0 ∷ 9 ∷ []) (hall_run_number s.floor s.board s.index (length s.records) turns)
  unfolding run_number wrong_sizes
  run_numbers turns = rw (five_run s.floor s.board s.index (length s.records) turns ok.reads.five, ok.sized) (either_of (0 ∷ 9 ∷ []) (ltb 65535 (length turns)) 9 0 (inr (inl refl)) (λ few. inl refl))

  -- a run that is not too long is not refused as a whole
  pub run_accepted : (turns : List ℕ) → length turns ≤ 65535 → hall_run_number s.floor s.board s.index (length s.records) turns ≡ 0
  unfolding run_number wrong_sizes
  run_accepted turns few = rw (five_run s.floor s.board s.index (length s.records) turns ok.reads.five, ok.sized, le-ltb 65535 (length turns) few)

  -- a show is never refused
  pub show_accepted : (lot : ℕ) → show_number s.floor s.board lot ≡ 0
  unfolding show_number
  show_accepted lot = rw (floor_fits _ _ _ ok.sized, lot_unbroken lot)

  -- a count is never refused
  pub count_accepted : count_number s.floor s.board ≡ 0
  unfolding count_number
  count_accepted = rw (floor_fits _ _ _ ok.sized, any_clear _ s.floor.buckets ok.buckets)

  -- a question is never refused
  pub question_accepted : question_number s.floor s.board s.index ≡ 0
  unfolding question_number
  question_accepted = rw (ok.reads.five, floor_fits _ _ _ ok.sized)

  -- all orders of a small class are never refused
  pub orders_accepted : (depth : ℕ) → not_small s.floor depth ≡ false → orders_number s.board s.floor s.records (length s.records) depth ≡ 0
  unfolding orders_number
  orders_accepted depth small =
      let is = right_listed _ _ _ ok.sized in
      let sound = all_sound s.records (λ i low. ok.records i (omega arith)) in
      rw (ok.sized, small, sound, ok.buckets 0 (right_sizes _ _ _ ok.sized).some_bucket) refl
