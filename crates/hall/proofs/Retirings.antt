-- The promise of a retiring, from what its tests and calls came to. Assumes nothing.
use Prim.Native.Nat.{ℕ, ◌≤◌}
use mathlib.Core.Bool.{true, false}
use mathlib.Core.List.{List}
use mathlib.Core.Path.{◌≡◌, refl, sym, ap, ◌∙◌}
use native.Mathlib.Decide.{ℕ_discrete}
use native.Mathlib.Nat.{mod-lt}
use native.Mathlib.Omega.{arith}
use lib.Dec.{eqb}
use lib.ListN.{length}
use Rattle.std.proofs.Common.{Result, Ok, Err}
use borrow.Author.Tests.{ne_eqb, eqb-false}
use Rattle.mark.proofs.Choices.{by_cases}
use Rattle.turn.specs.declared.Worker.{Worker}
use Rattle.turn.specs.declared.refusal.Refusal.{Refusal}
use Rattle.turn.specs.Number.{number, result_number}
use Rattle.turn.specs.Retire.{Retired}
use Rattle.turn.proofs.Refusing.{number_some, retired_told}
use Rattle.turn.specs.Worker.{no_slot}
use Rattle.turn.specs.Bucket.{cell, mark_cell}
use Rattle.turn.specs.Turn.{After, after}
use Rattle.turn.specs.Retire.{retired_as}
use Rattle.engine.specs.declared.Seat.{Seat}
use Rattle.engine.specs.declared.Touched.{Touched}
use Rattle.engine.specs.Board.{bucket_of}
use Rattle.engine.specs.Refusals.{bucket_for, retire_number}
use Rattle.engine.specs.Room.{Right}
use Rattle.engine.specs.Promises.{BucketTouched}
use Rattle.engine.specs.Calls.{vacated_on, retired, retire_call}
use Rattle.engine.proofs.Sizes.{fits_still}
use Rattle.engine.proofs.Retiring.{refused_retired, retired_number, vacated_nothing, vacated_board_long}
use Rattle.hall.specs.Index.{total_in, valid_in, followed}
use Rattle.hall.specs.Refusals.{untrue_after, untrue_if_held, hall_retire_number}
use Rattle.hall.specs.Calls.{hall_retire, retired_index}
use Rattle.hall.specs.Promises.{RetireKept}
use Rattle.hall.proofs.Agrees.{agrees}
use Rattle.hall.proofs.Numbers.{sizes_number, sized_one, retire_first, retire_after, right_both, untrue_none, touched_is}
use Rattle.hall.proofs.Turns.{Followable}

module _ (board index : List ℕ) (s : Seat) (w : Worker) where
  abbrev pub sizes : ℕ
  sizes = sizes_number s.floor board index s.listed

  abbrev told : ℕ
  told = retire_number s.floor board s.listed s.worker w

  -- the promise, from the equation of board and answer
  kept_so :
      (later index' : List ℕ) (r : Result Worker Refusal)
      → after later (retired_as w r) ≡ hall_retire board index s w
      → index' ≡ retired_index s.floor board index w (result_number r)
      → RetireKept board index s w later index' r
  unfolding hall_retire
  kept_so later index' r whole kept =
      record {
        whole = whole;
        kept = kept;
        number =
            sym (retired_told w r)
            ∙ ap (λ (x : After Retired). x.handed.refusal) whole
            ∙ retired_number (hall_retire_number s.floor board index s.listed s.worker w) s.floor board w;
      }

  -- a retiring that is refused with the number that it has
  refuses : (why : Refusal) → number why ≡ hall_retire_number s.floor board index s.listed s.worker w → RetireKept board index s w board index (Err why)
  unfolding hall_retire
  refuses why is =
      let some = ne_eqb (number why) 0 (number_some why) in
      kept_so board index (Err why) (rw (← is) (refused_retired (number why) s.floor board w _ some refl)) (rw some)

  -- the sizes are wrong
  pub wrong_retiring : (why : Refusal) → number why ≡ sizes → RetireKept board index s w board index (Err why)
  wrong_retiring why is =
      refuses why (sized_one s.floor board index s.listed why is ∙ sym (retire_first s.floor board index s.listed s.worker w (λ none. number_some why (is ∙ none))))

  module _ (sized : sizes ≡ 0) where
    pub both : (length index ≡ 5) × Right s.floor board
    both = right_both s.floor board index s.listed sized

    abbrev fits : Right s.floor board
    fits = both.1

    -- the index is untrue
    pub untrue_retiring :
        (why : Refusal) → untrue_if_held s.floor board index w ≡ true → number why ≡ untrue_after told true → RetireKept board index s w board index (Err why)
    untrue_retiring why is number_is = refuses why (rw (retire_after s.floor board index s.listed s.worker w sized, is) number_is)

    -- the index is true, and the worker was to be retired
    module _ (later : List ℕ) (r : Result Worker Refusal) (is : untrue_if_held s.floor board index w ≡ false)
        (whole : after later (retired_as w r) ≡ retire_call board s w) where
      same_whole : after later (retired_as w r) ≡ hall_retire board index s w
      unfolding hall_retire retire_call
      same_whole = rw (retire_after s.floor board index s.listed s.worker w sized, is, untrue_none told) whole

    pub refused_retiring :
        (later : List ℕ) (why : Refusal)
        → untrue_if_held s.floor board index w ≡ false
        → after later (retired_as w (Err why)) ≡ retire_call board s w
        → RetireKept board index s w later index (Err why)
    refused_retiring later why is whole =
        kept_so later index (Err why) (same_whole later (Err why) is whole) (rw (ne_eqb (number why) 0 (number_some why)))

    module _ (later : List ℕ) (v : Worker) (is : untrue_if_held s.floor board index w ≡ false)
        (whole : after later (retired_as w (Ok v)) ≡ retire_call board s w) where
      -- done, it leaves the held slot empty, and the index follows
      module _ (before after-that : Touched) (met : BucketTouched board s.floor w.key before)
          (met-again : BucketTouched later s.floor w.key after-that) where
        left_is : later ≡ vacated_on s.floor board w
        unfolding retire_call retired
        left_is =
            by_cases (λ (x : After Retired). after later (retired_as w (Ok v)) ≡ x → later ≡ vacated_on s.floor board w) (eqb told 0) _ _
            (λ zero same. ap (λ (x : After Retired). x.words) same)
            (λ other same. absurd (eqb-false told 0 other (sym (ap (λ (x : After Retired). x.handed.refusal) same))))
            whole

        old : (before.bucket ≡ bucket_of w.key s.floor.buckets) × (before.word ≡ cell (bucket_for s.floor board w.key) mark_cell)
        old = touched_is board s.floor w.key before fits met

        still : Right s.floor later
        still = fits_still s.floor board later fits (ap length left_is ∙ vacated_board_long s.floor board w fits)

        new : after-that.word ≡ cell (bucket_for s.floor later w.key) mark_cell
        new = (touched_is later s.floor w.key after-that still met-again).1

        pub done_retiring :
            (index' : List ℕ) → index' ≡ followed index before.bucket before.word after-that.word → RetireKept board index s w later index' (Ok v)
        done_retiring index' follows =
            let word-is = new ∙ ap (λ (l : List ℕ). cell (bucket_for s.floor l w.key) mark_cell) left_is in
            kept_so later index' (Ok v) (same_whole later (Ok v) is whole) (follows ∙ (λ i. followed index (old.0 i) (old.1 i) (word-is i)))

        -- who holds nothing leaves the word
        pub done_follows : Followable index before.bucket before.word after-that.word
        done_follows = (omega (arith, old.0, mod-lt w.key fits.some_bucket, fits.buckets), by (ℕ_discrete w.held no_slot))
          where
            by :
                Dec (w.held ≡ no_slot)
                → (before.word ≡ after-that.word → ⊥)
                → (valid_in before.word ≤ total_in index) × (total_in index ≤ 768)
            by (yes nothing) changed =
                let as_it_was = left_is ∙ vacated_nothing s.floor board w nothing in
                absurd (changed (old.1 ∙ sym (new ∙ ap (λ (l : List ℕ). cell (bucket_for s.floor l w.key) mark_cell) as_it_was)))
            by (no some) changed =
                let ok = agrees _ _ _ _ (rw (ne_eqb w.held no_slot some) at is) in
                (rw old.1 ok.enough, omega (arith, ok.few, fits.buckets))
