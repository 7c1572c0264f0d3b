-- Retiring on every opened board: whoever is at a call can be retired, nothing else is touched, and a container that comes back after all finds
-- its word never again. Assumes nothing.
use Prim.Native.Nat.{ℕ, ◌+◌, ◌%◌, ◌≤◌, ◌<◌}
use mathlib.Core.List.{List, [], ◌∷◌, ◌++◌, map}
use mathlib.Core.Path.{◌≡◌, refl, ap, ◌∙◌}
use native.Mathlib.Decide.{ℕ_discrete, dec_le}
use native.Mathlib.Nat.{mod-lt}
use native.Mathlib.Omega.{arith}
use lib.ListN.{length, length-map, get_or-eq_default}
use lib.Seq.{get_or-set_same, get_or-set_other}
use Rattle.mark.specs.Word.{version, next_version}
use Rattle.mark.proofs.Fields.{version_set, version_lt}
use Rattle.turn.specs.declared.Worker.{Worker}
use Rattle.turn.specs.Worker.{no_slot, idle}
use Rattle.turn.specs.Asleep.{awake}
use Rattle.turn.specs.Bucket.{mark_cell}
use Rattle.turn.proofs.Retiring.{retire_version, retires_holder}
use Rattle.engine.specs.Calls.{blank, record_in}
use Rattle.engine.proofs.Sizes.{right_listed}
use Rattle.history.specs.Trace.{Entry, retired, total}
use Rattle.history.specs.Counts.{is_change}
use Rattle.history.specs.History.{State, Call, workers_of, buckets_of, record_of, retire_by, retired_as, after, trace_from, state, trace, FewInserts}
use Rattle.history.specs.History as History
use Rattle.history.specs.Cells.{cells_at, mark_word_at, Holds}
use Rattle.history.specs.HowLong.{IsIdle}
use Rattle.history.specs.Retirings.{bucket_of_worker, GivesBack, IsRetired, Retirings}
use Rattle.history.proofs.Counts.{bump_of, in_bucket, in_bucket_lem, in_bucket_le, one_yes, total_append, onto, total_onto}
use Rattle.history.proofs.Listed.{listed_within, idle_up}
use Rattle.history.proofs.Retiring as Going
use Rattle.history.proofs.Steps.{Retires, done_retires}
use Rattle.history.proofs.Cells.{holds_busy, by_word_left, retire_empties, retire_spares}
use Rattle.history.proofs.Histories.{trace_from_append}
use Rattle.history.proofs.Ready.{Ready, ready_right}
use Rattle.history.proofs.Beginning.{history_good}
use Rattle.history.proofs.Paid.{few_bumps}
use Rattle.history.proofs.SameSizes.{state_workers, state_buckets}
use Rattle.history.proofs.Unbroken.{state_unbroken}
use Rattle.history.proofs.Unrefused.{busy_retires}

-- ---- one retiring

module _ {s : State} (i : ℕ) (act : Retires s (Going.entry s i) (retired_as s i (Going.done s i))) where
  abbrev t : State
  t = retired_as s i (Going.done s i)

  abbrev w : Worker
  w = record_of s i

  abbrev b : ℕ
  b = bucket_of_worker s i

  -- where no slot is held the mark word is as it was
  word_stays : (Holds w → ⊥) → mark_word_at t b ≡ mark_word_at s b
  word_stays free =
      by_word_left act (λ (m : ℕ). m ≡ mark_word_at s b) (λ none. refl) (λ some few. absurd (free (retires_holder _ w act.ok some)))

  cells_stay : (c k : ℕ) → (Holds w → c ≡ b → k ≡ mark_cell → ⊥) → cells_at t c k ≡ cells_at s c k
  cells_stay c k apart = by (ℕ_discrete k mark_cell) (ℕ_discrete c b)
    where
      by : Dec (k ≡ mark_cell) → Dec (c ≡ b) → cells_at t c k ≡ cells_at s c k
      by (no beside) bucket = act.cells c k beside
      by (yes mark) (no elsewhere) = rw mark (act.acts.there c elsewhere)
      by (yes mark) (yes here) = rw (mark, here) (word_stays (λ holds. apart holds here mark))

  module _ (holds : Holds w) where
    some_slot : w.held ≡ no_slot → ⊥
    some_slot is = omega (arith, is, holds.1)

    version_then : version (mark_word_at t b) ≡ next_version (version (mark_word_at s b))
    version_then =
        by_word_left act (λ (m : ℕ). version m ≡ next_version (version (mark_word_at s b))) (λ none. absurd (some_slot none))
        (λ some few. retire_version w.held _)

    gives_back : GivesBack s i t
    gives_back =
        record {
          empties = retire_empties act some_slot;
          moves = version_then;
          marks = λ p other. retire_spares act b p (λ some here same. other same);
        }

  is_retired_lem : IsRetired s i t
  is_retired_lem =
      record {
        idles = get_or-set_same s.records i idle blank (listed_within s i act.acts.within);
        others = λ j other. get_or-set_other s.records i j idle blank other;
        floor = refl;
        cells = cells_stay;
        gives_back = gives_back;
      }

-- whoever holds a slot has a record in the list
holds_within : (records : List Worker) (i : ℕ) → Holds (record_in records i) → i < length records
holds_within records i holds = by (dec_le (length records) i)
  where
    by : Dec (length records ≤ i) → i < length records
    by (no under) = omega arith
    by (yes past) = absurd (omega (arith, holds.0, ap (λ (w : Worker). w.kind) (get_or-eq_default records blank {n = i} past)))

-- ---- histories

module _ {first : State} (ready : Ready first) (calls : List Call) where
  abbrev s : State
  s = state first calls

  module _ (i : ℕ) (under : i < workers_of first) (busy : IsIdle s i → ⊥) where
    unrefused : Going.number s i ≡ 0
    unrefused = busy_retires s (state_unbroken ready calls) i (omega (arith, under, state_workers first calls)) busy

    retires : Retires s (Going.entry s i) (retired_as s i (Going.done s i))
    retires = done_retires s i unrefused

    -- what the engine says of the retiring
    done_is : retire_by s i ≡ Going.done s i
    done_is = Going.retired_is s i ∙ rw unrefused

    -- its entry
    entry_is : History.entries s (History.retire i) ≡ retired (Going.entry s i) ∷ []
    entry_is = rw done_is

  module _ (i : ℕ) (holds : Holds (record_of s i)) (later : List Call) (fewer : FewInserts first (calls ++ (History.retire i ∷ later))) where
    abbrev holder : Worker
    holder = record_of s i

    abbrev bucket : ℕ
    bucket = bucket_of_worker s i

    abbrev then : List Call
    then = calls ++ (History.retire i ∷ later)

    abbrev since : List Entry
    since = trace_from (after s (History.retire i)) later

    abbrev left : Entry
    left = retired (Going.entry s i)

    there : i < workers_of first
    there = omega (arith, holds_within (map awake s.records) i holds, length-map s.records awake, right_listed _ _ _ (state_unbroken ready calls).sized, state_workers first calls)

    busy : IsIdle s i → ⊥
    busy rests = holds_busy _ holds (idle_up s i rests)

    trace_is : trace first then ≡ trace first calls ++ (left ∷ since)
    unfolding trace_from
    trace_is =
        trace_from_append first calls (History.retire i ∷ later)
        ∙ ap (λ (es : List Entry). trace first calls ++ (es ++ since)) (entry_is i there busy)

    -- a count over all that was done, cut at the retiring
    counted : (f : Entry → ℕ) → total f (onto (trace first then) []) ≡ total f (onto (trace first calls) []) + (f left + total f since)
    unfolding total
    counted f =
        omega (
          arith,
          total_onto f (trace first then) [],
          total_onto f (trace first calls) [],
          ap (total f) trace_is,
          total_append f (trace first calls) (left ∷ since),
        )

    one : bump_of left ≡ 1
    one = one_yes (is_change left) (some_slot i (retires i there busy) holds)

    -- The version of the bucket is as much further than the holder's word as it was when the holder was retired, one more, and what moved it
    -- since: together no more than was ever moved, and so, where inserts are few, less than 2^32.
    further : version (mark_word_at (state first then) bucket) ≡ version holder.word → ⊥
    unfolding total
    further same =
        let was = history_good ready calls in
        let now = history_good ready then in
        let few : bucket < buckets_of first =
        rw (state_buckets first calls) (mod-lt holder.key (ready_right ready).some_bucket) in
        let behind = was.behind i holds in
        let home_is = ap (λ (k : ℕ). version (mark_word_at s (holder.key % k))) (state_buckets first calls) in
        omega (
          arith,
          same,
          (was.tells bucket few).bumps,
          (now.tells bucket few).bumps,
          behind.few,
          behind.moved,
          home_is,
          counted (in_bucket bucket bump_of),
          counted bump_of,
          in_bucket_lem bucket bump_of left refl,
          one,
          in_bucket_le bucket bump_of since,
          total_onto bump_of (trace first then) [],
          few_bumps ready then fewer,
          version_lt holder.word,
        )

  -- §19: retirings on an opened board
  pub retirings : Retirings first calls
  retirings =
      record {
        accepted = λ i under busy. rw (done_is i under busy);
        retired = λ i under busy. rw (done_is i under busy) (is_retired_lem i (retires i under busy));
        never_again = λ i holds later few is.
            further i holds later few (ap version is ∙ version_set (record_of s i).word (record_of s i).held 2);
      }
