-- A retiring, done or refused, on what demand 3 goes by. Assumes nothing.
use Prim.Native.Nat.{ℕ, ◌<◌}
use mathlib.Core.List.{List}
use mathlib.Core.Bool.{cond}
use mathlib.Core.Path.{◌≡◌, refl, sym, ap, subst}
use native.Mathlib.Omega.{arith}
use lib.Dec.{eqb}
use lib.ListN.{length, length-map}
use borrow.Author.Tests.{eqb-true}
use Rattle.mark.proofs.Choices.{by_cases, passes}
use Rattle.turn.specs.declared.Worker.{Worker}
use Rattle.turn.specs.Retire.{Retired}
use Rattle.turn.specs.Worker.{idle}
use Rattle.turn.specs.Asleep.{awake}
use Rattle.turn.specs.Bucket.{cell, mark_cell}
use Rattle.turn.specs.Effects.{effect_of_retiring}
use Rattle.turn.specs.Turn.{After, after}
use Rattle.turn.specs.Retire.{not_retired, is_retired}
use Rattle.turn.proofs.Effects.{idle_aimed}
use Rattle.turn.proofs.Retiring.{Retirable, awake_retirable, retiring_moves}
use Rattle.engine.specs.Board.{bucket_of, bucket_at}
use Rattle.engine.specs.Refusals.{wrong_sizes, retire_number}
use Rattle.engine.specs.Calls.{vacated_on}
use Rattle.hall.specs.Refusals.{hall_retire_number}
use Rattle.hall.specs.Calls.{hall_retire}
use Rattle.engine.specs.Calls as Calls
use Rattle.engine.specs.Room.{Right}
use Rattle.engine.proofs.Sleeping.{record_awake, put_awake}
use Rattle.engine.proofs.Sizes.{right_listed}
use Rattle.engine.proofs.Retiring.{retire_accepted, vacated_word, vacated_others}
use Rattle.hall.proofs.Plain.{retire_none}
use Rattle.history.specs.Trace.{Retiring, retired}
use Rattle.history.specs.Counts.{is_change}
use Rattle.history.specs.History.{State, listed_of, record_of, retire_by, retired_as, retire_entry}
use Rattle.history.proofs.Lawful.{committed, closed}
use Rattle.history.proofs.Counts.{retiring_is, retiring_bumps, retiring_quiet}
use Rattle.history.proofs.View.{Acts, Walk, stays, acts}
use Rattle.history.proofs.States.{view, same_walk}

module _ (s : State) (i : ℕ) where
  abbrev w : Worker
  w = record_of s i

  abbrev b : ℕ
  b = bucket_of w.key s.floor.buckets

  -- its number of refusal
  abbrev pub number : ℕ
  number = hall_retire_number s.floor s.board s.index (length s.records) i (listed_of s i)

  -- what it leaves and hands back where it is done
  abbrev pub done : After Retired
  done = after (vacated_on s.floor s.board w) is_retired

  abbrev pub entry : Retiring
  entry = record { worker = i; was = w; bucket = b }

  -- done or refused, it is this
  pub retired_is : retire_by s i ≡ cond (eqb number 0) done (after s.board (not_retired number (listed_of s i)))
  unfolding hall_retire Calls.retired
  retired_is = rw (record_awake s.records i)

  -- where it is not refused, the engine does not refuse it
  plain : number ≡ 0 → retire_number s.floor s.board (length s.records) i (listed_of s i) ≡ 0
  plain = retire_none s.floor s.board s.index i (listed_of s i) (length s.records)

  -- so there is a record for each worker
  listed : number ≡ 0 → length s.records ≡ s.floor.workers
  unfolding retire_number
  listed none = right_listed s.floor s.board _ (passes (wrong_sizes s.floor s.board _) 0 _ (plain none)).0

  -- and it is accepted, on a board that fits the floor, for a worker that there is
  pub retire_known : number ≡ 0 → Right s.floor s.board × Retirable (bucket_at s.board b) w × (i < s.floor.workers)
  retire_known none =
      let known = retire_accepted s.floor s.board (length s.records) i (listed_of s i) (plain none) in
      (known.0, rw (record_awake s.records i) (awake_retirable _ _ known.1), known.2)

  -- and it is done: it acts on what demand 3 goes by
  pub retire_acts : number ≡ 0 → Acts s.floor.buckets (view s) (retired entry) idle (view (retired_as s i done))
  retire_acts none =
      let known = retire_known none in
      record {
        effect = effect_of_retiring w;
        commits = retiring_quiet w committed refl refl;
        closes = retiring_quiet w closed refl refl;
        changes = retiring_is w (is_change (retired entry));
        bumps = retiring_bumps w (is_change (retired entry));
        within = rw (length-map s.records awake) (omega (arith, listed none, known.2));
        records = put_awake s.records i idle refl;
        bucket = refl;
        was = refl;
        here = vacated_word s.floor s.board w known.0 known.1;
        there = λ c other. ap (λ (l : List ℕ). cell l mark_cell) (vacated_others s.floor s.board w known.0 c other);
        moves = retiring_moves _ w known.1 _;
        aims = λ aimed. idle_aimed;
        tells = record { effect_is = refl; idles = refl };
      }

  -- done or refused, a retiring is a walk of its entries
  pub retire_walk : Walk s.floor.buckets (view s) (retire_entry s i (retire_by s i)) 0 (view (retired_as s i (retire_by s i)))
  retire_walk =
      let Goes : After Retired → Type 0 = λ x. Walk s.floor.buckets (view s) (retire_entry s i x) 0 (view (retired_as s i x)) in
      subst Goes (sym retired_is)
      (by_cases Goes (eqb number 0) done (after s.board (not_retired number (listed_of s i)))
      (λ is. acts (retire_acts (eqb-true number 0 is)) stays) (λ isnot. rw isnot (same_walk s.floor.buckets s i s.index)))
