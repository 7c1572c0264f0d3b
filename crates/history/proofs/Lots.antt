-- On an opened board a count tells the lots at first and the commits, less the closes. The mark word of each bucket tells those of that bucket
-- (Versions), every entry is in one of the buckets, and so they add up as a count adds up the buckets. Assumes nothing.
use Prim.Native.Nat.{ℕ, zero, suc, ◌+◌, ◌-◌, ◌≤◌, ◌<◌}
use mathlib.Core.List.{List, [], ◌∷◌}
use mathlib.Core.Path.{◌≡◌, refl, ap, ◌∙◌}
use native.Mathlib.Decide.{ℕ_discrete}
use native.Mathlib.Nat.{mod-lt}
use native.Mathlib.Omega.{arith}
use Rattle.engine.specs.Calls.{Lots}
use Rattle.engine.specs.Board.{lots_on}
use Rattle.engine.specs.Calls.{count_call}
use Rattle.floor.specs.Told.{count_told}
use Rattle.history.specs.Trace.{Entry, who, bucket_in, total}
use Rattle.history.specs.Counts.{commits_in, closes_in}
use Rattle.history.specs.History.{State, Call, buckets_of, state, trace}
use Rattle.history.specs.Lots.{CountTells}
use Rattle.history.proofs.View.{View, Walk, stays, starts, acts, worker}
use Rattle.history.proofs.States.{view}
use Rattle.history.proofs.Counts.{commit_of, close_of, in_bucket, in_bucket_lem, out_of_bucket, onto, total_onto}
use Rattle.history.proofs.Versions.{Tells}
use Rattle.history.proofs.Ready.{Ready, ready_right}
use Rattle.history.proofs.Walking.{history_walk}
use Rattle.history.proofs.Beginning.{history_good}
use Rattle.history.proofs.SameSizes.{state_buckets}
use Rattle.history.proofs.Unbroken.{state_unbroken}
use Rattle.history.proofs.Unrefused.{count_accepted}

-- ---- bucket by bucket

module _ (count : Entry → ℕ) where
  -- a number, for the entries of the first n buckets
  abbrev in_first : ℕ → Entry → ℕ
  in_first zero e = 0
  in_first (suc n) e = in_first n e + in_bucket n count e

  -- an entry of a later bucket does not count
  out_of_first : (n : ℕ) (e : Entry) → n ≤ bucket_in e → in_first n e ≡ 0
  out_of_first zero e past = refl
  out_of_first (suc n) e past = omega (arith, out_of_first n e (omega arith), out_of_bucket n count e (omega arith))

  -- an entry of one of the first n buckets counts once
  in_first_lem : (n : ℕ) (e : Entry) → bucket_in e < n → in_first n e ≡ count e
  in_first_lem zero e within = absurd (omega arith)
  in_first_lem (suc n) e within = by (ℕ_discrete (bucket_in e) n) (in_first_lem n e)
    where
      by : Dec (bucket_in e ≡ n) → (bucket_in e < n → in_first n e ≡ count e) → in_first n e + in_bucket n count e ≡ count e
      by (yes is) earlier = omega (arith, out_of_first n e (omega (arith, is)), in_bucket_lem n count e is)
      by (no other) earlier = omega (arith, earlier (omega arith), out_of_bucket n count e other)

  -- the total of no bucket
  first_none : (es : List Entry) → total (in_first 0) es ≡ 0
  unfolding total
  first_none [] = refl
  first_none (e ∷ es) = omega (arith, first_none es)

  -- the total of n buckets and one more
  first_next : (n : ℕ) (es : List Entry) → total (in_first (suc n)) es ≡ total (in_first n) es + total (in_bucket n count) es
  unfolding total
  first_next n [] = refl
  first_next n (e ∷ es) = omega (arith, first_next n es)

  -- on a board of n buckets every entry is in one of them
  first_all : {n : ℕ} {s t : View} {es : List Entry} {k : ℕ} → 0 < n → Walk n s es k t → total (in_first n) es ≡ total count es
  unfolding total
  first_all some stays = refl
  first_all some (starts start rest) = first_all some rest
  first_all {n} some (acts {s = s} {e = e} act rest) =
      let within : bucket_in e < n = omega (arith, act.bucket, mod-lt (worker s (who e)).key some) in
      omega (arith, in_first_lem n e within, first_all some rest)

-- ---- the lots of the first buckets

-- what the mark words tell one by one, a count tells of all of them
lots_tell :
    (first s : State) (past : List Entry) (n : ℕ)
    → ((b : ℕ) → b < n → Tells ((view first).marks b) b past ((view s).marks b))
    → lots_on s.board n + total (in_first close_of n) past ≡ lots_on first.board n + total (in_first commit_of n) past
unfolding lots_on
lots_tell first s past zero tells = omega (arith, first_none close_of past, first_none commit_of past)
lots_tell first s past (suc n) tells =
    omega (
      arith,
      first_next close_of n past,
      first_next commit_of n past,
      lots_tell first s past n (λ b under. tells b (omega arith)),
      (tells n (omega arith)).valid,
    )

-- ---- of a history

module _ {first : State} (ready : Ready first) (calls : List Call) where
  abbrev n : ℕ
  n = buckets_of first

  -- the entries of the first n buckets, the newest first, count for what all count for
  all_in : (count : Entry → ℕ) → total (in_first count n) (onto (trace first calls) []) ≡ total count (trace first calls)
  unfolding total
  all_in count =
      omega (arith, total_onto (in_first count n) (trace first calls) [], first_all count (ready_right ready).some_bucket (history_walk first calls))

  balance : lots_on (state first calls).board n + closes_in (trace first calls) ≡ lots_on first.board n + commits_in (trace first calls)
  balance =
      omega (arith, all_in close_of, all_in commit_of, lots_tell first (state first calls) _ n (history_good ready calls).tells)

  pub counted : count_call (state first calls).board (state first calls).floor ≡ Lots (lots_on (state first calls).board n)
  unfolding count_call
  counted = rw (count_accepted (state first calls) (state_unbroken ready calls), state_buckets first calls)

  -- on an opened board a count tells the lots at first and the commits, less the closes
  pub count_tells : CountTells first calls
  count_tells = record { covered = omega (arith, balance); told = counted ∙ ap Lots (omega (arith, balance)) }

  -- on an opened board `desk_count` refuses nothing, and hands that number to C
  pub library_count :
      count_told (count_call (state first calls).board (state first calls).floor)
      ≡ record { lots = lots_on first.board n + commits_in (trace first calls) - closes_in (trace first calls); refusal = 0 }
  library_count = ap count_told count_tells.told
