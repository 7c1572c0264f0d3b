-- The calls of a trace that ended, sorted by their moments: each is there once, in the order of the moments, and calls that did not overlap
-- keep their order. Assumes nothing.
use Prim.Native.Nat.{ℕ, ◌≤◌, ◌<◌}
use mathlib.Core.List.{List, [], ◌∷◌}
use mathlib.Core.Logic.{inl, inr}
use mathlib.Core.Path.{◌≡◌, refl, sym, ap, subst}
use native.Mathlib.Omega.{arith}
use lib.ListN.{length}
use Rattle.history.specs.Trace.{Entry}
use Rattle.clerk.specs.Calls.{EndedCall, IsCallOf}
use Rattle.walks.specs.Lists.{Each, Has, Ordered}
use Rattle.clerk.specs.Sequence.{Placed, DoneAt, Precedes}
use Rattle.walks.proofs.Lists.{each_both, each_then, each_in, each_has, ordered_then}
use Rattle.clerk.proofs.Enumerated.{calls_of, each_is_call, call_counted, one_after_another, ends_within, first_before_last}
use Rattle.clerk.proofs.Moments.{moment_of, at_moment, MomentFound, done_at}
use Rattle.clerk.proofs.Sorted.{placed_from, Among, Follows, from_each, from_has, from_ordered}

-- the calls of a trace that ended, sorted by their moments
abbrev pub sequence_of : List Entry → List Placed
sequence_of trace = placed_from (moment_of trace) 1 (length trace) (calls_of trace)

-- ---- calls that did not overlap

module _ (trace : List Entry) (c d : EndedCall) (before : c.last < d.first) where
  -- a call that ended before another's first turn comes before it in every sequence that is sorted by moments
  earlier_first :
      (xs : List Placed)
      → Ordered (λ x y. x.moment ≤ y.moment) xs
      → Each (DoneAt trace) xs
      → Has (λ x. x.call ≡ c) xs
      → Has (λ x. x.call ≡ d) xs
      → Precedes c d xs
  earlier_first [] sorted done has-c has-d = absurd has-c
  earlier_first (x ∷ xs) sorted done (inl is_c) (inl is-d) =
      absurd (let starts = ap (λ (k : EndedCall). k.first) is-d in
      let ends = ap (λ (k : EndedCall). k.last) is_c in omega (arith, done.0.within.from, done.0.within.to))
  earlier_first (x ∷ xs) sorted done (inl is_c) (inr has-d) =
      record { older = []; one = x; newer = xs; cut = refl; is = is_c; then = has-d }
  earlier_first (x ∷ xs) sorted done (inr has-c) (inl is-d) =
      let later = each_has (λ y. (x.moment ≤ y.moment) × DoneAt trace y) (λ y. y.call ≡ c) xs
      (each_both (λ y. x.moment ≤ y.moment) (DoneAt trace) xs sorted.0 done.1) has-c in
      absurd (let ends = ap (λ (k : EndedCall). k.last) later.2 in
      let starts = ap (λ (k : EndedCall). k.first) is-d in omega (arith, done.0.within.from, later.1.0, later.1.1.within.to))
  earlier_first (x ∷ xs) sorted done (inr has-c) (inr has-d) =
      let rest = earlier_first xs sorted.1 done.1 has-c has-d in
      record {
        older = x ∷ rest.older;
        one = rest.one;
        newer = rest.newer;
        cut = ap (λ (l : List Placed). x ∷ l) rest.cut;
        is = rest.is;
        then = rest.then;
      }

-- ---- calls that have moments

module _ (trace : List Entry) (moments : Each (MomentFound trace) (calls_of trace)) where
  abbrev moment : EndedCall → ℕ
  moment = moment_of trace

  -- each call that is counted up is done at its moment
  pub each_done : Each (λ c. DoneAt trace (at_moment trace c)) (calls_of trace)
  each_done =
      each_then (λ c. IsCallOf trace c × MomentFound trace c) (λ c. DoneAt trace (at_moment trace c)) (λ c both. done_at trace c both.0 both.1)
      (calls_of trace) (each_both (IsCallOf trace) (MomentFound trace) (calls_of trace) (each_is_call trace) moments)

  -- each in the sequence is a call of the trace at a moment of its own
  pub calls : Each (DoneAt trace) (sequence_of trace)
  calls =
      each_then (Among moment (λ c. DoneAt trace (at_moment trace c)) 1 (length trace)) (DoneAt trace) by (sequence_of trace)
      (from_each moment (λ c. DoneAt trace (at_moment trace c)) (length trace) 1 (calls_of trace) each_done)
    where
      by : (x : Placed) → Among moment (λ c. DoneAt trace (at_moment trace c)) 1 (length trace) x → DoneAt trace x
      by x at = subst (λ (m : ℕ). DoneAt trace (record { call = x.call; moment = m })) (sym at.1) at.0

  -- every call of the trace that ended is in the sequence
  pub every : (c : EndedCall) → IsCallOf trace c → Has (λ x. x.call ≡ c) (sequence_of trace)
  every c is =
      let in-it = call_counted trace c is in
      let done = each_in (λ d. DoneAt trace (at_moment trace d)) c (calls_of trace) each_done in-it in
      from_has moment c (length trace) 1 (calls_of trace) (omega (arith, done.within.from, (first_before_last trace c is).0))
      (omega (arith, done.within.to, ends_within trace c is)) in-it

  ordered : Ordered Follows (sequence_of trace)
  ordered = from_ordered moment (length trace) 1 (calls_of trace) (one_after_another trace)

  -- the sequence is sorted by moment
  pub sorted : Ordered (λ x y. x.moment ≤ y.moment) (sequence_of trace)
  sorted = ordered_then Follows (λ x y. x.moment ≤ y.moment) (λ x y both. both.0) (sequence_of trace) ordered

  -- no call is in the sequence twice
  pub once : Ordered (λ x y. x.call ≡ y.call → ⊥) (sequence_of trace)
  once = ordered_then Follows (λ x y. x.call ≡ y.call → ⊥) (λ x y both. both.1) (sequence_of trace) ordered

  -- a call that ended before another's first turn comes before it
  pub in_order : (c d : EndedCall) → IsCallOf trace c → IsCallOf trace d → c.last < d.first → Precedes c d (sequence_of trace)
  in_order c d is_c is-d before = earlier_first trace c d before (sequence_of trace) sorted calls (every c is_c) (every d is-d)
