-- How many turns of its call a worker has had, told from the trace. Assumes nothing.
use Prim.Native.Nat.{ℕ, ◌+◌}
use mathlib.Core.List.{List, [], ◌∷◌, ◌++◌}
use mathlib.Core.Logic.{◌⊎◌, inl, inr}
use mathlib.Core.Path.{◌≡◌, refl, ap, ◌∙◌}
use native.Mathlib.Decide.{ℕ_discrete}
use native.Mathlib.Omega.{arith}
use Rattle.turn.specs.declared.Progress.{Progress}
use Rattle.turn.specs.declared.Progress.TheVariants.{GoesOn, Ended}
use Rattle.history.specs.Trace.{Turn, Entry, acted, retired, who, By, Continues, Ends, OwnEnd, None, total}
use Rattle.history.specs.Counts.{one_if}
use Rattle.history.specs.InCall.{AtRest, InCall, own_turns, number_in_call}
use Rattle.history.proofs.Cuts.{some_here, some_later, some_as}

-- with a turn more: one more of its call, none where it ended the call
abbrev goes_to : ℕ → Progress → ℕ
goes_to k GoesOn = k + 1
goes_to k (Ended answer) = 0

-- with an entry more, as many where it is another worker's; who is retired has had none
abbrev pub next_to : {A : Type 0} → ℕ → Dec A → Entry → ℕ
next_to k (no other) e = k
next_to k (yes own) (acted e) = goes_to k e.report.progress
next_to k (yes own) (retired r) = 0

-- a turn with an answer has ended its call
pub answered_ends : (e : Turn) (answer : ℕ) → e.report.progress ≡ Ended answer → Ends (acted e)
answered_ends e answer is goes = let z : ◌≡◌ {A = ℕ} 0 1 = cc in omega arith

-- an entry by which its worker's call goes on, or is over
pub goes_or_ends : (e : Entry) → Continues e ⊎ Ends e
goes_or_ends (acted e) = by e.report.progress refl
  where
    by : (p : Progress) → e.report.progress ≡ p → Continues (acted e) ⊎ Ends (acted e)
    by GoesOn goes = inl goes
    by (Ended answer) ended = inr (answered_ends e answer ended)
goes_or_ends (retired r) = inr (λ goes. goes)

goes_next : (k : ℕ) (e : Entry) {A : Type 0} (own : A) → Continues e → next_to k (yes own) e ≡ k + 1
goes_next k (acted e) own goes = rw goes
goes_next k (retired r) own goes = absurd goes

ends_next : (k : ℕ) (e : Entry) {A : Type 0} (own : A) → Ends e → next_to k (yes own) e ≡ 0
ends_next k (acted e) own ends = by e.report.progress refl
  where
    by : (p : Progress) → e.report.progress ≡ p → goes_to k p ≡ 0
    by GoesOn goes = absurd (ends goes)
    by (Ended answer) ended = refl
ends_next k (retired r) own ends = refl

module _ (i : ℕ) where
  -- the turns of worker i's call, with this entry more
  abbrev pub one_more : ℕ → Entry → ℕ
  one_more k e = next_to k (ℕ_discrete (who e) i) e

  -- the turns of worker i since it last ended a call, where it has had k of them before
  unfoldable pub had_from : ℕ → List Entry → ℕ
  had_from k [] = k
  had_from k (e ∷ es) = had_from (one_more k e) es

  -- the later turns count from what the earlier ones leave
  pub had_append : (k : ℕ) (es fs : List Entry) → had_from k (es ++ fs) ≡ had_from (had_from k es) fs
  unfolding had_from
  had_append k [] fs = refl
  had_append k (e ∷ es) fs = had_append (one_more k e) es fs

  -- ---- a trace that is cut into a call

  -- what ends worker i's call leaves it no turn of one
  pub ended_now : (k : ℕ) (e : Entry) → By i e → Ends e → one_more k e ≡ 0
  ended_now k e own ends = by (ℕ_discrete (who e) i)
    where
      by : (d : Dec (By i e)) → next_to k d e ≡ 0
      by (no other) = absurd (other own)
      by (yes is) = ends_next k e is ends

  -- a turn of worker i by which its call goes on is one more
  pub goes_now : (k : ℕ) (e : Entry) → By i e → Continues e → one_more k e ≡ k + 1
  goes_now k e own goes = by (ℕ_discrete (who e) i)
    where
      by : (d : Dec (By i e)) → next_to k d e ≡ k + 1
      by (no other) = absurd (other own)
      by (yes is) = goes_next k e is goes

  -- what is another worker's leaves worker i as many
  pub others_now : (k : ℕ) (e : Entry) → (By i e → ⊥) → one_more k e ≡ k
  others_now k e other = by (ℕ_discrete (who e) i)
    where
      by : (d : Dec (By i e)) → next_to k d e ≡ k
      by (no isnot) = refl
      by (yes own) = absurd (other own)

  unended_now : (k : ℕ) (e : Entry) → (OwnEnd i e → ⊥) → one_more k e ≡ k + one_if (ℕ_discrete (who e) i)
  unended_now k e on = by (ℕ_discrete (who e) i) (goes_or_ends e)
    where
      by : (d : Dec (By i e)) → Continues e ⊎ Ends e → next_to k d e ≡ k + one_if d
      by (no other) how = omega arith
      by (yes own) (inl goes) = goes_next k e own goes
      by (yes own) (inr ends) = absurd (on (own, ends))

  -- where no turn of worker i ends its call, its turns are that many more
  had_more : (k : ℕ) (es : List Entry) → None (OwnEnd i) es → had_from k es ≡ k + own_turns i es
  unfolding had_from total
  had_more k [] none = omega arith
  had_more k (e ∷ es) none =
      let rest = had_more (one_more k e) es (λ some. none (some_later _ e es some)) in
      omega (arith, rest, unended_now k e (λ ends. none (some_here _ e es ends)))

  none_own : (es : List Entry) → None (By i) es → own_turns i es ≡ 0
  unfolding total
  none_own [] none = refl
  none_own (e ∷ es) none = omega (arith, none_own es (λ some. none (some_later _ e es some)), by (ℕ_discrete (who e) i))
    where
      by : (d : Dec (By i e)) → one_if d ≡ 0
      by (yes own) = absurd (none (some_here _ e es own))
      by (no other) = refl

  had_none : (k : ℕ) (es : List Entry) → None (By i) es → had_from k es ≡ k
  had_none k es none =
      omega (arith, had_more k es (λ some. none (some_as _ (By i) es some some.holds.0)), none_own es none)

  -- a worker at no call has had no turn of one
  rested_had : (es : List Entry) → AtRest i es → had_from 0 es ≡ 0
  unfolding had_from
  rested_had es (inl none) = had_none 0 es none
  rested_had es (inr cut) =
      ap (had_from 0) cut.cut
      ∙ had_append 0 cut.older (cut.entry ∷ cut.newer)
      ∙ ap (λ (k : ℕ). had_from k cut.newer) (ended_now (had_from 0 cut.older) cut.entry cut.holds.0 cut.holds.1)
      ∙ had_none 0 cut.newer cut.holds.2

-- a turn's number in its call is one more than the turns that its worker has had of it
pub in_call_had : {trace : List Entry} (at : InCall trace) → number_in_call at ≡ had_from at.turn.worker 0 (at.before ++ at.between) + 1
in_call_had at =
    let i = at.turn.worker in
    omega (
      arith,
      had_append i 0 at.before at.between,
      ap (λ (k : ℕ). had_from i k at.between) (rested_had i at.before at.rested),
      had_more i 0 at.between at.unended,
    )
