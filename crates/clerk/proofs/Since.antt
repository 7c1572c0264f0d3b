-- The first turn of the call that a worker has under way, told from the trace. Assumes nothing.
use Prim.Native.Nat.{ℕ, suc, ◌+◌, ◌≤◌}
use mathlib.Core.Bool.{cond}
use mathlib.Core.List.{List, [], ◌∷◌, ◌++◌}
use mathlib.Core.Logic.{◌⊎◌, inl, inr}
use mathlib.Core.Path.{◌≡◌, refl, sym, ap, ◌∙◌}
use native.Mathlib.Decide.{ℕ_discrete}
use native.Mathlib.Omega.{arith}
use lib.Dec.{eqb}
use lib.ListN.{length, length-append}
use borrow.Author.Tests.{ne_eqb}
use Rattle.mark.proofs.Choices.{by_cases}
use Rattle.turn.specs.declared.Progress.{Progress}
use Rattle.turn.specs.declared.Progress.TheVariants.{GoesOn, Ended}
use Rattle.history.specs.Trace.{Entry, acted, retired, who, By, Continues, Ends, OwnEnd, None}
use Rattle.history.specs.InCall.{AtRest}
use Rattle.history.proofs.Cuts.{some_here, some_later}
use Rattle.history.proofs.Numbered.{goes_or_ends}
use Rattle.clerk.specs.Calls.{EndedCall, IsCallOf, BeginsWith}

-- the first turn of the call that is under way, or turn n if none is
abbrev pub first_or : ℕ → ℕ → ℕ
first_or since n = cond (eqb since 0) n since

-- where a call is under way since turn k, that is its first turn
pub first_or_some : (k n : ℕ) → 1 ≤ k → first_or k n ≡ k
first_or_some k n some = rw (ne_eqb k 0 (λ none. omega arith))

-- since when a call is under way after turn n of its worker: one that goes on is of it, one that ends it leaves none
abbrev since_turn : ℕ → ℕ → Progress → ℕ
since_turn n k GoesOn = first_or k n
since_turn n k (Ended answer) = 0

-- since when it is under way after entry n: another worker's leaves it, and a retiring leaves none
abbrev since_next : {A : Type 0} → ℕ → ℕ → Dec A → Entry → ℕ
since_next n k (no other) e = k
since_next n k (yes own) (acted e) = since_turn n k e.report.progress
since_next n k (yes own) (retired r) = 0

next_goes : (n k : ℕ) (e : Entry) {A : Type 0} (own : A) → Continues e → since_next n k (yes own) e ≡ first_or k n
next_goes n k (acted e) own goes = rw goes
next_goes n k (retired r) own goes = absurd goes

next_ends : (n k : ℕ) (e : Entry) {A : Type 0} (own : A) → Ends e → since_next n k (yes own) e ≡ 0
next_ends n k (acted e) own ends = by e.report.progress refl
  where
    by : (p : Progress) → e.report.progress ≡ p → since_turn n k p ≡ 0
    by GoesOn goes = absurd (ends goes)
    by (Ended answer) over = refl
next_ends n k (retired r) own ends = refl

module _ (i : ℕ) where
  -- since when worker i has a call under way after this turn, which is turn n
  abbrev since_then : ℕ → ℕ → Entry → ℕ
  since_then n k e = since_next n k (ℕ_discrete (who e) i) e

  -- since when worker i has a call under way after turns from turn n on, where before them it had one since turn k
  abbrev since_from : ℕ → ℕ → List Entry → ℕ
  since_from n k [] = k
  since_from n k (e ∷ es) = since_from (suc n) (since_then n k e) es

  -- the number of the first turn of the call that worker i has under way after these turns, or 0 if it has none
  unfoldable pub since : List Entry → ℕ
  since past = since_from 1 0 past

  -- ---- one turn

  then_other : (n k : ℕ) (e : Entry) → (By i e → ⊥) → since_then n k e ≡ k
  then_other n k e other = by (ℕ_discrete (who e) i)
    where
      by : (d : Dec (By i e)) → since_next n k d e ≡ k
      by (yes own) = absurd (other own)
      by (no isnot) = refl

  then_goes : (n k : ℕ) (e : Entry) → By i e → Continues e → since_then n k e ≡ first_or k n
  then_goes n k e own goes = by (ℕ_discrete (who e) i)
    where
      by : (d : Dec (By i e)) → since_next n k d e ≡ first_or k n
      by (yes is) = next_goes n k e is goes
      by (no other) = absurd (other own)

  then_ends : (n k : ℕ) (e : Entry) → By i e → Ends e → since_then n k e ≡ 0
  then_ends n k e own ends = by (ℕ_discrete (who e) i)
    where
      by : (d : Dec (By i e)) → since_next n k d e ≡ 0
      by (yes is) = next_ends n k e is ends
      by (no other) = absurd (other own)

  -- what is the worker's and ends no call goes on
  goes_on : (e : Entry) → By i e → (OwnEnd i e → ⊥) → Continues e
  goes_on e own on = by (goes_or_ends e)
    where
      by : Continues e ⊎ Ends e → Continues e
      by (inl goes) = goes
      by (inr ends) = absurd (on (own, ends))

  -- a turn that ends no call of the worker leaves the call that is under way
  then_on : (n k : ℕ) (e : Entry) → (OwnEnd i e → ⊥) → 1 ≤ k → since_then n k e ≡ k
  then_on n k e on some = by (ℕ_discrete (who e) i)
    where
      by : Dec (By i e) → since_then n k e ≡ k
      by (yes own) = then_goes n k e own (goes_on e own on) ∙ first_or_some k n some
      by (no other) = then_other n k e other

  -- ---- turns

  since_append :
      (xs : List Entry) (n k : ℕ) (ys : List Entry) → since_from n k (xs ++ ys) ≡ since_from (length xs + n) (since_from n k xs) ys
  since_append [] n k ys = ap (λ (m : ℕ). since_from m k ys) (omega arith)
  since_append (x ∷ xs) n k ys =
      since_append xs (suc n) (since_then n k x) ys
      ∙ ap (λ (m : ℕ). since_from m (since_from (suc n) (since_then n k x) xs) ys) (omega arith)

  since_none : (es : List Entry) (n k : ℕ) → None (By i) es → since_from n k es ≡ k
  since_none [] n k none = refl
  since_none (e ∷ es) n k none =
      since_none es (suc n) (since_then n k e) (λ some. none (some_later _ e es some))
      ∙ then_other n k e (λ own. none (some_here _ e es own))

  since_on : (es : List Entry) (n k : ℕ) → None (OwnEnd i) es → 1 ≤ k → since_from n k es ≡ k
  since_on [] n k none some = refl
  since_on (e ∷ es) n k none some =
      let same = then_on n k e (λ ends. none (some_here _ e es ends)) some in
      rw same (since_on es (suc n) k (λ later. none (some_later _ e es later)) some)

  since_under : (es : List Entry) (n k : ℕ) → k ≤ n → since_from (suc n) k es ≤ n + length es
  since_under [] n k le = omega arith
  since_under (e ∷ es) n k le =
      let rest = since_under es (suc n) (since_then (suc n) k e) (by (ℕ_discrete (who e) i) e) in omega arith
    where
      turn : (p : Progress) → since_turn (suc n) k p ≤ suc n
      turn GoesOn = by_cases (λ m. m ≤ suc n) (eqb k 0) (suc n) k (λ none. omega arith) (λ some. omega arith)
      turn (Ended answer) = omega arith

      by : {A : Type 0} (d : Dec A) (e : Entry) → since_next (suc n) k d e ≤ suc n
      by (yes own) (acted e) = turn e.report.progress
      by (yes own) (retired r) = omega arith
      by (no other) e = omega arith

  -- ---- after a trace

  module _ (past : List Entry) (e : Entry) where
    since_then_lem : since (past ++ (e ∷ [])) ≡ since_then (length past + 1) (since past) e
    unfolding since
    since_then_lem = since_append past 1 0 (e ∷ [])

    -- a turn of another worker leaves the call that is under way
    pub since_other : (By i e → ⊥) → since (past ++ (e ∷ [])) ≡ since past
    since_other other = since_then_lem ∙ then_other (length past + 1) (since past) e other

    -- a turn of the worker that goes on is of the call that is under way, and else the first of one
    pub since_goes : By i e → Continues e → since (past ++ (e ∷ [])) ≡ first_or (since past) (length past + 1)
    since_goes own goes = since_then_lem ∙ then_goes (length past + 1) (since past) e own goes

    -- a turn of the worker that ends its call leaves none under way
    pub since_ends : By i e → Ends e → since (past ++ (e ∷ [])) ≡ 0
    since_ends own ends = since_then_lem ∙ then_ends (length past + 1) (since past) e own ends

  -- a worker that is at rest has no call under way
  since_rest : (past : List Entry) → AtRest i past → since past ≡ 0
  unfolding since
  since_rest past (inl none) = since_none past 1 0 none
  since_rest past (inr at) =
      let n : ℕ = length at.older + 1 in
      let k : ℕ = since at.older in
      ap since at.cut
      ∙ since_append at.older 1 0 (at.entry ∷ at.newer)
      ∙ since_none at.newer (suc n) (since_then n k at.entry) at.holds.2
      ∙ then_ends n k at.entry at.holds.0 at.holds.1

  -- the call that is under way began at one of these turns
  pub since_within : (past : List Entry) → since past ≤ length past
  unfolding since
  since_within past = omega (arith, since_under past 0 0 (omega arith))

  -- ---- a call

  first_of :
      (between : List Entry) (n : ℕ)
      → BeginsWith i between
      → None (OwnEnd i) between
      → first_or (since_from (n + 1) 0 between) (n + length between + 1) ≡ n + 1
  first_of [] n begins unended = omega arith
  first_of (e ∷ es) n begins unended =
      let first = then_goes (n + 1) 0 e begins (goes_on e begins (λ ends. unended (some_here _ e es ends))) in
      rw (first, since_on es (suc (n + 1)) (n + 1) (λ later. unended (some_later _ e es later)) (omega arith))
      (first_or_some (n + 1) _ (omega arith))

  -- after turns at rest, and others since the worker's next turn with no end of its call, the call's first turn is the one after those at rest
  pub first_since :
      (before between : List Entry)
      → AtRest i before
      → BeginsWith i between
      → None (OwnEnd i) between
      → first_or (since (before ++ between)) (length (before ++ between) + 1) ≡ length before + 1
  unfolding since
  first_since before between rested begins unended =
      rw (since_append before 1 0 between, since_rest before rested, length-append before between)
      (first_of between (length before) begins unended)

-- the first turn of a call is that of the one which is under way before its last turn, or its last turn where none is
pub call_first :
    (trace : List Entry) (c : EndedCall) (is : IsCallOf trace c)
    → c.first
    ≡ first_or (since is.at.turn.worker (is.at.before ++ is.at.between)) (length (is.at.before ++ is.at.between) + 1)
call_first trace c is =
    is.first ∙ sym (first_since is.at.turn.worker is.at.before is.at.between is.at.rested is.begins is.at.unended)
