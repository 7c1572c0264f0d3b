-- Where a worker is at rest: what others do leaves it so, and turns can be cut before the first one that it has. Assumes nothing.
use Prim.Native.Nat.{ℕ}
use mathlib.Core.List.{List, [], ◌∷◌, ◌++◌, append_assoc}
use mathlib.Core.Logic.{inl, inr}
use mathlib.Core.Path.{◌≡◌, refl, ap, ◌∙◌}
use native.Mathlib.Decide.{ℕ_discrete}
use Rattle.history.specs.Trace.{Entry, who, By, OwnEnd, None}
use Rattle.history.specs.InCall.{AtRest}
use Rattle.history.proofs.Cuts.{some_later, none_nil, none_more, none_append}
use Rattle.clerk.specs.Calls.{BeginsWith}

-- turns with no end of a call of worker i, cut before the first one that it has
pub record Awaits (i : ℕ) (es : List Entry) : Type 0 where
  pub waiting : List Entry
  pub rest : List Entry
  pub is : es ≡ waiting ++ rest
  pub others : None (By i) waiting
  pub begins : BeginsWith i rest
  pub unended : None (OwnEnd i) rest

module _ (i : ℕ) where
  -- a worker that is at rest is so after turns of others
  pub rest_on : (past es : List Entry) → None (By i) es → AtRest i past → AtRest i (past ++ es)
  rest_on past es others (inl none) = inl (none_append (By i) past es none others)
  rest_on past es others (inr at) =
      inr (record {
        older = at.older;
        entry = at.entry;
        newer = at.newer ++ es;
        cut = ap (λ (l : List Entry). l ++ es) at.cut ∙ append_assoc at.older (at.entry ∷ at.newer) es;
        holds = (at.holds.0, at.holds.1, none_append (By i) at.newer es at.holds.2 others);
      })

  -- turns that end no call of a worker can be cut before the first one that it has
  pub awaits : (es : List Entry) → None (OwnEnd i) es → Awaits i es
  awaits [] none = record { waiting = []; rest = []; is = refl; others = none_nil (By i); begins = tt; unended = none }
  awaits (e ∷ es) none = by (ℕ_discrete (who e) i) (awaits es (λ some. none (some_later (OwnEnd i) e es some)))
    where
      by : Dec (By i e) → Awaits i es → Awaits i (e ∷ es)
      by (yes own) later = record { waiting = []; rest = e ∷ es; is = refl; others = none_nil (By i); begins = own; unended = none }
      by (no other) later =
          record {
            waiting = e ∷ later.waiting;
            rest = later.rest;
            is = ap (λ (l : List Entry). e ∷ l) later.is;
            others = none_more (By i) e later.waiting other later.others;
            begins = later.begins;
            unended = later.unended;
          }
