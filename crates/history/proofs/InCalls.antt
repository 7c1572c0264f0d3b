-- Every turn of a trace is one of a call: the trace can be cut before that call and at the turn. Assumes nothing.
use Prim.Native.Nat.{ℕ}
use mathlib.Core.List.{List, [], ◌∷◌, ◌++◌, append_assoc}
use mathlib.Core.Logic.{◌⊎◌, inl, inr}
use mathlib.Core.Path.{◌≡◌, refl, ap, subst, sym, ◌∙◌}
use native.Mathlib.Decide.{ℕ_discrete}
use Rattle.history.specs.Trace.{Entry, acted, who, By, Continues, Ends, OwnEnd, None}
use Rattle.history.specs.Moment.{AtTurn}
use Rattle.history.specs.InCall.{AtRest, InCall}
use Rattle.history.proofs.Cuts.{cut_later, some_as, none_nil, none_more, none_append}
use Rattle.history.proofs.Numbered.{goes_or_ends}

module _ (i : ℕ) where
  -- entries, cut where worker i is at no call, with no end of its calls after that
  record Since (es : List Entry) : Type 0 where
    first : List Entry
    between : List Entry
    is : es ≡ first ++ between
    rested : AtRest i first
    unended : None (OwnEnd i) between

  module _ (e : Entry) (es : List Entry) (since : Since es) where
    -- with this one before them, cut at the same place
    same_place : AtRest i (e ∷ since.first) → Since (e ∷ es)
    same_place rested =
        record {
          first = e ∷ since.first;
          between = since.between;
          is = ap (λ (l : List Entry). e ∷ l) since.is;
          rested = rested;
          unended = since.unended;
        }

    -- or before it, where it is one of a call that goes on
    before_it : None (By i) since.first → (Ends e → ⊥) → Since (e ∷ es)
    before_it none on =
        let rest : None (OwnEnd i) es =
        subst (None (OwnEnd i)) (sym since.is)
        (none_append (OwnEnd i) since.first since.between (λ some. none (some_as _ (By i) since.first some some.holds.0)) since.unended) in
        record { first = []; between = e ∷ es; is = refl; rested = inl (none_nil (By i)); unended = none_more (OwnEnd i) e es (λ end. on end.1) rest }

    own_entry : By i e → None (By i) since.first → Continues e ⊎ Ends e → Since (e ∷ es)
    own_entry own none (inl goes) = before_it none (λ ends. ends goes)
    own_entry own none (inr ends) =
        same_place (inr (record { older = []; entry = e; newer = since.first; cut = refl; holds = (own, ends, none) }))

    one_more : AtRest i since.first → Dec (By i e) → Since (e ∷ es)
    one_more (inr cut) own = same_place (inr (cut_later _ e since.first cut))
    one_more (inl none) (no other) = same_place (inl (none_more (By i) e since.first other none))
    one_more (inl none) (yes own) = own_entry own none (goes_or_ends e)

  since_end : (es : List Entry) → Since es
  since_end [] = record { first = []; between = []; is = refl; rested = inl (none_nil (By i)); unended = none_nil (OwnEnd i) }
  since_end (e ∷ es) = let since = since_end es in one_more e es since since.rested (ℕ_discrete (who e) i)

-- wherever a trace is cut at a turn, it can be cut into that turn's call
pub every_turn_in_call :
    {trace : List Entry} (at : AtTurn trace) → (call : InCall trace) × (call.turn ≡ at.turn) × (call.after ≡ at.after)
every_turn_in_call at =
    let since = since_end at.turn.worker at.before in (
      record {
        before = since.first;
        between = since.between;
        turn = at.turn;
        after = at.after;
        cut =
            at.cut
            ∙ ap (λ (l : List Entry). l ++ (acted at.turn ∷ at.after)) since.is
            ∙ append_assoc since.first since.between (acted at.turn ∷ at.after);
        rested = since.rested;
        unended = since.unended;
      },
      refl,
      refl,
    )
