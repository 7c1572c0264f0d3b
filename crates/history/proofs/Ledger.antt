-- Whatever is asked, what stands then is what the ledger since the last accepted opening says, through all moves (§22.7). Assumes nothing.
use mathlib.Core.List.{List, [], ◌∷◌, ◌++◌, append_assoc, append-nil}
use mathlib.Core.Path.{◌≡◌, refl, sym, ap, ◌∙◌}
use native.Mathlib.Decide.{ℕ_discrete}
use Rattle.history.specs.Trace.{Entry}
use Rattle.history.specs.History.{State, Opening, opened}
use Rattle.history.specs.Moves.{state_through, trace_through}
use Rattle.history.specs.Openings.{Asked, asks, opens, reopen_number, leaves, turns_by, leaves_all, turns_by_all}
use Rattle.history.specs.Openings.{Ledger, state_by, turns_in, begun_by, reopens, notes, notes_all, Noted}
use Rattle.history.proofs.Through.{state_through_then, trace_through_then}
use Rattle.history.proofs.Openings.{opens_refused}

-- the turns done before, and those of the ledger: together these
record Follows (before : List Entry) (l : Ledger) (s : State) (turns : List Entry) : Type 0 where
  opening : Opening
  begun : l.first ≡ opened opening
  stands : s ≡ state_by l
  older : List Entry
  turns_are : before ++ turns ≡ older ++ turns_in l

module _ (l : Ledger) (o : Opening) (begun : l.first ≡ opened o) (before : List Entry) where
  -- one thing more is asked
  noted : (a : Asked) → Follows (before ++ turns_in l) (notes l a) (leaves (state_by l) a) (turns_by (state_by l) a)
  unfolding state_through trace_through
  noted (asks a) =
      record {
        opening = o;
        begun = begun;
        stands = sym (state_through_then l.first l.steps a);
        older = before;
        turns_are =
            append_assoc before (turns_in l) _ ∙ ap (λ (es : List Entry). before ++ es) (sym (trace_through_then l.first l.steps a));
      }
  noted (opens plan fits) = by (ℕ_discrete (reopen_number (state_by l) plan) 0)
    where
      by :
          (d : Dec (reopen_number (state_by l) plan ≡ 0))
          → Follows (before ++ turns_in l) (reopens l plan fits d) (leaves (state_by l) (opens plan fits)) []
      by (yes accepted) =
          record {
            opening = record { lent = state_by l; plan = plan; accepted = accepted; version_fits = fits };
            begun = refl;
            stands = refl;
            older = before ++ turns_in l;
            turns_are = refl;
          }
      by (no refused) =
          record {
            opening = o;
            begun = begun;
            stands = opens_refused (state_by l) plan fits refused;
            older = before;
            turns_are = append-nil (before ++ turns_in l);
          }

-- all that is asked
all_noted :
    (l : Ledger) (o : Opening) (begun : l.first ≡ opened o) (before : List Entry) (asked : List Asked)
    → Follows (before ++ turns_in l) (notes_all l asked) (leaves_all (state_by l) asked) (turns_by_all (state_by l) asked)
unfolding notes_all leaves_all turns_by_all
all_noted l o begun before [] =
    record { opening = o; begun = begun; stands = refl; older = before; turns_are = append-nil (before ++ turns_in l) }
all_noted l o begun before (a ∷ asked) =
    let one = noted l o begun before a in
    let rest = all_noted (notes l a) one.opening one.begun one.older asked in
    record {
      opening = rest.opening;
      begun = rest.begun;
      stands = ap (λ (s : State). leaves_all s asked) one.stands ∙ rest.stands;
      older = rest.older;
      turns_are =
          sym (append_assoc (before ++ turns_in l) (turns_by (state_by l) a) _)
          ∙ ap (λ (es : List Entry). es ++ turns_by_all (leaves (state_by l) a) asked) one.turns_are
          ∙ ap (λ (s : State). (one.older ++ turns_in (notes l a)) ++ turns_by_all s asked) one.stands
          ∙ rest.turns_are;
    }

-- §22.7: whatever is asked, the ledger says what stands, and the last turns that were done
pub ledger_noted : (o : Opening) (asked : List Asked) → Noted o asked
unfolding state_through trace_through
ledger_noted o asked =
    let all = all_noted (begun_by o) o refl [] asked in
    record { opening = all.opening; begun = all.begun; stands = all.stands; older = all.older; turns = all.turns_are }
