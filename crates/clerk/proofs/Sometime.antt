-- What held of the clerk's list just after some turn, from one turn on. Assumes nothing.
use Prim.Native.Nat.{ℕ, ◌+◌, ◌≤◌}
use mathlib.Core.List.{List, [], ◌∷◌, ◌++◌}
use mathlib.Core.Path.{◌≡◌, subst}
use native.Mathlib.Omega.{arith}
use lib.ListN.{length, take, length-append}
use lib.Seq.{take-append-le, take-length}
use Rattle.engine.specs.Move.{Line}
use Rattle.history.specs.Trace.{Entry}
use Rattle.clerk.specs.Calls.{list_after}

-- P held of the list just after one of these turns, from turn `first` on
pub record Sometime (first : ℕ) (past : List Entry) (P : List Line → Type 0) : Type 0 where
  pub turn : ℕ
  pub from : first ≤ turn
  pub to : turn ≤ length past
  pub holds : P (list_after (take turn past))

module _ {first : ℕ} {P : List Line → Type 0} (past : List Entry) (e : Entry) where
  -- what held after some turn held after some turn with one turn more at the end
  pub sometime_on : Sometime first past P → Sometime first (past ++ (e ∷ [])) P
  sometime_on some =
      record {
        turn = some.turn;
        from = some.from;
        to = omega (arith, some.to, length-append past (e ∷ []));
        holds = rw (take-append-le some.turn past (e ∷ []) some.to) some.holds;
      }

  -- what holds of the list just after the last turn held after some turn
  pub sometime_now : first ≤ length past + 1 → P (list_after (past ++ (e ∷ []))) → Sometime first (past ++ (e ∷ [])) P
  sometime_now early now =
      record {
        turn = length (past ++ (e ∷ []));
        from = omega (arith, length-append past (e ∷ []));
        to = omega arith;
        holds = rw (take-length (past ++ (e ∷ []))) now;
      }

-- what held from a turn on held from the same turn by another name
pub sometime_from :
    {first other : ℕ} {past : List Entry} {P : List Line → Type 0}
    → first ≡ other
    → Sometime first past P
    → Sometime other past P
sometime_from {past = past} {P = P} is = subst (λ (first : ℕ). Sometime first past P) is

-- what follows from what held after some turn held after it too
pub sometime_then :
    {first : ℕ} {past : List Entry} {P Q : List Line → Type 0}
    → ((m : ℕ) → P (list_after (take m past)) → Q (list_after (take m past)))
    → Sometime first past P
    → Sometime first past Q
sometime_then follows some = record { turn = some.turn; from = some.from; to = some.to; holds = follows some.turn some.holds }
