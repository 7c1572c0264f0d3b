-- The moment of a call as a function of the trace: of one that ended by a commit or a close its last turn, of another the earliest turn from
-- its first to its last at which its answer is the clerk's and the list stays. Where there is such a turn, the search finds one. Assumes nothing.
use Prim.Native.Nat.{ℕ, zero, suc, ◌+◌, ◌-◌, ◌≤◌}
use mathlib.Core.List.{List, [], ◌∷◌, nil≢cons, head-eq_of_cons-eq, tail-eq_of_cons-eq}
use mathlib.Core.Logic.{ite}
use mathlib.Core.Path.{◌≡◌, refl, sym, ap, subst}
use native.Mathlib.Decide.{ℕ_discrete}
use native.Mathlib.Omega.{arith}
use lib.ListN.{take, drop}
use Rattle.engine.specs.Move.{Line}
use Rattle.history.specs.Trace.{Entry, acted, IsTurn}
use Rattle.clerk.specs.Does.{line, Told, told, does}
use Rattle.clerk.specs.Calls.{EndedCall, IsCallOf, Settles, is_settled, Fits, IsMomentOf, list_after}
use Rattle.clerk.specs.Sequence.{Placed, DoneAt}
use Rattle.clerk.proofs.Enumerated.{first_before_last, last_turn}

-- ---- the same answer and list

-- whether two lists of lots are the same; the library's own test cannot be computed with
abbrev same_lines : (ks ls : List Line) → Dec (ks ≡ ls)
same_lines [] [] = yes refl
same_lines [] (l ∷ ls) = no nil≢cons
same_lines (k ∷ ks) [] = no (λ is. nil≢cons (sym is))
same_lines (k ∷ ks) (l ∷ ls) = by (ℕ_discrete k.lot l.lot) (ℕ_discrete k.ticket l.ticket) (same_lines ks ls)
  where
    by : Dec (k.lot ≡ l.lot) → Dec (k.ticket ≡ l.ticket) → Dec (ks ≡ ls) → Dec (k ∷ ks ≡ l ∷ ls)
    by (yes lot) (yes ticket) (yes rest) = yes (λ i. line (lot i) (ticket i) ∷ rest i)
    by (yes lot) (yes ticket) (no other) = no (λ is. other (tail-eq_of_cons-eq is))
    by (yes lot) (no other) rest = no (λ is. other (ap (λ (x : Line). x.ticket) (head-eq_of_cons-eq is)))
    by (no other) ticket rest = no (λ is. other (ap (λ (x : Line). x.lot) (head-eq_of_cons-eq is)))

-- whether the clerk gives this answer, and leaves this list
abbrev same_told : (x : Told) (answer : ℕ) (list : List Line) → Dec (x ≡ told answer list)
same_told x answer list = by (ℕ_discrete x.answer answer) (same_lines x.list list)
  where
    by : Dec (x.answer ≡ answer) → Dec (x.list ≡ list) → Dec (x ≡ told answer list)
    by (yes same) (yes stays) = yes (λ i. told (same i) (stays i))
    by (yes same) (no other) = no (λ is. other (ap (λ (y : Told). y.list) is))
    by (no other) stays = no (λ is. other (ap (λ (y : Told). y.answer) is))

-- ---- the earliest

module _ {P : ℕ → Type 0} (test : (m : ℕ) → Dec (P m)) where
  -- the first of turn m and the k turns after it of which P holds; the last of them if it holds of none before
  abbrev earliest : ℕ → ℕ → ℕ
  earliest m zero = m
  earliest m (suc k) = let later = earliest (suc m) k in ite (test m) m later

  earliest_among : (k m : ℕ) → (m ≤ earliest m k) × (earliest m k ≤ m + k)
  earliest_among zero m = (omega arith, omega arith)
  earliest_among (suc k) m = by (test m) (earliest_among k (suc m))
    where
      by :
          (d : Dec (P m))
          → (suc m ≤ earliest (suc m) k) × (earliest (suc m) k ≤ suc m + k)
          → (m ≤ ite d m (earliest (suc m) k)) × (ite d m (earliest (suc m) k) ≤ m + suc k)
      by (yes is) rest = (omega arith, omega arith)
      by (no isnot) rest = (omega arith, omega arith)

  -- where P holds of turn m or one of the k turns after it, it holds of the one that is found
  earliest_holds : (k m n : ℕ) → m ≤ n → n ≤ m + k → P n → P (earliest m k)
  earliest_holds zero m n low high holds = subst P (omega arith) holds
  earliest_holds (suc k) m n low high holds = by (test m) (λ later. earliest_holds k (suc m) n later (omega arith) holds)
    where
      by : (d : Dec (P m)) → (suc m ≤ n → P (earliest (suc m) k)) → P (ite d m (earliest (suc m) k))
      by (yes is) rest = is
      by (no isnot) rest = let other : m ≡ n → ⊥ = λ same. isnot (subst P (sym same) holds) in rest (omega arith)

-- ---- the moment

-- whether the call fits the list after the first m turns
abbrev fits_at : (trace : List Entry) (c : EndedCall) (m : ℕ) → Dec (Fits c (list_after (take m trace)))
fits_at trace c m = let list = list_after (take m trace) in same_told (does c.asked list) c.answer list

-- the earliest turn from the call's first to its last at which the call fits
abbrev earliest_of : List Entry → EndedCall → ℕ
earliest_of trace c = earliest (fits_at trace c) c.first (c.last - c.first)

-- the first of these turns commits or closes
abbrev FirstSettles : List Entry → Type 0
FirstSettles [] = ⊥
FirstSettles (e ∷ es) = IsTurn Settles e

-- whether the first of these turns commits or closes
abbrev is_first_settled : (es : List Entry) → Dec (FirstSettles es)
is_first_settled [] = no (λ none. none)
is_first_settled (e ∷ es) = is_settled e

-- whether turn n of a trace commits or closes
abbrev is_settled_at : (trace : List Entry) (n : ℕ) → Dec (FirstSettles (drop (n - 1) trace))
is_settled_at trace n = is_first_settled (drop (n - 1) trace)

-- the moment of a call: its last turn where that commits or closes, and else the earliest that fits
abbrev pub moment_of : List Entry → EndedCall → ℕ
moment_of trace c = ite (is_settled_at trace c.last) c.last (earliest_of trace c)

-- a call at its moment
abbrev pub at_moment : List Entry → EndedCall → Placed
at_moment trace c = record { call = c; moment = moment_of trace c }

-- unless it is so, the earliest turn that is found is a moment of the call
abbrev FoundUnless : {A : Type 0} → Dec A → List Entry → EndedCall → Type 0
FoundUnless d trace c = ite d (Unit {0}) (IsMomentOf trace c (earliest_of trace c))

-- unless the call's last turn commits or closes, the earliest turn that is found is a moment of it
abbrev pub MomentFound : List Entry → EndedCall → Type 0
MomentFound trace c = FoundUnless (is_settled_at trace c.last) trace c

module _ (trace : List Entry) (c : EndedCall) (is : IsCallOf trace c) where
  -- a call whose moment is found is done at it
  pub done_at : MomentFound trace c → DoneAt trace (at_moment trace c)
  done_at = by (drop (c.last - 1) trace) (last_turn trace c is) (is_settled_at trace c.last)
    where
      by :
          (es : List Entry)
          → es ≡ acted is.at.turn ∷ is.at.after
          → (d : Dec (FirstSettles es))
          → FoundUnless d trace c
          → DoneAt trace (record { call = c; moment = ite d c.last (earliest_of trace c) })
      by es at (yes settled) moment =
          record {
            is = is;
            within = record { from = (first_before_last trace c is).1; to = omega arith };
            won = λ settles. refl;
            other = λ quiet. absurd (quiet (subst FirstSettles at settled));
          }
      by es at (no quiet) moment =
          record {
            is = is;
            within = moment.within;
            won = λ settled. absurd (quiet (subst FirstSettles (sym at) settled));
            other = λ other. moment;
          }

  -- where the call has a moment, the earliest turn that is found is one
  found : (m : ℕ) → IsMomentOf trace c m → IsMomentOf trace c (earliest_of trace c)
  found m moment =
      let n : ℕ = c.last - c.first in
      let order = first_before_last trace c is in
      let among = earliest_among (fits_at trace c) n c.first in
      record {
        within = record { from = among.0; to = omega arith };
        fits = earliest_holds (fits_at trace c) n c.first m moment.within.from (omega (arith, moment.within.to)) moment.fits;
      }

  -- the moment of a call is found, where the call has one unless its last turn commits or closes
  pub finds_moment : ((Settles is.at.turn → ⊥) → (m : ℕ) × IsMomentOf trace c m) → MomentFound trace c
  finds_moment given = by (drop (c.last - 1) trace) (last_turn trace c is) (is_settled_at trace c.last)
    where
      by : (es : List Entry) → es ≡ acted is.at.turn ∷ is.at.after → (d : Dec (FirstSettles es)) → FoundUnless d trace c
      by es at (yes settled) = tt
      by es at (no quiet) =
          let has = given (λ settled. quiet (subst FirstSettles (sym at) settled)) in found has.0 has.1
