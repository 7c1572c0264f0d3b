-- Traces and lists of tickets with more at their end, and what holds of one of some numbers. Assumes nothing.
use Prim.Native.Nat.{ℕ, ◌<◌}
use mathlib.Core.List.{List, [], ◌∷◌, ◌++◌, append_assoc, nil≢cons, head-eq_of_cons-eq, tail-eq_of_cons-eq}
use mathlib.Core.Logic.{◌⊎◌, inl, inr}
use mathlib.Core.Path.{◌≡◌, refl, sym, ap, ap₂, subst, ◌∙◌}
use Rattle.history.specs.Trace.{Entry, Some, None}
use Rattle.history.specs.Numbers.{OneOf, Rising}
use Rattle.history.proofs.Cuts.{some_later}

-- ---- traces

-- where a trace with one entry more, d, is cut at an entry e
pub data CutLast (past : List Entry) (d : Entry) (before : List Entry) (e : Entry) : Type 0 where
  last : before ≡ past → e ≡ d → CutLast past d before e
  sooner : (later : List Entry) → past ≡ before ++ (e ∷ later) → CutLast past d before e

-- the same, with what came since then
pub data CutSince (past : List Entry) (d : Entry) (before : List Entry) (e : Entry) (later : List Entry) : Type 0 where
  newest : before ≡ past → e ≡ d → later ≡ [] → CutSince past d before e later
  older : (rest : List Entry) → past ≡ before ++ (e ∷ rest) → later ≡ rest ++ (d ∷ []) → CutSince past d before e later

module _ (d e : Entry) (later : List Entry) where
  more : (x y : Entry) (past before : List Entry) → x ≡ y → CutSince past d before e later → CutSince (x ∷ past) d (y ∷ before) e later
  more x y past before same (newest is at none) = newest (ap₂ (λ (z : Entry) (l : List Entry). z ∷ l) (sym same) is) at none
  more x y past before same (older rest cut since) = older rest (ap₂ (λ (z : Entry) (l : List Entry). z ∷ l) same cut) since

  -- a trace with one entry more is cut at that entry or further before
  pub cut_since : (past before : List Entry) → past ++ (d ∷ []) ≡ before ++ (e ∷ later) → CutSince past d before e later
  cut_since [] [] cut = newest refl (sym (head-eq_of_cons-eq cut)) (sym (tail-eq_of_cons-eq cut))
  cut_since [] (y ∷ []) cut = absurd (nil≢cons (tail-eq_of_cons-eq cut))
  cut_since [] (y ∷ z ∷ before) cut = absurd (nil≢cons (tail-eq_of_cons-eq cut))
  cut_since (x ∷ past) [] cut = older past (ap (λ (z : Entry). z ∷ past) (head-eq_of_cons-eq cut)) (sym (tail-eq_of_cons-eq cut))
  cut_since (x ∷ past) (y ∷ before) cut =
      more x y past before (head-eq_of_cons-eq cut) (cut_since past before (tail-eq_of_cons-eq cut))

  pub cut_last : (past before : List Entry) → past ++ (d ∷ []) ≡ before ++ (e ∷ later) → CutLast past d before e
  cut_last past before cut = by (cut_since past before cut)
    where
      by : CutSince past d before e later → CutLast past d before e
      by (newest is at none) = last is at
      by (older rest cut since) = sooner rest cut

module _ (P : Entry → Type 0) where
  -- a trace with none of which P holds still has none with one entry more of which it does not hold
  pub none_last : (past : List Entry) (d : Entry) → None P past → (P d → ⊥) → None P (past ++ (d ∷ []))
  none_last past d none fails some = by (cut_last d some.entry some.newer past some.older some.cut)
    where
      by : CutLast past d some.older some.entry → ⊥
      by (last is at) = fails (subst P at some.holds)
      by (sooner rest cut) = none (record { older = some.older; entry = some.entry; newer = rest; cut = cut; holds = some.holds })

  -- an entry of the first part of a trace stands in the whole
  pub some_front : (es fs : List Entry) → Some P es → Some P (es ++ fs)
  some_front es fs some =
      record {
        older = some.older;
        entry = some.entry;
        newer = some.newer ++ fs;
        cut = ap (λ (l : List Entry). l ++ fs) some.cut ∙ append_assoc some.older (some.entry ∷ some.newer) fs;
        holds = some.holds;
      }

  -- and so does one of the second part
  pub some_back : (es fs : List Entry) → Some P fs → Some P (es ++ fs)
  some_back [] fs some = some
  some_back (e ∷ es) fs some = some_later P e (es ++ fs) (some_back es fs some)

  -- the entry at the end of a trace stands in it
  pub some_last : (past : List Entry) (d : Entry) → P d → Some P (past ++ (d ∷ []))
  some_last past d holds = record { older = past; entry = d; newer = []; cut = refl; holds = holds }

-- ---- one of some numbers

-- P holds of each of these numbers
abbrev pub Each : (ℕ → Type 0) → List ℕ → Type 0
Each P [] = Unit {0}
Each P (m ∷ ms) = P m × Each P ms

-- what holds of each of these numbers holds of one of them
pub one_each : (P : ℕ → Type 0) (ms : List ℕ) → Each P ms → (n : ℕ) → OneOf ms n → P n
one_each P [] each n none = elim none [ ]
one_each P (m ∷ ms) each n (inl is) = subst P (sym is) each.0
one_each P (m ∷ ms) each n (inr later) = one_each P ms each.1 n later

-- ---- tickets

-- a ticket of the first part of a list stands in the whole
pub in_front : (t : ℕ) (ts us : List ℕ) → OneOf ts t → OneOf (ts ++ us) t
in_front t [] us none = elim none [ ]
in_front t (u ∷ ts) us (inl is) = inl is
in_front t (u ∷ ts) us (inr rest) = inr (in_front t ts us rest)

-- the ticket at the end of a list stands in it
pub in_last : (t : ℕ) (ts : List ℕ) → OneOf (ts ++ (t ∷ [])) t
in_last t [] = inl refl
in_last t (u ∷ ts) = inr (in_last t ts)

-- a ticket of a list with one more is of the list, or that one
pub in_or_last : (t : ℕ) (ts : List ℕ) (u : ℕ) → OneOf (ts ++ (u ∷ [])) t → OneOf ts t ⊎ (t ≡ u)
in_or_last t [] u (inl is) = inr is
in_or_last t [] u (inr none) = elim none [ ]
in_or_last t (x ∷ ts) u (inl is) = inl (inl is)
in_or_last t (x ∷ ts) u (inr rest) = by (in_or_last t ts u rest)
  where
    by : OneOf ts t ⊎ (t ≡ u) → OneOf (x ∷ ts) t ⊎ (t ≡ u)
    by (inl there) = inl (inr there)
    by (inr is) = inr is

-- rising numbers still rise with one more that is greater than each of them
pub rising_last :
    (low : ℕ) (ts : List ℕ) (u : ℕ) → low < u → ((t : ℕ) → OneOf ts t → t < u) → Rising low ts → Rising low (ts ++ (u ∷ []))
rising_last low [] u over above rising = (over, tt)
rising_last low (t ∷ ts) u over above rising =
    (rising.0, rising_last t ts u (above t (inl refl)) (λ x there. above x (inr there)) rising.1)
