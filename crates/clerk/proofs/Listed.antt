-- The clerk's list: what the clerk does by what is in it, what is left when a lot is struck, and that no lot is in it twice, for every trace.
-- Assumes nothing.
use Prim.Native.Nat.{ℕ, ◌+◌}
use mathlib.Core.Bool.{Bool, true, false, cond, ◌||◌}
use mathlib.Core.List.{List, [], ◌∷◌}
use mathlib.Core.Logic.{inl, inr}
use mathlib.Core.Path.{◌≡◌, refl, sym, ap, ap₂, ◌∙◌}
use native.Mathlib.Omega.{arith}
use lib.Dec.{eqb}
use lib.ListN.{length}
use borrow.Author.Tests.{eq-eqb, ne_eqb, eqb-false}
use Rattle.mark.proofs.Choices.{not_both}
use Rattle.engine.specs.Move.{Line}
use Rattle.history.specs.Trace.{Entry, was_of, IsTurn}
use Rattle.clerk.specs.Does.{line, Asked, look, insert, remove, told, is_in, ticket_in, without, does}
use Rattle.clerk.specs.Calls.{Settles, is_settled, asks, done_by, list_from, list_after}
use Rattle.walks.specs.Lists.{Each, In, Ordered}
use Rattle.walks.proofs.Lists.{each_then, each_in}

-- two lots
abbrev pub OtherLot : Line → Line → Type 0
OtherLot x y = x.lot ≡ y.lot → ⊥

-- a line of another lot
abbrev pub NotOf : ℕ → Line → Type 0
NotOf lot l = l.lot ≡ lot → ⊥

lot_same : {x y : Line} → x ≡ y → x.lot ≡ y.lot
lot_same = ap (λ (l : Line). l.lot)

module _ (lot : ℕ) where
  -- ---- whether a lot is there

  -- a lot that the test finds nowhere is in no line
  not_in_each : (list : List Line) → is_in lot list ≡ false → Each (NotOf lot) list
  not_in_each [] none = tt
  not_in_each (l ∷ list) none = by (eqb l.lot lot) refl none (not_in_each list)
    where
      by :
          (t : Bool)
          → eqb l.lot lot ≡ t
          → (t || is_in lot list) ≡ false
          → (is_in lot list ≡ false → Each (NotOf lot) list)
          → Each (NotOf lot) (l ∷ list)
      by true same fails rest = not_both true fails refl
      by false other fails rest = (eqb-false l.lot lot other, rest fails)

  -- a lot that is in no line the test finds nowhere
  not_in_so : (list : List Line) → Each (NotOf lot) list → is_in lot list ≡ false
  not_in_so [] all = refl
  not_in_so (l ∷ list) all = rw (ne_eqb l.lot lot all.0) (not_in_so list all.1)

  -- a lot that is in the list with no ticket is in no line of it
  pub not_in_lot : (list : List Line) → ((ticket : ℕ) → In (line lot ticket) list → ⊥) → Each (NotOf lot) list
  not_in_lot [] none = tt
  not_in_lot (l ∷ list) none =
      (λ same. none l.ticket (inl (λ i. line (same i) l.ticket)), not_in_lot list (λ ticket there. none ticket (inr there)))

  -- a lot that is in no line has no ticket
  ticket_none : (list : List Line) → Each (NotOf lot) list → ticket_in lot list ≡ 0
  ticket_none [] all = refl
  ticket_none (l ∷ list) all = rw (ne_eqb l.lot lot all.0) (ticket_none list all.1)

  -- ---- the lot struck

  -- to strike a lot that is in no line leaves the list
  without_none : (list : List Line) → Each (NotOf lot) list → without lot list ≡ list
  without_none [] all = refl
  without_none (l ∷ list) all = rw (ne_eqb l.lot lot all.0) (ap (λ (rest : List Line). l ∷ rest) (without_none list all.1))

  -- what holds of each line holds of each that is left when a lot is struck
  pub without_each : (P : Line → Type 0) (list : List Line) → Each P list → Each P (without lot list)
  without_each P [] all = tt
  without_each P (l ∷ list) all = by (eqb l.lot lot) (without_each P list all.1)
    where
      by : (t : Bool) → Each P (without lot list) → Each P (cond t (without lot list) (l ∷ without lot list))
      by true rest = rest
      by false rest = (all.0, rest)

  -- a line of another lot is left when a lot is struck
  pub without_has : (l : Line) → NotOf lot l → (list : List Line) → In l list → In l (without lot list)
  without_has l not [] has = absurd has
  without_has l not (k ∷ list) (inl is) = rw (ne_eqb k.lot lot (λ same. not (sym (lot_same is) ∙ same))) (inl is)
  without_has l not (k ∷ list) (inr has) = by (eqb k.lot lot) (without_has l not list has)
    where
      by : (t : Bool) → In l (without lot list) → In l (cond t (without lot list) (k ∷ without lot list))
      by true rest = rest
      by false rest = inr rest

  -- a line that is left when a lot is struck was there, and is of another lot
  pub without_was : (l : Line) (list : List Line) → In l (without lot list) → In l list × NotOf lot l
  without_was l [] has = absurd has
  without_was l (k ∷ list) has = by (eqb k.lot lot) refl has (without_was l list)
    where
      more : In l list × NotOf lot l → In l (k ∷ list) × NotOf lot l
      more rest = (inr rest.0, rest.1)

      by :
          (t : Bool)
          → eqb k.lot lot ≡ t
          → In l (cond t (without lot list) (k ∷ without lot list))
          → (In l (without lot list) → In l list × NotOf lot l)
          → In l (k ∷ list) × NotOf lot l
      by true same left rest = more (rest left)
      by false other (inl is) rest = (inl is, λ same. eqb-false k.lot lot other (lot_same is ∙ same))
      by false other (inr left) rest = more (rest left)

  -- to strike a lot leaves no lot twice where none was
  without_once : (list : List Line) → Ordered OtherLot list → Ordered OtherLot (without lot list)
  without_once [] all = tt
  without_once (l ∷ list) all = by (eqb l.lot lot) (without_once list all.1)
    where
      by : (t : Bool) → Ordered OtherLot (without lot list) → Ordered OtherLot (cond t (without lot list) (l ∷ without lot list))
      by true rest = rest
      by false rest = (without_each (OtherLot l) list all.0, rest)

-- ---- a lot that is there, and not twice

module _ (l : Line) where
  -- the test finds the lot of a line that is there
  in_so : (list : List Line) → In l list → is_in l.lot list ≡ true
  in_so [] has = absurd has
  in_so (k ∷ list) (inl is) = rw (eq-eqb k.lot l.lot (lot_same is))
  in_so (k ∷ list) (inr has) = by (eqb k.lot l.lot) (in_so list has)
    where
      by : (t : Bool) → is_in l.lot list ≡ true → (t || is_in l.lot list) ≡ true
      by true rest = refl
      by false rest = rest

  -- the ticket of a lot that is there, and not twice, is the one of its line
  ticket_is : (list : List Line) → Ordered OtherLot list → In l list → ticket_in l.lot list ≡ l.ticket
  ticket_is [] once has = absurd has
  ticket_is (k ∷ list) once (inl is) = rw (eq-eqb k.lot l.lot (lot_same is)) (ap (λ (x : Line). x.ticket) is)
  ticket_is (k ∷ list) once (inr has) = rw (ne_eqb k.lot l.lot (each_in (OtherLot k) l list once.0 has)) (ticket_is list once.1 has)

  -- to strike a lot that is there, and not twice, leaves one line fewer
  pub without_length : (list : List Line) → Ordered OtherLot list → In l list → length (without l.lot list) + 1 ≡ length list
  without_length [] once has = absurd has
  without_length (k ∷ list) once (inl is) =
      let none = each_then (OtherLot k) (NotOf l.lot) (λ x other same. other (lot_same is ∙ sym same)) list once.0 in
      rw (eq-eqb k.lot l.lot (lot_same is), without_none l.lot list none) (omega arith)
  without_length (k ∷ list) once (inr has) =
      rw (ne_eqb k.lot l.lot (each_in (OtherLot k) l list once.0 has)) (omega (arith, without_length list once.1 has))

-- ---- what the clerk does, by what is in the list

module _ (list : List Line) where
  -- a look for a lot that is there, and not twice, tells its ticket
  pub look_there : (l : Line) → Ordered OtherLot list → In l list → does (look l.lot) list ≡ told l.ticket list
  look_there l once there = ap (λ (answer : ℕ). told answer list) (ticket_is l list once there)

  -- a look for a lot that is not there tells 0
  pub look_none : (lot : ℕ) → Each (NotOf lot) list → does (look lot) list ≡ told 0 list
  look_none lot none = ap (λ (answer : ℕ). told answer list) (ticket_none lot list none)

  -- an insert of a lot that is there is answered 0, and the list stays
  pub insert_there : (l : Line) (ticket : ℕ) → In l list → does (insert l.lot ticket) list ≡ told 0 list
  insert_there l ticket there = rw (in_so l list there)

  -- an insert of a lot that is not there is answered 1, and the lot is added
  pub insert_none : (lot ticket : ℕ) → Each (NotOf lot) list → does (insert lot ticket) list ≡ told 1 (line lot ticket ∷ list)
  insert_none lot ticket none = rw (not_in_so lot list none)

  -- a remove of a lot that is there, and not twice, tells its ticket and strikes it
  pub remove_there : (l : Line) → Ordered OtherLot list → In l list → does (remove l.lot) list ≡ told l.ticket (without l.lot list)
  remove_there l once there = ap (λ (answer : ℕ). told answer (without l.lot list)) (ticket_is l list once there)

  -- a remove of a lot that is not there tells 0, and the list stays
  pub remove_none : (lot : ℕ) → Each (NotOf lot) list → does (remove lot) list ≡ told 0 list
  remove_none lot none = ap₂ told (ticket_none lot list none) (without_none lot list none)

-- ---- no lot twice

-- whatever is asked, the clerk leaves no lot twice where none was
does_once : (a : Asked) (list : List Line) → Ordered OtherLot list → Ordered OtherLot (does a list).list
does_once (look lot) list once = once
does_once (insert lot ticket) list once = by (is_in lot list) refl
  where
    by : (t : Bool) → is_in lot list ≡ t → Ordered OtherLot (cond t (told 0 list) (told 1 (line lot ticket ∷ list))).list
    by true there = once
    by false none = (each_then (NotOf lot) (OtherLot (line lot ticket)) (λ l not same. not (sym same)) list (not_in_each lot list none), once)
does_once (remove lot) list once = without_once lot list once

once_from : (trace : List Entry) (list : List Line) → Ordered OtherLot list → Ordered OtherLot (list_from list trace)
once_from [] list once = once
once_from (e ∷ trace) list once = once_from trace (done_by e (is_settled e) list) (by (is_settled e))
  where
    by : (d : Dec (IsTurn Settles e)) → Ordered OtherLot (done_by e d list)
    by (yes is) = does_once (asks (was_of e)) list once
    by (no isnot) = once

-- no lot is twice in the list after a trace
pub listed_once : (trace : List Entry) → Ordered OtherLot (list_after trace)
listed_once trace = once_from trace [] tt
