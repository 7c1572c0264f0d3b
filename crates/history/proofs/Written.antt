-- Where the values of an opened board come from: a turn writes one only where it stores its worker's ticket. Assumes nothing.
use Prim.Native.Nat.{ℕ}
use mathlib.Core.List.{List, [], ◌∷◌, ◌++◌, nil≢cons, head-eq_of_cons-eq}
use mathlib.Core.Logic.{◌⊎◌, inl, inr}
use mathlib.Core.Path.{◌≡◌, refl, sym, ap, subst, ◌∙◌}
use native.Mathlib.Decide.{ℕ_discrete}
use native.Mathlib.Omega.{arith}
use Rattle.turn.specs.declared.Report.{Report}
use Rattle.turn.specs.Worker.{ticket_place}
use Rattle.turn.specs.Bucket.{value_cell}
use Rattle.engine.specs.Board.{bucket_at}
use Rattle.history.specs.Trace.{Turn, Retiring, Entry, acted, retired, IsTurn, Some}
use Rattle.history.specs.History.{State, Call, turn, after, turn_entry, state_from, trace_from}
use Rattle.history.specs.Values.{value_at, Stores, StoresTicket}
use Rattle.turn.proofs.Values.{turn_values, turn_stores, turn_ticket, turn_other_cells}
use Rattle.history.proofs.Steps.{Turns, Retires, Lasts, calls_last, by_turn}
use Rattle.history.proofs.Account.{own_cells, other_cells}
use Rattle.history.proofs.Later.{some_front, some_last}

-- a turn with an entry is done
pub entry_turns : (s : State) (i : ℕ) (e : Turn) → turn_entry s i ≡ acted e ∷ [] → Turns s e (after s (turn i))
entry_turns s i e =
    by_turn s i (λ (t : State) (es : List Entry). es ≡ acted e ∷ [] → Turns s e t)
    (λ d t act is. subst (λ (x : Entry). IsTurn (λ y. Turns s y t) x) (head-eq_of_cons-eq is) act) (λ is. absurd (nil≢cons is))

-- ---- the values that a turn leaves

module _ {s t : State} {e : Turn} (act : Turns s e t) where
  abbrev bucket : List ℕ
  bucket = bucket_at s.board e.report.bucket

  -- a turn at place 7 is one that stores
  pub stores_at : e.was.place ≡ ticket_place → Stores e
  stores_at place = (place, ap (λ (r : Report). r.action) act.report ∙ turn_stores bucket e.was act.ok place)

  -- a turn that stores no ticket changes no value
  quiet_spares : (e.was.place ≡ ticket_place → ⊥) → (b p : ℕ) → value_at t b p ≡ value_at s b p
  quiet_spares elsewhere b p = by (ℕ_discrete b e.report.bucket)
    where
      by : Dec (b ≡ e.report.bucket) → value_at t b p ≡ value_at s b p
      by (no another) = other_cells act b _ another
      by (yes is) = rw is (own_cells act _ ∙ turn_values bucket e.was act.ok elsewhere _ (omega arith))

  -- one that stores its ticket changes no value but that of the slot that it holds
  store_spares : e.was.place ≡ ticket_place → (b p : ℕ) → (b ≡ e.report.bucket → p ≡ e.was.held → ⊥) → value_at t b p ≡ value_at s b p
  store_spares place b p other = by (ℕ_discrete b e.report.bucket)
    where
      by : Dec (b ≡ e.report.bucket) → value_at t b p ≡ value_at s b p
      by (no another) = other_cells act b _ another
      by (yes is) =
          let another : p ≡ e.was.held → ⊥ = other is in
          rw is (own_cells act _ ∙ turn_other_cells bucket e.was act.ok place _ (omega arith))

  -- a turn changes no value but that of the slot that it stores its ticket to
  pub turn_spares : (b p : ℕ) → (Stores e → b ≡ e.report.bucket → p ≡ e.was.held → ⊥) → value_at t b p ≡ value_at s b p
  turn_spares b p other = by (ℕ_discrete e.was.place ticket_place)
    where
      by : Dec (e.was.place ≡ ticket_place) → value_at t b p ≡ value_at s b p
      by (no elsewhere) = quiet_spares elsewhere b p
      by (yes place) = store_spares place b p (other (stores_at place))

  -- a turn that stores its ticket makes it the value of the slot that it holds
  pub store_writes : Stores e → value_at t e.report.bucket e.was.held ≡ e.was.ticket
  store_writes stores = own_cells act (value_cell e.was.held) ∙ turn_ticket bucket e.was act.ok stores.0

  -- a value stays, or is the ticket that the turn stores
  pub turn_written : (b p : ℕ) → (value_at t b p ≡ value_at s b p) ⊎ StoresTicket (value_at t b p) e
  turn_written b p = by (ℕ_discrete b e.report.bucket) (ℕ_discrete e.was.place ticket_place) (ℕ_discrete p e.was.held)
    where
      by :
          Dec (b ≡ e.report.bucket)
          → Dec (e.was.place ≡ ticket_place)
          → Dec (p ≡ e.was.held)
          → (value_at t b p ≡ value_at s b p) ⊎ StoresTicket (value_at t b p) e
      by (no another) place slot = inl (other_cells act b _ another)
      by (yes is) (no elsewhere) slot = inl (quiet_spares elsewhere b p)
      by (yes is) (yes place) (no other) = inl (store_spares place b p (λ same slot. other slot))
      by (yes is) (yes place) (yes slot) = inr (stores_at place, rw (is, slot) (sym (store_writes (stores_at place))))

-- a retiring changes no value
pub retire_spares : {s t : State} {r : Retiring} → Retires s r t → (b p : ℕ) → value_at t b p ≡ value_at s b p
retire_spares act b p = act.cells b (value_cell p) (omega arith)

-- ---- the values that calls leave

module _ (b p old : ℕ) where
  -- the value is the old one, or one that a turn stored
  abbrev Written : State → List Entry → List ℕ → Type 0
  Written s past ts = (value_at s b p ≡ old) ⊎ Some (IsTurn (StoresTicket (value_at s b p))) past

  turn_then_lem :
      {s t : State} {e : Turn} (past : List Entry) (ts : List ℕ) → Turns s e t → Written s past ts → Written t (past ++ (acted e ∷ [])) ts
  turn_then_lem {s} {t} {e} past ts act = by (turn_written act b p)
    where
      by :
          (value_at t b p ≡ value_at s b p) ⊎ StoresTicket (value_at t b p) e
          → (value_at s b p ≡ old) ⊎ Some (IsTurn (StoresTicket (value_at s b p))) past
          → (value_at t b p ≡ old) ⊎ Some (IsTurn (StoresTicket (value_at t b p))) (past ++ (acted e ∷ []))
      by (inr stores) written = inr (some_last _ past (acted e) stores)
      by (inl same) (inl is) = inl (same ∙ is)
      by (inl same) (inr some) = inr (some_front _ past (acted e ∷ []) (rw same some))

  retire_then :
      {s t : State} {r : Retiring} (past : List Entry) (ts : List ℕ) → Retires s r t → Written s past ts → Written t (past ++ (retired r ∷ [])) ts
  retire_then {s} {t} {r} past ts act = by (retire_spares act b p)
    where
      by : value_at t b p ≡ value_at s b p → Written s past ts → Written t (past ++ (retired r ∷ [])) ts
      by same (inl is) = inl (same ∙ is)
      by same (inr some) = inr (some_front _ past (retired r ∷ []) (rw same some))

  written_lasts : Lasts Written
  written_lasts = record { begins = λ past ts start written. rw start.board written; turns = turn_then_lem; retires = retire_then }

-- a value that calls leave is the one that was there before them, or a ticket that one of their turns stored
pub values_from :
    (s : State) (cs : List Call) (b p : ℕ)
    → (value_at (state_from s cs) b p ≡ value_at s b p) ⊎ Some (IsTurn (StoresTicket (value_at (state_from s cs) b p))) (trace_from s cs)
values_from s cs b p = calls_last (Written b p (value_at s b p)) (written_lasts b p (value_at s b p)) cs s [] [] (inl refl)
