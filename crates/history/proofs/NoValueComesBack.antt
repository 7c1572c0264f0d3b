-- Tickets rise, and so no value comes back: wherever a stretch can begin and for every list of calls, with no other premise. Assumes nothing.
use Prim.Native.Nat.{ℕ, ◌≤◌, ◌<◌}
use mathlib.Core.List.{List, [], ◌∷◌, ◌++◌, append_assoc}
use mathlib.Core.Logic.{◌⊎◌, inl, inr}
use mathlib.Core.Path.{◌≡◌, refl, sym, ap, subst, ◌∙◌}
use native.Mathlib.Omega.{arith}
use Rattle.turn.specs.Worker.{insert_kind}
use Rattle.history.specs.Trace.{Turn, Entry, acted, IsTurn, Some}
use Rattle.history.specs.History.{State, Call, record_of, state_from, trace_from, state, trace}
use Rattle.history.specs.Numbers.{OneOf, Rising}
use Rattle.history.specs.Values.{value_at, Stores, StoresTicket, tickets, NoValueComesBack}
use Rattle.history.proofs.Cuts.{no_cut, none_nil, SomeTurn, some_turn}
use Rattle.history.proofs.Histories.{state_from_append, trace_from_append}
use Rattle.history.proofs.Ready.{Ready, rests}
use Rattle.history.proofs.Later.{some_front}
use Rattle.history.proofs.Steps.{calls_last, by_retiring}
use Rattle.history.proofs.Spent.{Spent, spent_lasts}
use Rattle.history.proofs.Written.{entry_turns, store_writes, turn_spares, retire_spares, values_from}

module _ {first : State} (ready : Ready first) where
  -- at first no insert is under way
  ready_no_insert : (i : ℕ) → (record_of first i).kind ≡ insert_kind → ⊥
  ready_no_insert i insert = omega (arith, insert, (rests ready i).kind)

  -- and no ticket is spent
  pub ready_spent : Spent first.floor.last first [] []
  ready_spent =
      record {
        least = omega arith;
        rising = tt;
        most = λ t there. absurd there;
        accepted = λ i insert. absurd (ready_no_insert i insert);
        differ = λ i j other first second same. ready_no_insert i first;
        waits = λ i waits. none_nil _;
        stored = λ before e later cut stores. absurd (no_cut before (acted e) later cut);
        once = λ before e later cut stores. absurd (no_cut before (acted e) later cut);
      }

  -- ---- histories

  spent : (calls : List Call) → Spent first.floor.last (state first calls) (trace first calls) (tickets first calls)
  spent calls = calls_last (Spent first.floor.last) spent_lasts calls first [] [] ready_spent

  -- no value is above the last ticket
  pub values_most : (calls : List Call) (b p : ℕ) → value_at (state first calls) b p ≤ (state first calls).floor.last
  values_most calls b p = by (values_from first calls b p)
    where
      now : State
      now = state first calls

      by : (value_at now b p ≡ value_at first b p) ⊎ Some (IsTurn (StoresTicket (value_at now b p))) (trace first calls) → value_at now b p ≤ now.floor.last
      by (inl same) = omega (arith, same, ready.values b p, (spent calls).least)
      by (inr some) =
          let found = some_turn _ (trace first calls) some in
          let stored = (spent calls).stored found.older found.turn found.newer found.cut found.holds.0 in
          omega (arith, (spent calls).most _ stored, found.holds.1)

  -- tickets that rise from above one are all above it
  above : (low : ℕ) (ts : List ℕ) → Rising low ts → (t : ℕ) → OneOf ts t → low < t
  above low [] rising t none = elim none [ ]
  above low (u ∷ ts) rising t (inl is) = let first = rising.0 in omega arith
  above low (u ∷ ts) rising t (inr there) = let first = rising.0 in let rest = above u ts rising.1 t there in omega arith

  module _ (earlier rest : List Call) (before : List Entry) (e : Turn) (later : List Entry) where
    -- calls and trace are cut at the same point
    whole : trace_from (state first earlier) rest ≡ before ++ (acted e ∷ later) → trace first (earlier ++ rest) ≡ (trace first earlier ++ before) ++ (acted e ∷ later)
    whole cut =
        trace_from_append first earlier rest
        ∙ ap (λ (es : List Entry). trace first earlier ++ es) cut
        ∙ sym (append_assoc (trace first earlier) before (acted e ∷ later))

    -- what a turn stores stood nowhere before it
    stood_nowhere :
        trace_from (state first earlier) rest ≡ before ++ (acted e ∷ later) → Stores e → (b p : ℕ) → value_at (state first earlier) b p ≡ e.was.ticket → ⊥
    stood_nowhere cut stores b p stood = by (values_from first earlier b p)
      where
        known : Spent first.floor.last (state first (earlier ++ rest)) (trace first (earlier ++ rest)) (tickets first (earlier ++ rest))
        known = spent (earlier ++ rest)

        by : (value_at (state first earlier) b p ≡ value_at first b p) ⊎ Some (IsTurn (StoresTicket (value_at (state first earlier) b p))) (trace first earlier) → ⊥
        by (inl same) =
            let there : OneOf (tickets first (earlier ++ rest)) e.was.ticket = known.stored (trace first earlier ++ before) e later (whole cut) stores in
            let some : first.floor.last < e.was.ticket = above first.floor.last (tickets first (earlier ++ rest)) known.rising e.was.ticket there in
            omega (arith, stood, same, ready.values b p)
        by (inr some) =
            known.once (trace first earlier ++ before) e later (whole cut) stores
            (some_front (IsTurn (StoresTicket e.was.ticket)) (trace first earlier) before (subst (λ (n : ℕ). Some (IsTurn (StoresTicket n)) (trace first earlier)) stood some))

  -- a value that changed stood nowhere before
  never_back :
      (early later last : List Call) (b p c q : ℕ)
      → (value_at (state first ((early ++ later) ++ last)) b p ≡ value_at (state first (early ++ later)) b p → ⊥)
      → value_at (state first early) c q ≡ value_at (state first ((early ++ later) ++ last)) b p
      → ⊥
  never_back early later last b p c q changed stood = by (values_from (state first (early ++ later)) last b p)
    where
      late : State
      late = state_from (state first (early ++ later)) last

      same : state first ((early ++ later) ++ last) ≡ late
      same = state_from_append first (early ++ later) last

      -- the turn that stored it came after the first calls
      since :
          (some : SomeTurn (StoresTicket (value_at late b p)) (trace_from (state first (early ++ later)) last))
          → trace_from (state first early) (later ++ last) ≡ (trace_from (state first early) later ++ some.older) ++ (acted some.turn ∷ some.newer)
      since some =
          trace_from_append (state first early) later last
          ∙ ap (λ (s : State). trace_from (state first early) later ++ trace_from s last) (sym (state_from_append first early later))
          ∙ ap (λ (es : List Entry). trace_from (state first early) later ++ es) some.cut
          ∙ sym (append_assoc (trace_from (state first early) later) some.older (acted some.turn ∷ some.newer))

      by :
          (value_at late b p ≡ value_at (state first (early ++ later)) b p)
          ⊎ Some (IsTurn (StoresTicket (value_at late b p))) (trace_from (state first (early ++ later)) last)
          → ⊥
      by (inl stays) = changed (rw same stays)
      by (inr some) =
          let found = some_turn _ _ some in
          stood_nowhere early (later ++ last) (trace_from (state first early) later ++ found.older) found.turn found.newer (since found) found.holds.0 c q
          (stood ∙ ap (λ (s : State). value_at s b p) same ∙ sym found.holds.1)

-- wherever a stretch can begin and for every list of calls, no value comes back
pub no_value_comes_back : {first : State} (ready : Ready first) (calls : List Call) → NoValueComesBack first calls
no_value_comes_back {first} ready calls =
    record {
      rising = (spent ready calls).rising;
      stores_ticket = λ at. (spent ready calls).stored at.before at.turn at.after at.cut;
      stored_once = λ at. (spent ready calls).once at.before at.turn at.after at.cut;
      stood_nowhere = λ earlier rest is at. stood_nowhere ready earlier rest at.before at.turn at.after at.cut;
      writes = λ i e is. store_writes (entry_turns (state first calls) i e is);
      spares = λ i e is. turn_spares (entry_turns (state first calls) i e is);
      retiring_spares = λ i b p. by_retiring (state first calls) i (λ t es. value_at t b p ≡ value_at (state first calls) b p) (λ r t act. retire_spares act b p) refl;
      comes_from = values_from first calls;
      never_back = λ early later last is. rw is (never_back ready early later last);
    }
