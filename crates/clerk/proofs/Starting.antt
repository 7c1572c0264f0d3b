-- A start of a call: it is accepted, and its worker, which was at no call, is at that one; or it is refused, and nothing is changed. It has no
-- turn. Assumes nothing.
use Prim.Native.Nat.{ℕ, ◌<◌}
use mathlib.Core.Bool.{Bool, false}
use mathlib.Core.List.{[]}
use mathlib.Core.Path.{◌≡◌, refl, sym, ap, ◌∙◌}
use native.Mathlib.Omega.{arith}
use lib.Dec.{eqb}
use lib.ListN.{length, set, length-map}
use lib.Seq.{set-get_or}
use borrow.Author.Tests.{eqb-true}
use Rattle.mark.proofs.Choices.{by_cases}
use Rattle.turn.specs.declared.Worker.{Worker}
use Rattle.turn.specs.Worker.{idle, look_for, insert_of, remove_of}
use Rattle.turn.specs.Asleep.{awake}
use Rattle.engine.specs.declared.Floor.{Floor}
use Rattle.engine.specs.Calls.{Started}
use Rattle.engine.specs.Refusals.{spent, start_number}
use Rattle.engine.specs.Calls.{blank, spending, start_call}
use Rattle.history.specs.History.{State, Call, look, insert, remove, listed_of, record_of, seat_of, started_as, after, entries, begun, begins}
use Rattle.engine.proofs.Sleeping.{put_awake}
use Rattle.history.proofs.States.{view}
use Rattle.history.proofs.Listed.{idle_up}
use Rattle.history.proofs.Starting.{not_refused}
use Rattle.clerk.specs.Does.{Asked}
use Rattle.clerk.specs.Calls.{asks}
use Rattle.clerk.specs.Clerk.{IsStart, looks, inserts, removes}

-- from s to t worker i, which was at no call, began one that asks this
pub record Taken (s : State) (i : ℕ) (asked : Asked) (t : State) : Type 0 where
  pub new : Worker
  pub within : i < length (view s).records
  pub was : record_of s i ≡ idle
  pub records : (view t).records ≡ set (view s).records i new
  pub busy : new.kind ≡ 0 → ⊥
  pub asks_it : asks new ≡ asked

-- what a start by which worker i asks this comes to: it is accepted, or it is refused and nothing is changed
pub data Tried (s : State) (i : ℕ) (asked : Asked) (c : Call) : Type 0 where
  taken : (begins s c ≡ 0 → ⊥) → Taken s i asked (after s c) → Tried s i asked c
  refused : begins s c ≡ 0 → after s c ≡ s → Tried s i asked c

module _ (s : State) {i : ℕ} where
  -- where a call of the library starts v, accepted or refused
  tried :
      (late : Bool) (v : Worker) (g : Floor) (c : Call)
      → (v.kind ≡ 0 → ⊥)
      → v.asleep ≡ 0
      → let x = start_call s.board (seat_of s i) (listed_of s i) late v g in
      after s c ≡ started_as s i x
      → begins s c ≡ begun v.kind x
      → Tried s i (asks v) c
  unfolding start_call
  tried late v g c busy up =
      let refusal = start_number s.floor s.board (length s.records) i (listed_of s i) late in
      by_cases (λ (x : Started). after s c ≡ started_as s i x → begins s c ≡ begun v.kind x → Tried s i (asks v) c) (eqb refusal 0) _ _
      (λ is then same.
      let free = not_refused s.floor s.board (length s.records) i (listed_of s i) late (eqb-true _ 0 is) in
      taken (λ none. busy (sym same ∙ none))
      (record {
        new = v;
        within = rw (length-map s.records awake) free.within;
        was = idle_up s i free.was;
        records = ap (λ (t : State). (view t).records) then ∙ put_awake s.records i v up;
        busy = busy;
        asks_it = refl;
      }))
      (λ isnot then same. refused (rw isnot at same) (rw (set-get_or s.records i blank) at then))

  -- a start is accepted, and its worker is then at the call that it asks; or it is refused, and nothing is changed
  pub start_tried : {asked : Asked} {c : Call} → IsStart i asked c → Tried s i asked c
  start_tried (looks lot) = tried false (look_for lot) s.floor (look i lot) (omega arith) refl refl refl
  start_tried (inserts lot t) =
      tried (spent s.floor t.number) (insert_of lot t.number) (spending s.floor t.number) (insert i lot t) (omega arith) refl refl refl
  start_tried (removes lot) = tried false (remove_of lot) s.floor (remove i lot) (omega arith) refl refl refl

  -- a start has no turn
  pub start_turns : {asked : Asked} {c : Call} → IsStart i asked c → entries s c ≡ []
  start_turns (looks lot) = refl
  start_turns (inserts lot t) = refl
  start_turns (removes lot) = refl
