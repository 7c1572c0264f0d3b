-- The call of a history that a field asks for is the start that the sheet gives its worker. Assumes nothing.
use Prim.Native.Nat.{ℕ, ◌^◌, ◌<◌}
use mathlib.Core.Bool.{Bool, true, false, cond}
use mathlib.Core.Path.{◌≡◌, refl, ap}
use mathlib.Core.List.{[]}
use native.Mathlib.Omega.{arith}
use lib.Dec.{eqb}
use Rattle.mark.proofs.Choices.{by_cases}
use Rattle.turn.specs.Worker.{look_kind, insert_kind}
use Rattle.engine.specs.Calls.{insert_call}
use Rattle.sheet.specs.declared.Call as Field
use Rattle.sheet.specs.Play.{asked}
use Rattle.history.specs.History.{State, Call, ticket, listed_of, seat_of, started_as, after, entries}
use Rattle.plays.specs.Points.{call_of}

-- two choices by one test come to the same where their cases do
same_choice :
    {A B C : Type 0} (f : A → C) (g : B → C) (t : Bool) (a x : A) (b y : B) → f a ≡ g b → f x ≡ g y → f (cond t a x) ≡ g (cond t b y)
same_choice f g true a x b y one two = one
same_choice f g false a x b y one two = two

module _ (s : State) (c : Field.Call) where
  -- the call that a field asks for leaves the state that the sheet's start leaves
  pub after_call :
      c.ticket < 2 ^ 64
      → after s (call_of c) ≡ started_as s c.worker (asked s.board (seat_of s c.worker) (listed_of s c.worker) c)
  unfolding asked
  after_call small =
      let same : (ticket c.ticket).number ≡ c.ticket = omega arith in
      same_choice (after s) (started_as s c.worker) (eqb c.kind look_kind) _ _ _ _ refl
      (same_choice (after s) (started_as s c.worker) (eqb c.kind insert_kind) _ _ _ _
      (ap
      (λ (bid : ℕ).
      started_as s c.worker (insert_call s.board (seat_of s c.worker) (listed_of s c.worker) (record { lot = c.lot; ticket = bid }))) same)
      refl)

  -- the call that a field asks for does no turn
  pub entries_call : entries s (call_of c) ≡ []
  entries_call =
      by_cases (λ (x : Call). entries s x ≡ []) (eqb c.kind look_kind) _ _ (λ is. refl)
      (λ isnot. by_cases (λ (x : Call). entries s x ≡ []) (eqb c.kind insert_kind) _ _ (λ is. refl) (λ other. refl))
