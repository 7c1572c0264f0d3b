-- An insert that has not stored its ticket yet: place 7 is come to from place 6 alone, where no slot is held, so that an insert which
-- has stored its ticket never waits to store it again. Assumes nothing.
use Prim.Native.Nat.{ℕ, ◌≤◌}
use mathlib.Core.Path.{◌≡◌, sym, ap, ◌∙◌}
use mathlib.Core.List.{List}
use native.Mathlib.Omega.{arith}
use Rattle.turn.specs.declared.Worker.{Worker}
use Rattle.turn.specs.Worker.{insert_kind, ticket_place}
use Rattle.turn.specs.Places.{turn}
use Rattle.turn.proofs.Sound.{Accepted}
use Rattle.turn.proofs.Stays.{StaysOn, turn_on}

-- an insert that holds no slot, or is at place 7
pub record Waits (w : Worker) : Type 0 where
  pub kind : w.kind ≡ insert_kind
  pub early : w.held ≤ 2 → w.place ≡ ticket_place

module _ (b : List ℕ) (w : Worker) (ok : Accepted b w) where
  abbrev v : Worker
  v = (turn b w).stepped.worker

  insert_on : v.kind ≡ insert_kind → StaysOn w v
  insert_on kind = turn_on b w ok (λ is. omega (arith, kind, ap (λ (x : Worker). x.kind) is))

  -- an insert that a turn leaves was that insert before it, with the same ticket
  pub turn_insert : v.kind ≡ insert_kind → (w.kind ≡ insert_kind) × (v.ticket ≡ w.ticket)
  turn_insert kind = let on = insert_on kind in (sym on.call.kind ∙ kind, on.call.ticket)

  -- an insert that waits after a turn held no slot before it
  pub turn_waits : Waits v → w.held ≤ 2 → ⊥
  turn_waits waits some =
      let on = insert_on waits.kind in
      on.past some (waits.early (omega (arith, on.held (on.past some))))
