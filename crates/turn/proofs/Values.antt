-- The values of a bucket: a turn writes one at place 7 alone, where it stores the ticket of an insert. Assumes nothing.
use Prim.Native.Nat.{ℕ, ◌≤◌}
use mathlib.Core.Path.{◌≡◌}
use mathlib.Core.List.{List}
use native.Mathlib.Omega.{arith}
use lib.ListN.{set}
use lib.Seq.{get_or-set_same, get_or-set_other}
use Rattle.turn.specs.declared.Worker.{Worker}
use Rattle.turn.specs.declared.Action.TheVariants.{Store}
use Rattle.turn.specs.declared.Stepped.{Stepped}
use Rattle.turn.specs.Worker.{insert_kind, ticket_place}
use Rattle.turn.specs.Bucket.{cell, value_cell}
use Rattle.turn.specs.Places.{turn}
use Rattle.turn.proofs.Sound.{Accepted, accepted_works}
use Rattle.turn.proofs.Works.{works_filled}
use Rattle.turn.proofs.Outcomes.{Did, reads, loses, stores_value, stores_key, claims, commits, frees, closes}
use Rattle.turn.proofs.Outcome.{turn_did}

did_beside :
    {c : ℕ → ℕ} {w : Worker} {d : ℕ → ℕ} {x : Stepped}
    → Did c w d x
    → (k : ℕ)
    → value_cell 0 ≤ k
    → (w.place ≡ ticket_place → k ≡ value_cell w.held → ⊥)
    → d k ≡ c k
did_beside (reads same read) k from other = same k
did_beside (loses same swap missed) k from other = same k
did_beside (stores_value put place fills) k from other = put.others k (other place)
did_beside (stores_key put place fills) k from other = put.others k (omega (arith, fills.held))
did_beside (claims put met place known) k from other = put.others k (omega arith)
did_beside (commits put met place fills) k from other = put.others k (omega arith)
did_beside (frees put place fills) k from other = put.others k (omega arith)
did_beside (closes put met place known) k from other = put.others k (omega arith)

module _ (b : List ℕ) (w : Worker) (ok : Accepted b w) where
  -- a worker at places 7 to 10 is an insert that holds a slot
  pub filled : 7 ≤ w.place → w.place ≤ 10 → (w.kind ≡ insert_kind) × (w.held ≤ 2)
  filled = works_filled _ _ _ (accepted_works b w ok)

  -- a turn leaves every cell from the first value on as it was, but for the value of the held slot at place 7
  pub turn_beside :
      (k : ℕ) → value_cell 0 ≤ k → (w.place ≡ ticket_place → k ≡ value_cell w.held → ⊥) → cell (turn b w).bucket k ≡ cell b k
  turn_beside = did_beside (turn_did b w ok)

  -- a turn at another place than 7 leaves every value as it was
  pub turn_values : (w.place ≡ ticket_place → ⊥) → (k : ℕ) → value_cell 0 ≤ k → cell (turn b w).bucket k ≡ cell b k
  turn_values other k from = turn_beside k from (λ place. absurd (other place))

  module _ (place : w.place ≡ ticket_place) where
    stored : (turn b w).bucket ≡ set b (value_cell w.held) w.ticket
    unfolding turn
    stored = rw place

    -- a turn at place 7 comes out as a store
    pub turn_stores : (turn b w).stepped.action ≡ Store
    unfolding turn
    turn_stores = rw place

    -- a turn at place 7 makes the value of the held slot the ticket
    pub turn_ticket : cell (turn b w).bucket (value_cell w.held) ≡ w.ticket
    turn_ticket =
        let held = (filled (omega arith) (omega arith)).1 in
        let eight = ok.whole.eight in
        rw stored (get_or-set_same b (value_cell w.held) w.ticket 0 (omega arith))

    -- a turn at place 7 leaves every cell but the value of the held slot as it was
    pub turn_other_cells : (k : ℕ) → (k ≡ value_cell w.held → ⊥) → cell (turn b w).bucket k ≡ cell b k
    turn_other_cells k other = rw stored (get_or-set_other b (value_cell w.held) k w.ticket 0 other)
