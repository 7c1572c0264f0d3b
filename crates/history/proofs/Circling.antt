-- An insert alone where no slot of its bucket is empty and its lot does not stand there: it goes round and round, and no turn of it ends it.
-- Assumes nothing.
use Prim.Native.Nat.{ℕ, ◌+◌}
use mathlib.Core.List.{List}
use mathlib.Core.Path.{◌≡◌, refl, sym, ap, subst}
use native.Mathlib.Omega.{arith}
use Rattle.turn.specs.declared.Worker.{Worker}
use Rattle.turn.specs.declared.Stepped.{Stepped}
use Rattle.turn.specs.Worker.{insert_kind, no_slot, idle, read_word, insert_of}
use Rattle.turn.specs.Bucket.{cell, mark_cell}
use Rattle.turn.specs.Places.{Step, turn}
use Rattle.turn.proofs.Outcome.{look_keeps}
use Rattle.history.proofs.Alone.{Ticketed, StepsTo, Goes}
use Rattle.history.proofs.Alone as alone
use Rattle.history.proofs.Searching.{Lets, empty_slot, lot_there, Searches, Searched, further, passed, free, full, found}
use Rattle.history.proofs.Searching.{search_begins, search_begun, search_next}

-- an insert that nothing lets end
pub data Circles (c : ℕ → ℕ) (w : Worker) : Type 0 where
  begins : w.kind ≡ insert_kind → w.place ≡ 1 → w.held ≡ no_slot → (Lets c w.key → ⊥) → Circles c w
  searches : Searches c w → (Lets c w.key → ⊥) → Circles c w

-- such an insert alone in a bucket, however many turns it has had
abbrev pub CircleAlone : List ℕ → ℕ → Worker → Type 0
CircleAlone b k w = Circles (λ j. cell b j) w

-- an insert that nothing lets end is such a one when it starts
pub circle_started : (b : List ℕ) (lot t : ℕ) → (Lets (λ j. cell b j) lot → ⊥) → CircleAlone b 0 (insert_of lot t)
circle_started b lot t shut = begins refl refl refl shut

module _ (b : List ℕ) (k : ℕ) (w : Worker) where
  abbrev c : ℕ → ℕ
  c j = cell b j

  search_steps : {x : Stepped} → Searches c w → (Lets c w.key → ⊥) → Searched c w x → StepsTo CircleAlone ⊥ k b x
  search_steps at shut (further on place slot key) = alone.further (searches on (rw key shut))
  search_steps at shut (passed past on place slot key) = alone.further (searches on (rw key shut))
  search_steps at shut (free e past done few empty) = absurd (shut (empty_slot e few empty))
  search_steps at shut (full past done taken) = alone.further (begins at.kind refl at.held shut)
  search_steps at shut (found has) = absurd (shut (lot_there w.slot at.slot has))

  steps : Ticketed b → Circles c w → StepsTo CircleAlone ⊥ k (turn b w).bucket (turn b w).stepped
  steps ticketed (begins kind place held shut) =
      let next : CircleAlone b (k + 1) (read_word 2 (cell b mark_cell) w) = searches (search_begun b w kind held) shut in
      subst (λ (s : Step). StepsTo CircleAlone ⊥ k s.bucket s.stepped) (sym (search_begins b w kind place)) (alone.further next)
  steps ticketed (searches at shut) = rw (look_keeps b w at.from at.to) (search_steps at shut (search_next b w ticketed at))

  busy : Circles c w → w ≡ idle → ⊥
  busy (begins kind place held shut) is = omega (arith, kind, ap (λ (x : Worker). x.kind) is)
  busy (searches at shut) is = omega (arith, at.kind, ap (λ (x : Worker). x.kind) is)

-- each turn of an insert alone that nothing lets end goes on
pub circle_goes : Goes CircleAlone ⊥
circle_goes =
    record {
      busy = λ {b} {k} {w} circles. busy b k w circles;
      steps = λ {b} {k} {w} ok ticketed circles. steps b k w ticketed circles;
    }
