-- A remove alone: one turn for the mark word, one for each key up to the lot's, one for the ticket, and a swap that is won. Assumes nothing.
use Prim.Native.Nat.{ℕ, ◌+◌, ◌≤◌, ◌<◌}
use mathlib.Core.List.{List}
use mathlib.Core.Path.{◌≡◌, refl, sym, ap, ◌∙◌}
use native.Mathlib.Omega.{arith}
use Rattle.turn.specs.declared.Worker.{Worker}
use Rattle.turn.specs.declared.Stepped.{Stepped}
use Rattle.turn.specs.declared.Action.TheVariants.{Read, Won}
use Rattle.turn.specs.Worker.{remove_kind, read_word, remove_of}
use Rattle.turn.specs.Bucket.{cell, mark_cell}
use Rattle.turn.proofs.Lands.{moved, expects}
use Rattle.turn.proofs.Outcomes.{Reads, read1, read1_remove, read2, read3, read4, read5, read11, read12, passes, fails, arrives, next_key_lem, no_key}
use Rattle.turn.proofs.Outcomes.{Searcher, Did, reads, loses, stores_value, stores_key, claims, commits, frees, closes, AtSwap, at6, at9, at13}
use Rattle.turn.proofs.Outcome.{turn_did}
use Rattle.history.specs.HowLong.{remove_most}
use Rattle.history.proofs.Alone.{StepsTo, further, final, Goes}

-- a remove, alone in a bucket with the cells c, that has had k turns: past the first it has the mark word that stands there
pub record Removed (c : ℕ → ℕ) (k : ℕ) (w : Worker) : Type 0 where
  pub kind : w.kind ≡ remove_kind
  pub slot : w.slot ≤ 2
  pub word : (w.place ≡ 1 → ⊥) → w.word ≡ c mark_cell
  pub at1 : w.place ≡ 1 → k ≡ 0
  pub at11 : w.place ≡ 11 → k ≤ w.slot + 1
  pub at12 : w.place ≡ 12 → k ≤ 4
  pub most : k < remove_most

-- a remove alone in a bucket
abbrev pub RemoveAlone : List ℕ → ℕ → Worker → Type 0
RemoveAlone b k w = Removed (λ j. cell b j) k w

-- a remove has had no turn when it starts
pub remove_started : (b : List ℕ) (lot : ℕ) → RemoveAlone b 0 (remove_of lot)
remove_started b lot =
    record {
      kind = refl;
      slot = omega arith;
      word = λ other. absurd (other refl);
      at1 = λ is. refl;
      at11 = λ is. omega arith;
      at12 = λ is. omega arith;
      most = omega arith;
    }

module _ (c : ℕ → ℕ) (w : Worker) (b : List ℕ) (k : ℕ) (removed : Removed c k w) where
  abbrev Then : Stepped → Type 0
  Then x = StepsTo RemoveAlone (Unit {0}) k b x

  no_look : {A : Type 0} → Searcher w → A
  no_look looks = let kind = removed.kind in absurd (omega (arith, looks.insert (omega arith)))

  -- on to another place, with the mark word in mind
  onward :
      (p s v : ℕ) → cell b mark_cell ≡ c mark_cell → (w.place ≡ 1 → ⊥) → (s ≤ 2) × (2 ≤ p) × (k + 1 < remove_most) → (p ≡ 11 → k ≤ s) → (p ≡ 12 → k ≤ 3)
      → RemoveAlone b (k + 1) (moved p s v w)
  onward p s v same past known at11 at12 =
      record {
        kind = removed.kind;
        slot = known.0;
        word = λ other. removed.word past ∙ sym same;
        at1 = λ is. absurd (omega arith);
        at11 = λ is. let few = at11 is in omega arith;
        at12 = λ is. let few = at12 is in omega arith;
        most = known.2;
      }

  read_next : {x : Stepped} → cell b mark_cell ≡ c mark_cell → Reads c w x → Then x
  read_next same (read1 place kind held) = absurd (omega (arith, removed.kind))
  read_next same (read1_remove place removes) =
      let none = removed.at1 place in
      let begun : RemoveAlone b (k + 1) (read_word 11 (c mark_cell) w) =
      record {
        kind = removed.kind;
        slot = omega arith;
        word = λ other. sym same;
        at1 = λ is. absurd (omega arith);
        at11 = λ is. omega arith;
        at12 = λ is. absurd (omega arith);
        most = omega arith;
      } in
      further begun
  read_next same (read2 place looks) = no_look looks
  read_next same (read3 place looks choice) = no_look looks
  read_next same (read4 place looks choice) = no_look looks
  read_next same (read5 place looks choice) = no_look looks
  read_next same (read11 place removes (passes known arrives)) =
      let had = removed.at11 place in
      let few = removed.slot in
      further (onward 12 w.slot w.seen same (omega arith) (omega arith) (λ is. absurd (omega arith)) (λ is. omega arith))
  read_next same (read11 place removes (fails other (next_key_lem more))) =
      let had = removed.at11 place in
      further (onward 11 (w.slot + 1) w.seen same (omega arith) (omega arith) (λ is. omega arith) (λ is. absurd (omega arith)))
  read_next same (read11 place removes (fails other (no_key done))) = final tt Read 0
  read_next same (read12 place removes) =
      let had = removed.at12 place in
      let few = removed.slot in
      further (onward 13 w.slot _ same (omega arith) (omega arith) (λ is. absurd (omega arith)) (λ is. absurd (omega arith)))

  -- its swap finds the mark word that it expects
  no_loss : {A : Type 0} → AtSwap w → (expects w ≡ c mark_cell → ⊥) → A
  no_loss (at6 place known) missed = absurd (omega (arith, known.kind, removed.kind))
  no_loss (at9 place known) missed = absurd (omega (arith, known.kind, removed.kind))
  no_loss (at13 place known) missed = absurd (missed (rw place (removed.word (omega arith))))

  did_next : {x : Stepped} → Did c w (λ j. cell b j) x → Then x
  did_next (reads same read) = read_next (same mark_cell) read
  did_next (loses same swap missed) = no_loss swap missed
  did_next (stores_value stored place fills) = absurd (omega (arith, fills.kind, removed.kind))
  did_next (stores_key stored place fills) = absurd (omega (arith, fills.kind, removed.kind))
  did_next (claims stored met place known) = absurd (omega (arith, known.kind, removed.kind))
  did_next (commits stored met place fills) = absurd (omega (arith, fills.kind, removed.kind))
  did_next (frees stored place fills) = absurd (omega (arith, fills.kind, removed.kind))
  did_next (closes stored met place removes) = final tt Won w.seen

-- a remove alone has not had six turns
pub remove_fewer : (b : List ℕ) (k : ℕ) (w : Worker) → RemoveAlone b k w → k < remove_most
remove_fewer b k w removed = omega (arith, removed.most)

-- each turn of a remove alone goes on or ends it
pub remove_goes : Goes RemoveAlone (Unit {0})
remove_goes =
    record {
      busy = λ removed is. omega (arith, removed.kind, ap (λ (x : Worker). x.kind) is);
      steps = λ {b} {k} {w} ok ticketed removed. did_next (λ j. cell b j) w _ k removed (turn_did b w ok);
    }
