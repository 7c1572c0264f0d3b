-- What stays in an accepted turn: the call that a worker is at, the keys that it does not store, the slots that were valid. Assumes nothing.
use Prim.Native.Nat.{ℕ, ◌≤◌}
use mathlib.Core.List.{List}
use mathlib.Core.Logic.{◌⊎◌, inl, inr}
use mathlib.Core.Path.{◌≡◌, refl, sym, ap, ◌∙◌}
use native.Mathlib.Decide.{ℕ_discrete}
use native.Mathlib.Omega.{arith}
use Rattle.mark.specs.Word.{mark_of, set_mark}
use Rattle.mark.proofs.Fields.{mark_set, mark_set_other, mark_bump}
use Rattle.turn.specs.declared.Worker.{Worker}
use Rattle.turn.specs.declared.Stepped.{Stepped}
use Rattle.turn.specs.Worker.{ticket_place, idle}
use Rattle.turn.specs.Bucket.{mark_cell, key_cell}
use Rattle.turn.specs.Places.{filled, turn}
use Rattle.turn.proofs.Sound.{Accepted}
use Rattle.turn.proofs.Lands.{Lands}
use Rattle.turn.proofs.Lands as lands
use Rattle.turn.proofs.Landing.{turn_lands}
use Rattle.turn.proofs.Effects.{SameCall}
use Rattle.turn.proofs.Outcomes.{Stored, Reads, read1, read1_remove, read2, read3, read4, read5, read11, read12}
use Rattle.turn.proofs.Outcomes.{Holder, Did, reads, loses, stores_value, stores_key, claims, commits, frees, closes}

-- ---- the call

-- the call of w goes on with v: with the slot that w holds, unless v has just claimed one, and then w held none
pub record StaysOn (w v : Worker) : Type 0 where
  pub call : SameCall w v
  pub held : (v.place ≡ ticket_place → ⊥) → v.held ≡ w.held
  pub past : w.held ≤ 2 → v.place ≡ ticket_place → ⊥

module _ (w : Worker) where
  on :
      (p s m v : ℕ)
      → (p ≡ ticket_place → ⊥)
      → StaysOn w (record { kind = w.kind; place = p; key = w.key; ticket = w.ticket; slot = s; word = m; held = w.held; seen = v; asleep = w.asleep })
  on p s m v other = record { call = record { kind = refl; key = refl; ticket = refl }; held = λ isnot. refl; past = λ some. other }

  lands_on : {m n : ℕ} {x : Stepped} → Lands m n w x → (x.worker ≡ idle → ⊥) → StaysOn w x.worker
  lands_on (lands.reads p same place other fits past aims) busy = on _ _ _ _ past
  lands_on (lands.goes a full p s v same swap quiet from fits past slot aims) busy = on _ _ _ _ past
  lands_on (lands.loses same swapper missed fits) busy = on _ _ _ _ (omega arith)
  lands_on (lands.answers answer same) busy = absurd (busy refl)
  lands_on (lands.claims new kind place held met) busy =
      record {
        call = record { kind = refl; key = refl; ticket = refl };
        held = λ other. absurd (other refl);
        past = λ some is. omega arith;
      }
  lands_on (lands.commits new kind place held met) busy = absurd (busy refl)
  lands_on (lands.frees new kind place held) busy = absurd (busy refl)
  lands_on (lands.closes new kind place held met) busy = absurd (busy refl)

-- a worker that is busy after a turn is at the call that it was at
pub turn_on : (b : List ℕ) (w : Worker) → Accepted b w → ((turn b w).stepped.worker ≡ idle → ⊥) → StaysOn w (turn b w).stepped.worker
turn_on b w ok = lands_on w (turn_lands b w ok)

-- places 7 and 8 read nothing
pub reads_place : {c : ℕ → ℕ} {w : Worker} {x : Stepped} → Reads c w x → (w.place ≡ 7 → ⊥) × (w.place ≡ 8 → ⊥)
reads_place (read1 place kind held) = omega arith
reads_place (read1_remove place removes) = omega arith
reads_place (read2 place looks) = omega arith
reads_place (read3 place looks choice) = omega arith
reads_place (read4 place looks choice) = omega arith
reads_place (read5 place looks choice) = omega arith
reads_place (read11 place removes choice) = omega arith
reads_place (read12 place removes) = omega arith

-- ---- keys

-- a worker holds slot p, and its turn is at this place
pub record HeldAt (place : ℕ) (w : Worker) (p : ℕ) : Type 0 where
  pub at : w.place ≡ place
  pub holder : Holder w
  pub slot : p ≡ w.held

module _ (c : ℕ → ℕ) (w : Worker) (d : ℕ → ℕ) (p : ℕ) where
  at_key :
      Stored c (key_cell w.held) w.key d → w.place ≡ 8 → Holder w → Dec (p ≡ w.held) → (d (key_cell p) ≡ c (key_cell p)) ⊎ HeldAt 8 w p
  at_key stored place fills (yes is) = inr (record { at = place; holder = fills; slot = is })
  at_key stored place fills (no other) = inl (stored.others _ (λ same. other (omega arith)))

  -- the key of a slot stays, or the worker that holds it stores its lot there
  pub key_did : {x : Stepped} → p ≤ 2 → Did c w d x → (d (key_cell p) ≡ c (key_cell p)) ⊎ HeldAt 8 w p
  key_did few (reads same read) = inl (same _)
  key_did few (loses same swap missed) = inl (same _)
  key_did few (stores_value stored place fills) = inl (stored.others _ (omega arith))
  key_did few (stores_key stored place fills) = at_key stored place fills (ℕ_discrete _ _)
  key_did few (claims stored met place known) = inl (stored.others _ (omega arith))
  key_did few (commits stored met place fills) = inl (stored.others _ (omega arith))
  key_did few (frees stored place fills) = inl (stored.others _ (omega arith))
  key_did few (closes stored met place removes) = inl (stored.others _ (omega arith))

  -- ---- valid marks

  -- a slot that is valid after a set to another mark was valid before
  unmarked : (m s x : ℕ) → s ≤ 2 → x ≤ 2 → (x ≡ 1 → ⊥) → mark_of (set_mark m s x) p ≡ 1 → Dec (s ≡ p) → mark_of m p ≡ 1
  unmarked m s x slot few other valid (yes is) =
      absurd (other (sym (mark_set m s x (omega arith) (omega arith)) ∙ ap (mark_of (set_mark m s x)) is ∙ valid))
  unmarked m s x slot few other valid (no isnot) = sym (mark_set_other m s x p (omega arith) isnot) ∙ valid

  sets :
      (s x : ℕ) → Stored c mark_cell (set_mark (c mark_cell) s x) d → s ≤ 2 → x ≤ 2 → (x ≡ 1 → ⊥) → mark_of (d mark_cell) p ≡ 1
      → mark_of (c mark_cell) p ≡ 1
  sets s x stored slot few other valid =
      unmarked (c mark_cell) s x slot few other (ap (λ (m : ℕ). mark_of m p) (sym stored.there) ∙ valid) (ℕ_discrete _ _)

  as_before : d mark_cell ≡ c mark_cell → mark_of (d mark_cell) p ≡ 1 → mark_of (c mark_cell) p ≡ 1
  as_before same valid = ap (λ (m : ℕ). mark_of m p) (sym same) ∙ valid

  -- a slot that is valid after a turn was valid before it, or the worker that holds it commits
  pub valid_did : {x : Stepped} → w.slot ≤ 2 → Did c w d x → mark_of (d mark_cell) p ≡ 1 → (mark_of (c mark_cell) p ≡ 1) ⊎ HeldAt 9 w p
  valid_did few (reads same read) valid = inl (as_before (same _) valid)
  valid_did few (loses same swap missed) valid = inl (as_before (same _) valid)
  valid_did few (stores_value stored place fills) valid = inl (as_before (stored.others _ (omega arith)) valid)
  valid_did few (stores_key stored place fills) valid = inl (as_before (stored.others _ (omega arith)) valid)
  valid_did few (claims stored met place known) valid = inl (sets w.slot 2 (rw met stored) few (omega arith) (omega arith) valid)
  valid_did few (commits stored met place fills) valid = by (ℕ_discrete _ _)
    where
      by : Dec (w.held ≡ p) → (mark_of (c mark_cell) p ≡ 1) ⊎ HeldAt 9 w p
      by (yes is) = inr (record { at = place; holder = fills; slot = sym is })
      by (no other) =
          inl (rw met
          (sym (mark_set_other (filled w) w.held 1 p (omega arith) other)
          ∙ sym (mark_bump (set_mark (filled w) w.held 1) p)
          ∙ ap (λ (m : ℕ). mark_of m p) (sym stored.there)
          ∙ valid))
  valid_did few (frees stored place fills) valid = inl (sets w.held 0 stored fills.held (omega arith) (omega arith) valid)
  valid_did few (closes stored met place removes) valid = inl (sets w.slot 0 (rw met stored) few (omega arith) (omega arith) valid)
