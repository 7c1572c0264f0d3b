-- What a turn does to the lots on an opened board: nothing, or one comes by a commit, or one goes by a close. All other valid slots stay as
-- they are. Whatever another worker does, this is all of it that a clause about valid slots has to meet. Assumes nothing.
use Prim.Native.Nat.{ℕ, ◌≤◌}
use mathlib.Core.Logic.{inl, inr}
use mathlib.Core.Path.{◌≡◌, refl, sym, ap, subst, ◌∙◌}
use native.Mathlib.Decide.{ℕ_discrete}
use native.Mathlib.Omega.{arith}
use Rattle.mark.specs.Word.{mark_of, set_mark}
use Rattle.mark.proofs.Fields.{mark_set, mark_set_other, mark_bump}
use Rattle.turn.specs.declared.Worker.{Worker}
use Rattle.turn.specs.declared.Action.TheVariants.{Won, Lost}
use Rattle.turn.specs.declared.Progress.TheVariants.{Ended}
use Rattle.turn.specs.declared.Stepped.{Stepped}
use Rattle.turn.specs.Worker.{idle, no_slot, commit_place, close_place}
use Rattle.turn.specs.Bucket.{mark_cell, key_cell, value_cell}
use Rattle.turn.specs.Places.{ends, filled, commit, close}
use Rattle.turn.proofs.Effects.{Aimed}
use Rattle.turn.proofs.Outcomes.{Same, Stored, Holder, Remover, Reads, read1, read1_remove, read2, read3, read4, read5, read11, read12}
use Rattle.turn.proofs.Outcomes.{Did, reads, loses, stores_value, stores_key, claims, commits, frees, closes}
use Rattle.floor.specs.Told.{action_number}
use Rattle.history.specs.Trace.{Turn, Retiring, acted, retired, Commits, Closes}
use Rattle.history.specs.History.{State}
use Rattle.history.specs.Values.{value_at}
use Rattle.history.specs.Cells.{cells_at, mark_at, key_at, Holds, Fills}
use Rattle.history.proofs.States.{view}
use Rattle.history.proofs.Held.{own_sure}
use Rattle.turn.proofs.Retiring.{retires_holder}
use Rattle.history.proofs.Steps.{Turns, Retires, step_of}
use Rattle.history.proofs.Account.{other_cells, turn_account, action_is, progress_is, ended_idle}
use Rattle.history.proofs.Cells.{Known, marked_few, retire_marks, retire_spares, retire_key, retire_value}
use Rattle.clerk.specs.Calls.{Settles}

-- ---- one slot

-- slot p, in cells c that become d: valid after as before, and then with the same lot and ticket
pub record SameSlot (c d : ℕ → ℕ) (p : ℕ) : Type 0 where
  pub on : mark_of (c mark_cell) p ≡ 1 → mark_of (d mark_cell) p ≡ 1
  pub back : mark_of (d mark_cell) p ≡ 1 → mark_of (c mark_cell) p ≡ 1
  pub key : mark_of (c mark_cell) p ≡ 1 → d (key_cell p) ≡ c (key_cell p)
  pub value : mark_of (c mark_cell) p ≡ 1 → d (value_cell p) ≡ c (value_cell p)

-- cells that are the same have the same slots
pub same_slots : {c d : ℕ → ℕ} → Same c d → (p : ℕ) → SameSlot c d p
same_slots same p =
    record {
      on = λ valid. rw (same mark_cell) valid;
      back = λ valid. rw (same mark_cell) at valid;
      key = λ valid. same _;
      value = λ valid. same _;
    }

-- a slot that stays the same over a turn is the same backwards
pub same_back : {c d : ℕ → ℕ} {p : ℕ} → SameSlot c d p → SameSlot d c p
same_back same =
    record {
      on = same.back;
      back = same.on;
      key = λ valid. sym (same.key (same.back valid));
      value = λ valid. sym (same.value (same.back valid));
    }

module _ {c d : ℕ → ℕ} (p : ℕ) where
  -- the mark word stays, and what is stored is in a slot that is not valid
  beside :
      (j x : ℕ)
      → Stored c j x d
      → (mark_cell ≡ j → ⊥)
      → (mark_of (c mark_cell) p ≡ 1 → (key_cell p ≡ j → ⊥) × (value_cell p ≡ j → ⊥))
      → SameSlot c d p
  beside j x stored mark elsewhere =
      let same = stored.others mark_cell mark in
      record {
        on = λ valid. rw same valid;
        back = λ valid. rw same at valid;
        key = λ valid. stored.others _ (elsewhere valid).0;
        value = λ valid. stored.others _ (elsewhere valid).1;
      }

  -- the mark word alone changes, and slot p is valid after as before
  marked :
      (x : ℕ)
      → Stored c mark_cell x d
      → (mark_of (c mark_cell) p ≡ 1 → mark_of x p ≡ 1)
      → (mark_of x p ≡ 1 → mark_of (c mark_cell) p ≡ 1)
      → SameSlot c d p
  marked x stored on back =
      record {
        on = λ valid. rw stored.there (on valid);
        back = λ valid. back (rw stored.there at valid);
        key = λ valid. stored.others _ (omega arith);
        value = λ valid. stored.others _ (omega arith);
      }

-- a set at another slot leaves slot p as it was
other_slot : {c d : ℕ → ℕ} (p q x : ℕ) → x ≤ 2 → Stored c mark_cell (set_mark (c mark_cell) q x) d → (q ≡ p → ⊥) → SameSlot c d p
other_slot {c} p q x few stored other =
    let same = mark_set_other (c mark_cell) q x p (omega arith) other in marked p _ stored (λ valid. same ∙ valid) (λ valid. sym same ∙ valid)

-- a set to another mark than 1, at a slot that is not valid, leaves all valid slots
not_valid :
    {c d : ℕ → ℕ} (q x : ℕ)
    → q ≤ 2
    → x ≤ 2
    → (x ≡ 1 → ⊥)
    → Stored c mark_cell (set_mark (c mark_cell) q x) d
    → (mark_of (c mark_cell) q ≡ 1 → ⊥)
    → (p : ℕ)
    → SameSlot c d p
not_valid {c} {d} q x slot few other stored empty p = by (ℕ_discrete q p)
  where
    by : Dec (q ≡ p) → SameSlot c d p
    by (no isnot) = other_slot p q x few stored isnot
    by (yes is) =
        marked p _ stored (λ valid. absurd (empty (ap (mark_of (c mark_cell)) is ∙ valid)))
        (λ valid. absurd (other (sym (mark_set (c mark_cell) q x (omega arith) (omega arith)) ∙ ap (mark_of (set_mark (c mark_cell) q x)) is ∙ valid)))

-- ---- a turn

-- a won commit: the slot that the worker held is valid now, with its lot and its ticket
pub record Commit (s : State) (e : Turn) (t : State) : Type 0 where
  pub holder : Holder e.was
  pub ends : e.report.progress ≡ Ended 1
  pub was : mark_at s e.report.bucket e.was.held ≡ 2
  pub valid : mark_at t e.report.bucket e.was.held ≡ 1
  pub key : key_at t e.report.bucket e.was.held ≡ e.was.key
  pub value : value_at t e.report.bucket e.was.held ≡ e.was.ticket
  pub others : (b p : ℕ) → (b ≡ e.report.bucket → p ≡ e.was.held → ⊥) → SameSlot (cells_at s b) (cells_at t b) p

-- a won close: the slot that the worker looked at was valid, and is empty now
pub record Close (s : State) (e : Turn) (t : State) : Type 0 where
  pub remover : Remover e.was
  pub ends : e.report.progress ≡ Ended e.was.seen
  pub few : e.was.slot ≤ 2
  pub was : mark_at s e.report.bucket e.was.slot ≡ 1
  pub gone : mark_at t e.report.bucket e.was.slot ≡ 0
  pub others : (b p : ℕ) → (b ≡ e.report.bucket → p ≡ e.was.slot → ⊥) → SameSlot (cells_at s b) (cells_at t b) p

-- no turn commits and closes
pub no_commit_closes : (e : Turn) → Commits e → Closes e → ⊥
no_commit_closes e commit close = omega (arith, commit.0, close.0)

-- what a turn does to the lots on the board
pub data Deals (s : State) (e : Turn) (t : State) : Type 0 where
  nothing : (Settles e → ⊥) → ((b p : ℕ) → SameSlot (cells_at s b) (cells_at t b) p) → Deals s e t
  comes : Commits e → Commit s e t → Deals s e t
  goes : Closes e → Close s e t → Deals s e t

-- places 9 and 13 read nothing
reads_elsewhere : {c : ℕ → ℕ} {w : Worker} {x : Stepped} → Reads c w x → (w.place ≡ commit_place → ⊥) × (w.place ≡ close_place → ⊥)
reads_elsewhere (read1 place kind held) = omega arith
reads_elsewhere (read1_remove place removes) = omega arith
reads_elsewhere (read2 place looks) = omega arith
reads_elsewhere (read3 place looks choice) = omega arith
reads_elsewhere (read4 place looks choice) = omega arith
reads_elsewhere (read5 place looks choice) = omega arith
reads_elsewhere (read11 place removes choice) = omega arith
reads_elsewhere (read12 place removes) = omega arith

module _ {s t : State} {e : Turn} (act : Turns s e t) (known : Known s) where
  abbrev w : Worker
  w = e.was

  abbrev b : ℕ
  b = e.report.bucket

  abbrev c : ℕ → ℕ
  c = cells_at s b

  abbrev d : ℕ → ℕ
  d = cells_at t b

  aimed : Aimed w
  aimed = rw act.acts.was (known.kept.aimed e.worker)

  -- what a worker holds has mark 2
  held_two : Holder w → mark_at s b w.held ≡ 2
  held_two holder = sure (holder.kind, holder.held)
    where
      sure : Holds w → mark_at s b w.held ≡ 2
      sure = rw act.acts.was (λ holds. (own_sure _ (view s) (acted e) _ (view t) known.kept act.acts holds).board)

  -- what a worker has put into the slot that it holds
  pub held_cells : Holder w → Fills (cells_at s b) w
  held_cells holder = fills (holder.kind, holder.held)
    where
      fills : Holds w → Fills (cells_at s b) w
      fills = rw (act.acts.bucket, act.acts.was) (known.cells.filled e.worker)

  elsewhere : (bucket p : ℕ) → (bucket ≡ b → ⊥) → SameSlot (cells_at s bucket) (cells_at t bucket) p
  elsewhere bucket p other = same_slots (λ k. other_cells act bucket k other) p

  -- in the worker's bucket and in the others
  everywhere : ((p : ℕ) → SameSlot c d p) → (bucket p : ℕ) → SameSlot (cells_at s bucket) (cells_at t bucket) p
  everywhere here bucket p = by (ℕ_discrete bucket b)
    where
      by : Dec (bucket ≡ b) → SameSlot (cells_at s bucket) (cells_at t bucket) p
      by (yes is) = subst (λ (k : ℕ). SameSlot (cells_at s k) (cells_at t k) p) (sym is) (here p)
      by (no other) = elsewhere bucket p other

  -- but for one slot of the worker's bucket
  but_one :
      (q : ℕ)
      → ((p : ℕ) → (q ≡ p → ⊥) → SameSlot c d p)
      → (bucket p : ℕ)
      → (bucket ≡ b → p ≡ q → ⊥)
      → SameSlot (cells_at s bucket) (cells_at t bucket) p
  but_one q here bucket p apart = by (ℕ_discrete bucket b)
    where
      by : Dec (bucket ≡ b) → SameSlot (cells_at s bucket) (cells_at t bucket) p
      by (yes is) = subst (λ (k : ℕ). SameSlot (cells_at s k) (cells_at t k) p) (sym is) (here p (λ same. apart is (sym same)))
      by (no other) = elsewhere bucket p other

  -- where the turn neither commits nor closes
  module _ (unsettled : Settles e → ⊥) where
    same_all : Same c d → Deals s e t
    same_all same = nothing unsettled (everywhere (same_slots same))

    beside_all :
        (j x : ℕ)
        → Stored c j x d
        → (mark_cell ≡ j → ⊥)
        → ((p : ℕ) → mark_of (c mark_cell) p ≡ 1 → (key_cell p ≡ j → ⊥) × (value_cell p ≡ j → ⊥))
        → Deals s e t
    beside_all j x stored mark apart =
        nothing unsettled (everywhere (λ p. beside p j x stored mark (apart p)))

    set_all :
        (q x : ℕ)
        → q ≤ 2
        → x ≤ 2
        → (x ≡ 1 → ⊥)
        → Stored c mark_cell (set_mark (c mark_cell) q x) d
        → (mark_of (c mark_cell) q ≡ 1 → ⊥)
        → Deals s e t
    set_all q x slot few other stored empty =
        nothing unsettled (everywhere (not_valid q x slot few other stored empty))

  -- at another place than 9 and 13 nothing is settled
  unsettled_at : (w.place ≡ commit_place → ⊥) × (w.place ≡ close_place → ⊥) → Settles e → ⊥
  unsettled_at other (inl commit) = other.0 commit.0
  unsettled_at other (inr close) = other.1 close.0

  unsettled_lost : e.report.action ≡ Lost → Settles e → ⊥
  unsettled_lost lost (inl commit) = omega (arith, ap action_number (sym lost ∙ commit.1))
  unsettled_lost lost (inr close) = omega (arith, ap action_number (sym lost ∙ close.1))

  -- a slot that is held is not valid
  not_held : (p : ℕ) → Holder w → mark_of (c mark_cell) p ≡ 1 → p ≡ w.held → ⊥
  not_held p holder valid is = omega (arith, sym valid ∙ ap (mark_of (c mark_cell)) is ∙ held_two holder)

  commit_of_lem :
      (step_of s e).stepped ≡ ends Won 1
      → Stored c mark_cell (commit w) d
      → c mark_cell ≡ filled w
      → w.place ≡ commit_place
      → Holder w
      → Commit s e t
  commit_of_lem is stored met place fills =
      let some : w.held ≤ 2 = fills.held in
      let one : mark_of (set_mark (filled w) w.held 1) w.held ≡ 1 = mark_set (filled w) w.held 1 (omega arith) (omega arith) in
      record {
        holder = fills;
        ends = progress_is act is;
        was = held_two fills;
        valid = rw stored.there (mark_bump _ w.held ∙ one);
        key = stored.others _ (omega arith) ∙ (held_cells fills).key (omega arith) (omega arith);
        value = stored.others _ (omega arith) ∙ (held_cells fills).value (omega arith);
        others =
            but_one w.held (λ p other.
            let same : mark_of (commit w) p ≡ mark_of (c mark_cell) p =
            mark_bump _ p ∙ mark_set_other (filled w) w.held 1 p (omega arith) other ∙ ap (λ (m : ℕ). mark_of m p) (sym met) in
            marked p _ stored (λ valid. same ∙ valid) (λ valid. sym same ∙ valid));
      }

  close_of :
      (step_of s e).stepped ≡ ends Won w.seen
      → Stored c mark_cell (close w) d
      → c mark_cell ≡ w.word
      → w.place ≡ close_place
      → Remover w
      → Close s e t
  close_of is stored met place removes =
      let few : w.slot ≤ 2 = act.ok.sound.slot in
      let set : Stored c mark_cell (set_mark (c mark_cell) w.slot 0) d = rw met stored in
      record {
        remover = removes;
        ends = progress_is act is;
        few = few;
        was = ap (λ (m : ℕ). mark_of m w.slot) met ∙ aimed.at_close (omega arith) (omega arith);
        gone = rw set.there (mark_set (c mark_cell) w.slot 0 (omega arith) (omega arith));
        others = but_one w.slot (λ p other. other_slot p w.slot 0 (omega arith) set other);
      }

  by_did : {x : Stepped} → (step_of s e).stepped ≡ x → Did c w d x → Deals s e t
  by_did is (reads same read) = same_all (unsettled_at (reads_elsewhere read)) same
  by_did is (loses same swap missed) = same_all (unsettled_lost (action_is act is)) same
  by_did is (stores_value stored place fills) =
      let some : w.held ≤ 2 = fills.held in
      beside_all (unsettled_at (omega arith)) _ _ stored (omega arith) (λ p valid.
      let few = marked_few _ p valid in
      (omega arith, λ same. not_held p fills valid (omega arith)))
  by_did is (stores_key stored place fills) =
      let some : w.held ≤ 2 = fills.held in
      beside_all (unsettled_at (omega arith)) _ _ stored (omega arith) (λ p valid.
      let few = marked_few _ p valid in
      ((λ same. not_held p fills valid (omega arith)), omega arith))
  by_did is (claims stored met place free) =
      set_all (unsettled_at (omega arith)) w.slot 2 act.ok.sound.slot (omega arith) (omega arith) (rw met stored)
      (λ valid. omega (arith, ap (λ (m : ℕ). mark_of m w.slot) (sym met) ∙ valid, aimed.at_claim place))
  by_did is (commits stored met place fills) = comes (place, action_is act is) (commit_of_lem is stored met place fills)
  by_did is (frees stored place fills) =
      set_all (unsettled_at (omega arith)) w.held 0 fills.held (omega arith) (omega arith) stored (λ valid. not_held w.held fills valid refl)
  by_did is (closes stored met place removes) = goes (place, action_is act is) (close_of is stored met place removes)

  -- what a turn does to the lots on the board
  pub turn_deals : Deals s e t
  turn_deals = by_did refl (turn_account act)

  -- a turn after which its worker is busy leaves all lots on the board
  pub busy_slots : ((step_of s e).stepped.worker ≡ idle → ⊥) → (bucket p : ℕ) → SameSlot (cells_at s bucket) (cells_at t bucket) p
  busy_slots busy = by turn_deals
    where
      by : Deals s e t → (bucket p : ℕ) → SameSlot (cells_at s bucket) (cells_at t bucket) p
      by (nothing unsettled slots) = slots
      by (comes commit did) = absurd (busy (ended_idle act 1 did.ends))
      by (goes close did) = absurd (busy (ended_idle act w.seen did.ends))

-- ---- a retiring

-- a retiring leaves all lots on the board: the slot that it gives back is not valid
pub retiring_slots : {s t : State} {r : Retiring} → Retires s r t → Known s → (b p : ℕ) → SameSlot (cells_at s b) (cells_at t b) p
retiring_slots {s} {t} {r} act known b p =
    record {
      on = still;
      back = λ valid. retire_marks act b p 1 (omega arith) valid;
      key = λ valid. retire_key act b p;
      value = λ valid. retire_value act b p;
    }
  where
    -- a slot that was held has mark 2
    held_two : (r.was.held ≡ no_slot → ⊥) → mark_at s r.bucket r.was.held ≡ 2
    held_two some =
        let sure : Holds r.was → mark_at s r.bucket r.was.held ≡ 2 =
        rw act.acts.was (λ holds. (own_sure _ (view s) (retired r) _ (view t) known.kept act.acts holds).board) in
        sure (retires_holder _ r.was act.ok some)

    still : mark_at s b p ≡ 1 → mark_at t b p ≡ 1
    still valid = retire_spares act b p (λ some here slot. omega (arith, sym valid ∙ ap (λ (b : ℕ). mark_at s b p) here ∙ ap (mark_at s r.bucket) slot ∙ held_two some)) ∙ valid
