-- Which place leads to which: the ways on from a read, one line each, with what was read. Assumes nothing.
use Prim.Native.Nat.{ℕ, ◌+◌, ◌≤◌, ◌<◌}
use mathlib.Core.Bool.{false}
use mathlib.Core.Path.{◌≡◌}
use Rattle.mark.specs.Word.{mark_of}
use Rattle.turn.specs.declared.Worker.{Worker}
use Rattle.turn.specs.declared.Action.TheVariants.{Read}
use Rattle.turn.specs.declared.Stepped.{Stepped}
use Rattle.turn.specs.Worker.{go_to, at_slot, saw, read_word}
use Rattle.turn.specs.Bucket.{mark_cell, key_cell, value_cell}
use Rattle.turn.specs.Places.{goes_on, ends}
use Rattle.turn.proofs.Outcomes.{Remover, passes, fails, arrives, Found, Empty, NextSlot, next, last, next_key_lem, no_key}
use Rattle.turn.proofs.Outcomes.{Reads, read1, read1_remove, read2, read3, read4, read5, read11, read12}

-- of a worker w, in a bucket with the cells c
module _ (c : ℕ → ℕ) (w : Worker) where
  -- the slot that a search stands at is passed over: it is not valid, or has another lot
  pub data Passed : Type 0 where
    not_valid : w.place ≡ 3 → (mark_of (c mark_cell) w.slot ≡ 1 → ⊥) → Passed
    other_lot : w.place ≡ 4 → (c (key_cell w.slot) ≡ w.key → ⊥) → Passed

  -- both readings of the value agree, and it is not 0
  abbrev pub Agree : Type 0
  Agree = (c (value_cell w.slot) ≡ w.seen) × (c (value_cell w.slot) ≡ 0 → ⊥)

  -- a search is empty: the last slot is passed over, or the second reading of the value is another
  pub data Vain : Type 0 where
    past_last : Passed → 2 ≤ w.slot → Vain
    changed : w.place ≡ 5 → (Agree → ⊥) → Vain

  -- the slot that a remove stands at has its lot, and was valid in the word that it read
  abbrev pub Matches : Type 0
  Matches = (c (key_cell w.slot) ≡ w.key) × (mark_of w.word w.slot ≡ 1)

  -- what a read leads to
  pub data Leads : Stepped → Type 0 where
    begins : w.place ≡ 1 → w.kind ≡ 2 → Leads (goes_on Read false (read_word 2 (c mark_cell) w))
    begins_remove : w.place ≡ 1 → Remover w → Leads (goes_on Read false (read_word 11 (c mark_cell) w))
    to3 : w.place ≡ 2 → Leads (goes_on Read false (saw 3 (c (value_cell w.slot)) w))
    to4 : w.place ≡ 3 → mark_of (c mark_cell) w.slot ≡ 1 → Leads (goes_on Read false (go_to 4 w))
    to5 : w.place ≡ 4 → c (key_cell w.slot) ≡ w.key → Leads (goes_on Read false (go_to 5 w))
    to2 : Passed → w.slot < 2 → Leads (goes_on Read false (at_slot 2 (w.slot + 1) w))
    empty : {x : Stepped} → Vain → Empty w x → Leads x
    found : {x : Stepped} → w.place ≡ 5 → Agree → Found w x → Leads x
    to12 : w.place ≡ 11 → Matches → Leads (goes_on Read false (go_to 12 w))
    to11 : w.place ≡ 11 → (Matches → ⊥) → w.slot < 2 → Leads (goes_on Read false (at_slot 11 (w.slot + 1) w))
    not_there : w.place ≡ 11 → Remover w → (Matches → ⊥) → 2 ≤ w.slot → Leads (ends Read 0)
    to13 : w.place ≡ 12 → Leads (goes_on Read false (saw 13 (c (value_cell w.slot)) w))

  slot_leads : {x : Stepped} → Passed → NextSlot w x → Leads x
  slot_leads passed (next more) = to2 passed more
  slot_leads passed (last done search) = empty (past_last passed done) search

  -- every read leads on in one of these ways
  pub reads_leads : {x : Stepped} → Reads c w x → Leads x
  reads_leads (read1 place kind held) = begins place kind
  reads_leads (read1_remove place removes) = begins_remove place removes
  reads_leads (read2 place looks) = to3 place
  reads_leads (read3 place looks (passes valid arrives)) = to4 place valid
  reads_leads (read3 place looks (fails other rest)) = slot_leads (not_valid place other) rest
  reads_leads (read4 place looks (passes equal arrives)) = to5 place equal
  reads_leads (read4 place looks (fails other rest)) = slot_leads (other_lot place other) rest
  reads_leads (read5 place looks (passes equal rest)) = found place equal rest
  reads_leads (read5 place looks (fails other rest)) = empty (changed place other) rest
  reads_leads (read11 place removes (passes equal arrives)) = to12 place equal
  reads_leads (read11 place removes (fails other (next_key_lem more))) = to11 place other more
  reads_leads (read11 place removes (fails other (no_key done))) = not_there place removes other done
  reads_leads (read12 place removes) = to13 place
