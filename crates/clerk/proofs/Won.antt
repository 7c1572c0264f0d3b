-- A swap that is won: its worker's word is the mark word of the board, so that what the worker knows is so. A commit finds its lot in no valid
-- slot, and a close finds it in the slot that it empties, with the ticket that it answers. Assumes nothing.
use Prim.Native.Nat.{ℕ}
use mathlib.Core.Path.{◌≡◌, sym, ap, subst, ◌∙◌}
use native.Mathlib.Omega.{arith}
use Rattle.turn.specs.declared.Worker.{Worker}
use Rattle.turn.specs.Worker.{look_kind, insert_kind, claim_place}
use Rattle.history.specs.Trace.{Turn, acted, Closes, Wins, Commits}
use Rattle.history.specs.History.{State}
use Rattle.history.specs.Values.{value_at}
use Rattle.history.specs.Cells.{cells_at, mark_word_at, home}
use Rattle.history.proofs.States.{view}
use Rattle.history.proofs.Minds.{act_expects}
use Rattle.history.proofs.Steps.{Turns}
use Rattle.history.proofs.Cells.{Known, marked_few}
use Rattle.clerk.proofs.Deals.{Commit, Close}
use Rattle.clerk.proofs.Recalls.{current_met}
use Rattle.clerk.proofs.Knows.{HasLot, knowledge, KnowsNow, Knowing}
use Rattle.clerk.proofs.Rows.{row_at}
use Rattle.clerk.proofs.Steps.{Sized, own_home, was_known}

module _ (n : ℕ) {s t : State} {e : Turn} (sized : Sized n s) (act : Turns s e t) (known : Known s) (knowing : Knowing n s) where
  abbrev w : Worker
  w = e.was

  abbrev b : ℕ
  b = e.report.bucket

  -- the word of a swap that is won is the mark word
  won_word : Wins e → mark_word_at s b ≡ w.word
  won_word won =
      rw act.acts.was
      (let went = act.acts.tells.went.won won in sym went.1 ∙ act_expects _ (view s) (acted e) _ (view t) known.kept act.acts went.0)

  -- so its worker knows what stands there
  won_knows : (k : ℕ) → w.place ≡ k → (w.kind ≡ look_kind → ⊥) → Wins e → row_at (knowledge (cells_at s b) w) k
  won_knows k place other won =
      let knew : KnowsNow n s w = was_known act (KnowsNow n s) (knowing e.worker) in
      let here : b ≡ home n w = own_home act sized in
      subst (λ (bucket : ℕ). row_at (knowledge (cells_at s bucket) w) k) (sym here)
      (rw (← place) (knew other (current_met (ap (mark_word_at s) (sym here) ∙ won_word won))))

  -- a claim that is won finds its lot in no valid slot
  pub claim_new : w.place ≡ claim_place → w.kind ≡ insert_kind → Wins e → (p : ℕ) → HasLot (cells_at s b) w.key p → ⊥
  claim_new place insert won p has =
      let few = marked_few _ p has.0 in won_knows 6 place (omega arith) won p (omega arith) has

  -- a commit that is won finds its lot in no valid slot
  pub commit_new : Commits e → Commit s e t → (p : ℕ) → HasLot (cells_at s b) w.key p → ⊥
  commit_new commit did p has =
      let insert : w.kind ≡ 2 = did.holder.kind in
      let few = marked_few _ p has.0 in
      won_knows 9 commit.0 (omega arith) commit.1 p (omega arith) has

  -- a close that is won finds its lot in its slot, with the ticket that it saw
  pub close_finds : Closes e → Close s e t → HasLot (cells_at s b) w.key w.slot × (w.seen ≡ value_at s b w.slot)
  close_finds close did =
      let remove : w.kind ≡ 3 = did.remover.kind in
      won_knows 13 close.0 (omega arith) close.1
