-- A turn that is done: its bucket is left as the place table says, and every other as it was; what it reports, and what becomes of its worker.
-- Assumes nothing.
use Prim.Native.Nat.{ℕ, ◌+◌, ◌*◌, ◌≤◌}
use mathlib.Core.List.{List}
use mathlib.Core.Path.{◌≡◌, sym, ap, subst, ◌∙◌}
use lib.ListN.{length}
use Rattle.mark.proofs.Choices.{not_both}
use Rattle.turn.specs.declared.Progress.{Progress}
use Rattle.turn.specs.declared.Progress.TheVariants.{Ended}
use Rattle.turn.specs.declared.Report.{Report}
use Rattle.turn.specs.declared.Stepped.{Stepped}
use Rattle.turn.specs.Worker.{idle}
use Rattle.turn.specs.Bucket.{cell}
use Rattle.turn.proofs.Cells.{turn_long}
use Rattle.turn.proofs.Kept.{Idles, is_idle_lem}
use Rattle.turn.proofs.Outcomes.{Did}
use Rattle.turn.proofs.Outcome.{turn_did}
use Rattle.turn.proofs.Stays.{StaysOn, turn_on}
use Rattle.engine.specs.Board.{bucket_of, bucket_at}
use Rattle.engine.proofs.Cut.{bucket_within, same_bucket, other_bucket}
use Rattle.history.specs.Trace.{Turn, acted, Continues}
use Rattle.history.specs.History.{State}
use Rattle.history.specs.Cells.{home}
use Rattle.history.proofs.Steps.{Turns, step_of}

module _ {s t : State} {e : Turn} (act : Turns s e t) where
  abbrev bucket : List ℕ
  bucket = bucket_at s.board e.report.bucket

  within : 8 * e.report.bucket + 8 ≤ length s.board
  within = bucket_within s.board e.report.bucket act.ok.whole.eight

  eight : length (step_of s e).bucket ≡ 8
  eight = turn_long bucket e.was ∙ act.ok.whole.eight

  -- ---- the board

  -- the bucket of a turn is left as the place table says
  pub own_bucket_lem : bucket_at t.board e.report.bucket ≡ (step_of s e).bucket
  own_bucket_lem = rw (act.board, same_bucket s.board e.report.bucket (step_of s e).bucket within eight)

  -- the cells of a turn's bucket are left as the place table says
  pub own_cells : (k : ℕ) → cell (bucket_at t.board e.report.bucket) k ≡ cell (step_of s e).bucket k
  own_cells k = ap (λ (l : List ℕ). cell l k) own_bucket_lem

  -- the cells of every other bucket are left as they were
  pub other_cells : (b k : ℕ) → (b ≡ e.report.bucket → ⊥) → cell (bucket_at t.board b) k ≡ cell (bucket_at s.board b) k
  other_cells b k other =
      rw act.board (ap (λ (l : List ℕ). cell l k) (other_bucket s.board e.report.bucket (step_of s e).bucket within eight b other))

  -- what a turn did to the cells of its bucket
  pub turn_account : Did (λ k. cell bucket k) e.was (λ k. cell (bucket_at t.board e.report.bucket) k) (step_of s e).stepped
  turn_account =
      subst (λ (l : List ℕ). Did (λ k. cell bucket k) e.was (λ k. cell l k) (step_of s e).stepped) (sym own_bucket_lem)
      (turn_did bucket e.was act.ok)

  -- ---- the report

  -- a turn reports the action of its step
  pub action_is : {x : Stepped} → (step_of s e).stepped ≡ x → e.report.action ≡ x.action
  action_is is = ap (λ (r : Report). r.action) act.report ∙ ap (λ (y : Stepped). y.action) is

  -- a turn reports the progress of its step
  pub progress_is : {x : Stepped} → (step_of s e).stepped ≡ x → e.report.progress ≡ x.progress
  progress_is is = ap (λ (r : Report). r.progress) act.report ∙ ap (λ (y : Stepped). y.progress) is

  -- ---- the worker

  -- a worker whose turn ends its call is idle after it
  pub ended_idle : (answer : ℕ) → e.report.progress ≡ Ended answer → (step_of s e).stepped.worker ≡ idle
  ended_idle answer ended = subst (λ (p : Progress). Idles p (step_of s e).stepped.worker) ended act.acts.tells.idles

  -- a worker whose turn goes on is busy after it
  pub goes_busy : Continues (acted e) → (step_of s e).stepped.worker ≡ idle → ⊥
  goes_busy goes is = not_both _ (subst (λ (p : Progress). Idles p (step_of s e).stepped.worker) goes act.acts.tells.idles) (rw is is_idle_lem)

  -- its bucket is that of its lot
  pub was_home : e.report.bucket ≡ home s.floor.buckets e.was
  was_home = rw act.acts.was act.acts.bucket

  module _ (busy : (step_of s e).stepped.worker ≡ idle → ⊥) where
    -- a worker that is still busy is at the same call
    pub still_on : StaysOn e.was (step_of s e).stepped.worker
    still_on = turn_on bucket e.was act.ok busy

    -- a worker that is still busy is in the same bucket
    pub still_home : home t.floor.buckets (step_of s e).stepped.worker ≡ e.report.bucket
    still_home =
        ap (λ (k : ℕ). bucket_of k t.floor.buckets) still_on.call.key ∙ ap (bucket_of e.was.key) act.buckets ∙ sym was_home
