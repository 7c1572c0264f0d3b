use Rattle.std.proofs.Common.{◌≡◌, ap, sym, ◌∙◌, ℕ, Option, Some, None, Result, Ok, Err}
use Rattle.std.specs.Result.{result_unwrap_or}
use Rattle.schedule.proofs.Turning.{listing_starts, listing_on, listing_over}
use Rattle.schedule.proofs.turns.list.Goals as goal

-- a run that was found is what was read
a_run : {E : Type 0} {run : ℕ × ℕ} (r : Result (Option (ℕ × ℕ)) E) → Some run ≡ result_unwrap_or r None → r ≡ Ok (Some run)
a_run (Ok o) is = ap (λ (p : Option (ℕ × ℕ)). Ok p) (sym is)
a_run (Err w) is = cc

no_run : {E : Type 0} (r : Result (Option (ℕ × ℕ)) E) → None ≡ result_unwrap_or r None → (run : ℕ × ℕ) → r ≡ Ok (Some run) → ⊥
no_run (Ok None) none run is = cc
no_run (Ok (Some other)) none run is = cc
no_run (Err w) none run is = cc

pub loop-worker-init : goal.loop-worker-init
loop-worker-init c = listing_starts _ _

pub loop-worker-preserved : goal.loop-worker-preserved
loop-worker-preserved c =
    let is = a_run c.next.result (sym c.in-Some.is ∙ c.unwrap_or.ensures) in
    listing_on c.loop-worker.invariant (rw is at c.next.ensures) c.repeat.ensures

pub returns : goal.returns
returns c = listing_over c.loop-worker.invariant _ c.next.ensures (no_run c.next.result (sym c.in_default.is ∙ c.unwrap_or.ensures))
