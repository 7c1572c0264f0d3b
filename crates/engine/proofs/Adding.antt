-- A run with something counted before counts on from there; and a call of a run that is not refused whole is its turns. Assumes nothing.
use Prim.Native.Nat.{ℕ, ◌+◌, ◌≤◌}
use mathlib.Core.Bool.{false}
use mathlib.Core.Path.{◌≡◌, refl, ap, ◌∙◌}
use mathlib.Core.List.{List, [], ◌∷◌}
use native.Mathlib.Nat.{add-zero, add_assoc}
use lib.ListN.{length, get_or}
use borrow.Author.Tests.{le-ltb}
use Rattle.turn.specs.declared.Worker.{Worker}
use Rattle.turn.specs.declared.Report.{Report}
use Rattle.turn.specs.Turn.{Answer, Refused, Done, After}
use Rattle.engine.specs.declared.Floor.{Floor}
use Rattle.engine.specs.declared.Totals.{Totals}
use Rattle.engine.specs.Refusals.{wrong_sizes, each_number, run_number}
use Rattle.engine.specs.Calls.{Ran, turned, tallied, no_turns, standing, unbegun, blank, after_turn, go_on, run_from, run_call}

-- both counted together
abbrev pub added : Totals → Totals → Totals
added t u =
    record { turns = t.turns + u.turns; changes = t.changes + u.changes; lost = t.lost + u.lost; full = t.full + u.full }

-- nothing added
pub added_none : (t : Totals) → added t no_turns ≡ t
added_none t = rw (add-zero t.turns, add-zero t.changes, add-zero t.lost, add-zero t.full)

module _ (t : Totals) where
  tallied_adds : (place : ℕ) (r : Report) (u : Totals) → tallied place r (added t u) ≡ added t (tallied place r u)
  tallied_adds place r u =
      rw (add_assoc t.turns u.turns 1, add_assoc t.changes u.changes _, add_assoc t.lost u.lost _, add_assoc t.full u.full _)

  -- a run with these counted before
  abbrev pub counting : After Ran → After Ran
  counting x = standing x.words x.handed.records (added t x.handed.totals) x.handed.last x.handed.stop

  go_on_adds :
      (rest : After Ran → After Ran) (i place : ℕ) (board : List ℕ) (w : Worker) (a : Answer) (ws : List Worker) (u : Totals) (last : Report)
      → ((vs : List Worker) (n : Totals) (r : Report) → rest (standing board vs (added t n) r 0) ≡ counting (rest (standing board vs n r 0)))
      → go_on rest (λ x. x) i place board w a (standing board ws (added t u) last 0).handed
      ≡ counting (go_on rest (λ x. x) i place board w a (standing board ws u last 0).handed)
  go_on_adds rest i place board w (Refused number) ws u last same = refl
  go_on_adds rest i place board w (Done report) ws u last same =
      ap (λ (n : Totals). rest (standing board (after_turn ws i w) n report 0)) (tallied_adds place report u)
      ∙ same (after_turn ws i w) (tallied place report u) report

  -- a run with something counted before counts on from there, and does the same
  pub run_adds :
      (f : Floor) (ts : List ℕ) (board : List ℕ) (ws : List Worker) (u : Totals) (last : Report)
      → run_from f ts (standing board ws (added t u) last 0) ≡ counting (run_from f ts (standing board ws u last 0))
  unfolding run_from
  run_adds f [] board ws u last = refl
  run_adds f (i ∷ ts) board ws u last =
      let w = get_or ws i blank in
      let x = turned (each_number f board i w) f board w in
      go_on_adds (run_from f ts) i w.place x.words x.handed.worker x.handed.answer ws u last (run_adds f ts x.words)

-- where the sizes are right and the run is not too long
pub run_goes_whole :
    (f : Floor) (board : List ℕ) (ws : List Worker) (listed : ℕ) (ts : List ℕ)
    → wrong_sizes f board listed ≡ false
    → length ts ≤ 65535
    → run_call board f ws listed ts ≡ run_from f ts (unbegun board ws 0)
unfolding run_call run_number wrong_sizes
run_goes_whole f board ws listed ts right few = rw (right, le-ltb 65535 (length ts) few)
