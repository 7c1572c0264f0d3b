-- The turns of a field are the engine's run. Assumes nothing.
use Prim.Native.Nat.{ℕ, ◌≤◌}
use mathlib.Core.Bool.{false}
use mathlib.Core.Path.{◌≡◌, refl, sym, ap, subst, ◌∙◌}
use mathlib.Core.List.{List, [], ◌∷◌}
use lib.Dec.{eqb}
use lib.ListN.{length}
use Rattle.mark.proofs.Choices.{by_cases}
use Rattle.turn.specs.declared.Worker.{Worker}
use Rattle.turn.specs.declared.Report.{Report}
use Rattle.turn.specs.Turn.{Turned, After, after, no_report}
use Rattle.engine.specs.declared.Floor.{Floor}
use Rattle.engine.specs.declared.Totals.{Totals}
use Rattle.engine.specs.Refusals.{wrong_sizes, each_number}
use Rattle.engine.specs.Calls.{Ran, turned, no_turns, standing, go_on, run_from, run_call}
use Rattle.engine.proofs.Keeps.{each_keeps}
use Rattle.engine.proofs.Stops.{run_turn_is_turn}
use Rattle.engine.proofs.Adding.{added, added_none, counting, run_adds, run_goes_whole}
use Rattle.sheet.specs.Play.{Desk, Outcome, seat_of, record_of, turn_listed, turn_at_desk, and_then, turns_done}
use Rattle.sheet.proofs.RightSizes.{same_sizes}

-- what turns of a field leave and come to is what a run leaves and comes to; the listing has no last report
abbrev Same : Floor → Outcome → After Ran → Type 0
Same f o x =
    (o.left ≡ after x.words (record { floor = f; records = x.handed.records; totals = x.handed.totals })) × (o.stop ≡ x.handed.stop)

-- what a turn came to, and then the others, at the desk and in a run
module _ (t : ℕ) (ts : List ℕ) (board : List ℕ) (d : Desk) (last : Report) where
  abbrev f : Floor
  f = d.floor

  abbrev w : Worker
  w = record_of d t

  abbrev Goes : After Turned → Type 0
  Goes x =
      length x.words ≡ length board
      → Same f (and_then (turn_listed t w x.words x.handed.worker x.handed.answer d) (turns_done ts))
      (go_on (run_from f ts) (λ y. y) t w.place x.words x.handed.worker x.handed.answer (standing board d.records d.totals last 0).handed)

  one_turn_lem :
      ((later : List ℕ) (ws : List Worker) (n : Totals) (r : Report)
      → wrong_sizes f later f.workers ≡ false
      → Same f (turns_done ts (after later (record { floor = f; records = ws; totals = n }))) (run_from f ts (standing later ws n r 0)))
      → wrong_sizes f board f.workers ≡ false
      → Goes (turned (each_number f board t w) f board w)
  unfolding turned
  one_turn_lem others right =
      by_cases Goes (eqb (each_number f board t w) 0) _ _ (λ is long. others _ _ _ _ (same_sizes f board _ _ long ∙ right))
      (λ isnot long. rw isnot (refl, refl))

-- the turns of a field are those of a run that goes on from the desk's totals
turns_go :
    (ts : List ℕ) (board : List ℕ) (d : Desk) (last : Report)
    → wrong_sizes d.floor board d.floor.workers ≡ false
    → Same d.floor (turns_done ts (after board d)) (run_from d.floor ts (standing board d.records d.totals last 0))
unfolding turns_done run_from turn_at_desk
turns_go [] board d last right = (refl, refl)
turns_go (t ∷ ts) board d last right =
    let long = (each_keeps d.floor board (record_of d t) t).long in
    rw (← run_turn_is_turn board (seat_of d t) (record_of d t) right)
    (one_turn_lem t ts board d last (λ later ws n r. turns_go ts later (record { floor = d.floor; records = ws; totals = n }) r) right long)

-- where the sizes are right, the turns of a field leave the board and the records of the engine's run of them, add its totals to the
-- desk's, and stop with its number
pub turns_are_a_run :
    (ts : List ℕ) (board : List ℕ) (d : Desk)
    → wrong_sizes d.floor board d.floor.workers ≡ false
    → length ts ≤ 65535
    → let x = run_call board d.floor d.records d.floor.workers ts in
    ((turns_done ts (after board d)).left
    ≡ after x.words (record { floor = d.floor; records = x.handed.records; totals = added d.totals x.handed.totals }))
    × ((turns_done ts (after board d)).stop ≡ x.handed.stop)
turns_are_a_run ts board d right few =
    let f = d.floor in
    let ws = d.records in
    let from : Totals → After Ran = λ n. run_from f ts (standing board ws n no_report 0) in
    let whole = run_goes_whole f board ws f.workers ts right few in
    let e = ap from (sym (added_none d.totals)) ∙ run_adds d.totals f ts board ws no_turns no_report ∙ ap (counting d.totals) (sym whole) in
    subst (Same f (turns_done ts (after board d))) e (turns_go ts board d no_report right)
