-- The engine's run of turns on a small class: it does the first turn, and then what it does from where that turn leaves off. Assumes nothing.
use Prim.Native.Nat.{ℕ, suc, ◌+◌, ◌≤◌}
use mathlib.Core.Path.{◌≡◌, refl, sym, ap, ◌∙◌}
use mathlib.Core.List.{List, [], ◌∷◌}
use native.Mathlib.Omega.{arith}
use lib.ListN.{length}
use Rattle.turn.specs.declared.Worker.{Worker}
use Rattle.turn.specs.declared.Report.{Report}
use Rattle.turn.specs.Asleep.{awake}
use Rattle.turn.specs.Places.{turn}
use Rattle.turn.specs.Turn.{Answer, Refused, Done, After, no_report}
use Rattle.engine.specs.declared.Floor.{Floor}
use Rattle.engine.specs.declared.Totals.{Totals}
use Rattle.engine.specs.Refusals.{each_number}
use Rattle.engine.specs.Calls.{Ran, report_on, losses, turned, record_in, after_turn, standing, unbegun, no_turns, tallied, go_on, run_from}
use Rattle.engine.proofs.Stops.{done_by, next_done}
use Rattle.engine.proofs.Adding.{added_none, counting, run_adds, run_goes_whole}
use Rattle.walks.specs.Orders.{ran, Busy}
use Rattle.walks.proofs.Sitting.{Sitting, only_bucket, board_is_bucket, own_bucket_lem, sitting_right, busy_unrefused, turn_sits}

-- what a run does and counts is the same whatever report stood before it
abbrev unsaid : After Ran → After Ran
unsaid x = standing x.words x.handed.records x.handed.totals no_report x.handed.stop

module _ (f : Floor) (board : List ℕ) (records : List Worker) (t : Totals) (r s : Report) where
  goes_same : (turns : List ℕ) (i place : ℕ) (later : List ℕ) (w : Worker) (a : Answer)
      → unsaid (go_on (run_from f turns) (λ x. x) i place later w a (standing board records t r 0).handed)
      ≡ unsaid (go_on (run_from f turns) (λ x. x) i place later w a (standing board records t s 0).handed)
  goes_same turns i place later w (Refused number) = refl
  goes_same turns i place later w (Done report) = refl

  runs_same : (turns : List ℕ) → unsaid (run_from f turns (standing board records t r 0)) ≡ unsaid (run_from f turns (standing board records t s 0))
  unfolding run_from
  runs_same [] = refl
  runs_same (i ∷ turns) =
      let w = record_in records i in
      let x = turned (each_number f board i w) f board w in
      goes_same turns i w.place x.words x.handed.worker x.handed.answer

-- a run does one turn, by which so many swaps are lost, and then what another does
pub record Follows (loss : ℕ) (x y : After Ran) : Type 0 where
  pub words : x.words ≡ y.words
  pub records : x.handed.records ≡ y.handed.records
  pub stop : x.handed.stop ≡ y.handed.stop
  pub turns : x.handed.totals.turns ≡ suc y.handed.totals.turns
  pub lost : x.handed.totals.lost ≡ loss + y.handed.totals.lost

module _ {f : Floor} {board : List ℕ} {records : List Worker} (g : Sitting f board records) where
  -- a run on the class is its turns
  pub ran_goes : (turns : List ℕ) → length turns ≤ 65535 → ran f board records turns ≡ run_from f turns (unbegun board records 0)
  ran_goes turns few = run_goes_whole f board records (length records) turns (sitting_right g) few

  -- a run of no turns leaves all as it was
  pub ran_none : ran f board records [] ≡ unbegun board records 0
  unfolding run_from
  ran_none = ran_goes [] (omega arith)

module _ {f : Floor} {board : List ℕ} {records : List Worker} (g : Sitting f board records) {i : ℕ} (b : Busy records i) where
  abbrev w : Worker
  w = record_in records i

  abbrev report : Report
  report = report_on f board w (turn board (awake w))

  abbrev pub board_after : List ℕ
  board_after = (turn board (awake w)).bucket

  abbrev pub records_after : List Worker
  records_after = after_turn records i (turn board (awake w)).stepped.worker

  abbrev pub loss_of : ℕ
  loss_of = losses (turn board (awake w)).stepped.action

  done_is : done_by f i (unbegun board records 0) ≡ standing board_after records_after (tallied w.place report no_turns) report 0
  done_is = rw (own_bucket_lem g w.key, only_bucket f w.key g.one, board_is_bucket board board_after g.whole.eight)

  run_first : (turns : List ℕ)
      → run_from f (i ∷ turns) (unbegun board records 0)
      ≡ counting (tallied w.place report no_turns) (run_from f turns (standing board_after records_after no_turns report 0))
  run_first turns =
      let t = tallied w.place report no_turns in
      next_done f i turns (unbegun board records 0) (busy_unrefused g b)
      ∙ ap (run_from f turns) (done_is ∙ ap (λ (u : Totals). standing board_after records_after u report 0) (sym (added_none t)))
      ∙ run_adds t f turns board_after records_after no_turns report

  -- a run that begins with a busy worker's turn
  pub run_follows : (turns : List ℕ) → length turns ≤ 65534
      → Follows loss_of (ran f board records (i ∷ turns)) (ran f board_after records_after turns)
  run_follows turns few =
      let whole = ran_goes g (i ∷ turns) (omega arith) ∙ run_first turns in
      let after = ran_goes (turn_sits g b) turns (omega arith) in
      let same = runs_same f board_after records_after no_turns report no_report turns in
      rw (whole, after)
      (record {
        words = ap (λ (x : After Ran). x.words) same;
        records = ap (λ (x : After Ran). x.handed.records) same;
        stop = ap (λ (x : After Ran). x.handed.stop) same;
        turns = (let e = ap (λ (x : After Ran). x.handed.totals.turns) same in omega arith);
        lost = (let e = ap (λ (x : After Ran). x.handed.totals.lost) same in omega arith);
      })

  -- the turn by itself: the board and the records that it leaves
  pub first_board : (ran f board records (i ∷ [])).words ≡ board_after
  first_board = (run_follows [] (omega arith)).words ∙ ap (λ (x : After Ran). x.words) (ran_none (turn_sits g b))

  pub first_records : (ran f board records (i ∷ [])).handed.records ≡ records_after
  first_records = (run_follows [] (omega arith)).records ∙ ap (λ (x : After Ran). x.handed.records) (ran_none (turn_sits g b))
