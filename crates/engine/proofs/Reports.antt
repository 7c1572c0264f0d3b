-- What a turn's report tells of the board, for every board, every record and every number. Assumes nothing.
use Prim.Native.Nat.{ℕ}
use mathlib.Core.Path.{◌≡◌, refl, ap, subst, ◌∙◌}
use mathlib.Core.List.{List}
use lib.Dec.{eqb}
use borrow.Author.Tests.{eqb-true, eqb-false}
use Rattle.mark.proofs.Choices.{by_cases}
use Rattle.turn.specs.declared.Worker.{Worker}
use Rattle.turn.specs.declared.Report.{Report}
use Rattle.turn.specs.Asleep.{awake}
use Rattle.turn.specs.Places.{turn}
use Rattle.turn.specs.Turn.{Done, Turned, After, number_of}
use Rattle.turn.proofs.Sound.{Accepted}
use Rattle.turn.proofs.Cells.{turn_long}
use Rattle.turn.proofs.Effects.{turn_effect}
use Rattle.turn.proofs.Asleep.{awake_accepted, effect_awake}
use Rattle.turn.proofs.Numbers.{report_in}
use Rattle.engine.specs.declared.Floor.{Floor}
use Rattle.engine.specs.declared.Seat.{Seat}
use Rattle.engine.specs.Board.{bucket_at}
use Rattle.engine.specs.Refusals.{bucket_for, turn_number}
use Rattle.engine.specs.Calls.{report_on, turn_done, turned, turn_call}
use Rattle.engine.specs.Reports.{ReportTells}
use Rattle.engine.proofs.Turns.{own}
use Rattle.engine.proofs.Keeps.{turn_accepted}
use Rattle.engine.proofs.Cut.{bucket_within, same_bucket}

-- the report of a turn that is accepted on its bucket tells of the board
pub done_tells :
    (f : Floor) (board : List ℕ) (w : Worker)
    → Accepted (bucket_for f board w.key) w
    → let step = turn (bucket_for f board w.key) w in
    ReportTells f board w (turn_done f board w step).words (report_on f board w step)
done_tells f board w ok =
    let b = own f w in
    let bucket = bucket_at board b in
    let eight = ok.whole.eight in
    record {
      bucket = refl;
      before = refl;
      after = rw (same_bucket board b (turn bucket w).bucket (bucket_within board b eight) (turn_long bucket w ∙ eight));
      effect = turn_effect bucket w ok;
    }

-- and tells the same whether it is told of the sleeper or of who is awake
awake_tells :
    {f : Floor} {board later : List ℕ} {w : Worker} {r : Report} → ReportTells f board (awake w) later r → ReportTells f board w later r
awake_tells {w = w} {r = r} t =
    record { bucket = t.bucket; before = t.before; after = t.after; effect = rw (← effect_awake w r.action) t.effect }

-- every report that a turn answers tells of the board
pub turn_tells :
    (board : List ℕ) (s : Seat) (w : Worker) (r : Report)
    → (turn_call board s w).handed.answer ≡ Done r
    → ReportTells s.floor board w (turn_call board s w).words r
unfolding turn_call turned
turn_tells board s w r =
    let number = turn_number s.floor board s.listed s.worker w in
    by_cases (λ (x : After Turned). x.handed.answer ≡ Done r → ReportTells s.floor board w x.words r) (eqb number 0) _ _
    (λ is told.
    let ok = (turn_accepted s.floor board s.listed s.worker w (eqb-true number 0 is)).1 in
    subst (ReportTells s.floor board w _) (ap (report_in r) told) (awake_tells (done_tells s.floor board (awake w) (awake_accepted _ w ok))))
    (λ isnot told. absurd (eqb-false number 0 isnot (ap number_of told)))
