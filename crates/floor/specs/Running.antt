-- A run that is under way on the lent list: how far it has come, and where it goes on.
use Rattle.std.specs.Prelude.{ℕ, ◌+◌, cond, eqb, ltb}
use Rattle.turn.specs.Turn.{Said}
use Rattle.turn.specs.Turn.{no_report}
use Rattle.engine.specs.declared.Floor.{Floor}
use Rattle.hall.specs.Refusals.{hall_run_refusal}
use Rattle.engine.specs.Calls.{no_turns, tallied, capped_totals}
use Rattle.turn.specs.declared.Report.{Report}
use Rattle.engine.specs.declared.Totals.{Totals}

-- how far it has come: what the turns done come to, the number of the turn that is next and of the last one's next, the last turn's report, and the
-- number that stopped it, or 0
pub record Running : Type 0 where
  pub totals : Totals
  pub at : ℕ
  pub end : ℕ
  pub last : Report
  pub stop : ℕ

-- before its first turn; at its end where it is refused as a whole
unfoldable pub begun : Floor → ℕ → ℕ → ℕ → ℕ → Running
begun f words listed entries turns =
    let number = hall_run_refusal f words listed entries turns in
    cond (eqb number 0)
    (record { totals = no_turns; at = 0; end = turns; last = no_report; stop = 0 })
    (record { totals = no_turns; at = turns; end = turns; last = no_report; stop = number })

-- §4.13: after a turn that says this: it is counted, its report is the last, and the next one comes; or it is refused and the run is at its end
unfoldable pub gone_on : Running → Said → Running
gone_on r s =
    cond (eqb s.refusal 0)
    (record {
      totals = capped_totals (tallied s.place s.report r.totals);
      at = cond (ltb r.at r.end) (r.at + 1) r.end;
      end = r.end;
      last = s.report;
      stop = 0;
    })
    (record { totals = r.totals; at = r.end; end = r.end; last = r.last; stop = s.refusal })
