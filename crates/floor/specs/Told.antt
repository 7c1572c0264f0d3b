-- What each call hands back beside the board and the list, in numbers, for a caller that knows no enum.
use Rattle.std.specs.Prelude.{ℕ, Bool, true, false}
use Rattle.turn.specs.declared.Action.{Action}
use Rattle.turn.specs.declared.Action.TheVariants.{Read, Store, Won, Lost}
use Rattle.turn.specs.declared.Progress.{Progress}
use Rattle.turn.specs.declared.Progress.TheVariants.{GoesOn, Ended}
use Rattle.turn.specs.declared.Report.{Report}
use Rattle.turn.specs.Turn.{Answer, Refused, Done}
use Rattle.engine.specs.Calls.{Started}
use Rattle.engine.specs.declared.Totals.{Totals}
use Rattle.engine.specs.Calls.{Counted}
use Rattle.engine.specs.Calls.{Refusal, Lots}
use Rattle.hall.specs.Totalled.{Totalled}
use Rattle.hall.specs.Next.{Next}
use Rattle.floor.specs.declared.Outcome.{Outcome}
use Rattle.floor.specs.declared.ReportOutcome.{ReportOutcome}
use Rattle.floor.specs.declared.TurnOutcome.{TurnOutcome}
use Rattle.floor.specs.declared.RunOutcome.{RunOutcome}
use Rattle.floor.specs.declared.CountOutcome.{CountOutcome}
use Rattle.floor.specs.declared.TotalOutcome.{TotalOutcome}
use Rattle.floor.specs.declared.NextOutcome.{NextOutcome}

-- §14.9: the actions from 1 on; 0 is no action (decision 45)
abbrev pub action_number : Action → ℕ
action_number Read = 1
action_number Store = 2
action_number Won = 3
action_number Lost = 4

-- §14.9: whether the call has ended
abbrev pub is_ended : Progress → Bool
is_ended GoesOn = false
is_ended (Ended answer) = true

-- §14.9: the answer that a call ended with, and 0 while it goes on
abbrev pub ended_with : Progress → ℕ
ended_with GoesOn = 0
ended_with (Ended answer) = answer

-- §14.9: a report
abbrev pub report_told : Report → ReportOutcome
report_told r =
    record {
      action = action_number r.action;
      ended = is_ended r.progress;
      answer = ended_with r.progress;
      full = r.full;
      bucket = r.bucket;
      before = r.before;
      after = r.after;
    }

-- §14.9: what stands for the report of a turn that was refused
abbrev pub nothing_told : ReportOutcome
nothing_told = record { action = 0; ended = false; answer = 0; full = false; bucket = 0; before = 0; after = 0 }

-- §7.1, §14.9: a turn's answer; one that is refused has its number, and 0 everywhere else
abbrev pub turn_told : Answer → TurnOutcome
turn_told (Refused number) = record { refusal = number; report = nothing_told }
turn_told (Done report) = record { refusal = 0; report = report_told report }

-- a start's answer: the number, and the floor as it now stands
abbrev pub start_told : Started → Outcome
start_told s = record { refusal = s.refusal; floor = s.floor }

-- §4.10, §4.13: a run's answer: the last turn's report, the counts of the turns done, and the number that stopped it, or 0
abbrev pub run_told : Report → Totals → ℕ → RunOutcome
run_told last totals stop = record { last = report_told last; totals = totals; stop = stop }

-- §14.9: a count's answer
abbrev pub count_told : Counted → CountOutcome
count_told (Refusal number) = record { refusal = number; lots = 0 }
count_told (Lots lots) = record { refusal = 0; lots = lots }

-- §14.9, §21.3: a total's answer
abbrev pub total_told : Totalled → TotalOutcome
total_told (Totalled.Refusal number) = record { refusal = number; total = 0 }
total_told (Totalled.Slots slots) = record { refusal = 0; total = slots }

-- §14.9, §21.4: a next bucket's answer: that there is none is told apart from bucket 0
abbrev pub next_told : Next → NextOutcome
next_told (Next.Refusal number) = record { refusal = number; found = false; bucket = 0 }
next_told Next.Nowhere = record { refusal = 0; found = false; bucket = 0 }
next_told (Next.Bucket b) = record { refusal = 0; found = true; bucket = b }
