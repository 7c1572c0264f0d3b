-- One turn of one worker on the bucket of its lot, refused or done.
use Rattle.std.specs.Prelude.{ℕ, cond, false, List, eqb, Result, Ok, Err}
use Rattle.turn.specs.declared.Worker.{Worker}
use Rattle.turn.specs.declared.Action.TheVariants.{Read}
use Rattle.turn.specs.declared.Progress.TheVariants.{GoesOn}
use Rattle.turn.specs.declared.Report.{Report}
use Rattle.turn.specs.declared.Stepped.{Stepped}
use Rattle.turn.specs.declared.TurnDone.{TurnDone}
use Rattle.turn.specs.declared.refusal.Refusal.{Refusal}
use Rattle.turn.specs.Number.{number}
use Rattle.turn.specs.Worker.{is_idle, broken}
use Rattle.turn.specs.Asleep.{awake}
use Rattle.turn.specs.Bucket.{mark_cell, cell, broken_bucket}
use Rattle.turn.specs.Places.{Step, turn}

-- §6.7: 7 for a broken bucket, or 0
abbrev pub bucket_refusal : List ℕ → ℕ
bucket_refusal b = cond (broken_bucket b) 7 0

-- §6.3, §6.6: 3 for a broken record and 6 for an idle one, or what follows for a busy one
abbrev pub busy_refusal : Worker → ℕ → ℕ
busy_refusal w follows = cond (broken w) 3 (cond (is_idle w) 6 follows)

-- §7.2: a broken record, an idle worker, a broken bucket; 0 where it is none of them
unfoldable pub turn_refusal : List ℕ → Worker → ℕ
turn_refusal b w = busy_refusal w (bucket_refusal b)

-- a turn's answer: refused with its number alone, or done with its report
pub data Answer : Type 0 where
  Refused : ℕ → Answer
  Done : Report → Answer

-- what a turn hands back: the record, and the answer
pub record Turned : Type 0 where
  pub worker : Worker
  pub answer : Answer

-- §14.9: the number of each case of an answer: a refusal's own, and 0 for a turn that is done
abbrev pub number_of : Answer → ℕ
number_of (Refused number) = number
number_of (Done report) = 0

-- what a call leaves: the words that it was lent, and what it hands back
pub record After (A : Type 0) : Type 0 where
  pub words : List ℕ
  pub handed : A

-- these words, and this handed back
abbrev pub after : {A : Type 0} → List ℕ → A → After A
after words x = record { words = words; handed = x }

-- §7.1: a turn that is refused answers its number, and the record is as it was
abbrev pub refusing : ℕ → Worker → Turned
refusing number w = record { worker = w; answer = Refused number }

-- §4.8, §4.12: how a step came out, in the bucket of this number, with the mark words that it found and left there
abbrev pub reported : Stepped → ℕ → ℕ → ℕ → Report
reported s bucket found left =
    record { action = s.action; progress = s.progress; full = s.full; bucket = bucket; before = found; after = left }

-- §4.12: the report of a step on the words of the bucket of this number
abbrev pub report_of : ℕ → List ℕ → Step → Report
report_of bucket words s = reported s.stepped bucket (cell words mark_cell) (cell s.bucket mark_cell)

-- a turn that is done leaves what the table says, and has this report
abbrev pub doing : Step → Report → Turned
doing s report = record { worker = s.stepped.worker; answer = Done report }

-- ---- with a number beside the report

-- what a turn says: its report, the report of none where it was refused; the number of refusal, or 0; and the place that it was tried at
pub record Said : Type 0 where
  pub report : Report
  pub refusal : ℕ
  pub place : ℕ

-- a turn that was tried: the record that it leaves, which is the one it was given where it was refused
pub record Tried : Type 0 where
  pub worker : Worker
  pub said : Said

-- §4.13: the report of none, where no turn was done
abbrev pub no_report : Report
no_report = record { action = Read; progress = GoesOn; full = false; bucket = 0; before = 0; after = 0 }

-- a turn that is refused, with its number
abbrev pub refused : ℕ → Worker → Tried
refused number w = record { worker = w; said = record { report = no_report; refusal = number; place = w.place } }

-- a turn that is done at a place, with the record that it leaves and its report
abbrev pub done : Worker → Report → ℕ → Tried
done w report place = record { worker = w; said = record { report = report; refusal = 0; place = place } }

-- so of the code's answer for a worker with this record
abbrev pub tried_as : Worker → Result TurnDone Refusal → Tried
tried_as w (Ok t) = done t.worker t.report w.place
tried_as w (Err why) = refused (number why) w

-- one turn on the words of the bucket of this number, refused or done
unfoldable pub try_turn : ℕ → List ℕ → Worker → After Tried
try_turn bucket words w =
    let s = turn words (awake w) in
    cond (eqb (turn_refusal words w) 0)
    (after s.bucket (done s.stepped.worker (report_of bucket words s) w.place))
    (after words (refused (turn_refusal words w) w))

-- the answer in what a turn says
abbrev pub answer_of : Said → Answer
answer_of s = cond (eqb s.refusal 0) (Done s.report) (Refused s.refusal)

-- a turn that was tried, with that answer
abbrev pub answered : Tried → Turned
answered t = record { worker = t.worker; answer = answer_of t.said }
