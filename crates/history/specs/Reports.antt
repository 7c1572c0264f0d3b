-- What the reports of an opened board tell. That they do so wherever a stretch can begin, after every list of calls, is `reports_chain`, in
-- proofs/Reports; what a turn and a run tell C is in proofs/Library.
use Rattle.std.specs.Prelude.{ℕ, ◌<◌, true, false, cond, List, [], ◌∷◌, ◌≡◌, eqb}
use Rattle.turn.specs.declared.Progress.TheVariants.{GoesOn, Ended}
use Rattle.turn.specs.declared.Report.{Report}
use Rattle.turn.specs.Effects.{effect_on, effect_of_retiring}
use Rattle.engine.specs.Board.{bucket_of}
use Rattle.floor.specs.declared.ReportOutcome.{ReportOutcome}
use Rattle.floor.specs.Told.{action_number}
use Rattle.history.specs.Trace.{Turn, Entry, acted, retired, Wins, Loses, Changes, bucket_in, In, Cut, None}
use Rattle.history.specs.Moment.{AtTurn, AtMoment, ChangedByAnother}
use Rattle.history.specs.History.{State, Call, buckets_of, state, trace}
use Rattle.history.specs.Cells.{mark_word_at}

-- ---- one report

-- §4.13: the report of the last turn, or this one where there is none
unfoldable pub last_report : Report → List Entry → Report
last_report r [] = r
last_report r (acted e ∷ es) = last_report e.report es
last_report r (retired x ∷ es) = last_report r es

-- §14.9: what C is told says what the report does
pub record InNumbers (r : Report) (x : ReportOutcome) : Type 0 where
  pub action : x.action ≡ action_number r.action
  pub bucket : x.bucket ≡ r.bucket
  pub before : x.before ≡ r.before
  pub after : x.after ≡ r.after
  pub full : x.full ≡ r.full
  pub goes_on : r.progress ≡ GoesOn → (x.ended ≡ false) × (x.answer ≡ 0)
  pub ended : (answer : ℕ) → r.progress ≡ Ended answer → (x.ended ≡ true) × (x.answer ≡ answer)

-- §4.13, §7.1: C is told this action, and 0 or false everywhere else
pub record OnlyAction (action : ℕ) (x : ReportOutcome) : Type 0 where
  pub action_is : x.action ≡ action
  pub bucket : x.bucket ≡ 0
  pub before : x.before ≡ 0
  pub after : x.after ≡ 0
  pub full : x.full ≡ false
  pub ended : x.ended ≡ false
  pub answer : x.answer ≡ 0

-- ---- all of them

-- §16.1, §19.4: what an entry makes of the mark word of its bucket: a turn leaves there what it reports, and a retiring empties the held slot
abbrev pub left_by : Entry → ℕ → ℕ
left_by (acted e) m = e.report.after
left_by (retired r) m = effect_on (effect_of_retiring r.was) m

-- §16.1: the mark word of bucket b after these entries, where it was m before them
unfoldable pub word_after : ℕ → ℕ → List Entry → ℕ
word_after b m [] = m
word_after b m (e ∷ es) = word_after b (cond (eqb (bucket_in e) b) (left_by e m) m) es

-- §16.2: the two words of a turn's report differ; a retiring leaves another word where a slot was held
abbrev pub Differs : Entry → Type 0
Differs (acted e) = e.report.after ≡ e.report.before → ⊥
Differs (retired r) = Changes (retired r)

-- §16.4: where it is a turn, it left this word; a retiring reports none
abbrev pub LeftWord : ℕ → Entry → Type 0
LeftWord m (acted e) = e.report.after ≡ m
LeftWord m (retired r) = Unit {0}

-- §16.4: e made the swap y lose, with these entries since
pub record MadeLose (y : Turn) (e : Entry) (since : List Entry) : Type 0 where
  -- e is a change in the bucket of y, by another worker
  pub another : ChangedByAnother y e
  -- the two words of its report differ, if it is a turn
  pub differs : Differs e
  -- the word that it left is the one that y found
  pub left : LeftWord y.report.before e
  -- and nothing in that bucket since has left another word
  pub latest : None (λ x. In y.report.bucket x × Differs x) since

-- what the reports of the turns tell, where a stretch begins in this state and these are the calls since
pub record ReportsChain (first : State) (calls : List Call) : Type 0 where
  -- §4.12: a turn reports the bucket of its worker's lot
  pub homes : (at : AtTurn (trace first calls)) → In (bucket_of at.turn.was.key (buckets_of first)) (acted at.turn)
  -- §16.1: a turn finds the word that the entries before it leave in its bucket, from the one at first on
  pub chained : (at : AtTurn (trace first calls)) → at.turn.report.before ≡ word_after at.turn.report.bucket (mark_word_at first at.turn.report.bucket) at.before
  -- §16.1: each bucket has the word that all entries leave there
  pub stands : (b : ℕ) → b < buckets_of first → mark_word_at (state first calls) b ≡ word_after b (mark_word_at first b) (trace first calls)
  -- §16.2: a change leaves another word than it found
  pub changes : (at : AtTurn (trace first calls)) → Changes (acted at.turn) → Differs (acted at.turn)
  -- §16.2: a turn that is no change leaves the word that it found
  pub keeps : (at : AtTurn (trace first calls)) → (Changes (acted at.turn) → ⊥) → at.turn.report.after ≡ at.turn.report.before
  -- §16.3: a swap that is won finds the word that its moment left
  pub wins : (at : AtMoment (trace first calls)) → Wins at.turn → at.turn.report.before ≡ at.moment.report.after
  -- §16.3: a swap that is lost finds another word than its moment left
  pub loses : (at : AtMoment (trace first calls)) → Loses at.turn → at.turn.report.before ≡ at.moment.report.after → ⊥
  -- §16.4: a swap that is lost was made to lose by something between its moment and itself
  pub made_lose : (at : AtMoment (trace first calls)) → Loses at.turn → Cut (MadeLose at.turn) at.between
  -- §16.4: so whoever goes back from it through all that was done, with no moment given, comes to what made it lose
  pub named : (at : AtTurn (trace first calls)) → Loses at.turn → Cut (MadeLose at.turn) at.before
