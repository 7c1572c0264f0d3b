-- What a sheet plays is a history: every point of the play stands as the calls so far leave an opened board, and the listing is told
-- from that history.
use Rattle.std.specs.Prelude.{ℕ, suc, ◌+◌, ◌≤◌, ◌≡◌, List, [], ◌∷◌, ◌++◌, map, take}
use Rattle.turn.specs.declared.Progress.{Progress}
use Rattle.turn.specs.declared.Progress.TheVariants.{GoesOn, Ended}
use Rattle.turn.specs.Turn.{after}
use Rattle.engine.specs.declared.Totals.{Totals}
use Rattle.sheet.specs.Line.{end_line, totals_line, refusal_line}
use Rattle.sheet.specs.Listing.{listed_in, played}
use Rattle.history.specs.Trace.{Turn, Entry, acted, retired, Wins, None}
use Rattle.history.specs.Counts.{counts_of}
use Rattle.history.specs.Moment.{AtMoment, CommittedOrClosedByAnother}
use Rattle.history.specs.Numbers.{OneOf}
use Rattle.history.specs.History.{Opening, Call, opened, state, trace, FewInserts, most_lost}
use Rattle.history.specs.Demand.{DemandThree}
use Rattle.history.specs.Moves as Moves
use Rattle.clerk.specs.Clerk.{Clerk}
use Rattle.plays.specs.Points.{Point, Next, goes, over, refused, next_of, Steps, FloorAccepted, first_point}

-- the E line of a turn that ended its call, with its number, worker, kind and answer; no line where the call goes on
abbrev pub line_for : ℕ → Turn → Progress → List ℕ
line_for n e GoesOn = []
line_for n e (Ended answer) = end_line n e.worker e.was.kind answer

-- the E lines of turns that are numbered from n on; a retiring is no turn, and no sheet has one
unfoldable pub end_lines : ℕ → List Entry → List ℕ
end_lines n [] = []
end_lines n (acted e ∷ es) = line_for n e e.report.progress ++ end_lines (suc n) es
end_lines n (retired r ∷ es) = end_lines n es

-- a point stands as an opening and these calls leave it
pub record StandsAs (o : Opening) (calls : List Call) (p : Point) : Type 0 where
  -- the board, the floor, and the first W of the program's 64 records
  pub board : p.left.words ≡ (state (opened o) calls).board
  pub floor : p.left.handed.floor ≡ (state (opened o) calls).floor
  pub records : take o.plan.workers p.left.handed.records ≡ (state (opened o) calls).records
  -- the totals are the counts of the trace: turns, changes, lost swaps, full rounds
  pub totals : p.left.handed.totals ≡ counts_of (trace (opened o) calls)
  -- each line so far is that of a turn that ended its call
  pub lines : p.lines ≡ end_lines 1 (trace (opened o) calls)

-- the numbers by which a sheet is refused once its floor is accepted
abbrev pub refusals : List ℕ
refusals = 2 ∷ 4 ∷ 5 ∷ 6 ∷ 8 ∷ []

-- a point is on the way to the end of the play, of which so many calls are done
pub record OnTheWay (sheet : List ℕ) (done : List Call) (p : Point) (calls : List Call) (end : Point) : Type 0 where
  pub rest : List Call
  pub calls_are : calls ≡ done ++ rest
  pub goes_on : Steps sheet p rest end

-- the last line of a listing
pub data LastOf (sheet : List ℕ) (o : Opening) (calls : List Call) (end : Point) : List ℕ → Type 0 where
  -- at the end of the sheet the counts of the trace
  totals : next_of sheet end ≡ over → LastOf sheet o calls end (totals_line (counts_of (trace (opened o) calls)))
  -- or the refusal that stopped it
  refusal : (number offset : ℕ) → next_of sheet end ≡ refused number offset → LastOf sheet o calls end (refusal_line number offset)

-- the number of what comes next, where that is a refusal, and else 0
abbrev pub stop_of : Next → ℕ
stop_of (goes cs p) = 0
stop_of over = 0
stop_of (refused number offset) = number

-- the play of a sheet on a board is the history of this opening and these calls
pub record PlaysHistory {sheet board : List ℕ} (f : FloorAccepted sheet board) (o : Opening) (calls : List Call) : Type 0 where
  -- the opening is of the sheet's own floor
  pub plan : o.plan ≡ f.plan
  -- by these calls the play comes to its last point
  pub end : Point
  pub reached : Steps sheet (first_point f) calls end
  -- every point of the play is on the way there, and stands as the calls so far leave it
  pub points : (done : List Call) (p : Point) → Steps sheet (first_point f) done p → OnTheWay sheet done p calls end × StandsAs o done p
  -- the lost swaps of the play so far are at most (W - 1)(2I + R), I and R counted from the calls so far
  pub bound : (done : List Call) (p : Point) → Steps sheet (first_point f) done p → p.left.handed.totals.lost ≤ most_lost (opened o) done
  -- §3.8: inserts are few wherever the play comes to: a sheet has no room for 2^32 of them
  pub few : (done : List Call) (p : Point) → Steps sheet (first_point f) done p → FewInserts (opened o) done
  -- §11.3: demand 3 holds of the play so far
  pub demand : (done : List Call) (p : Point) → Steps sheet (first_point f) done p → DemandThree (opened o) done
  -- §3.8: and without a premise: where a swap of the play is won, no other worker has committed or closed in its bucket since its moment
  pub wins :
      (done : List Call) (p : Point)
      → Steps sheet (first_point f) done p
      → (at : AtMoment (trace (opened o) done))
      → Wins at.turn
      → None (CommittedOrClosedByAnother at.turn) at.between
  -- §17: and the board of the play so far is one clerk
  pub clerk : (done : List Call) (p : Point) → Steps sheet (first_point f) done p → Clerk (opened o) (map Moves.calls done)
  -- what is refused is refused by 2, 4, 5, 6 or 8, and so by 3 and by 7 never
  pub refused_by_lem :
      (done : List Call) (p : Point) (number offset : ℕ)
      → Steps sheet (first_point f) done p
      → next_of sheet p ≡ refused number offset
      → OneOf refusals number
  -- the listing is the E lines of the trace, and then one last line
  pub line : List ℕ
  pub last : LastOf sheet o calls end line
  pub listed : listed_in (played sheet board) ≡ after (state (opened o) calls).board (end_lines 1 (trace (opened o) calls) ++ line)
  -- where nothing is refused, the desk from which the sheet can go on is that of the last point
  pub left : next_of sheet end ≡ over → (played sheet board).handed.desk ≡ end.left.handed
  -- the number that is handed back is that of the refusal, or 0
  pub stop : (played sheet board).handed.stop ≡ stop_of (next_of sheet end)

-- ---- every listing

-- the numbers by which a sheet is ever refused
abbrev pub every_refusal : List ℕ
every_refusal = 1 ∷ 9 ∷ refusals

-- a last line: the totals, or a refusal by one of those numbers
pub data EndsIn : List ℕ → Type 0 where
  in_totals : (t : Totals) → EndsIn (totals_line t)
  in_refusal : (number offset : ℕ) → OneOf every_refusal number → EndsIn (refusal_line number offset)

-- how a line R of a number of one digit begins: R, a space, the digit, a space
abbrev pub refused_by : ℕ → List ℕ → List ℕ
refused_by digit rest = 82 ∷ 32 ∷ (48 + digit) ∷ 32 ∷ rest

-- a listing in which nothing is refused by 3 or by 7
pub record NeverBroken (listing : List ℕ) : Type 0 where
  -- it is the E lines of some turns, and one last line
  pub turns : List Entry
  pub line : List ℕ
  pub ends : EndsIn line
  pub whole : listing ≡ end_lines 1 turns ++ line
  -- neither R 3 nor R 7 stands anywhere in it
  pub no_3 : (before rest : List ℕ) → listing ≡ before ++ refused_by 3 rest → ⊥
  pub no_7 : (before rest : List ℕ) → listing ≡ before ++ refused_by 7 rest → ⊥
