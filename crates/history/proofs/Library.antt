-- What a start, a turn, a retiring, a run and a move leave in a history is what the library promises to leave of the lent board, the lent list and the
-- lent index. An opening is the same function there and here. Assumes nothing.
use Prim.Native.Nat.{ℕ}
use mathlib.Core.List.{List, [], ◌∷◌, nil≢cons, head-eq_of_cons-eq}
use mathlib.Core.Bool.{cond}
use mathlib.Core.Path.{◌≡◌, refl, sym, ap, subst, ◌∙◌}
use lib.Dec.{eqb}
use Rattle.turn.specs.declared.Worker.{Worker}
use Rattle.turn.specs.declared.Report.{Report}
use Rattle.turn.specs.Turn.{Answer, Refused, Done}
use Rattle.turn.specs.Turn as Turn
use Rattle.engine.specs.declared.Seat.{Seat}
use Rattle.engine.specs.Calls.{Started}
use Rattle.hall.specs.Calls.{indexed}
use Rattle.floor.specs.Told.{report_told, turn_told, run_told}
use Rattle.floor.specs.Calls.{on_list, start_in, turn_in, retire_in, run_in}
use Rattle.floor.specs.declared.Outcome.{Outcome}
use Rattle.floor.specs.Promises.{MoveLeft}
use Rattle.history.specs.Trace.{Turn, Entry, acted, IsTurn}
use Rattle.history.specs.Counts.{counts_of}
use Rattle.history.specs.Reports.{last_report, InNumbers, OnlyAction}
use Rattle.history.specs.History.{State, turn, retire, run, listed_of, seat_of, turn_by, retire_by, run_of, started_as, after, entry_of, turn_entry, entries}
use Rattle.history.specs.Moves.{Lent, moves, move_by, moved_as, after_step}
use Rattle.history.proofs.Runs.{run_totals, run_last}

module _ (s : State) (i : ℕ) where
  -- a start, whichever it is
  pub library_start :
      (start : Seat → Worker → Started)
      → let x = start (seat_of s i) (listed_of s i) in
      start_in start s.records s.floor i
      ≡ on_list (started_as s i x).records (record { refusal = x.refusal; floor = (started_as s i x).floor })
  library_start start = refl

  -- a turn
  pub library_turn :
      turn_in s.board s.records s.index s.floor i
      ≡ Turn.after (after s (turn i)).board (on_list (after s (turn i)).records (turn_told (turn_by s i).handed.answer))
  library_turn = refl

  -- a retiring
  pub library_retire :
      retire_in s.board s.records s.index s.floor i
      ≡ Turn.after (after s (retire i)).board (on_list (after s (retire i)).records (retire_by s i).handed.refusal)
  library_retire = refl

module _ (s : State) (turns : List ℕ) where
  -- a run: its totals and its last report are told from its entries
  pub library_run :
      let es = entries s (run turns) in
      run_in s.board s.records s.index s.floor turns
      ≡ indexed (after s (run turns)).index
      (Turn.after (after s (run turns)).board
      (on_list (after s (run turns)).records (run_told (last_report Turn.no_report es) (counts_of es) (run_of s turns).handed.stop)))
  library_run = rw (← run_totals s turns, ← run_last s turns)

-- a move: where it is accepted the second board is the opened one from then on, else the first still is
pub library_move :
    (s : State) (m : Lent) (board index : List ℕ) (r : Outcome)
    → MoveLeft s.board m.words s.records s.index s.floor m.buckets board index r
    → after_step s (moves m)
    ≡ record { board = cond (eqb r.refusal 0) board s.board; floor = r.floor; records = s.records; index = index }
library_move s m board index r left =
    let same : move_by s m ≡ Turn.after board (record { floor = r.floor; refusal = r.refusal }) = sym left.whole in
    ap (moved_as s m) same ∙ ap (λ (kept : List ℕ). record {
      board = cond (eqb r.refusal 0) board s.board;
      floor = r.floor;
      records = s.records;
      index = kept;
    }) (sym left.kept)

-- ---- what C is told of a report

-- a report in numbers says what the report does
told_numbers : (r : Report) → InNumbers r (report_told r)
told_numbers r =
    record {
      action = refl;
      bucket = refl;
      before = refl;
      after = refl;
      full = refl;
      goes_on = λ is. rw is (refl, refl);
      ended = λ answer is. rw is (refl, refl);
    }

-- what C is told of a turn that is done is what its entry reports
pub library_reports :
    (s : State) (i : ℕ) (e : Turn)
    → turn_entry s i ≡ acted e ∷ []
    → InNumbers e.report (turn_in s.board s.records s.index s.floor i).handed.answer.report
library_reports s i e = by (turn_by s i).handed.answer
  where
    by : (a : Answer) → entry_of s i a ≡ acted e ∷ [] → InNumbers e.report (turn_told a).report
    by (Refused number) is = absurd (nil≢cons is)
    by (Done report) is =
        subst (λ (x : Entry). IsTurn (λ t. InNumbers t.report (report_told report)) x) (head-eq_of_cons-eq is) (told_numbers report)

-- what C is told of a turn that is refused has no action, and nothing else
pub library_refused :
    (s : State) (i number : ℕ)
    → (turn_by s i).handed.answer ≡ Refused number
    → OnlyAction 0 (turn_in s.board s.records s.index s.floor i).handed.answer.report
library_refused s i number is =
    rw is (record { action_is = refl; bucket = refl; before = refl; after = refl; full = refl; ended = refl; answer = refl })

-- what C is told as the last report of a run is what the last entry of the run reports
pub library_last :
    (s : State) (turns : List ℕ)
    → InNumbers (last_report Turn.no_report (entries s (run turns))) (run_in s.board s.records s.index s.floor turns).left.handed.answer.last
library_last s turns = rw (← run_last s turns) (told_numbers _)

-- what C is told as the last report of a run that has done no turn, since it is refused as a whole, stops at once or is empty, is a read, and
-- nothing else
pub library_none :
    (s : State) (turns : List ℕ)
    → entries s (run turns) ≡ []
    → OnlyAction 1 (run_in s.board s.records s.index s.floor turns).left.handed.answer.last
unfolding last_report
library_none s turns none =
    let last = run_last s turns ∙ ap (last_report Turn.no_report) none in
    rw last (record { action_is = refl; bucket = refl; before = refl; after = refl; full = refl; ended = refl; answer = refl })
