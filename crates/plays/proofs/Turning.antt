-- A turn that is done at a point of a play is that turn of the history. Assumes nothing.
use Prim.Native.Nat.{ℕ, ◌+◌, ◌<◌}
use mathlib.Core.Path.{◌≡◌, refl, sym, ap, ap₂, ◌∙◌}
use mathlib.Core.List.{List, [], ◌∷◌, ◌++◌}
use native.Mathlib.Omega.{arith}
use Rattle.turn.specs.declared.Worker.{Worker}
use Rattle.turn.specs.declared.Report.{Report}
use Rattle.turn.specs.Asleep.{awake}
use Rattle.turn.specs.Turn.{Answer, Refused, Done, Turned, After, after, number_of}
use Rattle.turn.specs.Places.{Step}
use Rattle.turn.specs.Places as Places
use Rattle.engine.specs.declared.Floor.{Floor}
use Rattle.engine.specs.declared.Totals.{Totals}
use Rattle.engine.specs.declared.Seat.{Seat}
use Rattle.engine.specs.Refusals.{bucket_for, turn_number}
use Rattle.engine.specs.Calls.{record_in, after_turn, tallied, report_on, turn_done, turned, turn_call}
use Rattle.engine.proofs.Keeps.{turn_accepted}
use Rattle.engine.proofs.Numbers.{turn_number_lem}
use Rattle.engine.proofs.Sleeping.{after_long}
use Rattle.hall.proofs.Same.{turn_same}
use Rattle.engine.proofs.Tallies.{losses_lost, losses_other, changes_change, changes_other}
use Rattle.sheet.specs.declared.Desk.{Desk}
use Rattle.sheet.specs.Play.{outcome, seat_at, record_of, ended_line, turn_listed, turn_at_desk}
use Rattle.history.specs.Trace.{Turn, Entry, acted, total}
use Rattle.history.specs.Counts.{is_turn, is_lost, is_change, one_if, turns_in, counts_of}
use Rattle.history.specs.History.{State, Opening, Call, turn, listed_of, seat_of, turn_by, turned_as, entry_of, opened, state, trace}
use Rattle.history.proofs.Counts.{one_is, total_append}
use Rattle.history.proofs.Runs.{same_totals}
use Rattle.history.proofs.Listed.{up_is}
use Rattle.history.proofs.Opened.{opening_ready}
use Rattle.history.proofs.Unbroken.{state_unbroken}
use Rattle.history.proofs.Histories.{state_from_then, trace_from_then}
use Rattle.plays.specs.Points.{Point}
use Rattle.plays.specs.Plays.{line_for}
use Rattle.plays.proofs.Lines.{line_is, end_lines_then}
use Rattle.plays.proofs.Standing.{Stands, seat_same, record_same, records_turn}

-- a turn stops with the number of its answer
listed_stop : (i : ℕ) (w : Worker) (board : List ℕ) (v : Worker) (a : Answer) (d : Desk) → (turn_listed i w board v a d).stop ≡ number_of a
listed_stop i w board v (Refused number) d = refl
listed_stop i w board v (Done report) d = refl

-- and that is the engine's
pub turn_stop :
    (i : ℕ) (s : After Desk)
    → (turn_at_desk i s).stop
    ≡ turn_number s.handed.floor s.words s.handed.floor.workers i (record_in s.handed.records i)
unfolding turn_at_desk
turn_stop i s =
    let x = turn_call s.words (seat_at s.handed.floor i) (record_of s.handed i) in
    listed_stop i (record_of s.handed i) x.words x.handed.worker x.handed.answer s.handed
    ∙ turn_number_lem s.words (seat_at s.handed.floor i) (record_of s.handed i)

-- a turn that is not refused is the table's
turn_done_lem :
    (board : List ℕ) (s : Seat) (w : Worker)
    → turn_number s.floor board s.listed s.worker w ≡ 0
    → turn_call board s w ≡ turn_done s.floor board w (Places.turn (bucket_for s.floor board w.key) (awake w))
unfolding turn_call turned
turn_done_lem board s w none = rw none

module _ (o : Opening) (done : List Call) (p : Point) (so : Stands o done p) (i : ℕ) (stop : (turn_at_desk i p.left).stop ≡ 0) where
  abbrev d : Desk
  d = p.left.handed

  abbrev f : Floor
  f = d.floor

  abbrev w : Worker
  w = record_in d.records i

  -- the history's state
  abbrev s : State
  s = state (opened o) done

  none : turn_number f p.left.words f.workers i w ≡ 0
  none = sym (turn_stop i p.left) ∙ stop

  -- there is such a worker
  known : i < s.floor.workers
  known =
      let same = ap (λ (g : Floor). g.workers) so.stands.floor in
      omega (arith, same, (turn_accepted f p.left.words f.workers i w none).2)

  -- what its turn does, on the bucket and on the board
  abbrev step : Step
  step = Places.turn (bucket_for f p.left.words w.key) (awake w)

  abbrev did : After Turned
  did = turn_done f p.left.words w step

  -- what the turn reports
  abbrev report : Report
  report = report_on f p.left.words w step

  -- the totals with it
  abbrev t : Totals
  t = tallied w.place report d.totals

  desk_turn :
      turn_at_desk i p.left
      ≡ outcome (ended_line t.turns i w.kind step.stepped.progress)
      (after did.words (record { floor = f; records = after_turn d.records i step.stepped.worker; totals = t })) 0
  unfolding turn_at_desk
  desk_turn =
      ap (λ (x : After Turned). turn_listed i w x.words x.handed.worker x.handed.answer d)
      (turn_done_lem p.left.words (seat_at f i) w none)

  -- the sheet has no index, and the history's makes no turn another
  history_turn : turn_by s i ≡ did
  history_turn =
      turn_same (seat_of s i) (state_unbroken (opening_ready o) done).reads (listed_of s i)
      ∙ rw (← so.stands.board, seat_same o done p so i, record_same o done p so i known) (turn_done_lem p.left.words (seat_at f i) w none)

  -- its entry, for a worker with this record before it
  abbrev entry_for : Worker → Turn
  entry_for v = record { worker = i; was = v; report = report }

  abbrev e : Turn
  e = entry_for (awake w)

  -- the calls with it
  abbrev more : List Call
  more = done ++ (turn i ∷ [])

  state_is : state (opened o) more ≡ turned_as s i did
  state_is = state_from_then (opened o) done (turn i) ∙ ap (turned_as s i) history_turn

  trace_is : trace (opened o) more ≡ trace (opened o) done ++ (acted e ∷ [])
  trace_is =
      trace_from_then (opened o) done (turn i)
      ∙ ap (λ (x : After Turned). trace (opened o) done ++ entry_of s i x.handed.answer) history_turn
      ∙ ap (λ (v : Worker). trace (opened o) done ++ (acted (entry_for v) ∷ [])) (up_is s i ∙ ap awake (record_same o done p so i known))

  -- so it is with the report that the engine answers
  pub trace_turn :
      (r : Report)
      → (turn_call p.left.words (seat_at f i) w).handed.answer ≡ Done r
      → trace (opened o) more ≡ trace (opened o) done ++ (acted (record { worker = i; was = awake w; report = r }) ∷ [])
  trace_turn r told =
      let same : Done r ≡ Done report = sym told ∙ ap (λ (x : After Turned). x.handed.answer) (turn_done_lem p.left.words (seat_at f i) w none) in
      let own : report ≡ r = cc in
      trace_is ∙ ap (λ (q : Report). trace (opened o) done ++ (acted (record { worker = i; was = awake w; report = q }) ∷ [])) own

  -- a count that goes up by what the entry counts for is that of the trace
  counts_on : (count : Entry → ℕ) (before after : ℕ) → before ≡ total count (trace (opened o) done) → after ≡ before + count (acted e) → after ≡ total count (trace (opened o) more)
  unfolding total
  counts_on count before after was now = rw trace_is (omega (arith, was, now, total_append count (trace (opened o) done) (acted e ∷ [])))

  -- what the desk counted before it
  was_counted : d.totals ≡ counts_of (trace (opened o) done)
  was_counted = so.stands.totals

  turns_are : d.totals.turns ≡ turns_in (trace (opened o) done)
  turns_are = ap (λ (n : Totals). n.turns) was_counted

  -- with the turn its totals are the counts of the trace
  totals_are : t ≡ counts_of (trace (opened o) more)
  totals_are =
      same_totals t (trace (opened o) more) (counts_on (λ e. one_if (is_turn e)) _ _ turns_are refl)
      (counts_on (λ e. one_if (is_change e)) _ _ (ap (λ (n : Totals). n.changes) was_counted)
      (ap (λ (n : ℕ). d.totals.changes + n) (one_is (is_change (acted e)) _ (changes_change _ _) (changes_other _ _))))
      (counts_on (λ e. one_if (is_lost e)) _ _ (ap (λ (n : Totals). n.lost) was_counted)
      (ap (λ (n : ℕ). d.totals.lost + n) (one_is (is_lost (acted e)) _ (losses_lost _) (losses_other _))))
      (counts_on _ _ _ (ap (λ (n : Totals). n.full) was_counted) refl)

  -- the point after it
  pub turn_stands :
      (field next : ℕ) (ts : List ℕ)
      → Stands o more
      (record { field = field; next = next; turns = ts; left = (turn_at_desk i p.left).left; lines = p.lines ++ (turn_at_desk i p.left).lines })
  turn_stands field next ts =
      record {
        stands =
            record {
              board = rw (desk_turn, state_is);
              floor = rw (desk_turn, state_is) so.stands.floor;
              records = rw (desk_turn, state_is) (records_turn o done p so i step.stepped.worker known);
              totals = rw desk_turn totals_are;
              lines =
                  rw (desk_turn, trace_is)
                  (ap (λ (l : List ℕ). p.lines ++ l) (line_is t.turns e step.stepped.progress)
                  ∙ ap₂ (λ (l : List ℕ) (n : ℕ). l ++ line_for (n + 1) e step.stepped.progress) so.stands.lines turns_are
                  ∙ sym (end_lines_then 1 (trace (opened o) done) e));
            };
        long = rw desk_turn (after_long d.records i step.stepped.worker ∙ so.long);
      }
