-- One turn at the desk: what the engine's answer makes of it, and that no turn makes more lines due. Assumes nothing.
use Prim.Native.Nat.{ℕ, suc, ◌+◌, ◌*◌, ◌≤◌, ◌<◌}
use mathlib.Core.Bool.{Bool, true, false}
use mathlib.Core.Path.{◌≡◌, refl, sym, ap, ◌∙◌}
use mathlib.Core.List.{List, [], ◌∷◌}
use native.Mathlib.Omega.{arith}
use lib.Dec.{eqb}
use lib.ListN.{length, get_or, length-set, length-map, length-append}
use borrow.Author.Tests.{eq-eqb, ne_eqb, eqb-true}
use Rattle.mark.proofs.Choices.{by_cases, not_both}
use Rattle.std.specs.Prelude.{Result, Ok, Err}
use Rattle.turn.specs.declared.Worker.{Worker}
use Rattle.turn.specs.declared.TurnDone.{TurnDone}
use Rattle.turn.specs.declared.refusal.Refusal.{Refusal}
use Rattle.turn.specs.Number.{number}
use Rattle.turn.proofs.Refusing.{number_some}
use Rattle.turn.specs.declared.Progress.{Progress}
use Rattle.turn.specs.declared.Progress.TheVariants.{GoesOn, Ended}
use Rattle.turn.specs.declared.Report.{Report}
use Rattle.turn.specs.Worker.{is_idle, may_stand}
use Rattle.turn.specs.Asleep.{awake}
use Rattle.turn.specs.Places.{turn}
use Rattle.turn.specs.Turn.{Answer, Refused, Done, Tried, Turned, After, after, number_of, doing, answer_of, answered, tried_as}
use Rattle.turn.proofs.Numbers.{report_in}
use Rattle.turn.proofs.Kept.{Idles, turn_idles, is_idle_lem}
use Rattle.turn.proofs.Asleep.{awake_accepted}
use Rattle.engine.specs.declared.Seat.{Seat}
use Rattle.engine.specs.declared.Totals.{Totals}
use Rattle.engine.specs.Refusals.{bucket_for, turn_number}
use Rattle.engine.specs.Calls.{blank, record_in, after_turn, tallied, report_on, turn_done, turned, try_call, turn_call}
use Rattle.engine.proofs.Few.{few_le, few_more}
use Rattle.engine.proofs.Keeps.{turn_accepted}
use Rattle.engine.proofs.Numbers.{TurnDone as Turning, turn_done_lem}
use Rattle.engine.proofs.Turns.{answering, tried_is_turned}
use Rattle.pen.specs.declared.Pen.{Pen}
use Rattle.pen.specs.Written.{Writes}
use Rattle.pen.proofs.Decimal.{decimal_long, decimal_short}
use Rattle.pen.proofs.Putting.{writes_none}
use Rattle.sheet.specs.Play.{Desk, desk_of, seat_of, record_of, Outcome, ended_line, turn_listed, turn_at_desk, turns_done}
use Rattle.sheet.specs.Promises.{Does}
use Rattle.sheet.specs.Room.{busy, due, ended_room, Ready}
use Rattle.sheet.proofs.Busy.{busy_one, busy_turn}
use Rattle.sheet.proofs.Sleeping.{idle_turn}

-- what was tried is the engine's turn, with its answer
try_done :
    (board : List ℕ) (s : Seat) (w : Worker) (later : List ℕ) (r : Tried)
    → after later r ≡ try_call board s w
    → Turning board s w later (answered r)
unfolding try_call turn_call
try_done board s w later r whole = turn_done_lem _ _ _ _ _ (ap answering whole ∙ tried_is_turned _ _ _ _)

-- what may be behind a desk may be more
pub ready_le : (n m : ℕ) (d : Desk) → n ≤ m → Ready n d → Ready m d
ready_le n m d more ready = record { few = few_le n m _ more ready.few; all = ready.all; past = ready.past }

-- ---- a turn that is done

-- its worker is one of so many, each with a record; its own was busy, and is idle where the call has ended
pub record Taken (workers i : ℕ) (w v : Worker) (p : Progress) : Type 0 where
  pub known : (i < workers) × (workers ≤ 64)
  pub kind : w.kind ≤ 3
  pub was_busy : is_idle w ≡ false
  pub idles : Idles p v

-- who may stand anywhere is at a look, an insert or a remove
kind_small : (kind place : ℕ) → may_stand kind place ≡ true → kind ≤ 3
unfolding may_stand
kind_small kind place =
    by_cases (λ (t : Bool). t ≡ true → kind ≤ 3) (eqb kind 1) _ _ (λ look is. let k = eqb-true kind 1 look in omega arith)
    (λ other. by_cases (λ (t : Bool). t ≡ true → kind ≤ 3) (eqb kind 2) _ _ (λ insert is. let k = eqb-true kind 2 insert in omega arith)
    (λ third. by_cases (λ (t : Bool). t ≡ true → kind ≤ 3) (eqb kind 3) _ _ (λ remove is. let k = eqb-true kind 3 remove in omega arith)
    (λ none is. not_both false refl is)))

-- that is so where the engine answers with a report
pub taken :
    (board : List ℕ) (s : Seat) (w : Worker) (later : List ℕ) (r : Turned) (report : Report)
    → Turning board s w later r
    → r.answer ≡ Done report
    → Taken s.floor.workers s.worker w r.worker report.progress
unfolding turn_call turned
taken board s w later r report done told =
    let f = s.floor in
    let number = turn_number f board s.listed s.worker w in
    let none : number ≡ 0 = sym done.number ∙ ap number_of told in
    let ok = turn_accepted f board s.listed s.worker w none in
    let bucket = bucket_for f board w.key in
    let step = turn bucket (awake w) in
    let whole : after later r ≡ turn_done f board w step = rw (eq-eqb number 0 none) at done.whole in
    let handed : r ≡ doing step (report_on f board w step) = ap (λ (x : After Turned). x.handed) whole in
    let same : report ≡ report_on f board w step = ap (report_in report) (sym told ∙ ap (λ (x : Turned). x.answer) handed) in
    record {
      known = (ok.2, ok.0.workers);
      kind = kind_small w.kind w.place ok.1.sound.stands;
      was_busy = ok.1.busy;
      idles = rw (same, handed) (turn_idles bucket (awake w) (awake_accepted bucket w ok.1));
    }

-- ---- the lines that are due

-- what a turn writes was due
pub due_turn :
    (ws : List Worker) (n i : ℕ) (v : Worker) (p : Progress) (written next : ℕ)
    → length ws ≡ 64
    → Taken n i (get_or ws i blank) v p
    → next ≤ written + ended_room p
    → next + 37 * busy (after_turn ws i v) ≤ written + 37 * busy ws
due_turn ws n i v GoesOn written next all took short =
    let e = rw took.was_busy at (busy_turn ws i v blank (omega (arith, all, took.known.0, took.known.1))) in
    omega (arith, e, busy_one v, short)
due_turn ws n i v (Ended answer) written next all took short =
    let e = rw (took.was_busy, took.idles, is_idle_lem) at (busy_turn ws i v blank (omega (arith, all, took.known.0, took.known.1))) in
    rw took.idles (omega (arith, e, short))

-- the line of a call that has ended is no longer than what is due for it
ended_long :
    (turn i kind : ℕ) (p : Progress) → turn ≤ 16384 → i < 64 → kind ≤ 3 → length (ended_line turn i kind p) ≤ ended_room p
ended_long turn i kind GoesOn few known sound = omega arith
ended_long turn i kind (Ended answer) few known sound =
    let a = decimal_long 5 turn (omega arith) (omega arith) in
    let b = decimal_long 3 i (omega arith) (omega arith) in
    let c = decimal_long 3 kind (omega arith) (omega arith) in
    let d = decimal_short answer in
    simp length-append (omega (arith, a, b, c, d))

-- ---- the engine's answer at a desk

module _ (i : ℕ) (w : Worker) (board : List ℕ) (v : Worker) (d : Desk) where
  abbrev Fair : Answer → Type 0
  Fair answer = (report : Report) → answer ≡ Done report → Taken d.floor.workers i w v report.progress

  -- counts a turn more at most, and puts back a record that the floor has
  listed_ready : (n : ℕ) (answer : Answer) → Fair answer → Ready n d → Ready (n + 1) (turn_listed i w board v answer d).left.handed
  listed_ready n (Refused number) fair ready = record { few = few_le n (n + 1) _ (omega arith) ready.few; all = ready.all; past = ready.past }
  listed_ready n (Done report) fair ready =
      record {
        few = few_more n w.place report d.totals ready.few;
        all = simp (length-set, length-map) ready.all;
        past = idle_turn _ _ i v (fair report refl).known.0 ready.past;
      }

  -- makes no more lines due
  listed_pays :
      (answer : Answer)
      → Fair answer
      → record_in d.records i ≡ w
      → Ready 16383 d
      → let o = turn_listed i w board v answer d in due o.left.handed (length o.lines) ≤ due d 0
  listed_pays (Refused number) fair is ready = omega arith
  listed_pays (Done report) fair is ready =
      let took = fair report refl in
      let few = few_more 16383 w.place report d.totals ready.few in
      let long = ended_long _ i w.kind report.progress few.turns (omega (arith, took.known.0, took.known.1)) took.kind in
      due_turn d.records d.floor.workers i v report.progress 0 _ ready.all (rw is took) (omega (arith, long))

module _ (i : ℕ) (board : List ℕ) (d : Desk) where
  abbrev w : Worker
  w = record_of d i

  abbrev x : After Turned
  x = turn_call board (seat_of d i) w

  fair : Fair i w x.words x.handed.worker d x.handed.answer
  fair report done = taken board (seat_of d i) w x.words x.handed report (turn_done_lem board (seat_of d i) w x.words x.handed refl) done

  -- one turn more at most is counted
  pub turn_ready : (n : ℕ) → Ready n d → Ready (n + 1) (turn_at_desk i (after board d)).left.handed
  unfolding turn_at_desk
  turn_ready n = listed_ready i w x.words x.handed.worker d n x.handed.answer fair

  -- and no more lines are due
  pub turn_pays : Ready 16383 d → let o = turn_at_desk i (after board d) in due o.left.handed (length o.lines) ≤ due d 0
  unfolding turn_at_desk
  turn_pays = listed_pays i w x.words x.handed.worker d x.handed.answer fair refl

  -- what the engine answers is the turn
  module _
      (later : List ℕ) (r : Result TurnDone Refusal) (whole : after later (tried_as w r) ≡ try_call board (seat_of d i) w) (pen : Pen)
    where
      tried : Turning board (seat_of d i) w later (answered (tried_as w r))
      tried = try_done board (seat_of d i) w later (tried_as w r) whole

      come : turn_listed i w later (tried_as w r).worker (answer_of (tried_as w r).said) d ≡ turn_at_desk i (after board d)
      unfolding turn_at_desk
      come = ap (λ (x : After Turned). turn_listed i w x.words x.handed.worker x.handed.answer d) tried.whole

      -- one that is refused
      pub turn_refused : (why : Refusal) → r ≡ Err why → Does (turn_at_desk i (after board d)) pen pen later d (number why)
      turn_refused why is =
          let isnot : eqb (number why) 0 ≡ false = ne_eqb (number why) 0 (number_some why) in
          rw (← come, is, isnot)
          (record { lines = writes_none pen; comes = record { words = refl; stop = refl; desk = refl } })

      module _ (x : TurnDone) (is : r ≡ Ok x) where
        reported : answer_of (tried_as w r).said ≡ Done x.report
        reported = ap (λ (y : Result TurnDone Refusal). answer_of (tried_as w y).said) is

        -- one that is done is of a worker that the floor has
        pub turn_known : (i < d.floor.workers) × (d.floor.workers ≤ 64)
        turn_known = (taken board (seat_of d i) w later (answered (tried_as w r)) x.report tried reported).known

        -- is counted, and lists its line
        pub turn_did :
            (last : Pen) (records : List Worker) (t : Totals)
            → records ≡ after_turn d.records i x.worker
            → t ≡ tallied w.place x.report d.totals
            → Writes pen (ended_line t.turns i w.kind x.report.progress) last
            → Does (turn_at_desk i (after board d)) pen last later (desk_of d.floor records t) 0
        turn_did last records t put counted lines =
            rw (← come, is)
            (record { lines = rw counted at lines; comes = record { words = refl; stop = refl; desk = rw (put, counted) refl } })

-- ---- turns, one after another

-- are counted once each at most
pub turns_ready :
    (is : List ℕ) (board : List ℕ) (d : Desk) (n : ℕ) → Ready n d → Ready (n + length is) (turns_done is (after board d)).left.handed
unfolding turns_done
turns_ready [] board d n ready = ready_le n _ d (omega arith) ready
turns_ready (i ∷ is) board d n ready =
    by_cases (λ (o : Outcome). Ready (n + suc (length is)) o.left.handed) (eqb (turn_at_desk i (after board d)).stop 0) _ _
    (λ done. ready_le (n + 1 + length is) _ _ (omega arith) (turns_ready is _ _ (n + 1) (turn_ready i board d n ready)))
    (λ some. ready_le (n + 1) _ _ (omega arith) (turn_ready i board d n ready))

-- and make no more lines due
pub turns_pay :
    (is : List ℕ) (board : List ℕ) (d : Desk) (n : ℕ)
    → Ready n d
    → n + length is ≤ 16384
    → let o = turns_done is (after board d) in due o.left.handed (length o.lines) ≤ due d 0
unfolding turns_done
turns_pay [] board d n ready short = omega arith
turns_pay (i ∷ is) board d n ready short =
    let one = turn_pays i board d (ready_le n 16383 d (omega arith) ready) in
    by_cases (λ (o : Outcome). due o.left.handed (length o.lines) ≤ due d 0) (eqb (turn_at_desk i (after board d)).stop 0) _ _
    (λ done.
    let left = (turn_at_desk i (after board d)).left in
    let rest = turns_pay is left.words left.handed (n + 1) (turn_ready i board d n ready) (omega arith) in
    rw length-append (omega (arith, one, rest)))
    (λ some. one)
