-- §12.2: two outcomes that meet the promise of a call are equal: the board where the call can change it, and what is handed back. Each is
-- over the record that the call's contract cites. Assumes nothing.
use Prim.Native.Nat.{ℕ}
use mathlib.Core.Path.{◌≡◌}
use Rattle.std.proofs.Common.{Result}
use mathlib.Core.List.{List}
use denote.Ref.{Bor}
use Rattle.turn.specs.declared.Worker.{Worker}
use Rattle.turn.specs.declared.Report.{Report}
use Rattle.turn.specs.declared.TurnDone.{TurnDone}
use Rattle.turn.specs.declared.refusal.Refusal.{Refusal}
use Rattle.turn.proofs.Refusing.{test_same, tried_same, retired_same}
use Rattle.mark.proofs.OneAnswer.{one_answer}
use Rattle.turn.proofs.OneOutcome.{one_outcome}
use Rattle.engine.specs.declared.Floor.{Floor}
use Rattle.engine.specs.declared.Plan.{Plan}
use Rattle.engine.specs.declared.Seat.{Seat}
use Rattle.engine.specs.declared.Begun.{Begun}
use Rattle.engine.specs.Calls.{Started}
use Rattle.engine.proofs.Answers.{laid_same, started_same, counted_same}
use Rattle.engine.specs.declared.Totals.{Totals}
use Rattle.engine.specs.declared.Touched.{Touched}
use Rattle.engine.specs.declared.Moved.{Moved}
use Rattle.engine.specs.Promises.{BlankMade, FloorLaid, StartDone, TurnTried, TurnTested, WorkerRetired, RetireTested, BucketTouched, NoneCounted, TurnCounted, RunTested, ShowTested, ShowPlaced, Shown, CountDone, LotsMoved, RestTested}

-- the blank record
pub blank_determined : (r t : Worker) → BlankMade r → BlankMade t → r ≡ t
blank_determined r t p q = one_answer p.whole q.whole

-- an opening: the board, and what is laid out beside it
pub open_determined :
    (board : List ℕ) (f : Floor) (listed : ℕ) (plan : Plan) (b c : List ℕ) (r t : Result Floor Refusal)
    → FloorLaid board f listed plan b r
    → FloorLaid board f listed plan c t
    → (b ≡ c) × (r ≡ t)
open_determined board f listed plan b c r t p q =
    let same = one_outcome p.whole q.whole in
    (same.0, laid_same f listed r t same.1)

-- a move: the board, and what is handed back
pub move_determined :
    (old board : List ℕ) (f : Floor) (listed rest n : ℕ) (b c : List ℕ) (r t : Moved)
    → LotsMoved old board f listed rest n b r
    → LotsMoved old board f listed rest n c t
    → (b ≡ c) × (r ≡ t)
move_determined old board f listed rest n b c r t p q = one_outcome p.whole q.whole

-- the number that the records give a move, with one more
pub rest_determined : (number : ℕ) (w : Worker) (r t : ℕ) → RestTested number w r → RestTested number w t → r ≡ t
rest_determined number w r t p q = one_answer p.whole q.whole

-- a look, an insert and a remove: the record, the floor and the number
pub start_determined :
    {B : Type 0} (start : List ℕ → Seat → Worker → B → Started) (board : List ℕ) (s : Seat) (w : Worker) (b : B) (r t : Result Begun Refusal)
    → StartDone start board s w b r
    → StartDone start board s w b t
    → r ≡ t
start_determined start board s w b r t p q = started_same s.floor w r t (one_answer p.whole q.whole)

-- a turn: the board, and what is handed back
pub turn_determined :
    (board : List ℕ) (s : Seat) (w : Worker) (b c : List ℕ) (r t : Result TurnDone Refusal)
    → TurnTried board s w b r
    → TurnTried board s w c t
    → (b ≡ c) × (r ≡ t)
turn_determined board s w b c r t p q =
    let same = one_outcome p.whole q.whole in
    (same.0, tried_same w r t same.1)

-- the number of refusal of a turn
pub turn_refusal_determined :
    (board : List ℕ) (s : Seat) (w : Worker) (r t : Result (Unit {0}) Refusal) → TurnTested board s w r → TurnTested board s w t → r ≡ t
turn_refusal_determined board s w r t p q = test_same r t (one_answer p.whole q.whole)

-- a retiring: the board, and what is handed back
pub retire_determined :
    (board : List ℕ) (s : Seat) (w : Worker) (b c : List ℕ) (r t : Result Worker Refusal)
    → WorkerRetired board s w b r
    → WorkerRetired board s w c t
    → (b ≡ c) × (r ≡ t)
retire_determined board s w b c r t p q =
    let same = one_outcome p.whole q.whole in
    (same.0, retired_same w r t same.1)

-- the number of refusal of a retiring
pub retire_refusal_determined :
    (board : List ℕ) (s : Seat) (w : Worker) (r t : Result (Unit {0}) Refusal) → RetireTested board s w r → RetireTested board s w t → r ≡ t
retire_refusal_determined board s w r t p q = test_same r t (one_answer p.whole q.whole)

-- the bucket of a lot, and its mark word
pub touched_determined : (board : List ℕ) (f : Floor) (lot : ℕ) (r t : Touched) → BucketTouched board f lot r → BucketTouched board f lot t → r ≡ t
touched_determined board f lot r t p q = one_answer p.whole q.whole

-- the totals before the first turn
pub nothing_determined : (r t : Totals) → NoneCounted r → NoneCounted t → r ≡ t
nothing_determined r t p q = one_answer p.whole q.whole

-- the totals with one turn more
pub add_determined :
    (totals : Totals) (place : ℕ) (report : Report) (r t : Totals)
    → TurnCounted totals place report r
    → TurnCounted totals place report t
    → r ≡ t
add_determined totals place report r t p q = one_answer p.whole q.whole

-- the number that refuses a run as a whole
pub run_refusal_determined :
    (f : Floor) (words listed count : ℕ) (r t : Result (Unit {0}) Refusal) → RunTested f words listed count r → RunTested f words listed count t → r ≡ t
run_refusal_determined f words listed count r t p q = test_same r t (one_answer p.whole q.whole)

-- the number of refusal of a show
pub show_refusal_determined :
    (board : List ℕ) (f : Floor) (lot : ℕ) (r t : Result (Unit {0}) Refusal) → ShowTested board f lot r → ShowTested board f lot t → r ≡ t
show_refusal_determined board f lot r t p q = test_same r t (one_answer p.whole q.whole)

-- where the part that is shown starts
pub show_start_determined : (board : List ℕ) (f : Floor) (lot r t : ℕ) → ShowPlaced board f lot r → ShowPlaced board f lot t → r ≡ t
show_start_determined board f lot r t p q = one_answer p.whole q.whole

-- the words that are shown, and where they stand
pub show_determined :
    (board : Bor (List ℕ)) (f : Floor) (lot : ℕ) (one two : Bor (List ℕ))
    → Shown board f lot one
    → Shown board f lot two
    → (one.now ≡ two.now) × (one.ref_ptr ≡ two.ref_ptr)
show_determined board f lot one two p q = (one_answer p.words q.words, one_answer p.start q.start)

-- the count
pub count_determined : (board : List ℕ) (f : Floor) (r t : Result ℕ Refusal) → CountDone board f r → CountDone board f t → r ≡ t
count_determined board f r t p q = counted_same r t (one_answer p.whole q.whole)
