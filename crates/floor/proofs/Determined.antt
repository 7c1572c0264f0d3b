-- §12.2: two outcomes that meet the promise of a call are equal: the board, the list, the index and what is handed back. Each is over the record
-- that the call's contract cites; of a show the engine's show-determined says it. Assumes nothing.
use Prim.Native.Nat.{ℕ}
use mathlib.Core.Path.{◌≡◌, ap}
use mathlib.Core.List.{List}
use Rattle.turn.specs.declared.Worker.{Worker}
use Rattle.turn.specs.Turn.{After, after}
use Rattle.mark.proofs.OneAnswer.{one_answer}
use Rattle.turn.proofs.OneOutcome.{one_outcome}
use Rattle.engine.specs.declared.Floor.{Floor}
use Rattle.engine.specs.declared.Plan.{Plan}
use Rattle.engine.specs.declared.Seat.{Seat}
use Rattle.engine.specs.declared.Moved.{Moved}
use Rattle.engine.specs.Calls.{Started}
use Rattle.engine.specs.Calls.{Opened, record_in}
use Rattle.hall.specs.Calls.{opened_index, retired_index, Indexed, moved_index}
use Rattle.hall.proofs.Determined.{one_index}
use Rattle.floor.specs.declared.Outcome.{Outcome}
use Rattle.floor.specs.declared.TurnOutcome.{TurnOutcome}
use Rattle.floor.specs.declared.RunOutcome.{RunOutcome}
use Rattle.floor.specs.declared.Part.{Part}
use Rattle.floor.specs.declared.CountOutcome.{CountOutcome}
use Rattle.floor.specs.declared.TotalOutcome.{TotalOutcome}
use Rattle.floor.specs.declared.NextOutcome.{NextOutcome}
use Rattle.floor.specs.Calls.{OnList, on_list}
use Rattle.floor.specs.Promises.{FloorOpened, StartLeft, TurnLeft, RetireLeft, RunLeft, MoveLeft, PartShown, ShowNumbered, CountLeft, TotalLeft, NextLeft}

-- a list with an answer, taken apart
apart : {A : Type 0} {one two : List Worker} {r t : A} → on_list one r ≡ on_list two t → (one ≡ two) × (r ≡ t)
apart {A} e = (ap (λ (y : OnList A). y.records) e, ap (λ (y : OnList A). y.answer) e)

-- a board with a list and an answer, of two outcomes that are promised to be the same
both_apart :
    {A : Type 0} {b c : List ℕ} {one two : List Worker} {r t : A} {promised : After (OnList A)}
    → after b (on_list one r) ≡ promised
    → after c (on_list two t) ≡ promised
    → (b ≡ c) × (one ≡ two) × (r ≡ t)
both_apart p q = let e = one_outcome p q in let h = apart e.1 in (e.0, h.0, h.1)

-- an opening: the board, the list, the index, and the floor with the number
pub desk_open_determined :
    (board : List ℕ) (records : List Worker) (index : List ℕ) (f : Floor) (plan : Plan) (b c : List ℕ) (one two : List Worker) (j k : List ℕ)
    (r t : Outcome)
    → FloorOpened board records index f plan b one j r
    → FloorOpened board records index f plan c two k t
    → (b ≡ c) × (one ≡ two) × (j ≡ k) × (r ≡ t)
desk_open_determined board records index f plan b c one two j k r t p q =
    let e = one_outcome p.whole q.whole in (
      e.0,
      ap (λ (y : Opened). y.records) e.1,
      one_index (opened_index index) p.kept q.kept (ap (λ (y : Opened). y.refusal) e.1),
      λ i. record { refusal = (e.1 i).refusal; floor = (e.1 i).floor },
    )

-- a look, an insert and a remove: the list, and the floor with the number
pub desk_start_determined :
    {B : Type 0} (start : List ℕ → Seat → Worker → B → Started) (board : List ℕ) (records : List Worker) (f : Floor) (i : ℕ) (b : B)
    (one two : List Worker) (r t : Outcome)
    → StartLeft start board records f i b one r
    → StartLeft start board records f i b two t
    → (one ≡ two) × (r ≡ t)
desk_start_determined start board records f i b one two r t p q = apart (one_answer p.whole q.whole)

-- a turn: the board, the list, the index, and what it tells
pub desk_turn_determined :
    (board : List ℕ) (records : List Worker) (index : List ℕ) (f : Floor) (i : ℕ) (b c : List ℕ) (one two : List Worker) (j k : List ℕ)
    (r t : TurnOutcome)
    → TurnLeft board records index f i b one j r
    → TurnLeft board records index f i c two k t
    → (b ≡ c) × (one ≡ two) × (j ≡ k) × (r ≡ t)
desk_turn_determined board records index f i b c one two j k r t p q =
    let e = both_apart p.whole q.whole in (e.0, e.1, one_answer p.kept q.kept, e.2)

-- a retiring: the board, the list, the index, and the number
pub desk_retire_determined :
    (board : List ℕ) (records : List Worker) (index : List ℕ) (f : Floor) (i : ℕ) (b c : List ℕ) (one two : List Worker) (j k : List ℕ) (r t : ℕ)
    → RetireLeft board records index f i b one j r
    → RetireLeft board records index f i c two k t
    → (b ≡ c) × (one ≡ two) × (j ≡ k) × (r ≡ t)
desk_retire_determined board records index f i b c one two j k r t p q =
    let e = both_apart p.whole q.whole in
    (e.0, e.1, one_index (retired_index f board index (record_in records i)) p.kept q.kept e.2, e.2)

-- a run: the board, the list, the index, and what it tells
pub desk_run_determined :
    (board : List ℕ) (records : List Worker) (index : List ℕ) (f : Floor) (turns b c : List ℕ) (one two : List Worker) (j k : List ℕ)
    (r t : RunOutcome)
    → RunLeft board records index f turns b one j r
    → RunLeft board records index f turns c two k t
    → (b ≡ c) × (one ≡ two) × (j ≡ k) × (r ≡ t)
desk_run_determined board records index f turns b c one two j k r t p q =
    let e = one_answer p.whole q.whole in
    let left = ap (λ (y : Indexed (After (OnList RunOutcome))). y.left) e in
    let h = apart (ap (λ (y : After (OnList RunOutcome)). y.handed) left) in (
      ap (λ (y : After (OnList RunOutcome)). y.words) left,
      h.0,
      ap (λ (y : Indexed (After (OnList RunOutcome))). y.index) e,
      h.1,
    )

-- a move: the board, the index, and the floor with the number
pub desk_move_determined :
    (old board : List ℕ) (records : List Worker) (index : List ℕ) (f : Floor) (n : ℕ) (b c j k : List ℕ) (r t : Outcome)
    → MoveLeft old board records index f n b j r
    → MoveLeft old board records index f n c k t
    → (b ≡ c) × (j ≡ k) × (r ≡ t)
desk_move_determined old board records index f n b c j k r t p q =
    let e = one_answer p.whole q.whole in (
      ap (λ (y : After Moved). y.words) e,
      one_index (λ (y : After Moved). moved_index index y.words n y.handed.refusal) p.kept q.kept e,
      λ i. record { floor = (e i).handed.floor; refusal = (e i).handed.refusal },
    )

-- a show to C: the words that are meant
pub desk_show_determined : (board : List ℕ) (f : Floor) (lot : ℕ) (p q : Part) → PartShown board f lot p → PartShown board f lot q → p ≡ q
desk_show_determined board f lot p q x y =
    let start = one_answer x.start y.start in
    let words = one_answer x.words y.words in
    λ i. record { start = start i; words = words i }

-- the number of refusal of a show
pub desk_show_refusal_determined : (board : List ℕ) (f : Floor) (lot r t : ℕ) → ShowNumbered board f lot r → ShowNumbered board f lot t → r ≡ t
desk_show_refusal_determined board f lot r t p q = one_answer p.whole q.whole

-- a count
pub desk_count_determined : (board : List ℕ) (f : Floor) (r t : CountOutcome) → CountLeft board f r → CountLeft board f t → r ≡ t
desk_count_determined board f r t p q = one_answer p.whole q.whole

-- a total
pub desk_total_determined :
    (board index : List ℕ) (f : Floor) (r t : TotalOutcome) → TotalLeft board index f r → TotalLeft board index f t → r ≡ t
desk_total_determined board index f r t p q = one_answer p.whole q.whole

-- a next occupied bucket
pub desk_next_determined :
    (board index : List ℕ) (f : Floor) (from : ℕ) (r t : NextOutcome) → NextLeft board index f from r → NextLeft board index f from t → r ≡ t
desk_next_determined board index f from r t p q = one_answer p.whole q.whole
