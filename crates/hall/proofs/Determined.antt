-- §12.2: two outcomes that meet the promise of a call that takes the index are equal: board and index where the call can change them, and what is
-- handed back. Each is over the record that the call's contract cites. Assumes nothing.
use Prim.Native.Nat.{ℕ}
use mathlib.Core.Path.{◌≡◌, sym, ap, ap₂, ◌∙◌}
use mathlib.Core.List.{List}
use Rattle.mark.proofs.OneAnswer.{one_answer}
use Rattle.turn.specs.declared.Worker.{Worker}
use Rattle.std.proofs.Common.{Result, Option}
use Rattle.turn.specs.declared.TurnDone.{TurnDone}
use Rattle.turn.specs.declared.refusal.Refusal.{Refusal}
use Rattle.turn.specs.Number.{result_number}
use Rattle.turn.specs.Turn.{After, after, answer_of, tried_as}
use Rattle.turn.specs.Retire.{retired_as}
use Rattle.turn.proofs.Refusing.{test_same, tried_same, retired_same}
use Rattle.turn.proofs.OneOutcome.{one_outcome}
use Rattle.engine.specs.declared.Floor.{Floor}
use Rattle.engine.specs.declared.Plan.{Plan}
use Rattle.engine.specs.declared.Seat.{Seat}
use Rattle.engine.specs.Calls.{laid_as}
use Rattle.engine.proofs.Answers.{laid_same}
use Rattle.engine.specs.declared.Moved.{Moved}
use Rattle.hall.proofs.Answers.{totalled_same, next_same}
use Rattle.hall.specs.Calls.{opened_index, index_left, retired_index, moved_index}
use Rattle.hall.specs.Promises.{FloorKept, TurnKept, RetireKept, HallRunTested, MoveKept, TotalTold, NextTold}

-- an index that is told by what is handed back is one where that is
pub one_index : {A : Type 0} {i j : List ℕ} {r t : A} (left : A → List ℕ) → i ≡ left r → j ≡ left t → r ≡ t → i ≡ j
one_index left one two same = one ∙ ap left same ∙ sym two

-- so board, index and what is handed back are each one
one_kept :
    {A T : Type 0} {b i c j : List ℕ} {r t : A} {promised : After T} (told : A → T) (left : A → List ℕ)
    → ((x y : A) → told x ≡ told y → x ≡ y)
    → after b (told r) ≡ promised
    → after c (told t) ≡ promised
    → i ≡ left r
    → j ≡ left t
    → (b ≡ c) × ((i ≡ j) × (r ≡ t))
one_kept {r} {t} told left one p q i_is j_is =
    let same = one_outcome p q in
    let is = one r t same.1 in
    (same.0, (one_index left i_is j_is is, is))

-- an opening
pub open_determined :
    (board index : List ℕ) (f : Floor) (listed : ℕ) (plan : Plan) (b i c j : List ℕ) (r t : Result Floor Refusal)
    → FloorKept board index f listed plan b i r
    → FloorKept board index f listed plan c j t
    → (b ≡ c) × ((i ≡ j) × (r ≡ t))
open_determined board index f listed plan b i c j r t p q =
    one_kept (laid_as f listed) (λ (x : Result Floor Refusal). opened_index index (result_number x)) (laid_same f listed) p.whole q.whole p.kept q.kept

-- a turn
pub turn_determined :
    (board index : List ℕ) (s : Seat) (w : Worker) (b i c j : List ℕ) (r t : Result TurnDone Refusal)
    → TurnKept board index s w b i r
    → TurnKept board index s w c j t
    → (b ≡ c) × ((i ≡ j) × (r ≡ t))
turn_determined board index s w b i c j r t p q =
    one_kept (tried_as w) (λ (x : Result TurnDone Refusal). index_left index (answer_of (tried_as w x).said)) (tried_same w) p.whole q.whole p.kept q.kept

-- a retiring
pub retire_determined :
    (board index : List ℕ) (s : Seat) (w : Worker) (b i c j : List ℕ) (r t : Result Worker Refusal)
    → RetireKept board index s w b i r
    → RetireKept board index s w c j t
    → (b ≡ c) × ((i ≡ j) × (r ≡ t))
retire_determined board index s w b i c j r t p q =
    one_kept (retired_as w) (λ (x : Result Worker Refusal). retired_index s.floor board index w (result_number x)) (retired_same w) p.whole q.whole p.kept q.kept

-- the number that refuses a run as a whole
pub run_refusal_determined :
    (f : Floor) (words listed entries count : ℕ) (r t : Result (Unit {0}) Refusal)
    → HallRunTested f words listed entries count r
    → HallRunTested f words listed entries count t
    → r ≡ t
run_refusal_determined f words listed entries count r t p q = test_same r t (one_answer p.whole q.whole)

-- a move; what it leaves of the index is told by the board and the number
pub move_determined :
    (old board index : List ℕ) (f : Floor) (listed rest n : ℕ) (b i c j : List ℕ) (r t : Moved)
    → MoveKept old board index f listed rest n b i r
    → MoveKept old board index f listed rest n c j t
    → (b ≡ c) × ((i ≡ j) × (r ≡ t))
move_determined old board index f listed rest n b i c j r t p q =
    let same = one_outcome p.whole q.whole in (
      same.0,
      (p.kept ∙ ap₂ (λ (words : List ℕ) (x : Moved). moved_index index words n x.refusal) same.0 same.1 ∙ sym q.kept, same.1),
    )

-- the total
pub total_determined : (board index : List ℕ) (f : Floor) (r t : Result ℕ Refusal) → TotalTold board index f r → TotalTold board index f t → r ≡ t
total_determined board index f r t p q = totalled_same r t (one_answer p.whole q.whole)

-- the next occupied bucket
pub next_determined :
    (board index : List ℕ) (f : Floor) (from : ℕ) (r t : Result (Option ℕ) Refusal) → NextTold board index f from r → NextTold board index f from t → r ≡ t
next_determined board index f from r t p q = next_same r t (one_answer p.whole q.whole)
