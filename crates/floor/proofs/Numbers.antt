-- What the calls of a turn, of a retiring, of a count and of the display's questions say is what their promises say: the equation, the five words,
-- and the number that the answer tells. Assumes nothing.
use Prim.Native.Nat.{ℕ}
use mathlib.Core.Path.{◌≡◌, refl, ap, ◌∙◌}
use mathlib.Core.List.{List}
use lib.Dec.{eqb}
use lib.ListN.{length, set}
use lib.Seq.{set-get_or}
use borrow.Author.Tests.{ne_eqb}
use Rattle.mark.proofs.Choices.{by_cases}
use Rattle.turn.specs.declared.Worker.{Worker}
use Rattle.std.proofs.Common.{Result, Ok, Err, Option}
use Rattle.turn.specs.declared.TurnDone.{TurnDone}
use Rattle.turn.specs.declared.refusal.Refusal.{Refusal as Why}
use Rattle.turn.specs.Number.{number, result_number}
use Rattle.turn.specs.Turn.{Answer, Refused, Done, Said, Tried, Turned, After, after, number_of, answer_of, tried_as}
use Rattle.turn.specs.Retire.{Retired, retired_as}
use Rattle.turn.proofs.Refusing.{number_some, retired_told}
use Rattle.floor.specs.declared.list.Done.{Done as TurnTaken}
use Rattle.engine.specs.declared.Floor.{Floor}
use Rattle.engine.specs.declared.Seat.{Seat}
use Rattle.engine.specs.Calls.{Counted}
use Rattle.engine.specs.Calls.{Refusal, Lots}
use Rattle.engine.specs.Calls.{blank, record_in, seat_in, tried, records_left, counted_as, counted_number}
use Rattle.engine.specs.Promises.{CountDone}
use Rattle.engine.proofs.Answers.{counted_told}
use Rattle.engine.specs.Firsts.{firsts}
use Rattle.engine.proofs.Turns.{tried_is_turned}
use Rattle.engine.proofs.Firsts.{firsts_none}
use Rattle.hall.specs.Totalled.{Totalled, totalled_as}
use Rattle.hall.specs.Next.{Next, next_as}
use Rattle.hall.proofs.Answers.{totalled_told, next_told as next_told_lem}
use Rattle.hall.specs.Refusals.{hall_turn_number}
use Rattle.hall.specs.Calls.{hall_try, hall_turn, index_left, hall_retire, totalled_number, next_number}
use Rattle.hall.specs.Promises.{TurnKept, RetireKept, TotalTold, NextTold}
use Rattle.floor.specs.declared.TurnOutcome.{TurnOutcome}
use Rattle.floor.specs.declared.CountOutcome.{CountOutcome}
use Rattle.floor.specs.declared.TotalOutcome.{TotalOutcome}
use Rattle.floor.specs.declared.NextOutcome.{NextOutcome}
use Rattle.floor.specs.Told.{turn_told, count_told, total_told, next_told}
use Rattle.floor.specs.Lent.{beside}
use Rattle.floor.specs.Calls.{OnList, on_list, said_as, answered_as, step_in, sleepers, say_in, turn_in}
use Rattle.floor.specs.Promises.{TurnLeft, RetireLeft, CountLeft, TotalLeft, NextLeft}
use Rattle.floor.proofs.Beside.{all_beside}
use Rattle.hall.proofs.Plain.{hall_turn_number_lem}

-- the number of a turn's answer is the one that crosses
told_number : (a : Answer) → (turn_told a).refusal ≡ number_of a
told_number (Refused number) = refl
told_number (Done report) = refl

-- a core that goes on with a record of the list: the record goes back there, and the rest is handed on
put_back :
    {D R : Type 0} (worker : D → Worker) (rest : D → R) (core : List ℕ → Seat → Worker → After D)
    → (board : List ℕ) (records : List Worker) (f : Floor) (i : ℕ) (w : Worker) (o : D) (board' : List ℕ) (records' : List Worker)
    → w ≡ record_in records i
    → after board' o ≡ core board (seat_in f records i) w
    → records' ≡ set records i (worker o)
    → let x = core board (seat_in f records i) (record_in records i) in
    after board' (on_list records' (rest o)) ≡ after x.words (on_list (set records i (worker x.handed)) (rest x.handed))
put_back {D} {R} worker rest core board records f i w o board' records' e₁ e₂ e₃ =
    let put : After D → After (OnList R) = λ x. after x.words (on_list (set records i (worker x.handed)) (rest x.handed)) in
    rw (e₃, ← e₁) (ap put e₂)

-- a turn as far as it concerns its own worker
pub steps_in :
    (board : List ℕ) (records : List Worker) (index : List ℕ) (f : Floor) (i : ℕ) (w : Worker) (r : Result TurnDone Why)
    (board' : List ℕ) (records' : List Worker) (index' : List ℕ)
    → w ≡ record_in records i
    → TurnKept board index (seat_in f records i) w board' index' r
    → records' ≡ set records i (tried_as w r).worker
    → (after board' (on_list records' (tried_as w r).said) ≡ step_in board records index f i) × (index' ≡ index_left index (answer_of (tried_as w r).said))
steps_in board records index f i w r board' records' index' e₁ e₂ e₃ = (
  put_back (λ (x : Tried). x.worker) (λ (x : Tried). x.said) (λ b s u. hall_try b index s u) board records f i w (tried_as w r) board' records' e₁ e₂.whole
      e₃,
  e₂.kept,
)

-- the others sleep where it is done, and where it is refused the worker's own record is put back as it was
rest_sleep :
    (board : List ℕ) (records : List Worker) (index : List ℕ) (f : Floor) (i : ℕ)
    → let x = (hall_try board index (seat_in f records i) (record_in records i)).handed in
    firsts (beside i) (sleepers x.said.refusal (length records)) (set records i x.worker) ≡ records_left records i x.worker (answer_of x.said)
unfolding hall_try tried
rest_sleep board records index f i =
    let n = hall_turn_number f board index (length records) i (record_in records i) in
    by_cases
    (λ (x : After Tried).
    firsts (beside i) (sleepers x.handed.said.refusal (length records)) (set records i x.handed.worker)
    ≡ records_left records i x.handed.worker (answer_of x.handed.said))
    (eqb n 0) _ _ (λ is. all_beside i _ records)
    (λ isnot. rw (isnot, set-get_or records i blank) (firsts_none (beside i) records))

-- a turn as it is tried: a step of its own worker, and then the others
pub says_in :
    (board : List ℕ) (records : List Worker) (index : List ℕ) (f : Floor) (i : ℕ) (board' : List ℕ) (between records' : List Worker) (said : Said) (count : ℕ)
    → after board' (on_list between said) ≡ step_in board records index f i
    → count ≡ sleepers said.refusal (length records)
    → records' ≡ firsts (beside i) count between
    → after board' (on_list records' said) ≡ say_in board records index f i
says_in board records index f i board' between records' said count e₁ e₂ e₃ =
    let x = hall_try board index (seat_in f records i) (record_in records i) in
    let go : After (OnList Said) → After (OnList Said) = λ y.
    after y.words (on_list (firsts (beside i) (sleepers y.handed.answer.refusal (length records)) y.handed.records) y.handed.answer) in
    rw (e₃, e₂) (ap go e₁ ∙ ap (λ (ws : List Worker). after x.words (on_list ws x.handed.said)) (rest_sleep board records index f i))

-- the answer that a turn says, whatever its place
pub said_answer : (place : ℕ) (r : Result TurnTaken Why) → answer_of (said_as place r) ≡ answered_as r
said_answer place (Ok d) = refl
said_answer place (Err why) = rw (ne_eqb (number why) 0 (number_some why))

-- a turn: what it says, told
pub turn_left :
    (board : List ℕ) (records : List Worker) (index : List ℕ) (f : Floor) (i : ℕ) (board' : List ℕ) (records' : List Worker) (index' : List ℕ)
    (said : Said) (r : TurnOutcome)
    → (after board' (on_list records' said) ≡ say_in board records index f i) × (index' ≡ index_left index (answer_of said))
    → r ≡ turn_told (answer_of said)
    → TurnLeft board records index f i board' records' index' r
unfolding hall_try hall_turn
turn_left board records index f i board' records' index' said r e₁ e₂ =
    let n = hall_turn_number f board index (length records) i (record_in records i) in
    let w = record_in records i in
    let same = tried_is_turned n f board w in
    let tell : After (OnList Said) → After (OnList TurnOutcome) =
    λ x. after x.words (on_list x.handed.records (turn_told (answer_of x.handed.answer))) in
    let put : After Turned → After (OnList TurnOutcome) =
    λ x. after x.words (on_list (records_left records i x.handed.worker x.handed.answer) (turn_told x.handed.answer)) in
    let whole : after board' (on_list records' r) ≡ turn_in board records index f i = rw e₂ (ap tell e₁.0 ∙ ap put same) in
    let answers : answer_of said ≡ (hall_turn board index (seat_in f records i) w).handed.answer =
    ap (λ (x : After (OnList Said)). answer_of x.handed.answer) e₁.0 ∙ ap (λ (x : After Turned). x.handed.answer) same in
    record {
      whole = whole;
      kept = e₁.1 ∙ ap (index_left index) answers;
      number =
          ap (λ (x : After (OnList TurnOutcome)). x.handed.answer.refusal) whole
          ∙ told_number (hall_turn board index (seat_in f records i) w).handed.answer
          ∙ hall_turn_number_lem board index (seat_in f records i) w;
    }

-- a retiring
pub retire_left :
    (board : List ℕ) (records : List Worker) (index : List ℕ) (f : Floor) (i : ℕ) (w : Worker) (r : Result Worker Why)
    (board' : List ℕ) (records' : List Worker) (index' : List ℕ)
    → w ≡ record_in records i
    → RetireKept board index (seat_in f records i) w board' index' r
    → records' ≡ set records i (retired_as w r).worker
    → RetireLeft board records index f i board' records' index' (result_number r)
retire_left board records index f i w r board' records' index' e₁ e₂ e₃ =
    record {
      whole =
          rw (← retired_told w r)
          (put_back (λ (x : Retired). x.worker) (λ (x : Retired). x.refusal) (λ b s u. hall_retire b index s u) board records f i w (retired_as w r) board'
          records' e₁ e₂.whole e₃);
      kept = rw (← e₁) e₂.kept;
      number = rw (← e₁) e₂.number;
    }

-- the number of a count's answer is the one that crosses
count_number_lem : (c : Counted) → (count_told c).refusal ≡ counted_number c
count_number_lem (Refusal number) = refl
count_number_lem (Lots lots) = refl

-- a count
pub count_left :
    (board : List ℕ) (f : Floor) (c : Result ℕ Why) (r : CountOutcome) → CountDone board f c → r ≡ count_told (counted_as c) → CountLeft board f r
count_left board f c r done e =
    record { whole = e ∙ ap count_told done.whole; number = rw e (count_number_lem (counted_as c) ∙ counted_told c ∙ done.number) }

-- so is that of a total's answer
total_number : (t : Totalled) → (total_told t).refusal ≡ totalled_number t
total_number (Totalled.Refusal number) = refl
total_number (Totalled.Slots slots) = refl

-- a total
pub total_left :
    (board index : List ℕ) (f : Floor) (t : Result ℕ Why) (r : TotalOutcome)
    → TotalTold board index f t
    → r ≡ total_told (totalled_as t)
    → TotalLeft board index f r
total_left board index f t r told e =
    record { whole = e ∙ ap total_told told.whole; number = rw e (total_number (totalled_as t) ∙ totalled_told t ∙ told.number) }

-- and that of a next bucket's answer
next_number_lem : (n : Next) → (next_told n).refusal ≡ next_number n
next_number_lem (Next.Refusal number) = refl
next_number_lem Next.Nowhere = refl
next_number_lem (Next.Bucket b) = refl

-- a next occupied bucket
pub next_left :
    (board index : List ℕ) (f : Floor) (from : ℕ) (n : Result (Option ℕ) Why) (r : NextOutcome)
    → NextTold board index f from n
    → r ≡ next_told (next_as n)
    → NextLeft board index f from r
next_left board index f from n r told e =
    record { whole = e ∙ ap next_told told.whole; number = rw e (next_number_lem (next_as n) ∙ next_told_lem n ∙ told.number) }
