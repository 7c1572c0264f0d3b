-- A turn's answer, and the promises of a count and of a move, from their equations: the number that the answer tells is the tests' own. Assumes
-- nothing.
use Prim.Native.Nat.{ℕ}
use mathlib.Core.Path.{◌≡◌, refl, sym, ap, ◌∙◌}
use mathlib.Core.List.{List}
use Rattle.std.proofs.Common.{Result}
use Rattle.turn.specs.declared.refusal.Refusal.{Refusal}
use lib.Dec.{eqb}
use borrow.Author.Tests.{eqb-true}
use Rattle.mark.proofs.Choices.{by_cases}
use Rattle.turn.specs.declared.Worker.{Worker}
use Rattle.turn.specs.Turn.{Turned, After, after, number_of}
use Rattle.turn.proofs.Numbers.{number_in, number_told}
use Rattle.engine.specs.declared.Floor.{Floor}
use Rattle.engine.specs.declared.Seat.{Seat}
use Rattle.engine.specs.Calls.{Counted}
use Rattle.engine.specs.Refusals.{turn_number, count_number}
use Rattle.engine.specs.Calls.{turned, turn_call, count_call, counted_as, counted_number}
use Rattle.engine.proofs.Answers.{counted_told}
use Rattle.engine.specs.declared.Moved.{Moved}
use Rattle.engine.specs.Move.{moved_by, move_call}
use Rattle.engine.specs.Promises.{CountDone, LotsMoved}

-- the number that a turn's answer tells
pub turn_number_lem :
    (board : List ℕ) (s : Seat) (w : Worker)
    → number_of (turn_call board s w).handed.answer ≡ turn_number s.floor board s.listed s.worker w
unfolding turn_call turned
turn_number_lem board s w = number_told (turn_number s.floor board s.listed s.worker w) _ board w refl

-- a turn with its answer, and the number that the answer tells
pub record TurnDone (board : List ℕ) (s : Seat) (w : Worker) (later : List ℕ) (r : Turned) : Type 0 where
  pub whole : after later r ≡ turn_call board s w
  pub number : number_of r.answer ≡ turn_number s.floor board s.listed s.worker w

pub turn_done_lem :
    (board : List ℕ) (s : Seat) (w : Worker) (later : List ℕ) (r : Turned)
    → after later r ≡ turn_call board s w
    → TurnDone board s w later r
turn_done_lem board s w later r whole = record { whole = whole; number = ap number_in whole ∙ turn_number_lem board s w }

-- a count
pub count_done : (board : List ℕ) (f : Floor) (r : Result ℕ Refusal) → counted_as r ≡ count_call board f → CountDone board f r
unfolding count_call
count_done board f r whole =
    let n = count_number f board in
    let told : counted_number (count_call board f) ≡ n =
    by_cases (λ (x : Counted). counted_number x ≡ n) (eqb n 0) _ _ (λ is. sym (eqb-true n 0 is)) (λ isnot. refl) in
    record { whole = whole; number = sym (counted_told r) ∙ ap counted_number whole ∙ told }

-- the number that a move hands back is the one that it has
pub moved_number : (number : ℕ) (old : List ℕ) (f : Floor) (n : ℕ) (board : List ℕ) → (moved_by number old f n board).handed.refusal ≡ number
moved_number number old f n board =
    by_cases (λ (x : After Moved). x.handed.refusal ≡ number) (eqb number 0) _ _ (λ is. sym (eqb-true number 0 is)) (λ isnot. refl)

-- a move
pub lots_moved :
    (old board : List ℕ) (f : Floor) (listed rest n : ℕ) (board' : List ℕ) (r : Moved)
    → after board' r ≡ move_call old board f listed rest n
    → LotsMoved old board f listed rest n board' r
unfolding move_call
lots_moved old board f listed rest n board' r whole =
    record { whole = whole; number = ap (λ (x : After Moved). x.handed.refusal) whole ∙ moved_number _ old f n board }
