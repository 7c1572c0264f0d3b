-- Assumes nothing.
use Rattle.std.proofs.Common.{◌≡◌, ℕ, List, sym, ◌∙◌, arith}
use borrow.Author.Tests.{eq-eqb, ne_eqb}
use Rattle.mark.proofs.Choices.{passes}
use Rattle.engine.specs.declared.Floor.{Floor}
use Rattle.engine.specs.Room.{Right}
use Rattle.engine.specs.Refusals.{wrong_sizes}
use Rattle.engine.specs.Move.{moved_floor, wrong_move, move_number, move_call}
use Rattle.engine.proofs.Sizes.{right, both_fail}
use Rattle.hall.specs.Refusals.{hall_move_number}
use Rattle.hall.specs.Calls.{hall_move}
use Rattle.hall.proofs.move_lots.Goals as goal

-- where the move is accepted the new board has eight words for each bucket
new_right :
    (f : Floor) (old board : List ℕ) (listed rest n : ℕ) → move_number f old listed rest n board ≡ 0 → Right (moved_floor f n) board
unfolding move_number
new_right f old board listed rest n none =
    let sizes = (passes (wrong_move f old listed n board) 0 _ none).0 in
    right _ _ (both_fail (wrong_sizes f old listed) _ sizes).1

pub returns-in_default : goal.returns-in_default
unfolding hall_move hall_move_number
returns-in_default c =
    let other = ne_eqb _ _ c.in_default.ensures.cases in
    record { whole = rw (other, c.into.ensures); kept = rw c.into.ensures; number = rw (other, c.into.ensures) }

pub make-requires : goal.make-requires
make-requires c =
    let a = c.args in
    let new = new_right a.floor a.old.now a.board.now a.listed a.rest a.buckets (sym c.move_lots-moved.ensures.number ∙ c.if-moved-eq0.true) in
    (new.buckets, omega (arith, new.words))

pub returns-then-moved-eq0 : goal.returns-then-moved-eq0
unfolding hall_move hall_move_number move_call
returns-then-moved-eq0 c =
    let five = eq-eqb _ _ c.in-Some.ensures.cases.long in
    record {
      whole = rw five c.move_lots-moved.ensures.whole;
      kept = rw (eq-eqb _ _ c.if-moved-eq0.true) c.make.ensures;
      number = rw five c.move_lots-moved.ensures.number;
    }

pub returns-else-moved-eq0 : goal.returns-else-moved-eq0
unfolding hall_move hall_move_number move_call
returns-else-moved-eq0 c =
    let is = c.in-Some.ensures.cases in
    let five = eq-eqb _ _ is.long in
    record {
      whole = rw five c.move_lots-moved.ensures.whole;
      kept = rw (ne_eqb _ _ c.if-moved-eq0.false) is.same;
      number = rw five c.move_lots-moved.ensures.number;
    }
