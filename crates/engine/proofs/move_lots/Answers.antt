use Rattle.std.proofs.Common.{◌≡◌, false, length, List, ℕ, refl, sym, ap₂, ◌∙◌}
use borrow.Author.Tests.{eq-eqb, ne_eqb}
use Rattle.mark.proofs.Choices.{passes}
use Rattle.turn.proofs.Refusing.{number_some}
use Rattle.engine.specs.declared.Floor.{Floor}
use Rattle.engine.specs.declared.Moved.{Moved}
use Rattle.engine.specs.Refusals.{wrong_words, wrong_listed, wrong_floor, wrong_sizes}
use Rattle.engine.specs.Move.{lines_on, any_unsettled, crowded, room_number, moved_floor, move_number, move_call}
use Rattle.engine.proofs.Sizes.{right, right_sizes}
use Rattle.engine.proofs.Numbers.{lots_moved}
use Rattle.engine.proofs.Settling.{crowded_words}
use Rattle.engine.proofs.move_lots.Goals as goal

-- the sizes of both boards are right
sized : (f : Floor) (old : List ℕ) (listed : ℕ) → false ≡ wrong_listed f (length old) listed → wrong_sizes f old listed ≡ false
unfolding wrong_sizes
sized f old listed is = sym is

roomed : (f : Floor) (n : ℕ) (board : List ℕ) → false ≡ wrong_words (moved_floor f n) (length board) → wrong_floor (moved_floor f n) board ≡ false
unfolding wrong_floor
roomed f n board is = sym is

-- what is handed back, from its two fields
handed : (f : Floor) (number : ℕ) (r : Moved) → r.floor ≡ f → r.refusal ≡ number → r ≡ record { floor = f; refusal = number }
handed f number r same is = ap₂ (λ (g : Floor) (n : ℕ). record { floor = g; refusal = n }) same is

pub returns-then-are_wrong : goal.returns-then-are_wrong
unfolding move_call move_number wrong_sizes
returns-then-are_wrong c =
    lots_moved _ _ _ _ _ _ _ _
    (rw (← c.if-are_wrong.ensures, handed _ _ _ c.not_moved.ensures.stays (c.not_moved.ensures.number ∙ c.into.ensures)))

pub returns-then-has_wrong_words : goal.returns-then-has_wrong_words
unfolding move_call move_number wrong_sizes wrong_floor
returns-then-has_wrong_words c =
    lots_moved _ _ _ _ _ _ _ _
    (rw (
      ← c.if-are_wrong.ensures,
      ← c.if-has_wrong_words.ensures,
      handed _ _ _ c.not_moved-then-has_wrong_words.ensures.stays
          (c.not_moved-then-has_wrong_words.ensures.number ∙ c.into-then-has_wrong_words.ensures),
    ))

pub returns-then-rest-ne0 : goal.returns-then-rest-ne0
unfolding move_call move_number
returns-then-rest-ne0 c =
    let a = c.args in
    let other = ne_eqb _ 0 c.if-rest-ne0.true in
    lots_moved _ _ _ _ _ _ _ _
    (rw (
      sized a.floor a.old.now a.listed c.if-are_wrong.ensures,
      roomed a.floor a.buckets a.board.now c.if-has_wrong_words.ensures,
      other,
      handed _ _ _ c.not_moved-then-rest-ne0.ensures.stays c.not_moved-then-rest-ne0.ensures.number,
    ) (rw other))

pub returns-in-Err : goal.returns-in-Err
unfolding move_call move_number
returns-in-Err c =
    let a = c.args in
    lots_moved _ _ _ _ _ _ _ _
    (rw (
      sized a.floor a.old.now a.listed c.if-are_wrong.ensures,
      roomed a.floor a.buckets a.board.now c.if-has_wrong_words.ensures,
      eq-eqb _ 0 c.if-rest-ne0.false,
      ← c.in-Err.ensures.0,
      ne_eqb _ 0 (number_some c.in-Err.why),
      handed _ _ _ c.not_moved-in-Err.ensures.stays (c.not_moved-in-Err.ensures.number ∙ c.into-in-Err.ensures),
    ))

-- floor and board fit together, on both sides
pub seat_all-requires : goal.seat_all-requires
seat_all-requires c =
    let a = c.args in
    let old = right_sizes a.floor a.old.now a.listed (sized a.floor a.old.now a.listed c.if-are_wrong.ensures) in
    let new = right (moved_floor a.floor a.buckets) a.board.now (roomed a.floor a.buckets a.board.now c.if-has_wrong_words.ensures) in
    ((old.buckets, old.words), ((new.some_bucket, new.buckets), refl))

pub lay_all-requires : goal.lay_all-requires
lay_all-requires c =
    let a = c.args in
    let old = right_sizes a.floor a.old.now a.listed (sized a.floor a.old.now a.listed c.if-are_wrong.ensures) in
    let new = right (moved_floor a.floor a.buckets) a.board.now (roomed a.floor a.buckets a.board.now c.if-has_wrong_words.ensures) in
    let none : room_number a.old.now a.floor.buckets a.buckets ≡ 0 = sym c.in_default.ensures.0 in
    let room = passes (any_unsettled a.old.now a.floor.buckets) 6 _ none in
    let few = passes (crowded a.buckets (lines_on a.old.now a.floor.buckets)) 12 0 room.1 in
    record {
      some_old = old.some_bucket;
      olds = old.buckets;
      old_words = old.words;
      some_bucket = new.some_bucket;
      buckets = new.buckets;
      words = new.words;
      seated = c.in_default.ensures.1 refl;
      room = sym (crowded_words a.old.now a.buckets a.floor.buckets) ∙ few.0;
    }

pub returns : goal.returns
unfolding move_call move_number
returns c =
    let a = c.args in
    lots_moved _ _ _ _ _ _ _ _
    (rw (
      sized a.floor a.old.now a.listed c.if-are_wrong.ensures,
      roomed a.floor a.buckets a.board.now c.if-has_wrong_words.ensures,
      eq-eqb _ 0 c.if-rest-ne0.false,
      ← c.in_default.ensures.0,
    ) (simp c.lay_all.ensures))
