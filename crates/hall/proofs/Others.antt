-- §21.2: of the bits a turn or a retiring touches that of its own bucket alone, on any board and any index: every other stays as it was, that of
-- a bucket which there is not as well. Assumes nothing.
use Prim.Native.Nat.{ℕ}
use mathlib.Core.List.{List}
use mathlib.Core.Path.{◌≡◌, refl}
use native.Mathlib.Nat.{mod-lt, lt_of_lt_of_le}
use lib.Dec.{eqb}
use lib.ListN.{length}
use borrow.Author.Tests.{eqb-true}
use Rattle.mark.proofs.Choices.{by_cases}
use Rattle.turn.specs.declared.Worker.{Worker}
use Rattle.turn.specs.Turn.{Turned, After}
use Rattle.engine.specs.declared.Floor.{Floor}
use Rattle.engine.specs.declared.Seat.{Seat}
use Rattle.engine.specs.Room.{Right}
use Rattle.engine.specs.Calls.{turned}
use Rattle.engine.proofs.Turns.{own}
use Rattle.engine.proofs.Keeps.{turn_accepted}
use Rattle.engine.proofs.Retiring.{retire_accepted}
use Rattle.hall.specs.Index.{index_words, bit_in, followed}
use Rattle.hall.specs.Refusals.{hall_turn_number, hall_retire_number}
use Rattle.hall.specs.Calls.{hall_turn, index_left, retired_index}
use Rattle.hall.proofs.Plain.{turn_none, retire_none}
use Rattle.hall.proofs.Followed.{bit_moved_other}

module _ (board index : List ℕ) (s : Seat) (w : Worker) (five : length index ≡ index_words) (c : ℕ) (other : c ≡ own s.floor w → ⊥) where
  abbrev f : Floor
  f = s.floor

  bit_stays : (before after : ℕ) → Right f board → bit_in (followed index (own f w) before after) c ≡ bit_in index c
  unfolding followed
  bit_stays before after fits =
      by_cases (λ (l : List ℕ). bit_in l c ≡ bit_in index c) (eqb before after) _ _ (λ is. refl)
      (λ isnot.
      bit_moved_other index (own f w) before after five (lt_of_lt_of_le (mod-lt w.key fits.some_bucket) fits.buckets) c other)

  pub turn_others : bit_in (index_left index (hall_turn board index s w).handed.answer) c ≡ bit_in index c
  unfolding hall_turn turned
  turn_others =
      let number = hall_turn_number f board index s.listed s.worker w in
      by_cases (λ (x : After Turned). bit_in (index_left index x.handed.answer) c ≡ bit_in index c) (eqb number 0) _ _
      (λ is.
      let none = turn_none f board index s.worker w s.listed (eqb-true number 0 is) in
      bit_stays _ _ (turn_accepted f board s.listed s.worker w none).0)
      (λ isnot. refl)

  pub retire_others : bit_in (retired_index f board index w (hall_retire_number f board index s.listed s.worker w)) c ≡ bit_in index c
  retire_others =
      let number = hall_retire_number f board index s.listed s.worker w in
      by_cases (λ (l : List ℕ). bit_in l c ≡ bit_in index c) (eqb number 0) _ _
      (λ is.
      let none = retire_none f board index s.worker w s.listed (eqb-true number 0 is) in
      bit_stays _ _ (retire_accepted f board s.listed s.worker w none).0)
      (λ isnot. refl)
