-- An index that is the full reading of the board is that of the board which a turn or a retiring leaves. Assumes nothing.
use Prim.Native.Nat.{ℕ}
use mathlib.Core.List.{List}
use mathlib.Core.Path.{◌≡◌, ap, subst, ◌∙◌}
use native.Mathlib.Nat.{mod-lt}
use lib.Dec.{eqb}
use borrow.Author.Tests.{eqb-true}
use Rattle.mark.proofs.Choices.{by_cases}
use Rattle.turn.specs.declared.Worker.{Worker}
use Rattle.turn.specs.Retire.{Retired}
use Rattle.turn.specs.Bucket.{cell, mark_cell}
use Rattle.turn.specs.Asleep.{awake}
use Rattle.turn.specs.Places.{turn}
use Rattle.turn.specs.Turn.{Turned, After}
use Rattle.engine.specs.declared.Floor.{Floor}
use Rattle.engine.specs.Room.{Right}
use Rattle.engine.specs.Board.{with_bucket}
use Rattle.engine.specs.Refusals.{bucket_for}
use Rattle.engine.specs.Calls.{turned, vacated_on, retired}
use Rattle.turn.proofs.Sound.{Accepted}
use Rattle.turn.proofs.Cells.{turn_long}
use Rattle.engine.proofs.Cut.{bucket_within, same_bucket, other_bucket}
use Rattle.engine.proofs.Turns.{own}
use Rattle.engine.proofs.Retiring.{vacated_others}
use Rattle.hall.specs.Index.{followed}
use Rattle.hall.specs.Calls.{index_left, retired_index}
use Rattle.hall.specs.Reading.{Reads}
use Rattle.hall.proofs.Lots.{mark_at}
use Rattle.hall.proofs.Reading.{reads_followed}

module _ (f : Floor) (board index : List ℕ) (w : Worker) (reads : Reads board f.buckets index) where
  abbrev b : ℕ
  b = own f w

  abbrev bucket : List ℕ
  bucket = bucket_for f board w.key

  -- a turn with any number of refusal, if it is accepted where that is 0
  pub reads_turned :
      (n : ℕ)
      → (n ≡ 0 → Right f board × Accepted bucket w)
      → let x = turned n f board w in
      Reads x.words f.buckets (index_left index x.handed.answer)
  unfolding turned
  reads_turned n ok =
      by_cases (λ (x : After Turned). Reads x.words f.buckets (index_left index x.handed.answer)) (eqb n 0) _ _
      (λ is.
      let known = ok (eqb-true n 0 is) in
      let fits = known.0 in
      let eight = known.1.whole.eight in
      let left : List ℕ = (turn bucket (awake w)).bucket in
      let within = bucket_within board b eight in
      let long = turn_long bucket (awake w) ∙ eight in
      let later : List ℕ = with_bucket board b left in
      subst (λ (l : List ℕ). Reads later f.buckets (followed index b (mark_at board b) (cell l mark_cell))) (same_bucket board b left within long)
      (reads_followed reads b (mod-lt w.key fits.some_bucket) later fits.buckets
      (λ c other. ap (λ (l : List ℕ). cell l mark_cell) (other_bucket board b left within long c other))))
      (λ isnot. reads)

  -- and a retiring so
  pub reads_retired :
      (n : ℕ)
      → (n ≡ 0 → Right f board)
      → let x = retired n f board w in
      Reads x.words f.buckets (retired_index f board index w x.handed.refusal)
  unfolding retired
  reads_retired n ok =
      by_cases (λ (x : After Retired). Reads x.words f.buckets (retired_index f board index w x.handed.refusal)) (eqb n 0) _ _
      (λ is.
      let fits = ok (eqb-true n 0 is) in
      reads_followed reads b (mod-lt w.key fits.some_bucket) (vacated_on f board w) fits.buckets
      (λ c other. ap (λ (l : List ℕ). cell l mark_cell) (vacated_others f board w fits c other)))
      (λ isnot. rw isnot reads)
