-- What a turn keeps of the board and of its worker's record, done or refused. Assumes nothing.
use Prim.Native.Nat.{ℕ, ◌+◌, ◌*◌, ◌≤◌, ◌<◌}
use mathlib.Core.Bool.{false}
use mathlib.Core.Path.{◌≡◌, refl, ap, ◌∙◌}
use mathlib.Core.List.{List}
use mathlib.Core.Logic.{◌⊎◌, inl, inr}
use native.Mathlib.Decide.{ℕ_discrete}
use native.Mathlib.Omega.{arith}
use lib.Dec.{eqb}
use lib.ListN.{length, get_or}
use borrow.Author.Tests.{eqb-true, leb-false, lt-leb}
use Rattle.mark.proofs.Choices.{by_cases, passes}
use Rattle.turn.specs.declared.Worker.{Worker}
use Rattle.turn.specs.declared.Report.{Report}
use Rattle.turn.specs.Worker.{broken, is_idle}
use Rattle.turn.specs.Bucket.{cell, broken_bucket}
use Rattle.turn.specs.Asleep.{awake}
use Rattle.turn.specs.Places.{rows, stays, turn}
use Rattle.turn.specs.Turn.{turn_refusal, Turned, After, after, refusing, doing}
use Rattle.turn.proofs.Sound.{Accepted, accepted, accepted_works, ready, whole_not_broken}
use Rattle.turn.proofs.Works.{works_within, From, among}
use Rattle.turn.proofs.Cells.{cell_of, touched, turn_long, turn_one_cell, turn_one_writing}
use Rattle.turn.proofs.Kept.{turn_whole, turn_sound}
use Rattle.turn.proofs.Asleep.{touched_awake, awake_accepted, awake_kept}
use Rattle.engine.specs.declared.Floor.{Floor}
use Rattle.engine.specs.declared.Seat.{Seat}
use Rattle.engine.specs.Board.{bucket_at, with_bucket}
use Rattle.engine.specs.Refusals.{bucket_for, wrong_sizes, no_worker, each_number, turn_number}
use Rattle.engine.specs.Calls.{turned, turn_call}
use Rattle.engine.specs.Room.{Right}
use Rattle.engine.proofs.Sizes.{right_sizes}
use Rattle.engine.proofs.Turns.{own}
use Rattle.engine.proofs.Cut.{bucket_within, with_long, one_word, same_bucket, other_bucket}

-- ---- what it says that a turn has no number of refusal

module _ (f : Floor) (board : List ℕ) where
  -- a turn of a run that is not refused is accepted on its bucket, and of a worker that there is
  pub each_accepted :
      (i : ℕ) (w : Worker) → each_number f board i w ≡ 0 → Accepted (bucket_for f board w.key) w × (i < f.workers)
  unfolding each_number
  each_accepted i w none = let known = passes (no_worker f i) 1 _ none in (accepted _ w known.1, leb-false _ _ known.0)

  -- so is a turn call, and floor and board fit together
  pub turn_accepted :
      (listed i : ℕ) (w : Worker)
      → turn_number f board listed i w ≡ 0
      → Right f board × Accepted (bucket_for f board w.key) w × (i < f.workers)
  unfolding turn_number
  turn_accepted listed i w none =
      let sizes = passes (wrong_sizes f board listed) 0 _ none in
      let each = each_accepted i w sizes.1 in
      (right_sizes f board listed sizes.0, each.0, each.1)

  -- and a turn of a worker that there is, whose record is neither broken nor idle, on a bucket that is not broken, is not refused
  pub each_unrefused :
      (i : ℕ) (w : Worker)
      → i < f.workers → broken w ≡ false → is_idle w ≡ false → broken_bucket (bucket_for f board w.key) ≡ false
      → each_number f board i w ≡ 0
  unfolding each_number turn_refusal
  each_unrefused i w there sound busy whole = rw (lt-leb f.workers i there, sound, busy, whole)

-- ---- the cell that an accepted turn touches

module _ (bucket : List ℕ) (w : Worker) (ok : Accepted bucket w) where
  abbrev Inside : ℕ → Type 0
  Inside p = w.place ≡ p → cell_of (get_or rows p stays) w < 7

  all_inside : From Inside 0 14
  all_inside =
      let few = ok.sound.slot in
      let mark : (p : ℕ) → w.place ≡ p → 0 < 7 = λ p is. omega arith in
      let key : (p : ℕ) → w.place ≡ p → 1 + w.slot < 7 = λ p is. omega arith in
      let value : (p : ℕ) → w.place ≡ p → 4 + w.slot < 7 = λ p is. omega arith in
      let holds = (ready bucket w ok).holds in
      let held_value_lem : w.place ≡ 7 → 4 + w.held < 7 = λ is. let h = holds (omega arith) (omega arith) in omega arith in
      let held_key_lem : w.place ≡ 8 → 1 + w.held < 7 = λ is. let h = holds (omega arith) (omega arith) in omega arith in
      let late : From Inside 7 7 = (held_value_lem, (held_key_lem, (mark 9, (mark 10, (key 11, (value 12, (mark 13, tt))))))) in
      (mark 0, (mark 1, (value 2, (mark 3, (key 4, (value 5, (mark 6, late)))))))

  -- it is the mark word, a key or a value, and not the spare word
  pub touched_inside : touched w < 7
  touched_inside =
      let known = works_within _ _ _ (accepted_works bucket w ok) in
      among Inside 0 14 w.place all_inside (omega arith) (omega arith) refl

-- of two accepted buckets that agree in it, it is the same word afterwards: it depends on that word and the worker's record alone
pub accepted_one_writing :
    (b c : List ℕ) (w : Worker)
    → Accepted b w
    → Accepted c w
    → cell b (touched w) ≡ cell c (touched w)
    → cell (turn b w).bucket (touched w) ≡ cell (turn c w).bucket (touched w)
accepted_one_writing b c w one two =
    let inside = touched_inside b w one in
    turn_one_writing b c w (omega (arith, inside, one.whole.eight)) (omega (arith, inside, two.whole.eight))

-- ---- what a turn keeps

-- the turn of worker w, with bucket b of this board for its lot, left x
pub record Keeps (board : List ℕ) (b : ℕ) (w : Worker) (x : After Turned) : Type 0 where
  -- the board is as long as it was
  pub long : length x.words ≡ length board
  -- every word but the touched one is as it was
  pub words : (j : ℕ) → (j ≡ 8 * b + touched w → ⊥) → get_or x.words j 0 ≡ get_or board j 0
  -- every word outside the worker's bucket is as it was
  pub others : (j : ℕ) → (j < 8 * b) ⊎ (8 * b + 8 ≤ j) → get_or x.words j 0 ≡ get_or board j 0
  -- no bucket became broken
  pub buckets : (c : ℕ) → broken_bucket (bucket_at board c) ≡ false → broken_bucket (bucket_at x.words c) ≡ false
  -- the worker's record did not become broken
  pub sound : broken w ≡ false → broken x.handed.worker ≡ false

-- a turn that is done
module _ (board : List ℕ) (b : ℕ) (w : Worker) (ok : Accepted (bucket_at board b) w) where
  abbrev left : List ℕ
  left = (turn (bucket_at board b) w).bucket

  as_long : length left ≡ length (bucket_at board b)
  as_long = turn_long (bucket_at board b) w

  within : 8 * b + 8 ≤ length board
  within = bucket_within board b ok.whole.eight

  eight : length left ≡ 8
  eight = as_long ∙ ok.whole.eight

  done_words : (j : ℕ) → (j ≡ 8 * b + touched w → ⊥) → get_or (with_bucket board b left) j 0 ≡ get_or board j 0
  done_words =
      let room = within in
      one_word board b left (touched w) as_long (omega arith) (λ i other. turn_one_cell (bucket_at board b) w i other)

  done_others : (j : ℕ) → (j < 8 * b) ⊎ (8 * b + 8 ≤ j) → get_or (with_bucket board b left) j 0 ≡ get_or board j 0
  done_others j (inl before) = done_words j (omega arith)
  done_others j (inr past) = let inside = touched_inside (bucket_at board b) w ok in done_words j (omega arith)

  done_buckets :
      (c : ℕ) → Dec (c ≡ b) → broken_bucket (bucket_at board c) ≡ false → broken_bucket (bucket_at (with_bucket board b left) c) ≡ false
  done_buckets c (yes own) whole =
      rw (own, same_bucket board b left within eight) (whole_not_broken left (turn_whole (bucket_at board b) w ok))
  done_buckets c (no other) whole = rw (other_bucket board b left within eight c other) whole

  done_keeps : (report : Report) → Keeps board b w (after (with_bucket board b left) (doing (turn (bucket_at board b) w) report))
  done_keeps report =
      record {
        long = with_long board b left as_long;
        words = done_words;
        others = done_others;
        buckets = λ c. done_buckets c (ℕ_discrete c b);
        sound = λ kept. turn_sound (bucket_at board b) w ok;
      }

-- it touches the same word whether it is told of the sleeper or of who is awake
awake_keeps : {board : List ℕ} {b : ℕ} {w : Worker} {x : After Turned} → Keeps board b (awake w) x → Keeps board b w x
awake_keeps {b = b} {w = w} k =
    record {
      long = k.long;
      words = λ j other. k.words j (λ is. other (is ∙ ap (λ c. 8 * b + c) (touched_awake w)));
      others = k.others;
      buckets = k.buckets;
      sound = λ kept. k.sound (awake_kept w kept);
    }

-- a turn that is refused
refused_keeps : (board : List ℕ) (b n : ℕ) (w : Worker) → Keeps board b w (after board (refusing n w))
refused_keeps board b n w =
    record { long = refl; words = λ j other. refl; others = λ j outside. refl; buckets = λ c whole. whole; sound = λ kept. kept }

module _ (f : Floor) (board : List ℕ) (w : Worker) where
  -- a turn with any number of refusal, if it is accepted where that is 0
  pub turned_keeps : (n : ℕ) → (n ≡ 0 → Accepted (bucket_at board (own f w)) w) → Keeps board (own f w) w (turned n f board w)
  unfolding turned
  turned_keeps n ok =
      by_cases (Keeps board (own f w) w) (eqb n 0) _ _
      (λ is. awake_keeps (done_keeps board (own f w) (awake w) (awake_accepted _ w (ok (eqb-true n 0 is))) _))
      (λ isnot. refused_keeps board (own f w) n w)

  -- each turn of a run
  pub each_keeps : (i : ℕ) → Keeps board (own f w) w (turned (each_number f board i w) f board w)
  each_keeps i = turned_keeps _ (λ none. (each_accepted f board i w none).0)

-- ---- a turn call, accepted or refused

pub turn_keeps : (board : List ℕ) (s : Seat) (w : Worker) → Keeps board (own s.floor w) w (turn_call board s w)
unfolding turn_call
turn_keeps board s w = turned_keeps s.floor board w _ (λ none. (turn_accepted s.floor board s.listed s.worker w none).1)
