-- What a move tells on an opened board: the same lots with the same tickets, as many as before; and by which numbers it is refused. Assumes
-- nothing.
use Prim.Native.Nat.{ℕ, zero, suc, ◌<◌}
use mathlib.Core.Bool.{Bool, true, false, cond, not}
use mathlib.Core.List.{List, [], ◌∷◌}
use mathlib.Core.Logic.{inl, inr, ◌↔◌}
use mathlib.Core.Path.{◌≡◌, refl, sym, ap, ◌∙◌}
use native.Mathlib.Omega.{arith}
use lib.Dec.{eqb}
use lib.ListN.{length, replicate}
use borrow.Author.Tests.{ne_eqb}
use Rattle.mark.specs.Word.{mark_of}
use Rattle.mark.proofs.Choices.{none_holds, denied, not_both}
use Rattle.turn.specs.declared.Worker.{Worker}
use Rattle.turn.specs.Worker.{idle, is_idle, broken}
use Rattle.turn.specs.Bucket.{cell, mark_cell}
use Rattle.turn.proofs.Kept.{is_idle_lem}
use Rattle.engine.specs.Calls.{Lots}
use Rattle.engine.specs.Board.{bucket_at, lots_on}
use Rattle.engine.specs.Refusals.{wrong_floor, any_record}
use Rattle.engine.specs.Calls.{count_call, record_in}
use Rattle.engine.specs.Move.{lines_on, lines_for, moved_floor, any_unsettled, crowded, room_number, move_number}
use Rattle.engine.proofs.Sizes.{right_listed}
use Rattle.engine.proofs.Many.{over_some}
use Rattle.engine.proofs.Seating.{any_over_none}
use Rattle.engine.proofs.AnyUnder.{any_clear}
use Rattle.hall.specs.Totalled.{Slots}
use Rattle.hall.specs.Refusals.{hall_move_number}
use Rattle.hall.specs.Calls.{total_call}
use Rattle.history.specs.Numbers.{OneOf}
use Rattle.history.specs.History.{State, Call, workers_of, buckets_of, state}
use Rattle.history.specs.Unbroken.{Unbroken}
use Rattle.history.specs.Moves.{Lent, move_number_of}
use Rattle.history.specs.Moved.{AllIdle, moved_to, MoveTells, Crowds, NoneInserted, MoveRefusals}
use Rattle.history.proofs.Ready.{Ready}
use Rattle.history.proofs.Unbroken.{state_unbroken}
use Rattle.history.proofs.Unrefused.{count_accepted, question_accepted}
use Rattle.history.proofs.Moved.{Moves, state_in_stretch, move_done, moved_buckets, moves_refused}

-- ---- a move that is accepted

module _ (s : State) (ok : Unbroken s) where
  -- a count tells the lots on the board
  tells_count : count_call s.board s.floor ≡ Lots (lots_on s.board (buckets_of s))
  unfolding count_call
  tells_count = rw (count_accepted s ok)

  -- and so does a total
  tells_total : total_call s.board s.index s.floor ≡ Slots (lots_on s.board (buckets_of s))
  unfolding total_call
  tells_total = rw (question_accepted s ok, ok.reads.total)

module _ {first : State} (begins : Ready first) (called : List Call) (m : Lent) where
  abbrev s : State
  s = state first called

  -- §22: wherever a stretch can begin and after every list of calls, a move that is accepted leaves the same lots with the same tickets
  pub move_tells : move_number_of s m ≡ 0 → MoveTells s m
  move_tells none =
      let done : Moves s (moved_to s m) = move_done s m (state_in_stretch begins called) none in
      let ok : Unbroken (moved_to s m) = done.ready.unbroken in
      record {
        buckets = moved_buckets s m none;
        workers = done.workers;
        last = done.last;
        version_same = done.version_same;
        records = done.records;
        goes = done.goes;
        comes = done.comes;
        home = λ c q one. (done.ready.stands c q one).lot;
        versions = done.versions;
        empty = done.empty;
        reads = ok.reads;
        counted = tells_count (moved_to s m) ok ∙ ap Lots done.lots;
        counted_before = tells_count s (state_unbroken begins called);
        totalled = tells_total (moved_to s m) ok ∙ ap Slots done.lots;
        totalled_before = tells_total s (state_unbroken begins called);
      }

-- ---- by which number it is refused

-- §7.2: by the size of the second board, a worker at a call, a bucket that is not settled, and one that would be crowded
abbrev ordered : Bool → Bool → Bool → Bool → ℕ
ordered sizes busy unsettles crowds = cond sizes 1 (cond busy 12 (cond unsettles 7 (cond crowds 13 0)))

-- 13, or 0
abbrev crowd_number : Bool → ℕ
crowd_number crowds = cond crowds 13 0

ordered_numbers : (w b u c : Bool) → OneOf (0 ∷ 1 ∷ 7 ∷ 12 ∷ 13 ∷ []) (ordered w b u c)
ordered_numbers true b u c = inr (inl refl)
ordered_numbers false true u c = inr (inr (inr (inl refl)))
ordered_numbers false false true c = inr (inr (inl refl))
ordered_numbers false false false true = inr (inr (inr (inr (inl refl))))
ordered_numbers false false false false = inl refl

ordered_one : (w b u c : Bool) → ordered w b u c ≡ 1 → w ≡ true
ordered_one true b u c is = refl
ordered_one false true u c is = absurd (omega arith)
ordered_one false false true c is = absurd (omega arith)
ordered_one false false false true is = absurd (omega arith)
ordered_one false false false false is = absurd (omega arith)

ordered_twelve : (w b u c : Bool) → ordered w b u c ≡ 12 → b ≡ true
ordered_twelve true b u c is = absurd (omega arith)
ordered_twelve false true u c is = refl
ordered_twelve false false true c is = absurd (omega arith)
ordered_twelve false false false true is = absurd (omega arith)
ordered_twelve false false false false is = absurd (omega arith)

ordered_seven : (w b u c : Bool) → ordered w b u c ≡ 7 → u ≡ true
ordered_seven true b u c is = absurd (omega arith)
ordered_seven false true u c is = absurd (omega arith)
ordered_seven false false true c is = refl
ordered_seven false false false true is = absurd (omega arith)
ordered_seven false false false false is = absurd (omega arith)

-- no record of a list passes a test that none of them passes
none_passes : (test : Worker → Bool) (ws : List Worker) → ((i : ℕ) → i < length ws → test (record_in ws i) ≡ false) → any_record test ws ≡ false
unfolding any_record
none_passes test [] each = refl
none_passes test (w ∷ ws) each = none_holds _ _ (each 0 (omega arith)) (none_passes test ws (λ i under. each (suc i) (omega arith)))

idle_rests : (n : ℕ) → any_record (λ w. not (is_idle w)) (replicate n idle) ≡ false
unfolding any_record
idle_rests zero = refl
idle_rests (suc n) = none_holds _ _ (denied (is_idle idle) is_idle_lem) (idle_rests n)

module _ (s : State) (ok : Unbroken s) (m : Lent) where
  abbrev oversized : Bool
  oversized = wrong_floor (moved_floor s.floor m.buckets) m.words

  abbrev busy : Bool
  busy = any_record (λ w. not (is_idle w)) s.records

  abbrev unsettles : Bool
  unsettles = any_unsettled s.board (buckets_of s)

  abbrev crowds : Bool
  crowds = crowded m.buckets (lines_on s.board (buckets_of s))

  none_broken : any_record broken s.records ≡ false
  none_broken = none_passes broken s.records (λ i under. ok.records i (omega (arith, right_listed _ _ _ ok.sized)))

  number_is : move_number_of s m ≡ ordered oversized busy unsettles crowds
  unfolding hall_move_number move_number
  number_is = rw (ok.reads.five, ok.sized, none_broken) (ap (cond oversized 1) (by busy (room_number s.board (buckets_of s) m.buckets)))
    where
      by : (t : Bool) (k : ℕ) → cond (eqb (cond t 12 0) 0) k (cond t 12 0) ≡ cond t 12 k
      by true k = refl
      by false k = refl

  idle_now : AllIdle s → busy ≡ false
  idle_now idles = rw idles (idle_rests (workers_of s))

  settled_now : NoneInserted s → unsettles ≡ false
  settled_now none =
      any_clear _ (buckets_of s)
      (λ b under.
      let not_two : (p : ℕ) → eqb (mark_of (cell (bucket_at s.board b) mark_cell) p) 2 ≡ false = λ p. ne_eqb _ 2 (none b p under) in
      none_holds _ _ (ok.buckets b under) (none_holds _ _ (not_two 0) (none_holds _ _ (not_two 1) (not_two 2))))

  -- a bucket would be crowded exactly if one would need a fourth slot
  crowds_some : crowds ≡ true → Crowds s m
  crowds_some is = let found = over_some (λ b. length (lines_for m.buckets b (lines_on s.board (buckets_of s)))) m.buckets is in record { bucket = found.0; under = found.1; four = found.2 }

  some_crowds : Crowds s m → crowds ≡ true
  some_crowds c = by crowds refl
    where
      by : (t : Bool) → crowds ≡ t → crowds ≡ true
      by true is = is
      by false is =
          absurd (omega (
            arith,
            c.four,
            any_over_none (λ b. length (lines_for m.buckets b (lines_on s.board (buckets_of s)))) m.buckets is c.bucket c.under,
          ))

  -- where all workers are idle, nothing is being inserted and the second board has its size
  module _ (idles : AllIdle s) (none : NoneInserted s) (sized : oversized ≡ false) where
    room_is : move_number_of s m ≡ crowd_number crowds
    room_is = number_is ∙ rw (sized, idle_now idles, settled_now none)

    by_room : (t : Bool) → crowds ≡ t → crowd_number t ≡ 13 → crowds ≡ true
    by_room true is thirteen = is
    by_room false is thirteen = absurd (omega arith)

    refused_crowded : (move_number_of s m ≡ 13) ↔ Crowds s m
    refused_crowded = (
      λ is. crowds_some (by_room crowds refl (sym room_is ∙ is)),
      λ c. room_is ∙ ap crowd_number (some_crowds c),
    )

    accepted_else : (Crowds s m → ⊥) → move_number_of s m ≡ 0
    accepted_else roomy = room_is ∙ by crowds refl
      where
        by : (t : Bool) → crowds ≡ t → crowd_number t ≡ 0
        by true is = absurd (roomy (crowds_some is))
        by false is = refl

  unbroken_refusals : MoveRefusals s m
  unbroken_refusals =
      record {
        numbers = rw number_is (ordered_numbers oversized busy unsettles crowds);
        stays = moves_refused s m;
        sized = (λ is. ordered_one oversized busy unsettles crowds (sym number_is ∙ is), λ is. number_is ∙ rw is);
        rested = λ idles is. not_both busy (idle_now idles) (ordered_twelve oversized busy unsettles crowds (sym number_is ∙ is));
        settled = λ none is. not_both unsettles (settled_now none) (ordered_seven oversized busy unsettles crowds (sym number_is ∙ is));
        crowded = refused_crowded;
        accepted = accepted_else;
      }

-- §22.5: wherever a stretch can begin and after every list of calls, a move is refused by these numbers alone
pub move_refusals : {first : State} (ready : Ready first) (calls : List Call) (m : Lent) → MoveRefusals (state first calls) m
move_refusals {first} ready calls m = unbroken_refusals (state first calls) (state_unbroken ready calls) m
