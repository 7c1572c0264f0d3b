-- On an opened board the index is the full reading of the board, whatever was called, so the display is told what stands there. Assumes nothing.
use Prim.Native.Nat.{ℕ}
use mathlib.Core.Bool.{true, false}
use mathlib.Core.List.{List, [], ◌∷◌}
use mathlib.Core.Logic.{inl, inr}
use mathlib.Core.Path.{◌≡◌, refl, ap, subst}
use native.Mathlib.Omega.{arith}
use Rattle.mark.proofs.Choices.{not_both}
use Rattle.engine.specs.Board.{lots_on}
use Rattle.hall.specs.Totalled.{Slots}
use Rattle.hall.specs.Next.{Next}
use Rattle.hall.specs.Calls.{total_call, next_call}
use Rattle.hall.specs.Reading.{Reads, occupied_at, next_on, IsNext}
use Rattle.hall.proofs.Reading.{reads_next, first_is}
use Rattle.floor.specs.Told.{total_told, next_told}
use Rattle.history.specs.History.{State, Call, buckets_of, state}
use Rattle.history.specs.Numbers.{OneOf}
use Rattle.history.specs.Display.{NextTells, Displays}
use Rattle.history.proofs.Ready.{Ready}
use Rattle.history.proofs.Lots.{counted}
use Rattle.history.proofs.SameSizes.{state_buckets}
use Rattle.history.proofs.Unbroken.{state_unbroken, run_stops_by}
use Rattle.history.proofs.Unrefused.{question_accepted, turn_numbers, retire_numbers}

-- 11 is none of these numbers
not_eleven : (m : ℕ) → OneOf (9 ∷ 0 ∷ 2 ∷ 6 ∷ []) m → m ≡ 11 → ⊥
not_eleven m (inl is) eleven = omega (arith, is, eleven)
not_eleven m (inr (inl is)) eleven = omega (arith, is, eleven)
not_eleven m (inr (inr (inl is))) eleven = omega (arith, is, eleven)
not_eleven m (inr (inr (inr (inl is)))) eleven = omega (arith, is, eleven)
not_eleven m (inr (inr (inr (inr none)))) eleven = elim none [ ]

-- what is told of a next bucket, which is none of a refusal, is told to C
tells_next : (board : List ℕ) (n from : ℕ) (x : Next) → IsNext (occupied_at board) n from x → NextTells board n from (next_told x)
tells_next board n from (Next.Refusal number) is = absurd is
tells_next board n from Next.Nowhere is = record { accepted = refl; some = λ yes. not_both false refl yes; none = λ no. is }
tells_next board n from (Next.Bucket b) is = record { accepted = refl; some = λ yes. is; none = λ no. not_both true no refl }

module _ {first : State} (ready : Ready first) (calls : List Call) where
  abbrev s : State
  s = state first calls

  abbrev n : ℕ
  n = buckets_of first

  reads : Reads s.board n s.index
  reads = subst (λ (m : ℕ). Reads s.board m s.index) (state_buckets first calls) (state_unbroken ready calls).reads

  total : total_call s.board s.index s.floor ≡ Slots (lots_on s.board n)
  unfolding total_call
  total = rw (question_accepted s (state_unbroken ready calls), reads.total)

  next : (from : ℕ) → next_call s.board s.index s.floor from ≡ next_on s.board n from
  unfolding next_call
  next from = rw (question_accepted s (state_unbroken ready calls), state_buckets first calls) (reads_next reads from)

  -- §21.6: on an opened board the display is told what stands there
  pub displays : Displays first calls
  displays =
      record {
        reads = reads;
        total = total;
        counted = counted ready calls;
        next = next;
        is_next = λ from. rw (next from) (first_is (occupied_at s.board) n from);
        turns = λ i. not_eleven _ (inr (turn_numbers s (state_unbroken ready calls) i));
        retirings = λ i. not_eleven _ (inr (retire_numbers s (state_unbroken ready calls) i));
        runs = λ turns. not_eleven _ (run_stops_by s (state_unbroken ready calls) turns);
      }

  -- `desk_total` refuses nothing there, and hands the number of valid slots to C
  pub library_total : total_told (total_call s.board s.index s.floor) ≡ record { total = lots_on s.board n; refusal = 0 }
  library_total = ap total_told total

  -- and `desk_next_occupied` the first occupied bucket, or that there is none
  pub library_next : (from : ℕ) → NextTells s.board n from (next_told (next_call s.board s.index s.floor from))
  library_next from = tells_next s.board n from (next_call s.board s.index s.floor from) (displays.is_next from)
