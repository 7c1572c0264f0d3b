-- How long a call can keep its worker, wherever a stretch can begin and for every list of calls, with no other premise. Assumes nothing.
use Prim.Native.Nat.{ℕ, ◌≤◌, ◌<◌}
use mathlib.Core.Bool.{Bool, false}
use mathlib.Core.List.{List, [], ◌∷◌, ◌++◌}
use mathlib.Core.Logic.{◌⊎◌, inl, inr}
use mathlib.Core.Path.{◌≡◌, refl, sym, ap, subst, ◌∙◌}
use native.Mathlib.Decide.{dec_le}
use native.Mathlib.Omega.{arith}
use lib.ListN.{length, get_or-eq_default}
use lib.Seq.{get_or-set_same}
use borrow.Author.Tests.{lt-leb}
use Rattle.turn.specs.declared.Worker.{Worker}
use Rattle.turn.specs.declared.Stepped.{Stepped}
use Rattle.turn.specs.declared.Action.TheVariants.{Read}
use Rattle.turn.specs.Worker.{idle, look_for, insert_of, remove_of}
use Rattle.turn.specs.Asleep.{awake}
use Rattle.turn.specs.Turn.{Turned, After}
use Rattle.turn.specs.Bucket.{cell}
use Rattle.turn.proofs.Asleep.{is_awake}
use Rattle.engine.specs.declared.Floor.{Floor}
use Rattle.engine.specs.Calls.{Started}
use Rattle.engine.specs.Board.{bucket_of, bucket_at}
use Rattle.engine.specs.Refusals.{spent}
use Rattle.engine.specs.Calls.{blank, record_in, spending, start_call}
use Rattle.engine.proofs.Sizes.{right_listed}
use Rattle.history.specs.History.{State, Call, Ticket, look, insert, remove, workers_of, listed_of, record_of, seat_of, turn_by, look_by, insert_by, remove_by}
use Rattle.history.specs.History.{started_as, after, state}
use Rattle.history.specs.Unbroken.{Unbroken}
use Rattle.history.specs.Cells.{home}
use Rattle.history.specs.HowLong.{look_most, remove_most, insert_most, IsIdle, EndsAlone, NeverEndsAlone, HasRoom, HasLot, StartsSo, IsDone, HowLong}
use Rattle.history.proofs.Acting.{entry, done_is}
use Rattle.history.proofs.Listed.{up_is}
use Rattle.history.proofs.Histories.{state_from_then}
use Rattle.history.proofs.Ready.{Ready}
use Rattle.history.proofs.Unrefused.{busy_moves, idle_starts}
use Rattle.history.proofs.Unbroken.{state_unbroken, number_is}
use Rattle.history.proofs.SameSizes.{state_workers}
use Rattle.history.proofs.Cells.{marked_few, Known, state_known}
use Rattle.history.proofs.InCalls.{every_turn_in_call}
use Rattle.history.proofs.Looks.{look_at_most, look_at_least}
use Rattle.history.proofs.Looking.{Looked, look_started, Next, on, over, look_next}
use Rattle.history.proofs.Alone.{StepsTo, further, final, Goes, ends_alone, never_alone}
use Rattle.history.proofs.Removing.{RemoveAlone, remove_started, remove_fewer, remove_goes}
use Rattle.history.proofs.Searching.{Lets, empty_slot, lot_there}
use Rattle.history.proofs.Inserting.{InsertAlone, insert_started, insert_fewer, insert_goes}
use Rattle.history.proofs.Circling.{CircleAlone, circle_started, circle_goes}

-- ---- a busy worker

-- on an opened board a turn of a busy worker is done
busy_done : {first : State} (ready : Ready first) (calls : List Call) (i : ℕ) → i < workers_of first → (IsIdle (state first calls) i → ⊥) → IsDone (turn_by (state first calls) i)
busy_done {first} ready calls i under busy =
    let s = state first calls in
    let ok = state_unbroken ready calls in
    let none = number_is s ok i (busy_moves s ok i (omega (arith, under, state_workers first calls)) busy) in
    ((entry s i).report, ap (λ (x : After Turned). x.handed.answer) (done_is s i none))

-- ---- a look, as a call that can take so many turns

look_steps : {k : ℕ} {b : List ℕ} {x : Stepped} → Next k x → StepsTo (λ b k w. Looked k w) (Unit {0}) k b x
look_steps (on looked) = further looked
look_steps (over answer least most) = final tt Read answer

look_goes : Goes (λ b k w. Looked k w) (Unit {0})
look_goes =
    record {
      busy = λ looked is. omega (arith, looked.kind, ap (λ (x : Worker). x.kind) is);
      steps = λ {b} {k} {w} ok ticketed looked. look_steps (look_next k w looked b);
    }

look_fewer : (b : List ℕ) (k : ℕ) (w : Worker) → Looked k w → k < look_most
look_fewer b k w looked = omega (arith, looked.most, looked.slot, looked.to)

-- ---- a start on an idle worker

-- an idle record stands in the list
idle_within : (records : List Worker) (i : ℕ) → record_in records i ≡ idle → i < length records
idle_within records i rests = by (dec_le (length records) i)
  where
    by : Dec (length records ≤ i) → i < length records
    by (no under) = omega arith
    by (yes past) =
        absurd (omega (arith, ap (λ (w : Worker). w.held) (sym rests ∙ get_or-eq_default records blank {n = i} past)))

module _ {first : State} (ready : Ready first) (calls : List Call) (i : ℕ) (rests : IsIdle (state first calls) i) where
  abbrev s : State
  s = state first calls

  within : i < length s.records
  within = idle_within s.records i rests

  under : i < s.floor.workers
  under = omega (arith, within, right_listed _ _ _ (state_unbroken ready calls).sized)

  -- what a call leaves is of a history too
  then_unbroken : (c : Call) → Unbroken (after s c)
  then_unbroken c = subst Unbroken (state_from_then first calls c) (state_unbroken ready (calls ++ (c ∷ [])))

  then_known : (c : Call) → Known (after s c)
  then_known c = subst Known (state_from_then first calls c) (state_known ready (calls ++ (c ∷ [])))

  -- a start of v that is not late, on a floor of the same sizes
  module _ (late : Bool) (v : Worker) (g : Floor) (early : late ≡ false) (up : v.asleep ≡ 0) (workers : g.workers ≡ s.floor.workers) where
    abbrev x : Started
    x = start_call s.board (seat_of s i) (listed_of s i) late v g

    abbrev y : Started
    y = record { worker = v; floor = g; refusal = 0 }

    -- such a start is accepted
    taken : x ≡ y
    unfolding start_call
    taken = rw (idle_starts s (state_unbroken ready calls) i under late rests early)

    record_is : record_of (started_as s i y) i ≡ v
    record_is = up_is (started_as s i y) i ∙ ap awake (get_or-set_same s.records i v blank within) ∙ is_awake v up

    module _ (ok : Unbroken (started_as s i x)) (known : Known (started_as s i x)) (A : List ℕ → ℕ → Worker → Type 0) (had : A (bucket_at s.board (home g.buckets v)) 0 v) where
      had_none : A (bucket_at s.board (home g.buckets (record_of (started_as s i y) i))) 0 (record_of (started_as s i y) i)
      had_none = rw record_is had

      known_then : Known (started_as s i y)
      known_then = subst (λ (z : Started). Known (started_as s i z)) taken known

      unbroken_then : Unbroken (started_as s i y)
      unbroken_then = subst (λ (z : Started). Unbroken (started_as s i z)) taken ok

      starts_so : (P : State → Type 0) → P (started_as s i y) → StartsSo s i x P
      starts_so P holds = rw taken (record { accepted = refl; leaves = holds })

      ends_so :
          (most : ℕ)
          → most ≤ 65535
          → Goes A (Unit {0})
          → ((b : List ℕ) (k : ℕ) (w : Worker) → A b k w → k < most)
          → StartsSo s i x (λ t. EndsAlone t i most)
      ends_so most few goes fewer =
          starts_so (λ t. EndsAlone t i most)
          (ends_alone A (Unit {0}) goes (started_as s i y) i unbroken_then known_then (omega (arith, under, workers)) had_none most fewer few)

      never_so : Goes A ⊥ → StartsSo s i x (λ t. NeverEndsAlone t i)
      never_so goes =
          starts_so (λ t. NeverEndsAlone t i)
          (never_alone A ⊥ goes (started_as s i y) i unbroken_then known_then (omega (arith, under, workers)) had_none (λ no. no))

  -- ---- the three calls

  -- the bucket of a lot
  abbrev bucket : ℕ → List ℕ
  bucket lot = bucket_at s.board (bucket_of lot s.floor.buckets)

  look_alone : (lot : ℕ) → StartsSo s i (look_by s i lot) (λ t. EndsAlone t i look_most)
  look_alone lot =
      ends_so false (look_for lot) s.floor refl refl refl (then_unbroken (look i lot)) (then_known (look i lot)) (λ b k w. Looked k w) (look_started lot)
      look_most (omega arith) look_goes look_fewer

  remove_alone : (lot : ℕ) → StartsSo s i (remove_by s i lot) (λ t. EndsAlone t i remove_most)
  remove_alone lot =
      ends_so false (remove_of lot) s.floor refl refl refl (then_unbroken (remove i lot)) (then_known (remove i lot)) RemoveAlone
      (remove_started (bucket lot) lot) remove_most (omega arith) remove_goes remove_fewer

  module _ (lot : ℕ) (ticket : Ticket) (fresh : s.floor.last < ticket.number) where
    early : spent s.floor ticket.number ≡ false
    early = lt-leb ticket.number s.floor.last fresh

    lets : HasRoom s lot ⊎ HasLot s lot → Lets (λ k. cell (bucket lot) k) lot
    lets (inl room) = empty_slot room.slot room.few room.empty
    lets (inr there) = lot_there there.slot (marked_few _ there.slot there.valid) (record { valid = there.valid; key = there.key })

    finds : Lets (λ k. cell (bucket lot) k) lot → HasRoom s lot ⊎ HasLot s lot
    finds (empty_slot e few empty) = inl (record { slot = e; few = few; empty = empty })
    finds (lot_there q few has) = inr (record { slot = q; valid = has.valid; key = has.key })

    insert_alone : HasRoom s lot ⊎ HasLot s lot → StartsSo s i (insert_by s i lot ticket) (λ t. EndsAlone t i insert_most)
    insert_alone room =
        ends_so (spent s.floor ticket.number) (insert_of lot ticket.number) (spending s.floor ticket.number) early refl refl
        (then_unbroken (insert i lot ticket)) (then_known (insert i lot ticket)) InsertAlone (insert_started (bucket lot) lot ticket.number (lets room))
        insert_most (omega arith) insert_goes insert_fewer

    insert_never : (HasRoom s lot ⊎ HasLot s lot → ⊥) → StartsSo s i (insert_by s i lot ticket) (λ t. NeverEndsAlone t i)
    insert_never none =
        never_so (spent s.floor ticket.number) (insert_of lot ticket.number) (spending s.floor ticket.number) early refl refl
        (then_unbroken (insert i lot ticket)) (then_known (insert i lot ticket)) CircleAlone (circle_started (bucket lot) lot ticket.number (λ lets. none (finds lets)))
        circle_goes

-- wherever a stretch can begin and for every list of calls, how long a call can keep its worker
pub how_long : {first : State} (ready : Ready first) (calls : List Call) → HowLong first calls
how_long ready calls =
    record {
      busy_moves = busy_done ready calls;
      in_call = every_turn_in_call;
      look_at_most = look_at_most ready calls;
      look_at_least = look_at_least ready calls;
      alone =
          record {
            look_ends = λ i lot rests. look_alone ready calls i rests lot;
            remove_ends = λ i lot rests. remove_alone ready calls i rests lot;
            insert_ends = λ i lot ticket rests fresh room. insert_alone ready calls i rests lot ticket fresh room;
            insert_never = λ i lot ticket rests fresh none. insert_never ready calls i rests lot ticket fresh none;
          };
    }
