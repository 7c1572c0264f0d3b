-- Where a stretch can begin nothing is broken and the index is the full reading, and every call keeps it so, accepted or refused. Assumes nothing.
use Prim.Native.Nat.{ℕ, ◌<◌}
use mathlib.Core.Bool.{Bool, false}
use mathlib.Core.List.{List, [], ◌∷◌}
use mathlib.Core.Logic.{inl, inr}
use mathlib.Core.Path.{◌≡◌, refl, sym, subst, ◌∙◌}
use native.Mathlib.Decide.{ℕ_discrete}
use native.Mathlib.Omega.{arith}
use lib.Dec.{eqb}
use lib.ListN.{length, set, length-set}
use lib.Seq.{get_or-set_same, get_or-set_other}
use borrow.Author.Tests.{eqb-true, eqb-false, leb-false}
use Rattle.mark.proofs.Choices.{by_cases}
use Rattle.turn.specs.declared.Worker.{Worker}
use Rattle.turn.specs.Worker.{idle, look_for, remove_of, broken}
use Rattle.turn.specs.Turn.{Answer, Refused, Done, Turned, After}
use Rattle.turn.specs.Retire.{Retired}
use Rattle.turn.proofs.Asleep.{slept_broken}
use Rattle.turn.proofs.Kept.{idle_kept, look_kept, insert_kept, remove_kept}
use Rattle.engine.specs.declared.Floor.{Floor}
use Rattle.engine.specs.Calls.{Started}
use Rattle.engine.specs.Refusals.{wrong_sizes, start_number, turn_number}
use Rattle.engine.specs.Calls.{Ran, start_call, turned, after_turn, records_left, retired, unbegun, blank, record_in}
use Rattle.engine.proofs.Sizes.{right_sizes, right_listed}
use Rattle.engine.proofs.Turns.{own}
use Rattle.engine.proofs.Sleeping.{left_long, own_after, other_after}
use Rattle.engine.proofs.Keeps.{Keeps, each_accepted, turn_accepted}
use Rattle.engine.proofs.Retiring.{retire_accepted, vacated_board_long, vacated_unbroken}
use Rattle.hall.specs.Refusals.{hall_each_number, hall_retire_number, hall_run_number}
use Rattle.hall.specs.Calls.{hall_turn, index_left, hall_retire, retired_index, Indexed, indexed, hall_go_on, hall_run_from, hall_run}
use Rattle.hall.specs.Reading.{Reads}
use Rattle.hall.proofs.Plain.{each_none, turn_none, retire_none, hall_turn_keeps, hall_each_keeps}
use Rattle.hall.proofs.Kept.{reads_turned, reads_retired}
use Rattle.hall.proofs.Same.{turn_same_number}
use Rattle.history.specs.History.{State, Call, look, insert, remove, turn, retire, run, show, count, orders, ask_total, ask_next, listed_of, seat_of, turn_by, ran_by, run_of}
use Rattle.history.specs.History.{retire_by, started_as, turned_as, retired_as, ran_as, after, state_from, state}
use Rattle.history.specs.Numbers.{OneOf}
use Rattle.history.specs.Unbroken.{Unbroken}
use Rattle.history.proofs.Ready.{Ready}
use Rattle.history.proofs.Starting.{not_refused}
use Rattle.history.proofs.Acting as Acting
use Rattle.history.proofs.Unrefused.{each_index, each_numbers, run_numbers}

-- ---- one record more

module _ (s : State) (ok : Unbroken s) (i : ℕ) where
  -- another record of worker i that is not broken leaves none broken; past the end of the list it is not put in
  set_unbroken :
      (v : Worker) → (i < s.floor.workers → broken v ≡ false) → (j : ℕ) → j < s.floor.workers → broken (record_in (set s.records i v) j) ≡ false
  set_unbroken v kept j under = by (ℕ_discrete j i)
    where
      long : j < length s.records
      long = omega (arith, under, right_listed _ _ _ ok.sized)

      by : Dec (j ≡ i) → broken (record_in (set s.records i v) j) ≡ false
      by (yes is) = rw (is, get_or-set_same s.records i v blank (omega (arith, is, long))) (kept (omega (arith, is, under)))
      by (no other) = rw (get_or-set_other s.records i j v blank other) (ok.records j under)

  -- ---- a start

  -- with another record of worker i and a floor of the same sizes a state stays unbroken
  seated_unbroken :
      (v : Worker) (g : Floor)
      → g.workers ≡ s.floor.workers
      → g.buckets ≡ s.floor.buckets
      → (i < s.floor.workers → broken v ≡ false)
      → Unbroken (record { board = s.board; floor = g; records = set s.records i v; index = s.index })
  unfolding wrong_sizes
  seated_unbroken v g workers buckets kept =
      record {
        sized = rw (workers, buckets, length-set s.records i v) ok.sized;
        records = λ j under. set_unbroken v kept j (omega (arith, workers, under));
        buckets = λ b under. ok.buckets b (omega (arith, buckets, under));
        reads = rw buckets ok.reads;
      }

  -- so a start keeps a state unbroken, accepted or refused
  start_unbroken :
      (late : Bool) (v : Worker) (g : Floor)
      → g.workers ≡ s.floor.workers
      → g.buckets ≡ s.floor.buckets
      → (late ≡ false → broken v ≡ false)
      → Unbroken (started_as s i (start_call s.board (seat_of s i) (listed_of s i) late v g))
  unfolding start_call
  start_unbroken late v g workers buckets kept =
      let number = start_number s.floor s.board (length s.records) i (listed_of s i) late in
      by_cases (λ (x : Started). Unbroken (started_as s i x)) (eqb number 0) _ _
      (λ is. seated_unbroken v g workers buckets (λ under. kept (not_refused _ _ _ i _ late (eqb-true number 0 is)).early))
      (λ isnot. seated_unbroken _ _ refl refl (ok.records i))

  -- ---- a turn

  -- whoever sleeps through a turn is not broken by it
  left_unbroken :
      (w : Worker) (a : Answer) → (i < s.floor.workers → broken w ≡ false) → (j : ℕ) → j < s.floor.workers
      → broken (record_in (records_left s.records i w a) j) ≡ false
  left_unbroken w (Refused number) kept j under = ok.records j under
  left_unbroken w (Done report) kept j under = by (ℕ_discrete j i)
    where
      long : j < length s.records
      long = omega (arith, under, right_listed _ _ _ ok.sized)

      by : Dec (j ≡ i) → broken (record_in (after_turn s.records i w) j) ≡ false
      by (yes is) = rw (is, own_after s.records i w (omega (arith, is, long))) (kept (omega (arith, is, under)))
      by (no other) = rw (other_after s.records i w j other, slept_broken (record_in s.records j)) (ok.records j under)

  -- what a turn leaves is unbroken, since it keeps the board and the record so
  turned_unbroken :
      (b : ℕ) (x : After Turned)
      → Keeps s.board b (listed_of s i) x
      → Reads x.words s.floor.buckets (index_left s.index x.handed.answer)
      → Unbroken (turned_as s i x)
  unfolding wrong_sizes
  turned_unbroken b x keeps reads =
      record {
        sized = rw (keeps.long, left_long s.records i x.handed.worker x.handed.answer) ok.sized;
        records = left_unbroken x.handed.worker x.handed.answer (λ under. keeps.sound (ok.records i under));
        buckets = λ b under. keeps.buckets b (ok.buckets b under);
        reads = reads;
      }

  -- ---- a retiring

  -- a retiring keeps a state unbroken, done or refused
  retire_unbroken : Unbroken (retired_as s i (retire_by s i))
  unfolding hall_retire retired wrong_sizes
  retire_unbroken =
      let w = listed_of s i in
      let f = s.floor in
      let number = hall_retire_number f s.board s.index (length s.records) i w in
      let plain = retire_none f s.board s.index i w (length s.records) in
      let reads = reads_retired f s.board s.index w ok.reads number (λ none. (retire_accepted f s.board (length s.records) i w (plain none)).0) in
      by_cases (λ (x : After Retired). Reads x.words f.buckets (retired_index f s.board s.index w x.handed.refusal) → Unbroken (retired_as s i x)) (eqb number 0) _ _
      (λ is reads.
      let known = retire_accepted f s.board (length s.records) i w (plain (eqb-true number 0 is)) in
      record {
        sized = rw (vacated_board_long s.floor s.board w known.0, length-set s.records i idle) ok.sized;
        records = set_unbroken idle (λ under. idle_kept);
        buckets = λ b under. vacated_unbroken s.floor s.board w known.0 known.1 b (ok.buckets b under);
        reads = reads;
      })
      (λ isnot reads. refused_unbroken reads)
      reads
    where
      refused_unbroken :
          {index : List ℕ}
          → Reads s.board s.floor.buckets index
          → Unbroken (record { board = s.board; floor = s.floor; records = set s.records i (listed_of s i); index = index })
      refused_unbroken reads =
          let still = seated_unbroken (listed_of s i) s.floor refl refl (ok.records i) in
          record { sized = still.sized; records = still.records; buckets = still.buckets; reads = reads }

-- ---- a run

-- how a run on floor f comes out: what it leaves is unbroken, and the number that stopped it is 2 or 6, or none did
module _ (f : Floor) where
  abbrev stands : Indexed (After Ran) → State
  stands x = record { board = x.left.words; floor = f; records = x.left.handed.records; index = x.index }

  record Passes (x : Indexed (After Ran)) : Type 0 where
    whole : Unbroken (stands x)
    stop : OneOf (0 ∷ 2 ∷ 6 ∷ []) x.left.handed.stop

  turns_pass : (turns : List ℕ) (x : Indexed (After Ran)) → Passes x → Passes (hall_run_from f turns x)
  unfolding hall_run_from turned
  turns_pass [] x ok = ok
  turns_pass (i ∷ turns) x ok =
      let w = record_in x.left.handed.records i in
      let board = x.left.words in
      let number = hall_each_number f board x.index i w in
      by_cases
      (λ (y : After Turned). Keeps board (own f w) w y
      → Reads y.words f.buckets (index_left x.index y.handed.answer)
      → Passes (hall_go_on (hall_run_from f turns) i w.place y.words x.index y.handed.worker y.handed.answer x.left.handed))
      (eqb number 0) _ _
      (λ is keeps reads. turns_pass turns _ (record { whole = turned_unbroken (stands x) ok.whole i (own f w) _ keeps reads; stop = inl refl }))
      (λ isnot keeps reads. record { whole = ok.whole; stop = each_numbers (stands x) ok.whole i })
      (hall_each_keeps f board x.index i w)
      (reads_turned f board x.index w ok.whole.reads number
      (λ none. (right_sizes _ _ _ ok.whole.sized, (each_accepted f board i w (each_none f board x.index i w none)).0)))

module _ (s : State) (ok : Unbroken s) (turns : List ℕ) where
  abbrev number : ℕ
  number = hall_run_number s.floor s.board s.index (length s.records) turns

  turns_done_lem : Passes s.floor (hall_run_from s.floor turns (indexed s.index (unbegun s.board s.records 0)))
  turns_done_lem = turns_pass s.floor turns _ (record { whole = ok; stop = inl refl })

  -- a run keeps a state unbroken, refused as a whole or not
  run_unbroken : Unbroken (ran_as s (ran_by s turns))
  unfolding hall_run
  run_unbroken = by_cases (λ (x : Indexed (After Ran)). Unbroken (ran_as s x)) (eqb number 0) _ _ (λ is. turns_done_lem.whole) (λ isnot. ok)

  -- a run is refused as a whole by 9, comes to its end, or stops at a turn that is refused by 2 or 6
  pub run_stops_by : OneOf (9 ∷ 0 ∷ 2 ∷ 6 ∷ []) (run_of s turns).handed.stop
  unfolding hall_run
  run_stops_by =
      by_cases (λ (x : Indexed (After Ran)). OneOf (9 ∷ 0 ∷ 2 ∷ 6 ∷ []) x.left.handed.stop) (eqb number 0) _ _
      (λ is. inr turns_done_lem.stop) (λ isnot. whole (eqb-false number 0 isnot) (run_numbers s ok turns))
    where
      whole : (number ≡ 0 → ⊥) → OneOf (0 ∷ 9 ∷ []) number → OneOf (9 ∷ 0 ∷ 2 ∷ 6 ∷ []) number
      whole some (inl none) = absurd (some none)
      whole some (inr (inl is)) = inl is
      whole some (inr (inr none)) = elim none [ ]

-- ---- any call

-- a turn call leaves the index the full reading
turn_reads : (s : State) → Unbroken s → (i : ℕ) → Reads (turned_as s i (turn_by s i)).board s.floor.buckets (turned_as s i (turn_by s i)).index
unfolding hall_turn
turn_reads s ok i =
    let f = s.floor in
    let w = listed_of s i in
    reads_turned f s.board s.index w ok.reads _
    (λ none.
    let known = turn_accepted f s.board (length s.records) i w (turn_none f s.board s.index i w (length s.records) none) in
    (known.0, known.1))

-- every call keeps a state unbroken, accepted or refused
after_unbroken : (s : State) (c : Call) → Unbroken s → Unbroken (after s c)
after_unbroken s (look i lot) ok = start_unbroken s ok i false (look_for lot) s.floor refl refl (λ early. look_kept lot)
after_unbroken s (insert i lot t) ok =
    start_unbroken s ok i _ _ _ refl refl (λ early. insert_kept lot t.number (omega (arith, leb-false t.number s.floor.last early)))
after_unbroken s (remove i lot) ok = start_unbroken s ok i false (remove_of lot) s.floor refl refl (λ early. remove_kept lot)
after_unbroken s (turn i) ok =
    turned_unbroken s ok i _ _ (hall_turn_keeps s.board s.index (seat_of s i) (listed_of s i)) (turn_reads s ok i)
after_unbroken s (retire i) ok = retire_unbroken s ok i
after_unbroken s (run turns) ok = run_unbroken s ok turns
after_unbroken s (show lot) ok = ok
after_unbroken s count ok = ok
after_unbroken s (orders depth) ok = ok
after_unbroken s ask_total ok = ok
after_unbroken s (ask_next from) ok = ok

module _ (s : State) (ok : Unbroken s) (i : ℕ) where
  -- a turn that would be done in a run is done as a call too
  pub number_is : hall_each_number s.floor s.board s.index i (listed_of s i) ≡ 0 → Acting.number s i ≡ 0
  unfolding turn_number
  number_is none = rw (turn_same_number s.floor ok.reads (length s.records) i (listed_of s i), ok.sized) (sym (each_index s ok i) ∙ none)

  -- what a turn that is done leaves is unbroken
  pub turn_unbroken : Acting.number s i ≡ 0 → Unbroken (turned_as s i (Acting.done s i))
  turn_unbroken none = subst (λ (x : After Turned). Unbroken (turned_as s i x)) (Acting.done_is s i none) (after_unbroken s (turn i) ok)

-- calls one after another keep a state unbroken
calls_unbroken : (s : State) (calls : List Call) → Unbroken s → Unbroken (state_from s calls)
unfolding state_from
calls_unbroken s [] ok = ok
calls_unbroken s (c ∷ calls) ok = calls_unbroken (after s c) calls (after_unbroken s c ok)

-- on an opened board nothing is ever broken, and the sizes stay right
pub state_unbroken : {first : State} (ready : Ready first) (calls : List Call) → Unbroken (state first calls)
state_unbroken {first} ready calls = calls_unbroken first calls ready.unbroken
