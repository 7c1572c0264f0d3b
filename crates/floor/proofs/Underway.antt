-- A run that is under way: what is left to run from where it stands comes to what the whole comes to. Assumes nothing.
use Prim.Native.Nat.{ℕ, ◌+◌, ◌<◌, ◌≤◌}
use mathlib.Core.Bool.{Bool, true, false, cond}
use mathlib.Core.Path.{◌≡◌, refl, sym, ap, subst, ◌∙◌}
use mathlib.Core.List.{List, ◌∷◌}
use native.Mathlib.Omega.{arith}
use native.Mathlib.Numerals.{add-one}
use lib.Dec.{eqb, ltb}
use lib.ListN.{length, get_or, drop}
use lib.Seq.{drop-cons}
use borrow.Author.Tests.{eqb-true, eqb-false, eq-eqb, ne_eqb, lt-ltb, ltb-false}
use Rattle.std.proofs.Common.{Ok, Err}
use Rattle.turn.specs.declared.refusal.Refusal.{Refusal}
use Rattle.turn.specs.Number.{number as number_of_why}
use Rattle.turn.proofs.Refusing.{number_some}
use Rattle.mark.proofs.Choices.{passes}
use Rattle.turn.specs.declared.Worker.{Worker}
use Rattle.turn.specs.Turn.{Said}
use Rattle.turn.specs.declared.Report.{Report}
use Rattle.turn.specs.Turn.{Tried}
use Rattle.turn.specs.Turn.{After, after, no_report, refused, done, answer_of}
use Rattle.turn.specs.Asleep.{awake}
use Rattle.turn.specs.Places.{Step, turn}
use Rattle.engine.specs.declared.Floor.{Floor}
use Rattle.engine.specs.Refusals.{wrong_sizes, bucket_for}
use Rattle.engine.specs.Room.{Few}
use Rattle.engine.specs.Calls.{Ran, report_on, record_in, turn_done, tried, after_turn, records_left, no_turns, tallied, capped_totals, standing, unbegun}
use Rattle.engine.proofs.Few.{few_more, few_exact}
use Rattle.hall.specs.Refusals.{wrong_index, hall_each_number, hall_turn_number, hall_run_refusal, hall_run_number}
use Rattle.hall.specs.Calls.{hall_try, index_left, Indexed, indexed, hall_run_from, hall_run}
use Rattle.floor.specs.Running.{Running, begun, gone_on}
use Rattle.floor.specs.Told.{run_told}
use Rattle.floor.specs.declared.list.Done.{Done}
use Rattle.floor.specs.Calls.{OnList, on_list, said_as, say_in, ran_told}
use Rattle.floor.specs.Promises.{RunLeft}
use Rattle.hall.proofs.Plain.{hall_each_is}
use Rattle.hall.proofs.Stops.{run_over, next_done, next_refused}

-- a run never comes to a number that a count could not hold
short_enough : (i n : ℕ) → i < n → n ≤ 65535 → i + 1 ≤ 4294967295
short_enough i n less short = omega arith

module _ (f : Floor) (ts : List ℕ) where
  -- what is left to run
  abbrev resume : Running → List ℕ → List Worker → List ℕ → Indexed (After Ran)
  resume r board records index = hall_run_from f (drop r.at ts) (indexed index (standing board records r.totals r.last r.stop))

  -- what holds while a turn is left
  pub record Going (r : Running) (board : List ℕ) (records : List Worker) (index : List ℕ) : Type 0 where
    pub five : wrong_index (length index) ≡ false
    pub right : wrong_sizes f board (length records) ≡ false
    pub short : length ts ≤ 65535
    pub few : Few r.at r.totals

  module _ (first : List ℕ) (ys : List Worker) (entries : List ℕ) where
    pub record Underway (r : Running) (board : List ℕ) (records : List Worker) (index : List ℕ) : Type 0 where
      pub end : r.end ≡ length ts
      pub within : r.at ≤ length ts
      pub comes : resume r board records index ≡ hall_run first entries f ys (length ys) ts
      pub going : r.at < length ts → Going r board records index

    -- ---- the beginning

    abbrev number : ℕ
    number = hall_run_refusal f (length first) (length ys) (length entries) (length ts)

    accepted : number ≡ 0 → Going (record { totals = no_turns; at = 0; end = length ts; last = no_report; stop = 0 }) first ys entries
    unfolding wrong_sizes
    accepted none =
        let display = passes _ 0 _ none in
        let sizes = passes _ 0 _ display.1 in
        record {
          five = display.0;
          right = sizes.0;
          short = ltb-false 65535 (length ts) (passes (ltb 65535 (length ts)) 8 0 sizes.1).0;
          few = record { turns = omega arith; changes = omega arith; lost = omega arith; full = omega arith };
        }

    -- refused as a whole, it is at its end, and else before its first turn
    begun_either : (t : Bool) → eqb number 0 ≡ t
        → Underway (cond t (record { totals = no_turns; at = 0; end = length ts; last = no_report; stop = 0 })
        (record { totals = no_turns; at = length ts; end = length ts; last = no_report; stop = number })) first ys entries
    unfolding hall_run hall_run_number
    begun_either true is = record {
      end = refl;
      within = omega arith;
      comes = rw is;
      going = λ _. accepted (eqb-true number 0 is);
    }
    begun_either false isnot = record {
      end = refl;
      within = omega arith;
      comes = rw isnot (run_over f ts (length ts) (indexed entries (unbegun first ys number)) (omega arith));
      going = λ less. absurd (omega arith);
    }

    pub begins : Underway (begun f (length first) (length ys) (length entries) (length ts)) first ys entries
    unfolding begun
    begins = begun_either (eqb number 0) refl

    -- ---- a turn

    module _ (r : Running) (board : List ℕ) (records : List Worker) (index : List ℕ) (under : Underway r board records index) (less : r.at < r.end) where
      abbrev i : ℕ
      i = r.at

      -- whose turn it is
      abbrev t : ℕ
      t = get_or ts i 0

      abbrev w : Worker
      w = record_in records t

      left : i < length ts
      left = omega (arith, under.end)

      here : Going r board records index
      here = under.going left

      -- the run as it stands, and its turns from here on
      abbrev now_stands : Indexed (After Ran)
      now_stands = indexed index (standing board records r.totals r.last r.stop)

      from_here : hall_run_from f (drop i ts) now_stands ≡ hall_run_from f (t ∷ drop (i + 1) ts) now_stands
      from_here = rw (add-one i, drop-cons ts i 0 left)

      -- the number of the turn is the one that a run goes by, since the sizes are right
      abbrev turn_of_lem : ℕ
      turn_of_lem = hall_turn_number f board index (length records) t w

      each : turn_of_lem ≡ hall_each_number f board index t w
      each = hall_each_is f board index (length records) t w here.five here.right

      after_it : (board' : List ℕ) (records' : List Worker) → length board' ≡ length board → length records' ≡ length records
          → wrong_sizes f board' (length records') ≡ false
      unfolding wrong_sizes
      after_it board' records' same₀ same₁ = rw (same₀, same₁) here.right

      -- the step of the turn, and what it reports
      abbrev s : Step
      s = turn (bucket_for f board w.key) (awake w)

      abbrev report : Report
      report = report_on f board w s

      -- what a turn that came out so leaves of the run
      abbrev Leaves : After (OnList Said) → Type 0
      Leaves x =
          let index' = index_left index (answer_of x.handed.answer) in
          length x.words ≡ length board
          → length x.handed.records ≡ length records
          → length index' ≡ length index
          → Underway (gone_on r x.handed.answer) x.words x.handed.records index'

      -- what it leaves of board and list, and says
      abbrev saying : After Tried → After (OnList Said)
      saying x = after x.words (on_list (records_left records t x.handed.worker (answer_of x.handed.said)) x.handed.said)

      leaves : (b : Bool) → eqb turn_of_lem 0 ≡ b
          → Leaves (saying (cond b (after (turn_done f board w s).words (done s.stepped.worker report w.place)) (after board (refused turn_of_lem w))))
      unfolding gone_on
      leaves true is same₀ same₁ same₂ =
          let next = lt-ltb i r.end less in
          let counted = few_more i w.place report r.totals here.few in
          let exact = few_exact (i + 1) _ (short_enough i (length ts) left here.short) counted in
          record {
            end = under.end;
            within = rw next (omega arith);
            comes =
                rw (next, exact)
                (sym (next_done f t (drop (i + 1) ts) now_stands (sym each ∙ eqb-true turn_of_lem 0 is)) ∙ sym from_here ∙ under.comes);
            going = λ more. record {
              five = rw same₂ here.five;
              right = after_it (turn_done f board w s).words (after_turn records t s.stepped.worker) same₀ same₁;
              short = here.short;
              few = rw (next, exact) counted;
            };
          }
      leaves false isnot same₀ same₁ same₂ =
          rw isnot
          (record {
            end = under.end;
            within = omega (arith, under.end);
            comes =
                run_over f ts r.end (indexed index (standing board records r.totals r.last turn_of_lem)) (omega (arith, under.end))
                ∙ sym (rw (each) (next_refused f t (drop (i + 1) ts) now_stands (λ none. eqb-false turn_of_lem 0 isnot (each ∙ none))))
                ∙ sym from_here
                ∙ under.comes;
            going = λ more. absurd (omega (arith, under.end));
          })

      pub goes_on :
          (s : Said) (board' : List ℕ) (records' : List Worker) (index' : List ℕ)
          → after board' (on_list records' s) ≡ say_in board records index f t
          → index' ≡ index_left index (answer_of s)
          → length board' ≡ length board
          → length records' ≡ length records
          → length index' ≡ length index
          → Underway (gone_on r s) board' records' index'
      unfolding hall_try tried
      goes_on s board' records' index' e follows same₀ same₁ same₂ =
          rw follows (subst Leaves (sym e) (leaves (eqb turn_of_lem 0) refl) same₀ same₁ (rw (← follows) same₂))

    -- ---- the end

    pub over : (r : Running) (board : List ℕ) (records : List Worker) (index : List ℕ) → Underway r board records index → r.end ≤ r.at
        → RunLeft first ys entries f ts board records index (run_told r.last r.totals r.stop)
    over r board records index under past =
        record {
          whole =
              ap (λ (x : Indexed (After Ran)). indexed x.index (ran_told x.left))
              (sym (run_over f ts r.at _ (omega (arith, under.end))) ∙ under.comes);
        }

    -- ---- as the code has it

    -- one that is refused as a whole
    pub stops_whole : (n : ℕ) → (n ≡ 0 → ⊥) → n ≡ number → RunLeft first ys entries f ts first ys entries (run_told no_report no_turns n)
    stops_whole n some is =
        rw is
        (over (record { totals = no_turns; at = length ts; end = length ts; last = no_report; stop = number }) first ys entries
        (begun_either false (ne_eqb number 0 (λ none. some (is ∙ none)))) (omega arith))

    -- and one that is not, before its first turn
    pub starts :
        ◌≡◌ {A = ℕ} 0 number → Underway (record { totals = no_turns; at = 0; end = length ts; last = no_report; stop = 0 }) first ys entries
    starts none = begun_either true (eq-eqb number 0 (sym none))

    module _ (r : Running) (board : List ℕ) (records : List Worker) (index : List ℕ) (under : Underway r board records index) (less : r.at < r.end)
        (place : ℕ) (board' : List ℕ) (records' : List Worker) (index' : List ℕ) (same₀ : length board' ≡ length board)
        (same₁ : length records' ≡ length records) (same₂ : length index' ≡ length index) where
      -- whose turn it is
      abbrev whose : ℕ
      whose = get_or ts r.at 0

      -- a turn that is done
      pub counts :
          (d : Done)
          → after board' (on_list records' (said_as place (Ok d))) ≡ say_in board records index f whose
          → index' ≡ index_left index (answer_of (said_as place (Ok d)))
          → Underway
          (record { totals = capped_totals (tallied d.place d.report r.totals); at = r.at + 1; end = r.end; last = d.report; stop = 0 }) board' records'
          index'
      unfolding gone_on
      counts d e follows =
          rw (lt-ltb r.at r.end less) at (goes_on r board records index under less (said_as place (Ok d)) board' records' index' e follows same₀ same₁ same₂)

      -- and one that is refused
      pub stops_at :
          (why : Refusal)
          → after board' (on_list records' (said_as place (Err why))) ≡ say_in board records index f whose
          → index' ≡ index_left index (answer_of (said_as place (Err why)))
          → RunLeft first ys entries f ts board' records' index' (run_told r.last r.totals (number_of_why why))
      unfolding gone_on
      stops_at why e follows =
          let stopped =
          rw (ne_eqb (number_of_why why) 0 (number_some why)) at
          (goes_on r board records index under less (said_as place (Err why)) board' records' index' e follows same₀ same₁ same₂) in
          over (record { totals = r.totals; at = r.end; end = r.end; last = r.last; stop = number_of_why why }) board' records' index' stopped (omega arith)
