-- A run is its turns, called one by one, as many as it reports as done; what it counts is what they did, and its last report the last one's.
-- Assumes nothing.
use Prim.Native.Nat.{ℕ, ◌+◌, ◌≤◌}
use mathlib.Core.Bool.{Bool, true, false, cond}
use mathlib.Core.List.{List, [], ◌∷◌, ◌++◌, map}
use mathlib.Core.Path.{◌≡◌, refl, sym, ap, ap₂, ◌∙◌}
use native.Mathlib.Omega.{arith}
use lib.Dec.{eqb}
use lib.ListN.{length, take}
use borrow.Author.Tests.{eqb-true}
use Rattle.mark.proofs.Choices.{by_cases, passes}
use Rattle.turn.specs.declared.Worker.{Worker}
use Rattle.turn.specs.declared.Report.{Report}
use Rattle.turn.specs.Turn.{Done, Turned, After, no_report}
use Rattle.turn.specs.Turn as Turn
use Rattle.engine.specs.declared.Totals.{Totals}
use Rattle.engine.specs.Refusals.{wrong_listed, wrong_sizes, run_number}
use Rattle.engine.specs.Calls.{Ran, tallied, no_turns, standing, unbegun, turned}
use Rattle.hall.specs.Refusals.{hall_turn_number, hall_run_number}
use Rattle.hall.specs.Calls.{hall_turn, Indexed, indexed, hall_go_on, hall_run_from, hall_run}
use Rattle.hall.proofs.Plain.{run_none, hall_run_turn, hall_turn_keeps, index_long}
use Rattle.engine.proofs.Sleeping.{record_awake, left_long}
use Rattle.engine.proofs.Tallies.{losses_lost, losses_other, changes_change, changes_other}
use Rattle.history.specs.Trace.{Turn, Entry, acted, retired, total}
use Rattle.history.specs.Reports.{last_report}
use Rattle.history.specs.Counts.{is_lost, is_change, turns_in, lost_swaps, changes_in, full_rounds, counts_of}
use Rattle.history.specs.History.{State, Call, turn, run, seat_of, listed_of, turn_by, ran_by, run_of, turned_as, ran_as, after}
use Rattle.history.specs.History.{entry_of, and_then, turn_entries, entries, state_from, trace_from, state, trace}
use Rattle.history.proofs.Counts.{one_is}
use Rattle.history.proofs.Histories.{state_from_append, trace_from_append}

-- ---- how the turns of a run come out

-- the totals with these entries more
abbrev counted : Totals → List Entry → Totals
counted t [] = t
counted t (acted e ∷ es) = counted (tallied e.was.place e.report t) es
counted t (retired r ∷ es) = counted t es

-- the floor, the board, the list of records and the index fit together
abbrev RightSizes : State → Type 0
RightSizes s = (wrong_sizes s.floor s.board (length s.records) ≡ false) × (length s.index ≡ 5)

-- turns from s, with these totals and this report before them, came to x with these entries, which are turns: as many are done as there are
-- entries
record Follows (s : State) (turns : List ℕ) (t : Totals) (r : Report) (x : Indexed (After Ran)) (es : List Entry) : Type 0 where
  leaves : ran_as s x ≡ state_from s (map turn (take (length es) turns))
  did : es ≡ trace_from s (map turn (take (length es) turns))
  turns_all : turns_in es ≡ length es
  totals : x.left.handed.totals ≡ counted t es
  last : x.left.handed.last ≡ last_report r es

-- no turn is done
none_follow :
    (s : State) (turns : List ℕ) (t : Totals) (r : Report) (number : ℕ)
    → Follows s turns t r (indexed s.index (standing s.board s.records t r number)) []
unfolding state_from trace_from last_report total
none_follow s turns t r number = record { leaves = refl; did = refl; turns_all = refl; totals = refl; last = refl }

-- a turn keeps the sizes
still_right : (s : State) (i : ℕ) → RightSizes s → RightSizes (turned_as s i (turn_by s i))
unfolding wrong_sizes
still_right s i right =
    (rw (left_long s.records i (turn_by s i).handed.worker (turn_by s i).handed.answer, (hall_turn_keeps s.board s.index (seat_of s i) (listed_of s i)).long) right.0, index_long s.index (turn_by s i).handed.answer ∙ right.1)

-- how they come out from a state, with any totals and any report before them
abbrev Turns : State → List ℕ → Type 0
Turns s turns =
    (t : Totals) (r : Report)
    → Follows s turns t r (hall_run_from s.floor turns (indexed s.index (standing s.board s.records t r 0))) (turn_entries s turns)

module _ (s : State) (i : ℕ) (turns : List ℕ) where
  -- how they come out where the turn of worker i, the first, came to x
  abbrev First : After Turned → Type 0
  First x =
      turn_by s i ≡ x
      → Turns (turned_as s i x) turns
      → (t : Totals) (last : Report)
      → Follows s (i ∷ turns) t last
      (hall_go_on (hall_run_from s.floor turns) i (listed_of s i).place x.words s.index x.handed.worker x.handed.answer
      (record { records = s.records; totals = t; last = last; stop = 0 }))
      (and_then (entry_of s i x.handed.answer) (turn_entries (turned_as s i x) turns))

  -- it is done, and the others come after it
  first_done : (board : List ℕ) (w : Worker) (r : Report) → First (Turn.after board (record { worker = w; answer = Done r }))
  unfolding state_from trace_from last_report total
  first_done board w r is others t last =
      let rest = others (tallied (listed_of s i).place r t) r in
      let next : State = turned_as s i (Turn.after board (record { worker = w; answer = Done r })) in
      let done : List Call = map turn (take (length (turn_entries next turns)) turns) in
      record {
        leaves = rest.leaves ∙ ap (λ x. state_from (turned_as s i x) done) (sym is);
        did =
            ap (λ (es : List Entry). entry_of s i (Done r) ++ es) rest.did
            ∙ ap (λ x. entry_of s i x.handed.answer ++ trace_from (turned_as s i x) done) (sym is);
        turns_all = omega (arith, rest.turns_all);
        totals = rest.totals ∙ ap (λ (p : ℕ). counted (tallied p r t) (turn_entries next turns)) (ap (λ (x : Worker). x.place) (sym (record_awake s.records i)));
        last = rest.last;
      }

  first : First (turn_by s i)
  unfolding hall_turn turned
  first =
      by_cases First (eqb (hall_turn_number s.floor s.board s.index (length s.records) i (listed_of s i)) 0) _ _
      (λ is. first_done _ _ _) (λ isnot same others t last. none_follow s (i ∷ turns) t last _)

  more : RightSizes s → Turns (turned_as s i (turn_by s i)) turns → Turns s (i ∷ turns)
  unfolding hall_run_from turn_entries
  more right others = rw (hall_run_turn s.board s.index (seat_of s i) (listed_of s i) right.0 right.1) (first refl others)

turns_follow : (s : State) (turns : List ℕ) → RightSizes s → Turns s turns
unfolding hall_run_from turn_entries
turns_follow s [] right = λ t r. none_follow s [] t r 0
turns_follow s (i ∷ turns) right = more s i turns right (turns_follow (turned_as s i (turn_by s i)) turns (still_right s i right))

-- ---- a run

module _ (s : State) (turns : List ℕ) where
  -- its number of refusal
  abbrev number : ℕ
  number = hall_run_number s.floor s.board s.index (length s.records) turns

  either_follows :
      (t : Bool)
      → eqb number 0 ≡ t
      → Follows s turns no_turns no_report
      (cond t (hall_run_from s.floor turns (indexed s.index (unbegun s.board s.records 0))) (indexed s.index (unbegun s.board s.records number)))
      (cond t (turn_entries s turns) [])
  unfolding run_number wrong_sizes
  either_follows true is =
      let known = run_none s.floor s.board s.index (length s.records) turns (eqb-true number 0 is) in
      turns_follow s turns ((passes (wrong_listed s.floor (length s.board) (length s.records)) 0 _ known.1).0, known.0) no_turns no_report
  either_follows false isnot = none_follow s turns no_turns no_report _

  run_follows : Follows s turns no_turns no_report (ran_by s turns) (entries s (run turns))
  unfolding hall_run
  run_follows = either_follows _ refl

-- ---- what it counts

-- no more entries are turns than there are
turns_le : (es : List Entry) → turns_in es ≤ length es
unfolding total
turns_le [] = omega arith
turns_le (acted e ∷ es) = omega (arith, turns_le es)
turns_le (retired r ∷ es) = omega (arith, turns_le es)

-- a count that goes up by a turn's number with each turn, of entries that are all turns
module _
    (count : Totals → ℕ) (f : Entry → ℕ)
    (adds : (e : Turn) (t : Totals) → count (tallied e.was.place e.report t) ≡ count t + f (acted e)) where
  counted_adds : (t : Totals) (es : List Entry) → turns_in es ≡ length es → count (counted t es) ≡ count t + total f es
  unfolding total
  counted_adds t [] all = omega arith
  counted_adds t (acted e ∷ es) all = omega (arith, adds e t, counted_adds (tallied e.was.place e.report t) es (omega arith))
  counted_adds t (retired r ∷ es) all = absurd (omega (arith, turns_le es))

  run_count : count no_turns ≡ 0 → (s : State) (turns : List ℕ) → count (run_of s turns).handed.totals ≡ total f (entries s (run turns))
  run_count none s turns =
      ap count (run_follows s turns).totals ∙ omega (arith, counted_adds no_turns (entries s (run turns)) (run_follows s turns).turns_all, none)

-- totals are the counts of a trace, one by one
pub same_totals :
    (t : Totals) (es : List Entry)
    → t.turns ≡ turns_in es
    → t.changes ≡ changes_in es
    → t.lost ≡ lost_swaps es
    → t.full ≡ full_rounds es
    → t ≡ counts_of es
same_totals t es turns changes lost full = λ i. record { turns = turns i; changes = changes i; lost = lost i; full = full i }

module _ (s : State) (turns : List ℕ) where
  run_had : (run_of s turns).handed.totals.turns ≡ turns_in (entries s (run turns))
  run_had = run_count (λ t. t.turns) _ (λ e t. refl) refl s turns

  -- the turns that a run reports are its entries
  pub run_turns : (run_of s turns).handed.totals.turns ≡ length (entries s (run turns))
  run_turns = run_had ∙ (run_follows s turns).turns_all

  -- the lost swaps that it reports are theirs
  pub run_lost : (run_of s turns).handed.totals.lost ≡ lost_swaps (entries s (run turns))
  run_lost =
      run_count (λ t. t.lost) _
      (λ e t. ap (λ (n : ℕ). t.lost + n) (one_is (is_lost (acted e)) _ (losses_lost _) (losses_other _))) refl s turns

  -- and so are the changes
  pub run_changes : (run_of s turns).handed.totals.changes ≡ changes_in (entries s (run turns))
  run_changes =
      run_count (λ t. t.changes) _
      (λ e t. ap (λ (n : ℕ). t.changes + n) (one_is (is_change (acted e)) _ (changes_change _ _) (changes_other _ _))) refl s turns

  -- and the reports of a full round
  pub run_full : (run_of s turns).handed.totals.full ≡ full_rounds (entries s (run turns))
  run_full = run_count (λ t. t.full) _ (λ e t. refl) refl s turns

  -- so the totals that a run reports are the counts of its entries
  pub run_totals : (run_of s turns).handed.totals ≡ counts_of (entries s (run turns))
  run_totals = same_totals _ (entries s (run turns)) run_had run_changes run_lost run_full

  -- the report that a run keeps is that of its last entry
  pub run_last : (run_of s turns).handed.last ≡ last_report no_report (entries s (run turns))
  run_last = (run_follows s turns).last

  -- ---- what it leaves and does

  -- a run leaves the state that its turns leave, called one by one, as many as it reports as done
  pub run_state : after s (run turns) ≡ state_from s (map turn (take (run_of s turns).handed.totals.turns turns))
  run_state = rw run_turns (run_follows s turns).leaves

  -- and its entries are theirs
  pub run_trace : entries s (run turns) ≡ trace_from s (map turn (take (run_of s turns).handed.totals.turns turns))
  run_trace = rw run_turns (run_follows s turns).did

-- ---- histories

module _ (s : State) (turns : List ℕ) (later : List Call) where
  abbrev done : List Call
  done = map turn (take (run_of s turns).handed.totals.turns turns)

  run_then_state : state_from s (run turns ∷ later) ≡ state_from s (done ++ later)
  unfolding state_from
  run_then_state = ap (λ (x : State). state_from x later) (run_state s turns) ∙ sym (state_from_append s done later)

  run_then_trace : trace_from s (run turns ∷ later) ≡ trace_from s (done ++ later)
  unfolding trace_from
  run_then_trace =
      ap₂ (λ (es : List Entry) (x : State). es ++ trace_from x later) (run_trace s turns) (run_state s turns)
      ∙ sym (trace_from_append s done later)

-- a history with a run in it is one with its turns instead, called one by one, as many as the run reports as done
pub runs_are_turns :
    (first : State) (earlier : List Call) (turns : List ℕ) (later : List Call)
    → let turns_done = map turn (take (run_of (state first earlier) turns).handed.totals.turns turns) in
    (state first (earlier ++ (run turns ∷ later)) ≡ state first (earlier ++ (turns_done ++ later)))
    × (trace first (earlier ++ (run turns ∷ later)) ≡ trace first (earlier ++ (turns_done ++ later)))
runs_are_turns first earlier turns later = (
  state_from_append first earlier _
      ∙ run_then_state (state first earlier) turns later
      ∙ sym (state_from_append first earlier _),
  trace_from_append first earlier _
      ∙ ap (λ (es : List Entry). trace first earlier ++ es) (run_then_trace (state first earlier) turns later)
      ∙ sym (trace_from_append first earlier _),
)
