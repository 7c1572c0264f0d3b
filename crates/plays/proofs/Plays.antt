-- What a sheet plays is a history. Assumes nothing.
use Prim.Native.Nat.{ℕ, zero, suc, ◌≤◌}
use mathlib.Core.Path.{◌≡◌, refl, sym, ap, ap₂, subst, ◌∙◌}
use mathlib.Core.List.{List, [], ◌∷◌, ◌++◌, map, append_assoc}
use native.Mathlib.Omega.{arith}
use lib.Dec.{eqb}
use lib.ListN.{length, replicate, take, length-replicate}
use borrow.Author.Tests.{le-ltb, eqb-true}
use Rattle.mark.proofs.Choices.{by_cases, passes}
use Rattle.turn.specs.declared.Worker.{Worker}
use Rattle.turn.specs.Worker.{idle}
use Rattle.turn.specs.Turn.{After, after}
use Rattle.engine.specs.declared.Plan.{Plan}
use Rattle.engine.specs.declared.Totals.{Totals}
use Rattle.engine.specs.Board.{opened_board}
use Rattle.engine.specs.Refusals.{wrong_sizes, open_number}
use Rattle.engine.specs.Calls.{Opened, planned, open_call, no_turns}
use Rattle.engine.proofs.Sizes.{right_sizes}
use Rattle.hall.specs.Index.{index_words}
use Rattle.hall.proofs.Plain.{five_open}
use Rattle.sheet.specs.Line.{totals_line}
use Rattle.sheet.specs.Play.{Outcome, outcome, desk_of, shut_desk, shut_floor, open_field, turns_done}
use Rattle.sheet.specs.Listing.{Told, Ending, listed_in, fields_from, played}
use Rattle.sheet.proofs.Fielding.{whole_next}
use Rattle.history.specs.Trace.{total}
use Rattle.history.specs.Counts.{counts_of}
use Rattle.history.specs.History.{State, Opening, Call, opened, state, trace, state_from, trace_from}
use Rattle.history.proofs.Opened.{opened_is, opening_ready}
use Rattle.history.proofs.DemandThree.{demand_three}
use Rattle.history.specs.Moves as Moves
use Rattle.clerk.proofs.TheClerk.{the_clerk}
use Rattle.plays.specs.Points.{Point, goes, over, refused, next_of, Steps, stays, steps, Bytes, FloorAccepted, first_point}
use Rattle.plays.specs.Plays.{end_lines, OnTheWay, LastOf, stop_of, PlaysHistory}
use Rattle.plays.specs.Plays as Last
use Rattle.plays.proofs.Readings.{floor_version}
use Rattle.plays.proofs.Few.{few_played, few_through}
use Rattle.plays.proofs.Ending.{LastTold, totals, refusal, Finishes, comes_to, finish}
use Rattle.plays.proofs.Standing.{Stands}
use Rattle.plays.proofs.Points.{Fine, fine, points_stand}

-- ---- one play

module _ (sheet : List ℕ) where
  -- where a play stops there is no step
  stuck : (p : Point) (t : Told) (cs : List Call) (q : Point) → LastTold sheet p t → next_of sheet p ≡ goes cs q → ⊥
  stuck p t cs q (totals end) step = let e : over ≡ goes cs q = sym end ∙ step in absurd (let z : ◌≡◌ {A = ℕ} 0 1 = cc in omega arith)
  stuck p t cs q (refusal number offset end) step =
      let e : refused number offset ≡ goes cs q = sym end ∙ step in
      absurd (let z : ◌≡◌ {A = ℕ} 0 1 = cc in omega arith)

  -- where a sheet is not refused, it can go on from the desk of the last point
  desk_left : (p : Point) (t : Told) → LastTold sheet p t → next_of sheet p ≡ over → t.desk ≡ p.left.handed
  desk_left p t (totals end) is = refl
  desk_left p t (refusal number offset end) is =
      let e : refused number offset ≡ over = sym end ∙ is in
      absurd (let z : ◌≡◌ {A = ℕ} 0 1 = cc in omega arith)

  -- the number that refused it, or 0
  stop_told : (p : Point) (t : Told) → LastTold sheet p t → t.stop ≡ stop_of (next_of sheet p)
  stop_told p t (totals end) = rw end
  stop_told p t (refusal number offset end) = rw end

  -- a step leads to one point, by one list of calls
  same_step :
      (p : Point) (cs ds : List Call) (q r : Point) → next_of sheet p ≡ goes cs q → next_of sheet p ≡ goes ds r → (cs ≡ ds) × (q ≡ r)
  same_step p cs ds q r one two = let e : goes cs q ≡ goes ds r = sym one ∙ two in (cc, cc)

  -- so every point is on the way to where the play stops
  one_play :
      {p q r : Point} {cs ds : List Call} {t : Told}
      → Steps sheet p cs q
      → Steps sheet p ds r
      → LastTold sheet r t
      → OnTheWay sheet cs q ds r
  one_play {ds = ds} stays whole last = record { rest = ds; calls_are = refl; goes_on = whole }
  one_play {p = p} {t = t} (steps {q = m} {cs = as₁} step part) stays last = absurd (stuck p t as₁ m last step)
  one_play {p = p} {r = r} {t = t} (steps {cs = as₁} {ds = bs₁} step part) (steps {ds = bs₂} then whole) last =
      let way =
      one_play {r = r} {t = t} part (subst (λ (x : Point). Steps sheet x bs₂ r) (sym (same_step p _ _ _ _ step then).1) whole) last in
      record {
        rest = way.rest;
        calls_are =
            ap₂ (λ (x y : List Call). x ++ y) (sym (same_step p _ _ _ _ step then).0) way.calls_are
            ∙ sym (append_assoc as₁ bs₁ way.rest);
        goes_on = way.goes_on;
      }

-- ---- the opening

-- the first of so many idle records
take_idle : (n m : ℕ) → n ≤ m → take n (replicate m idle) ≡ replicate n idle
take_idle zero m less = refl
take_idle (suc n) zero less = absurd (omega arith)
take_idle (suc n) (suc m) less = ap (λ (ws : List Worker). idle ∷ ws) (take_idle n m (omega arith))

-- a floor stops with the number of its opening
pub open_stop : (plan : Plan) (board : List ℕ) → (open_field plan (after board shut_desk)).stop ≡ open_number (planned plan) board plan.workers
unfolding open_field open_call
open_stop plan board =
    let n = open_number (planned plan) board plan.workers in
    by_cases (λ (x : After Opened). x.handed.refusal ≡ n) (eqb n 0) _ _ (λ is. sym (eqb-true n 0 is)) (λ isnot. refl)

-- and lists nothing
pub open_lists : (plan : Plan) (board : List ℕ) → (open_field plan (after board shut_desk)).lines ≡ []
unfolding open_field
open_lists plan board = refl

-- one that is accepted leaves empty buckets, and idle records
open_is :
    (plan : Plan) (board : List ℕ)
    → open_number (planned plan) board plan.workers ≡ 0
    → open_field plan (after board shut_desk)
    ≡ outcome [] (after (opened_board plan.buckets plan.version) (desk_of (planned plan) (replicate 64 idle) no_turns)) 0
unfolding open_field open_call
open_is plan board none = rw none

module _ {sheet board : List ℕ} (f : FloorAccepted sheet board) (bytes : Bytes sheet) where
  none : open_number (planned f.plan) board f.plan.workers ≡ 0
  none = sym (open_stop f.plan board) ∙ f.accepted

  -- the opening that the sheet's floor asks for, with a record for each worker, and with an index, which the sheet has not
  abbrev opening : Opening
  opening =
      record {
        lent = record { board = board; floor = shut_floor; records = replicate f.plan.workers idle; index = replicate index_words 0 };
        plan = f.plan;
        accepted = five_open (planned f.plan) board (replicate index_words 0) _ refl ∙ rw (length-replicate f.plan.workers idle) none;
        version_fits = floor_version sheet bytes f.plan f.next f.read;
      }

  few : f.plan.workers ≤ 64
  unfolding open_number
  few = (right_sizes (planned f.plan) board f.plan.workers (passes (wrong_sizes (planned f.plan) board _) 0 0 none).0).workers

  abbrev first : Outcome
  first = outcome [] (after (opened_board f.plan.buckets f.plan.version) (desk_of (planned f.plan) (replicate 64 idle) no_turns)) 0

  first_is : open_field f.plan (after board shut_desk) ≡ first
  first_is = open_is f.plan board none

  first_state :
      state (opened opening) []
      ≡ record {
        board = opened_board f.plan.buckets f.plan.version;
        floor = planned f.plan;
        records = replicate f.plan.workers idle;
        index = replicate index_words 0;
      }
  unfolding state_from
  first_state =
      let laid : ℕ → State =
      λ n. record {
        board = opened_board f.plan.buckets f.plan.version;
        floor = planned f.plan;
        records = replicate n idle;
        index = replicate index_words 0;
      } in
      opened_is opening ∙ ap laid (length-replicate f.plan.workers idle)

  -- no turn is counted, and none listed
  no_turn_lem : (no_turns ≡ counts_of (trace (opened opening) [])) × ([] ≡ end_lines 1 (trace (opened opening) []))
  unfolding trace_from total end_lines
  no_turn_lem = (refl, refl)

  -- the first point stands as it leaves the board
  first_stands : Stands opening [] (first_point f)
  first_stands =
      record {
        stands =
            record {
              board = rw (first_is, first_state);
              floor = rw (first_is, first_state);
              records = rw (first_is, first_state) (take_idle f.plan.workers 64 few);
              totals = rw first_is no_turn_lem.0;
              lines = rw first_is no_turn_lem.1;
            };
        long = rw first_is (length-replicate 64 idle);
      }

  -- ---- the play

  within : (4 ≤ f.next) × (f.next ≤ length sheet)
  within = whole_next sheet 0 _ f.next f.read

  finishes : Finishes sheet (first_point f) (comes_to sheet (length sheet) (first_point f))
  finishes = let n = within in finish sheet (length sheet) 0 f.next [] _ _ (omega arith) n.1 (omega arith)

  play_comes : played sheet board ≡ comes_to sheet (length sheet) (first_point f)
  unfolding played fields_from turns_done
  play_comes = rw (le-ltb 16384 (length sheet) f.short, f.read, f.accepted)

  -- what the calls leave at the points that are reached
  at_point : (done : List Call) (p : Point) → Steps sheet (first_point f) done p → Stands opening done p
  at_point done p reached = points_stand opening sheet bytes reached [] first_stands

  -- the calls of the play
  abbrev calls : List Call
  calls = finishes.calls

  -- the last line, told from the history
  last_of :
      {p : Point} {t : Told}
      → p.left.handed.totals ≡ counts_of (trace (opened opening) calls)
      → LastTold sheet p t
      → LastOf sheet opening calls p t.lines
  last_of {p} counted (totals end) = subst (λ (t : Totals). LastOf sheet opening calls p (totals_line t)) (sym counted) (Last.totals end)
  last_of counted (refusal number offset stop) = Last.refusal number offset stop

  -- the play of a sheet of bytes whose floor is accepted is the history of an opening and calls
  pub plays_history : (o : Opening) × ((calls : List Call) × PlaysHistory f o calls)
  plays_history =
      let there = (at_point calls finishes.end finishes.reached).stands in
      let comes = play_comes ∙ finishes.listed in (
        opening,
        (
          calls,
          record {
            plan = refl;
            points = λ done p reached. (one_play sheet reached finishes.reached finishes.last, (at_point done p reached).stands);
            bound = λ done p reached. rw (at_point done p reached).stands.totals (demand_three (opening_ready opening) done).bound;
            few = λ done p reached. few_played f reached (opened opening);
            demand = λ done p reached. demand_three (opening_ready opening) done;
            wins = λ done p reached. (demand_three (opening_ready opening) done).wins (few_played f reached (opened opening));
            clerk = λ done p reached. the_clerk opening (map Moves.calls done) (few_through f reached (opened opening));
            refused_by_lem =
                λ done p number offset reached stop.
                subst (Fine opening sheet bytes done) stop (fine opening sheet bytes done p (at_point done p reached));
            end = finishes.end;
            reached = finishes.reached;
            line = finishes.tells.lines;
            last = last_of there.totals finishes.last;
            listed =
                ap listed_in comes
                ∙ ap₂ (λ (words lines : List ℕ). after words (lines ++ finishes.tells.lines)) there.board there.lines;
            left = λ end. ap (λ (e : Ending). e.handed.desk) comes ∙ desk_left sheet _ _ finishes.last end;
            stop = ap (λ (e : Ending). e.handed.stop) comes ∙ stop_told sheet _ _ finishes.last;
          },
        ),
      )
