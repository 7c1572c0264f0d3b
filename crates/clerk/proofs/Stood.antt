-- The clerk through all moves (§22), while inserts are few in every stretch. A move that is done leaves in the valid slots what the clerk's list
-- says, and every worker at rest: so all that holds of an opened board holds again where the next stretch begins. Assumes nothing.
use Prim.Native.Nat.{ℕ, ◌+◌, ◌^◌, ◌<◌}
use mathlib.Core.List.{List, [], ◌∷◌, ◌++◌, map, append_assoc, append-nil}
use mathlib.Core.Path.{◌≡◌, refl, sym, ap, subst, ◌∙◌}
use native.Mathlib.Decide.{ℕ_discrete}
use native.Mathlib.Nat.{mod-lt}
use native.Mathlib.Omega.{arith}
use lib.ListN.{length}
use borrow.Author.Tests.{ne_eqb}
use Rattle.turn.specs.declared.Worker.{Worker}
use Rattle.turn.specs.Worker.{insert_kind}
use Rattle.turn.specs.Asleep.{awake}
use Rattle.engine.specs.Calls.{Counted}
use Rattle.engine.specs.Calls.{Refusal, Lots}
use Rattle.engine.specs.Board.{bucket_of, lots_on}
use Rattle.engine.specs.Calls.{count_call, record_in}
use Rattle.engine.specs.Move.{Line}
use Rattle.hall.specs.Totalled.{Slots}
use Rattle.hall.specs.Calls.{total_call}
use Rattle.history.specs.Trace.{Entry, acted}
use Rattle.history.specs.History.{State, Opening, Call, opened, workers_of, buckets_of, after, entries, state_from, trace_from, is_start, state, trace, inserts, FewInserts}
use Rattle.history.specs.Moves.{Step, calls, moves, move_number_of, after_step, entries_by, state_through, trace_through, inserts_by, inserts_through, FewThrough}
use Rattle.history.specs.Moved.{moved_to}
use Rattle.history.specs.Values.{value_at, tickets}
use Rattle.history.specs.Cells.{cells_at, key_at}
use Rattle.history.specs.Unbroken.{Unbroken}
use Rattle.history.proofs.Ready.{Ready, rests}
use Rattle.history.proofs.Opened.{opening_ready, opened_mark, opened_lots}
use Rattle.history.proofs.Histories.{trace_from_then, inserts_then, sum_none}
use Rattle.history.proofs.Moved.{Moves, move_done, moves_refused}
use Rattle.history.proofs.Through.{Stretch, stretch_first, stretch_on, in_stretch}
use Rattle.history.proofs.Steps.{calls_last}
use Rattle.history.proofs.Paid.{tickets_are}
use Rattle.history.proofs.SameSizes.{state_workers}
use Rattle.history.proofs.Unbroken.{state_unbroken}
use Rattle.history.proofs.Lots.{counted, count_tells}
use Rattle.history.proofs.Display.{displays}
use Rattle.history.proofs.Cuts.{no_cut}
use Rattle.clerk.specs.Calls.{list_after}
use Rattle.clerk.proofs.Since.{since}
use Rattle.clerk.proofs.Knows.{HasLot}
use Rattle.clerk.proofs.Listing.{Shows, Lists}
use Rattle.clerk.proofs.Standing.{Standing, standing_lasts, ready_standing}
use Rattle.clerk.proofs.Shown.{some_bucket}

-- on a floor of so many workers: the stretch that this state is of, what was done before it began, and that all of it held there
pub record Stood (workers : ℕ) (s : State) (past : List Entry) : Type 0 where
  pub stretch : Stretch s
  pub listed : workers_of stretch.first ≡ workers
  pub older : List Entry
  pub cut : past ≡ older ++ trace stretch.first stretch.since
  pub begun : Standing stretch.first stretch.first older [] []

-- inserts are few in its stretch
abbrev pub FewIn : {workers : ℕ} {s : State} {past : List Entry} → Stood workers s past → Type 0
FewIn stood = FewInserts stood.stretch.first stood.stretch.since

-- ---- the present stretch

-- the lots that a count tells
abbrev lots_in : Counted → ℕ
lots_in (Refusal number) = 0
lots_in (Lots lots) = lots

module _ {workers : ℕ} {s : State} {past : List Entry} (stood : Stood workers s past) where
  abbrev first : State
  first = stood.stretch.first

  abbrev since_then_lem : List Call
  since_then_lem = stood.stretch.since

  abbrev n : ℕ
  n = buckets_of first

  abbrev newer : List Entry
  newer = trace first since_then_lem

  abbrev ready : Ready first
  ready = stood.stretch.ready

  -- nothing is broken
  pub unbroken : Unbroken s
  unbroken = rw stood.stretch.is (state_unbroken ready since_then_lem)

  -- there are as many workers as at first
  same_workers : workers_of s ≡ workers
  same_workers = ap workers_of stood.stretch.is ∙ state_workers first since_then_lem ∙ stood.listed

  -- ---- a call

  abbrev call_stood : (c : Call) → Stood workers (after s c) (past ++ entries s c)
  call_stood c =
      record {
        stretch = stretch_on c stood.stretch;
        listed = stood.listed;
        older = stood.older;
        cut =
            ap (λ (es : List Entry). es ++ entries s c) stood.cut
            ∙ append_assoc stood.older newer (entries s c)
            ∙ ap (λ (u : State). stood.older ++ (newer ++ entries u c)) stood.stretch.is
            ∙ ap (λ (es : List Entry). stood.older ++ es) (sym (trace_from_then first since_then_lem c));
        begun = stood.begun;
      }

  -- ---- while its inserts are few

  module _ (few : FewIn stood) where
    standing_then : Standing first (state first since_then_lem) (stood.older ++ newer) newer (tickets first since_then_lem)
    standing_then =
        calls_last (λ s newer ts. length ts < 2 ^ 32 → Standing first s (stood.older ++ newer) newer ts) (standing_lasts first stood.older)
        since_then_lem first [] [] (λ none. rw (append-nil stood.older) stood.begun) (omega (arith, few, tickets_are since_then_lem first))

    -- all that holds of an opened board holds of it
    pub standing : Standing first s past newer (tickets first since_then_lem)
    standing =
        subst (λ (u : State). Standing first u past newer (tickets first since_then_lem)) (sym stood.stretch.is)
        (subst (λ (es : List Entry). Standing first (state first since_then_lem) es newer (tickets first since_then_lem)) (sym stood.cut) standing_then)

    -- the bucket of a lot is one of the board's
    pub home_under : (lot : ℕ) → bucket_of lot n < buckets_of s
    home_under lot = subst (λ (k : ℕ). bucket_of lot k < buckets_of s) standing.sized (mod-lt lot (some_bucket unbroken))

    -- the list is as long as there are lots on the board
    lots_then : length (list_after past) ≡ lots_on (state first since_then_lem).board (buckets_of first)
    lots_then =
        omega (
          arith,
          standing.long,
          (count_tells ready since_then_lem).covered,
          ap lots_in (sym (counted ready since_then_lem) ∙ (count_tells ready since_then_lem).told),
        )

    listed_lots : length (list_after past) ≡ lots_on s.board (buckets_of s)
    listed_lots =
        lots_then
        ∙ ap (λ (u : State). lots_on u.board (buckets_of first)) (sym stood.stretch.is)
        ∙ ap (lots_on s.board) (sym standing.sized)

    -- a count tells as many
    pub count_listed : count_call s.board s.floor ≡ Lots (length (list_after past))
    count_listed =
        ap (λ (u : State). count_call u.board u.floor) stood.stretch.is ∙ (displays ready since_then_lem).counted ∙ ap Lots (sym lots_then)

    -- and so does the display's total
    pub total_listed : total_call s.board s.index s.floor ≡ Slots (length (list_after past))
    total_listed =
        ap (λ (u : State). total_call u.board u.index u.floor) stood.stretch.is
        ∙ (displays ready since_then_lem).total
        ∙ ap Slots (sym lots_then)

    -- ---- a move that is done

    module _ {t : State} (moved : Moves s t) where
      -- every worker rests, so that none has had a turn of a call that is not over
      none_since : (i : ℕ) → since i past ≡ 0
      none_since i =
          (standing.begun i).rests
          (ap (λ (ws : List Worker). (record_in (map awake ws) i).kind) (sym moved.records) ∙ (rests moved.ready i).kind)

      -- a line of the list has gone to the bucket of its lot
      goes_there : (l : Line) → Shows n s l → Shows (buckets_of t) t l
      goes_there l shows =
          let lot = shows.has.1 in
          let gone = moved.goes (bucket_of l.lot n) shows.slot (home_under l.lot) shows.has.0 in
          record {
            slot = gone.slot;
            has = subst (λ (k : ℕ). HasLot (cells_at t (bucket_of k (buckets_of t))) l.lot gone.slot) lot (gone.valid, gone.key ∙ lot);
            value = subst (λ (k : ℕ). value_at t (bucket_of k (buckets_of t)) gone.slot ≡ l.ticket) lot (gone.value ∙ shows.value);
          }

      -- and one that stands there has come from the bucket of its lot
      comes_from : (l : Line) → Shows (buckets_of t) t l → Shows n s l
      comes_from l shows =
          let come = moved.comes (bucket_of l.lot (buckets_of t)) shows.slot shows.has.0 in
          let b = come.bucket in
          let there = come.there in
          let p = there.slot in
          let lot : key_at s b p ≡ l.lot = there.key ∙ shows.has.1 in
          let here : b ≡ bucket_of l.lot n =
          sym (standing.known.cells.valid b p there.valid).lot
          ∙ ap (λ (k : ℕ). bucket_of k (buckets_of s)) lot
          ∙ ap (bucket_of l.lot) standing.sized in
          record {
            slot = p;
            has = subst (λ (c : ℕ). HasLot (cells_at s c) l.lot p) here (there.valid, lot);
            value = subst (λ (c : ℕ). value_at s c p ≡ l.ticket) here (there.value ∙ shows.value);
          }

      -- §22.7: the list is what stands in the valid slots, as it was
      moved_lists : Lists (buckets_of t) past t
      moved_lists =
          record {
            there = λ l inside. goes_there l (standing.lists.there l inside);
            all = λ l shows. standing.lists.all l (comes_from l shows);
          }

      nothing_since : past ≡ past ++ trace t []
      unfolding trace_from
      nothing_since = sym (append-nil past)

      -- a move that is done leaves all of it so, where a stretch begins
      abbrev moved_stood : Stood workers t past
      moved_stood =
          record {
            stretch = stretch_first moved.ready;
            listed = moved.workers ∙ same_workers;
            older = past;
            cut = nothing_since;
            begun =
                ready_standing moved.ready past none_since (moved.distinct standing.distinct) moved_lists (listed_lots ∙ sym moved.lots)
                standing.right;
          }

-- ---- calls and moves one after another

-- all of it, in a stretch in which so many inserts were accepted
record Reached (workers : ℕ) (s : State) (past : List Entry) (k : ℕ) : Type 0 where
  pub stood : Stood workers s past
  pub made : inserts stood.stretch.first stood.stretch.since ≡ k

module _ {workers : ℕ} where
  -- a call or a move goes on from there, while inserts are few
  step_reached :
      {s : State} {past : List Entry} {k : ℕ}
      → Reached workers s past k
      → k < 2 ^ 32
      → (a : Step)
      → Reached workers (after_step s a) (past ++ entries_by s a) (inserts_by k s a)
  step_reached {s} at few (calls c) =
      let stretch = at.stood.stretch in
      record {
        stood = call_stood at.stood c;
        made =
            inserts_then stretch.first stretch.since c
            ∙ ap (λ (u : State). inserts stretch.first stretch.since + is_start insert_kind u c) (sym stretch.is)
            ∙ ap (λ (k : ℕ). k + is_start insert_kind s c) at.made;
      }
  step_reached {s} {past} {k} at few (moves m) =
      subst (λ (es : List Entry). Reached workers (moved_to s m) es (inserts_by k s (moves m))) (sym (append-nil past))
      (by (ℕ_discrete (move_number_of s m) 0))
    where
      by : Dec (move_number_of s m ≡ 0) → Reached workers (moved_to s m) past (inserts_by k s (moves m))
      by (yes accepted) =
          rw accepted
          (record {
            stood = moved_stood at.stood (omega (arith, few, at.made)) (move_done s m (in_stretch at.stood.stretch) accepted);
            made = sum_none (is_start insert_kind) (moved_to s m);
          })
      by (no refused) =
          rw (ne_eqb (move_number_of s m) 0 refused)
          (subst (λ (u : State). Reached workers u past k) (sym (moves_refused s m refused)) at)

  -- and so do all of them
  steps_reached :
      (steps : List Step) {s : State} {past : List Entry} {k : ℕ}
      → Reached workers s past k
      → ((earlier later : List Step) → steps ≡ earlier ++ later → inserts_through k s earlier < 2 ^ 32)
      → Reached workers (state_through s steps) (past ++ trace_through s steps) (inserts_through k s steps)
  unfolding state_through trace_through inserts_through
  steps_reached [] {s} {past} {k} at few = subst (λ (es : List Entry). Reached workers s es k) (sym (append-nil past)) at
  steps_reached (a ∷ steps) {s} {past} {k} at few =
      subst (λ (es : List Entry). Reached workers (state_through (after_step s a) steps) es (inserts_through (inserts_by k s a) (after_step s a) steps))
      (append_assoc past (entries_by s a) (trace_through (after_step s a) steps))
      (steps_reached steps (step_reached at (few [] (a ∷ steps) refl) a)
      (λ earlier later cut. few (a ∷ earlier) later (ap (λ (rest : List Step). a ∷ rest) cut)))

-- ---- from the opening on

module _ (o : Opening) where
  abbrev s : State
  s = opened o

  -- an opening leaves all of it so, with nothing done before it
  opened_standing : Standing s s [] [] []
  unfolding since
  opened_standing =
      ready_standing (opening_ready o) [] (λ i. refl) (λ b p q other one. absurd (omega (arith, opened_mark o b p, one)))
      (record {
        there = λ l inside. absurd inside;
        all = λ l shows. absurd (omega (arith, opened_mark o (bucket_of l.lot (buckets_of s)) shows.slot, shows.has.0));
      })
      (sym (opened_lots o)) (λ before e later cut. absurd (no_cut before (acted e) later cut))

  -- after every opening and every list of calls all of it is so
  abbrev after_calls : (cs : List Call) → Stood (workers_of s) (state s cs) (trace s cs)
  after_calls cs =
      record {
        stretch = record { first = s; ready = opening_ready o; since = cs; is = refl };
        listed = refl;
        older = [];
        cut = refl;
        begun = opened_standing;
      }

  opened_reached : Reached (workers_of s) s [] 0
  unfolding state_from trace_from
  opened_reached = record { stood = after_calls []; made = sum_none (is_start insert_kind) s }

  -- and with moves among them, while inserts are few at all times
  pub steps_stood :
      (steps : List Step)
      → FewThrough s steps
      → (stood : Stood (workers_of s) (state_through s steps) (trace_through s steps)) × FewIn stood
  steps_stood steps few =
      let all = steps_reached steps opened_reached few in
      (all.stood, omega (arith, all.made, few steps [] (sym (append-nil steps))))

  -- with no move among them it is enough that they are few in the end
  pub calls_stood : (cs : List Call) → FewInserts s cs → (stood : Stood (workers_of s) (state s cs) (trace s cs)) × FewIn stood
  calls_stood cs few = (after_calls cs, few)
