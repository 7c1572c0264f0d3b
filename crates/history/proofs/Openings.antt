-- Whatever is asked, openings and moves among it, what stands then is what the history since the last of them that was accepted leaves, and the
-- theorems of histories hold of that. Assumes nothing.
use Prim.Native.Nat.{◌^◌, ◌<◌}
use mathlib.Core.Bool.{false}
use mathlib.Core.List.{List, [], ◌∷◌, ◌++◌, append_assoc, append-nil}
use mathlib.Core.Path.{◌≡◌, refl, sym, ap, subst, ◌∙◌}
use native.Mathlib.Decide.{ℕ_discrete}
use native.Mathlib.Omega.{arith}
use lib.ListN.{length}
use Rattle.mark.proofs.Choices.{passes}
use Rattle.engine.specs.declared.Plan.{Plan}
use Rattle.engine.specs.Refusals.{wrong_sizes, open_number}
use Rattle.turn.specs.Turn.{After}
use Rattle.engine.specs.Calls.{Opened, planned}
use Rattle.hall.specs.Calls.{opened_index}
use Rattle.engine.proofs.Sizes.{right_sizes, right_listed, opens_right}
use Rattle.hall.proofs.Refused.{hall_open_refused}
use Rattle.hall.proofs.Plain.{open_none, five_open}
use Rattle.history.specs.Trace.{Entry}
use Rattle.history.specs.Cells.{Cells}
use Rattle.history.specs.Unbroken.{Unbroken}
use Rattle.history.specs.Moved.{MoveTells, MoveRefusals}
use Rattle.history.specs.History.{State, Opening, Call, workers_of, buckets_of, state, state_from, trace_from}
use Rattle.history.specs.Openings.{Asked, asks, opens, reopen_number, leaves, turns_by, leaves_all, turns_by_all}
use Rattle.history.specs.Openings.{History, state_since, turns_since, from_opening, reopened, moved_on, goes_on, since, AnyOrder}
use Rattle.history.specs.Moves.{calls, moves, move_number_of}
use Rattle.history.proofs.Histories.{state_from_then, trace_from_then}
use Rattle.history.proofs.Ready.{Ready}
use Rattle.history.proofs.Opened.{opening_ready}
use Rattle.history.proofs.Moved.{state_in_stretch, move_done, moves_refused}
use Rattle.history.proofs.DemandThree.{demand_three}
use Rattle.history.proofs.Reports.{reports_chain}
use Rattle.history.proofs.SameSizes.{state_workers, state_buckets}
use Rattle.history.proofs.NoValueComesBack.{no_value_comes_back}
use Rattle.history.proofs.Lots.{count_tells}
use Rattle.history.proofs.HowLong.{how_long}
use Rattle.history.proofs.Retirings.{retirings}
use Rattle.history.proofs.Sleepers.{sleeps}
use Rattle.history.proofs.Display.{displays}
use Rattle.history.proofs.MoveTells.{move_tells, move_refusals}
use Rattle.history.proofs.Cells.{state_cells}
use Rattle.history.proofs.Unbroken.{state_unbroken}

-- an opening that is refused leaves everything as it was
pub opens_refused : (s : State) (plan : Plan) (fits : plan.version < 2 ^ 32) → (reopen_number s plan ≡ 0 → ⊥) → leaves s (opens plan fits) ≡ s
opens_refused s plan fits refused =
    let left = hall_open_refused s.board s.index s.floor s.records (length s.records) plan refused in
    let same = left.0 in
    let kept = ap (λ (x : After Opened). opened_index s.index x.handed.refusal) same ∙ left.1 in
    λ i. record { board = (same i).words; floor = (same i).handed.floor; records = (same i).handed.records; index = kept i }

-- the turns done before, and those of the history: together these
pub record Follows (before : List Entry) (h : History) (s : State) (turns : List Entry) : Type 0 where
  pub stands : s ≡ state_since h
  pub older : List Entry
  pub turns_are : before ++ turns ≡ older ++ turns_since h

module _ (h : History) (before : List Entry) where
  -- one thing more is asked
  goes_on_lem : (a : Asked) → Follows (before ++ turns_since h) (goes_on h a) (leaves (state_since h) a) (turns_by (state_since h) a)
  unfolding state_from trace_from
  goes_on_lem (asks (calls c)) =
      record {
        stands = sym (state_from_then h.first h.calls c);
        older = before;
        turns_are =
            append_assoc before (turns_since h) _
            ∙ ap (λ (es : List Entry). before ++ es)
            (sym (trace_from_then h.first h.calls c));
      }
  goes_on_lem (asks (moves m)) = by (ℕ_discrete (move_number_of (state_since h) m) 0)
    where
      by :
          (d : Dec (move_number_of (state_since h) m ≡ 0))
          → Follows (before ++ turns_since h) (moved_on h m d) (leaves (state_since h) (asks (moves m))) []
      by (yes accepted) = record { stands = refl; older = before ++ turns_since h; turns_are = refl }
      by (no refused) =
          record { stands = moves_refused (state_since h) m refused; older = before; turns_are = append-nil (before ++ turns_since h) }
  goes_on_lem (opens plan fits) = by (ℕ_discrete (reopen_number (state_since h) plan) 0)
    where
      by :
          (d : Dec (reopen_number (state_since h) plan ≡ 0))
          → Follows (before ++ turns_since h) (reopened h plan fits d) (leaves (state_since h) (opens plan fits)) []
      by (yes accepted) = record { stands = refl; older = before ++ turns_since h; turns_are = refl }
      by (no refused) =
          record { stands = opens_refused (state_since h) plan fits refused; older = before; turns_are = append-nil (before ++ turns_since h) }

-- all that is asked
all_follow :
    (h : History) (before : List Entry) (asked : List Asked)
    → Follows (before ++ turns_since h) (since h asked) (leaves_all (state_since h) asked) (turns_by_all (state_since h) asked)
unfolding since leaves_all turns_by_all
all_follow h before [] = record { stands = refl; older = before; turns_are = append-nil (before ++ turns_since h) }
all_follow h before (a ∷ asked) =
    let one = goes_on_lem h before a in
    let rest = all_follow (goes_on h a) one.older asked in
    record {
      stands = ap (λ (s : State). leaves_all s asked) one.stands ∙ rest.stands;
      older = rest.older;
      turns_are =
          sym (append_assoc (before ++ turns_since h) (turns_by (state_since h) a) _)
          ∙ ap (λ (es : List Entry). es ++ turns_by_all (leaves (state_since h) a) asked) one.turns_are
          ∙ ap (λ (s : State). (one.older ++ turns_since (goes_on h a)) ++ turns_by_all s asked) one.stands
          ∙ rest.turns_are;
    }

-- where a history begins a stretch can begin, and so it is after one thing more that is asked
goes_ready : (h : History) (a : Asked) → Ready h.first → Ready (goes_on h a).first
goes_ready h (asks (calls c)) ready = ready
goes_ready h (asks (moves m)) ready = by (ℕ_discrete (move_number_of (state_since h) m) 0)
  where
    by : (d : Dec (move_number_of (state_since h) m ≡ 0)) → Ready (moved_on h m d).first
    by (yes accepted) = (move_done (state_since h) m (state_in_stretch ready h.calls) accepted).ready
    by (no refused) = ready
goes_ready h (opens plan fits) ready = by (ℕ_discrete (reopen_number (state_since h) plan) 0)
  where
    by : (d : Dec (reopen_number (state_since h) plan ≡ 0)) → Ready (reopened h plan fits d).first
    by (yes accepted) = opening_ready (record { lent = state_since h; plan = plan; accepted = accepted; version_fits = fits })
    by (no refused) = ready

-- so after all that is asked
all_ready : (h : History) (asked : List Asked) → Ready h.first → Ready (since h asked).first
unfolding since
all_ready h [] ready = ready
all_ready h (a ∷ asked) ready = all_ready (goes_on h a) asked (goes_ready h a ready)

-- the theorems of histories, under any order of calls with openings and moves among them
pub any_order : (o : Opening) (asked : List Asked) → AnyOrder o asked
unfolding state_from trace_from
any_order o asked =
    let all = all_follow (from_opening o) [] asked in
    let h = since (from_opening o) asked in
    let ready = all_ready (from_opening o) asked (opening_ready o) in
    record {
      stands = all.stands;
      older = all.older;
      turns = all.turns_are;
      demand = demand_three ready h.calls;
      values = no_value_comes_back ready h.calls;
      counted = count_tells ready h.calls;
      reports = reports_chain ready h.calls;
      lasting = how_long ready h.calls;
      retires = retirings ready h.calls;
      sleeping = sleeps ready h.calls;
      displayed = displays ready h.calls;
      moving = λ m.
          subst (λ (s : State). move_number_of s m ≡ 0 → MoveTells s m) (sym all.stands) (move_tells ready h.calls m);
      unmoved = λ m. subst (λ (s : State). MoveRefusals s m) (sym all.stands) (move_refusals ready h.calls m);
      cells = subst Cells (sym all.stands) (state_cells ready h.calls);
      unbroken = subst Unbroken (sym all.stands) (state_unbroken ready h.calls);
    }

-- ---- which openings are accepted

module _ {first : State} (ready : Ready first) (calls : List Call) (plan : Plan) where
  abbrev s : State
  s = state first calls

  sized : wrong_sizes s.floor s.board (length s.records) ≡ false
  sized = (state_unbroken ready calls).sized

  -- on the board and the list of a history an opening is accepted only for as many workers and buckets as there are
  pub opens_same : reopen_number s plan ≡ 0 → (plan.workers ≡ workers_of first) × (plan.buckets ≡ buckets_of first)
  unfolding open_number
  opens_same accepted =
      let plain = (open_none (planned plan) s.board s.index (length s.records) accepted).1 in
      let now = (passes (wrong_sizes (planned plan) s.board (length s.records)) 0 0 plain).0 in
      let words = (right_sizes (planned plan) s.board _ now).words in
      let was = (right_sizes s.floor s.board _ sized).words in (
        sym (right_listed (planned plan) s.board _ now) ∙ right_listed s.floor s.board _ sized ∙ state_workers first calls,
        omega (arith, words, was, state_buckets first calls),
      )

  -- and for those it is
  pub same_opens : plan.workers ≡ workers_of first → plan.buckets ≡ buckets_of first → reopen_number s plan ≡ 0
  same_opens workers buckets =
      let fits = right_sizes s.floor s.board _ sized in
      let same_workers = workers ∙ sym (state_workers first calls) in
      let same-buckets = buckets ∙ sym (state_buckets first calls) in
      five_open (planned plan) s.board s.index (length s.records) (state_unbroken ready calls).reads.five
      ∙ opens_right (planned plan) s.board _
      (record {
        some_worker = omega (arith, same_workers, fits.some_worker);
        workers = omega (arith, same_workers, fits.workers);
        some_bucket = omega (arith, same-buckets, fits.some_bucket);
        buckets = omega (arith, same-buckets, fits.buckets);
        words = omega (arith, same-buckets, fits.words);
      })
      (right_listed s.floor s.board _ sized ∙ sym same_workers)
