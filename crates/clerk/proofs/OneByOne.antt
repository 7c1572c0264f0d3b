-- One by one, for every trace: where each commit and each close is a moment, and each other call that ended has one, the calls that ended, sorted
-- by their moments, are what the clerk would have done one by one. Lists of entries alone: nothing here knows of a board. Assumes nothing.
use Prim.Native.Nat.{ℕ, suc, ◌+◌, ◌-◌, ◌≤◌, ◌<◌}
use mathlib.Core.List.{List, [], ◌∷◌, ◌++◌, append-nil, append_assoc, filter-append}
use mathlib.Core.Logic.{ite}
use mathlib.Core.Path.{◌≡◌, refl, sym, ap, ap₂, subst, ◌∙◌}
use native.Mathlib.Decide.{ℕ_discrete, dec_le}
use native.Mathlib.Omega.{arith}
use lib.ListN.{length, take, drop, length-append, take-append-drop}
use lib.Seq.{take_at, take_all, length-take-le}
use Rattle.turn.specs.declared.Progress.{Progress}
use Rattle.turn.specs.declared.Progress.TheVariants.{GoesOn, Ended}
use Rattle.engine.specs.Move.{Line}
use Rattle.history.specs.Trace.{Turn, Entry, acted, retired, IsTurn}
use Rattle.history.proofs.Numbered.{answered_ends}
use Rattle.clerk.specs.Does.{Told, does, answers_to, list_left}
use Rattle.clerk.specs.Calls.{EndedCall, IsCallOf, Fits, IsMomentOf, HasMoments, Settles, is_settled, list_after}
use Rattle.walks.specs.Lists.{Each}
use Rattle.clerk.specs.Sequence.{Placed, DoneAt, OneByOne, done_until, asked_in, answered_in}
use Rattle.walks.proofs.Lists.{each_left, each_right, each_both, each_then}
use Rattle.clerk.proofs.ListAfter.{list_settled, list_quiet}
use Rattle.clerk.proofs.Enumerated.{EndsAfter, call_of, ended_by, ended_at, calls_from, calls_of, one_answer}
use Rattle.clerk.proofs.Enumerated.{each_is_call, calls_append, calls_later, ends_within, turn_is}
use Rattle.clerk.proofs.Moments.{moment_of, at_moment, MomentFound, finds_moment}
use Rattle.clerk.proofs.Sorted.{Any, if_so, placed_at, placed_from, At, Among, placed_each, placed_none, placed_append, from_among, from_append}
use Rattle.clerk.proofs.Arranged.{sequence_of, each_done, sorted, calls, every, once, in_order}

-- ---- the clerk through a sequence

-- the clerk, from a list, gives each its answer and comes to a list
abbrev Gives : List Line → List Placed → List Line → Type 0
Gives list [] left = list ≡ left
Gives list (x ∷ xs) left = ((does x.call.asked list).answer ≡ x.call.answer) × Gives (does x.call.asked list).list xs left

gives_append : (xs ys : List Placed) (list mid left : List Line) → Gives list xs mid → Gives mid ys left → Gives list (xs ++ ys) left
gives_append [] ys list mid left one two = rw one two
gives_append (x ∷ xs) ys list mid left one two = (one.0, gives_append xs ys (does x.call.asked list).list mid left one.1 two)

gives_answers : (xs : List Placed) (list left : List Line) → Gives list xs left → answers_to (asked_in xs) list ≡ answered_in xs
gives_answers [] list left all = refl
gives_answers (x ∷ xs) list left all =
    rw all.0 (ap (λ (l : List ℕ). x.call.answer ∷ l) (gives_answers xs (does x.call.asked list).list left all.1))

gives_left : (xs : List Placed) (list left : List Line) → Gives list xs left → list_left (asked_in xs) list ≡ left
gives_left [] list left all = all
gives_left (x ∷ xs) list left all = gives_left xs (does x.call.asked list).list left all.1

gives_fitting : (xs : List Placed) (list : List Line) → Each (λ x. Fits x.call list) xs → Gives list xs list
gives_fitting [] list all = refl
gives_fitting (x ∷ xs) list all =
    (ap (λ (y : Told). y.answer) all.0, rw (ap (λ (y : Told). y.list) all.0) (gives_fitting xs list all.1))

-- ---- those whose moment has come

module _ (m : ℕ) where
  until_all : (xs : List Placed) → Each (λ x. x.moment ≤ m) xs → done_until m xs ≡ xs
  until_all [] all = refl
  until_all (x ∷ xs) all = by (dec_le x.moment m) (until_all xs all.1)
    where
      by : (d : Dec (x.moment ≤ m)) → done_until m xs ≡ xs → ite d (x ∷ done_until m xs) (done_until m xs) ≡ x ∷ xs
      by (yes come) rest = ap (λ (l : List Placed). x ∷ l) rest
      by (no later) rest = absurd (later all.0)

  until_none : (xs : List Placed) → Each (λ x. m < x.moment) xs → done_until m xs ≡ []
  until_none [] all = refl
  until_none (x ∷ xs) all = by (dec_le x.moment m) (until_none xs all.1)
    where
      by : (d : Dec (x.moment ≤ m)) → done_until m xs ≡ [] → ite d (x ∷ done_until m xs) (done_until m xs) ≡ []
      by (yes come) rest = absurd (omega (arith, all.0))
      by (no later) rest = rest

-- ---- a trace whose calls have their moments

module _ (trace : List Entry) (given : HasMoments trace) where
  abbrev moment : EndedCall → ℕ
  moment = moment_of trace

  abbrev Done : EndedCall → Type 0
  Done c = DoneAt trace (at_moment trace c)

  moments : Each (MomentFound trace) (calls_of trace)
  moments =
      each_then (IsCallOf trace) (MomentFound trace) (λ c is. finds_moment trace c is (given.others c is)) (calls_of trace) (each_is_call trace)

  -- ---- one entry

  module _ (past : List Entry) (e : Entry) (rest : List Entry) (cut : trace ≡ past ++ (e ∷ rest)) where
    abbrev next : List Entry
    next = past ++ (e ∷ [])

    abbrev n : ℕ
    n = length past + 1

    -- the calls that this turn ends
    abbrev here : List EndedCall
    here = ended_at past e

    -- the calls that later turns end
    abbrev later : List EndedCall
    later = calls_from next rest

    parts : calls_of trace ≡ calls_of past ++ (here ++ later)
    parts = rw cut (calls_append past [] (e ∷ rest))

    parts_done : Each Done (calls_of past ++ (here ++ later))
    parts_done = subst (Each Done) parts (each_done trace moments)

    -- a call that ended before has no moment here
    none_past : placed_at moment n (calls_of past) ≡ []
    none_past =
        placed_none moment n (λ c. Done c × (c.last ≤ length past)) (λ c known at. omega (arith, known.0.within.to, known.1)) (calls_of past)
        (each_both Done (λ c. c.last ≤ length past) (calls_of past) (each_left Done (calls_of past) (here ++ later) parts_done)
        (each_then (IsCallOf past) (λ c. c.last ≤ length past) (ends_within past) (calls_of past) (each_is_call past)))

    placed_here : placed_at moment n (calls_of trace) ≡ placed_at moment n here ++ placed_at moment n later
    placed_here =
        ap (placed_at moment n) parts
        ∙ placed_append moment n (calls_of past) (here ++ later)
        ∙ ap (λ (l : List Placed). l ++ placed_at moment n (here ++ later)) none_past
        ∙ placed_append moment n here later

    -- the first n turns
    first_n : take n trace ≡ next
    first_n = rw (cut, ← append_assoc past (e ∷ []) rest) (take_at next rest n (length-append past (e ∷ [])))

    -- at a moment that is this turn the clerk has the list after it
    fits_here : (c : EndedCall) → IsMomentOf trace c n → Fits c (list_after next)
    fits_here c is = rw first_n at is.fits

    -- a call that ends later, and has its moment here
    later_fits : (x : Placed) → At moment (λ c. Done c × EndsAfter n c) n x → Fits x.call (list_after next)
    later_fits x at =
        let done : Done x.call = at.0.0 in
        let is = done.other (λ settled. omega (arith, done.won settled, at.0.1, at.2)) in
        fits_here x.call (rw at.2 at is)

    gives_later : Gives (list_after next) (placed_at moment n later) (list_after next)
    gives_later =
        gives_fitting (placed_at moment n later) (list_after next)
        (each_then (At moment (λ c. Done c × EndsAfter n c) n) (λ x. Fits x.call (list_after next)) later_fits (placed_at moment n later)
        (placed_each moment n (λ c. Done c × EndsAfter n c) later
        (each_both Done (EndsAfter n) later (each_right Done here later (each_right Done (calls_of past) (here ++ later) parts_done))
        (calls_later rest next n (omega (arith, length-append past (e ∷ [])))))))

  -- ---- a turn that ends a call, or does not

  module _ (past : List Entry) (e : Turn) (rest : List Entry) (cut : trace ≡ past ++ (acted e ∷ rest)) where
    abbrev then : List Entry
    then = past ++ (acted e ∷ [])

    abbrev m : ℕ
    m = length past + 1

    -- a call that this turn ends
    module _ (answer : ℕ) (told : e.report.progress ≡ Ended answer) (done : Done (call_of past e answer)) where
      abbrev c : EndedCall
      c = call_of past e answer

      turn_e : acted done.is.at.turn ≡ acted e
      turn_e = turn_is trace c done.is past (acted e) rest cut refl

      -- by a commit or a close: the clerk does it on the list before this turn
      gives_won : Settles e → (d : Dec (moment c ≡ m)) → Gives (list_after past) (if_so d c m []) (list_after then)
      gives_won settled (yes at) =
          let is = given.won (record { before = past; turn = e; after = rest; cut = cut }) settled in
          (one_answer _ _ (sym is ∙ told), sym (list_settled past (acted e) settled))
      gives_won settled (no other) = absurd (other (done.won (subst (IsTurn Settles) (sym turn_e) settled)))

      -- by neither: if its moment is here, it is one more that leaves the list
      gives_other : (Settles e → ⊥) → (d : Dec (moment c ≡ m)) → Gives (list_after past) (if_so d c m []) (list_after then)
      gives_other quiet (yes at) =
          let is = done.other (λ settled. quiet (subst (IsTurn Settles) turn_e settled)) in
          let fits : Fits c (list_after past) = subst (Fits c) (list_quiet past (acted e) quiet) (fits_here past (acted e) rest cut c (rw at at is)) in
          (ap (λ (y : Told). y.answer) fits, ap (λ (y : Told). y.list) fits ∙ sym (list_quiet past (acted e) quiet))
      gives_other quiet (no elsewhere) = sym (list_quiet past (acted e) quiet)

    by_progress :
        (p : Progress)
        → e.report.progress ≡ p
        → Each Done (ended_by past e p)
        → Dec (Settles e)
        → Gives (list_after past) (placed_at moment m (ended_by past e p)) (list_after then)
    by_progress GoesOn told done (yes settled) =
        absurd (answered_ends e _ (given.won (record { before = past; turn = e; after = rest; cut = cut }) settled) told)
    by_progress GoesOn told done (no quiet) = sym (list_quiet past (acted e) quiet)
    by_progress (Ended answer) told done (yes settled) = gives_won answer told done.0 settled (ℕ_discrete (moment (call_of past e answer)) m)
    by_progress (Ended answer) told done (no quiet) = gives_other answer told done.0 quiet (ℕ_discrete (moment (call_of past e answer)) m)

  -- the calls that an entry ends, and whose moment it is, take the clerk from the list before it to the list after it
  gives_here :
      (past : List Entry) (e : Entry) (rest : List Entry)
      → trace ≡ past ++ (e ∷ rest)
      → Each Done (ended_at past e)
      → Gives (list_after past) (placed_at moment (length past + 1) (ended_at past e)) (list_after (past ++ (e ∷ [])))
  gives_here past (acted e) rest cut done = by_progress past e rest cut e.report.progress refl done (is_settled (acted e))
  gives_here past (retired r) rest cut done = sym (list_quiet past (retired r) (λ turn. turn))

  module _ (past : List Entry) (e : Entry) (rest : List Entry) (cut : trace ≡ past ++ (e ∷ rest)) where
    -- the calls whose moment is this entry take the clerk from the list before it to the list after it
    gives_turn : Gives (list_after past) (placed_at moment (length past + 1) (calls_of trace)) (list_after (past ++ (e ∷ [])))
    gives_turn =
        let next : List Entry = past ++ (e ∷ []) in
        let ended : List EndedCall = ended_at past e in
        let more : List EndedCall = calls_from next rest in
        subst (λ (l : List Placed). Gives (list_after past) l (list_after next)) (sym (placed_here past e rest cut))
        (gives_append (placed_at moment (length past + 1) ended) (placed_at moment (length past + 1) more) (list_after past) (list_after next) (list_after next)
        (gives_here past e rest cut (each_left Done ended more (each_right Done (calls_of past) (ended ++ more) (parts_done past e rest cut))))
        (gives_later past e rest cut))

  -- ---- all turns

  -- from the turns done until then to those that are done next
  gives_from :
      (past next rest : List Entry) (m : ℕ)
      → trace ≡ past ++ (next ++ rest)
      → m ≡ length past + 1
      → Gives (list_after past) (placed_from moment m (length next) (calls_of trace)) (list_after (past ++ next))
  gives_from past [] rest m cut is = ap list_after (sym (append-nil past))
  gives_from past (e ∷ next) rest m cut is =
      let then : List Entry = past ++ (e ∷ []) in
      subst (λ (l : List Entry). Gives (list_after past) (placed_from moment m (length (e ∷ next)) (calls_of trace)) (list_after l))
      (append_assoc past (e ∷ []) next)
      (gives_append (placed_at moment m (calls_of trace)) (placed_from moment (suc m) (length next) (calls_of trace)) (list_after past)
      (list_after then) (list_after (then ++ next))
      (subst (λ (k : ℕ). Gives (list_after past) (placed_at moment k (calls_of trace)) (list_after then)) (sym is) (gives_turn past e (next ++ rest) cut))
      (gives_from then next rest (suc m) (cut ∙ sym (append_assoc past (e ∷ []) (next ++ rest))) (omega (arith, length-append past (e ∷ [])))))

  gives_all : Gives [] (sequence_of trace) (list_after trace)
  gives_all = gives_from [] trace [] 1 (sym (append-nil trace)) refl

  -- the calls that have their moment at turn m or at one of the k - 1 turns after it
  abbrev from : ℕ → ℕ → List Placed
  from m k = placed_from moment m k (calls_of trace)

  among : (m k : ℕ) → Each (Among moment Any m k) (from m k)
  among m k = from_among moment k m (calls_of trace)

  -- those of the first k turns have all come by turn m
  come : (m k : ℕ) → k ≤ m → done_until m (from 1 k) ≡ from 1 k
  come m k low = until_all m (from 1 k) (each_then (Among moment Any 1 k) (λ x. x.moment ≤ m) (λ x at. omega (arith, at.3)) (from 1 k) (among 1 k))

  -- and none of those of later turns
  to_come : (m k : ℕ) → done_until m (from (m + 1) k) ≡ []
  to_come m k =
      until_none m (from (m + 1) k)
      (each_then (Among moment Any (m + 1) k) (λ x. m < x.moment) (λ x at. omega (arith, at.2)) (from (m + 1) k) (among (m + 1) k))

  -- just after each turn, having done those whose moment has come, the clerk has the list as it stands then
  keeps : (m : ℕ) → list_left (asked_in (done_until m (sequence_of trace))) [] ≡ list_after (take m trace)
  keeps m = by (dec_le m (length trace))
    where
      left : List Placed → List Line
      left xs = list_left (asked_in xs) []

      by : Dec (m ≤ length trace) → left (done_until m (sequence_of trace)) ≡ list_after (take m trace)
      by (no past) =
          ap left (come m (length trace) (omega arith))
          ∙ gives_left (sequence_of trace) [] (list_after trace) gives_all
          ∙ ap list_after (sym (take_all m trace (omega arith)))
      by (yes within) =
          let first = from 1 m in
          let rest = from (m + 1) (length trace - m) in
          let gives : Gives [] first (list_after (take m trace)) =
          subst (λ (k : ℕ). Gives [] (from 1 k) (list_after (take m trace))) (length-take-le m trace within)
          (gives_from [] (take m trace) (drop m trace) 1 (sym (take-append-drop m trace)) refl) in
          let parts : sequence_of trace ≡ first ++ rest =
          from_append moment m (length trace - m) 1 (m + 1) (length trace) (calls_of trace) refl (omega arith) in
          let done : done_until m (sequence_of trace) ≡ first =
          ap (done_until m) parts
          ∙ filter-append (λ x. dec_le x.moment m) first rest
          ∙ ap₂ (λ (xs ys : List Placed). xs ++ ys) (come m m (omega arith)) (to_come m (length trace - m))
          ∙ append-nil first in
          ap left done ∙ gives_left first [] (list_after (take m trace)) gives

  -- the calls that ended, sorted by their moments, are the trace's calls one by one
  pub one_by_one : OneByOne trace (sequence_of trace)
  one_by_one =
      record {
        sorted = sorted trace moments;
        calls = calls trace moments;
        every = every trace moments;
        once = once trace moments;
        answers = gives_answers (sequence_of trace) [] (list_after trace) gives_all;
        keeps = keeps;
        ends = gives_left (sequence_of trace) [] (list_after trace) gives_all;
        in_order = in_order trace moments;
      }
