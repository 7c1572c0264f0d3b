-- All that holds of an opened board while inserts are few, one clause a file; that every start, turn and retiring keeps it; that it holds where a
-- stretch begins; and what follows for each turn of a history. Assumes nothing.
use Prim.Native.Nat.{ℕ, ◌+◌, ◌^◌, ◌<◌}
use mathlib.Core.List.{List, [], ◌∷◌, ◌++◌, append_assoc}
use mathlib.Core.Path.{◌≡◌, refl, sym, subst, ◌∙◌}
use native.Mathlib.Omega.{arith}
use lib.ListN.{length, length-append}
use Rattle.turn.specs.declared.Worker.{Worker}
use Rattle.turn.specs.declared.Progress.TheVariants.{Ended}
use Rattle.engine.specs.Board.{lots_on}
use Rattle.history.specs.Trace.{Turn, Retiring, Entry, acted, retired, IsTurn, total}
use Rattle.history.specs.History.{State, workers_of, buckets_of, record_of}
use Rattle.history.specs.Cells.{cells_at, home}
use Rattle.history.proofs.View as walks
use Rattle.history.proofs.View.{Acts}
use Rattle.history.proofs.States.{view}
use Rattle.history.proofs.Counts.{onto}
use Rattle.history.proofs.Good.{Good, walk_good}
use Rattle.history.proofs.Steps.{Begins, Turns, Retires, Lasts}
use Rattle.history.proofs.Spent.{Spent, spent_lasts}
use Rattle.history.proofs.Paid.{Paid, paid_lasts, ready_paid}
use Rattle.history.proofs.Ready.{Ready, rests, ready_unaware}
use Rattle.history.proofs.Beginning.{ready_good}
use Rattle.history.proofs.NoValueComesBack.{ready_spent}
use Rattle.history.proofs.Cells.{Known, known_lasts, ready_known}
use Rattle.history.proofs.Later.{CutLast, last, sooner, cut_last}
use Rattle.clerk.specs.Does.{told, does}
use Rattle.clerk.specs.Calls.{asks, Settles, list_after}
use Rattle.clerk.proofs.Since.{since}
use Rattle.clerk.proofs.Counts.{bumps_in}
use Rattle.clerk.proofs.Sometime.{Sometime}
use Rattle.clerk.proofs.Deals.{Deals, nothing, comes, goes, turn_deals}
use Rattle.clerk.proofs.Recalls.{Recalled, turn_recalled, retiring_recalled, start_recalled}
use Rattle.clerk.proofs.Knows.{Knowing, nothing_known, turn_knowing, retiring_knowing, start_knowing}
use Rattle.clerk.proofs.Distinct.{Distinct, turn_distinct, retiring_distinct, start_distinct}
use Rattle.clerk.proofs.Listing.{Lists, Long, commit_answers, close_answers, turn_lists, turn_long}
use Rattle.clerk.proofs.Listing.{retiring_lists, retiring_long, start_lists}
use Rattle.clerk.proofs.Tickets.{Tickets, turn_tickets, retiring_tickets, start_tickets}
use Rattle.clerk.proofs.Seen.{Seen, turn_seen, retiring_seen, start_seen}
use Rattle.clerk.proofs.Begun.{Begun, first_turn, turn_begun, retiring_begun, start_begun}
use Rattle.clerk.proofs.Found.{HadSince, Founded, no_reasons, turn_founded, retiring_founded, start_founded}
use Rattle.clerk.proofs.Zero.{Missing, turn_missing, retiring_missing, start_missing}
use Rattle.clerk.proofs.Answers.{turn_answers}
use Rattle.clerk.proofs.Steps.{Sized}

-- ---- what is right of a turn

-- what is right of a turn e after these: a commit or a close gives the clerk's answer, and any other end gives one that was the clerk's at
-- some turn of the call
pub record Right (past : List Entry) (e : Turn) : Type 0 where
  pub settled : Settles e → e.report.progress ≡ Ended (does (asks e.was) (list_after past)).answer
  pub ended :
      (Settles e → ⊥)
      → (a : ℕ)
      → e.report.progress ≡ Ended a
      → Sometime (first_turn e.worker past) (past ++ (acted e ∷ [])) (λ list. does (asks e.was) list ≡ told a list)

-- every turn of the past was right
abbrev pub AllRight : List Entry → Type 0
AllRight past = (before : List Entry) (e : Turn) (later : List Entry) → past ≡ before ++ (acted e ∷ later) → Right before e

-- and so is every turn with an entry more, if that one is right where it is a turn
right_on : (past : List Entry) (d : Entry) → AllRight past → ((e : Turn) → d ≡ acted e → Right past e) → AllRight (past ++ (d ∷ []))
right_on past d old mine before e later cut = by (cut_last d (acted e) later past before cut)
  where
    by : CutLast past d before (acted e) → Right before e
    by (last is at) = rw is (mine e (sym at))
    by (sooner rest cut) = old before e rest cut

-- ---- what holds all the time

-- where the present stretch began in this state, as an opening or the last move that was done left it
module _ (first : State) where
  -- N
  abbrev n : ℕ
  n = buckets_of first

  -- what demand 3 follows from, over the entries of the stretch
  abbrev Goes : State → List Entry → ℕ → Type 0
  Goes s newer many = Good (workers_of first) n (view first).marks (view s) (onto newer []) many

  -- the entries since the opening, those of them since the stretch began, and the tickets spent since then
  pub record Standing (s : State) (past newer : List Entry) (ts : List ℕ) : Type 0 where
    pub sized : Sized n s
    -- what demand 3 follows from, and what is known of slots and of tickets
    pub many : ℕ
    pub good : Goes s newer many
    pub known : Known s
    pub spent : Spent first.floor.last s newer ts
    pub paid : Paid s newer ts
    -- what each worker has in mind, and what it knows by it
    pub recalled : Recalled n newer s
    pub knowing : Knowing n s
    -- valid slots, and the clerk's list
    pub distinct : Distinct s
    pub lists : Lists n past s
    pub long : Long (lots_on first.board n) past newer
    -- values, and what was seen of them
    pub tickets : Tickets n s
    pub seen : Seen n s
    -- why answers are right
    pub begun : Begun past s
    pub founded : Founded n past s
    pub missing : Missing n past s
    -- and that they were
    pub right : AllRight past

  -- ---- a start

  begins_standing :
      {s t : State} {v : Worker} {spent : List ℕ} (past newer : List Entry) (ts : List ℕ)
      → Begins s v spent t
      → Standing s past newer ts
      → Standing t past newer (ts ++ spent)
  begins_standing past newer ts start old =
      record {
        sized = start.buckets ∙ old.sized;
        many = _;
        good =
            walk_good (workers_of first) n (view first).marks (walks.starts start.starts walks.stays) (onto newer []) old.many old.good;
        known = known_lasts.begins newer ts start old.known;
        spent = spent_lasts.begins newer ts start old.spent;
        paid = paid_lasts.begins newer ts start old.paid;
        recalled = start_recalled n newer start old.recalled;
        knowing = start_knowing n start old.knowing;
        distinct = start_distinct start old.distinct;
        lists = start_lists n past start old.lists;
        long = old.long;
        tickets = start_tickets n start old.tickets;
        seen = start_seen n start old.seen;
        begun = start_begun past start old.begun;
        founded = start_founded n past start old.founded;
        missing = start_missing n past start old.begun old.missing;
        right = old.right;
      }

  -- ---- a turn

  -- with a turn more, the newest is the first
  onto_then : (newer : List Entry) (e : Entry) (older : List Entry) → onto (newer ++ (e ∷ [])) older ≡ e ∷ onto newer older
  onto_then [] e older = refl
  onto_then (x ∷ newer) e older = onto_then newer e (x ∷ older)

  -- where fewer than 2^32 tickets were spent since the stretch began, versions were moved less often than that
  few_moves : (s : State) (newer : List Entry) (ts : List ℕ) → length ts < 2 ^ 32 → Paid s newer ts → bumps_in newer < 2 ^ 32
  few_moves s newer ts few paid = omega (arith, few, paid)

  -- with an entry more, what demand 3 follows from holds still
  good_on :
      {s : State} (t : State) (past newer : List Entry) (ts : List ℕ) (e : Entry) {v : Worker}
      → Acts s.floor.buckets (view s) e v (view t)
      → (old : Standing s past newer ts)
      → Goes t (newer ++ (e ∷ [])) (0 + old.many)
  good_on {s} t past newer ts e {v} act old =
      subst (λ (es : List Entry). Good (workers_of first) n (view first).marks (view t) es (0 + old.many)) (sym (onto_then newer e []))
      (walk_good (workers_of first) n (view first).marks
      (walks.acts (subst (λ (k : ℕ). Acts k (view s) e v (view t)) old.sized act) walks.stays) (onto newer []) old.many old.good)

  module _ {s t : State} {e : Turn} (past newer : List Entry) (ts : List ℕ) (act : Turns s e t) (old : Standing s past newer ts) where
    abbrev now : List Entry
    now = past ++ (acted e ∷ [])

    good_then : Goes t (newer ++ (acted e ∷ [])) (0 + old.many)
    good_then = good_on t past newer ts (acted e) act.acts old

    known_then : Known t
    known_then = known_lasts.turns newer ts act old.known

    lists_then : Lists n now t
    lists_then = turn_lists n past old.sized act old.known old.knowing old.distinct old.lists

    tickets_then : Tickets n t
    tickets_then = turn_tickets n newer ts old.sized act old.spent old.tickets

    -- at some turn of the call the clerk gives this answer, and leaves the list
    answered :
        (Settles e → ⊥)
        → (a : ℕ)
        → e.report.progress ≡ Ended a
        → Sometime (first_turn e.worker past) now (λ list. does (asks e.was) list ≡ told a list)
    answered unsettled =
        turn_answers n past old.sized act old.known known_then old.knowing old.distinct old.begun old.seen lists_then
        old.founded old.missing unsettled

    turns_right : Right past e
    turns_right =
        record { settled = by (turn_deals act old.known); ended = answered }
      where
        by : Deals s e t → Settles e → e.report.progress ≡ Ended (does (asks e.was) (list_after past)).answer
        by (nothing unsettled slots) settles = absurd (unsettled settles)
        by (comes commit did) settles = commit_answers n past old.sized act old.known old.knowing old.distinct old.lists commit did
        by (goes close did) settles = close_answers n past old.sized act old.known old.knowing old.distinct old.lists close did

    turns_standing : length ts < 2 ^ 32 → Standing t now (newer ++ (acted e ∷ [])) ts
    turns_standing fewer =
        let paid-then = paid_lasts.turns newer ts act old.paid in
        let few = few_moves t (newer ++ (acted e ∷ [])) ts fewer paid-then in
        record {
          sized = act.buckets ∙ old.sized;
          many = 0 + old.many;
          good = good_then;
          known = known_then;
          spent = spent_lasts.turns newer ts act old.spent;
          paid = paid-then;
          recalled = turn_recalled n newer old.sized act (turn_deals act old.known) old.recalled;
          knowing = turn_knowing n newer old.sized act old.known few old.recalled old.knowing;
          distinct = turn_distinct n old.sized act old.known old.knowing old.distinct;
          lists = lists_then;
          long =
              turn_long n past old.sized act old.known old.knowing old.distinct old.lists (lots_on first.board n) newer
              old.long;
          tickets = tickets_then;
          seen = turn_seen n old.sized act known_then old.tickets tickets_then old.seen;
          begun = turn_begun past act old.begun;
          founded = turn_founded n past old.sized act old.known old.seen old.begun lists_then old.founded;
          missing =
              turn_missing n past old.sized act old.known known_then old.knowing old.distinct old.begun lists_then
              old.missing;
          right = right_on past (acted e) old.right (λ d is. subst (IsTurn (Right past)) is turns_right);
        }

  -- ---- a retiring

  retires_standing :
      {s t : State} {r : Retiring} (past newer : List Entry) (ts : List ℕ)
      → Retires s r t
      → length ts < 2 ^ 32
      → Standing s past newer ts
      → Standing t (past ++ (retired r ∷ [])) (newer ++ (retired r ∷ [])) ts
  retires_standing {t = t} {r} past newer ts act fewer old =
      let good_then = good_on t past newer ts (retired r) act.acts old in
      let paid-then = paid_lasts.retires newer ts act old.paid in
      let few = few_moves t (newer ++ (retired r ∷ [])) ts fewer paid-then in
      record {
        sized = act.buckets ∙ old.sized;
        many = 0 + old.many;
        good = good_then;
        known = known_lasts.retires newer ts act old.known;
        spent = spent_lasts.retires newer ts act old.spent;
        paid = paid-then;
        recalled = retiring_recalled n newer act old.recalled;
        knowing = retiring_knowing n newer act old.known few old.recalled old.knowing;
        distinct = retiring_distinct act old.distinct;
        lists = retiring_lists n past act old.known old.lists;
        long = retiring_long (lots_on first.board n) past newer r old.long;
        tickets = retiring_tickets n act old.tickets;
        seen = retiring_seen n act old.seen;
        begun = retiring_begun past act old.begun;
        founded = retiring_founded n past act old.founded;
        missing = retiring_missing n past act old.known old.missing;
        right = right_on past (retired r) old.right (λ e is. absurd (subst (IsTurn (λ t. Unit {0})) (sym is) tt));
      }

  -- ---- any number of them

  -- all of them keep it, whatever was done before the stretch began, while fewer than 2^32 tickets were spent since then
  pub standing_lasts : (older : List Entry) → Lasts (λ s newer ts. length ts < 2 ^ 32 → Standing s (older ++ newer) newer ts)
  standing_lasts older =
      record {
        begins = λ {spent = spent} newer ts start old few.
            begins_standing (older ++ newer) newer ts start (old (omega (arith, few, length-append ts spent)));
        turns = λ newer ts act old few. moved_in _ newer ts _ (turns_standing (older ++ newer) newer ts act (old few) few);
        retires = λ newer ts act old few. moved_in _ newer ts _ (retires_standing (older ++ newer) newer ts act few (old few));
      }
    where
      moved_in :
          (t : State) (newer : List Entry) (ts : List ℕ) (e : Entry)
          → Standing t ((older ++ newer) ++ (e ∷ [])) (newer ++ (e ∷ [])) ts
          → Standing t (older ++ (newer ++ (e ∷ []))) (newer ++ (e ∷ [])) ts
      moved_in t newer ts e = subst (λ (past : List Entry). Standing t past (newer ++ (e ∷ [])) ts) (append_assoc older newer (e ∷ []))

-- ---- where a stretch begins

-- every worker rests there, so that all that is said of workers holds; what is left is said of the list and of what was done before
pub ready_standing :
    {first : State} (ready : Ready first) (past : List Entry)
    → ((i : ℕ) → since i past ≡ 0)
    → Distinct first
    → Lists (buckets_of first) past first
    → length (list_after past) ≡ lots_on first.board (buckets_of first)
    → AllRight past
    → Standing first first past [] []
unfolding total
ready_standing {first} ready past none distinct lists long right =
    let n = buckets_of first in
    let w : ℕ → Worker = record_of first in
    let c : ℕ → ℕ → ℕ = λ i. cells_at first (home n (w i)) in
    record {
      sized = refl;
      many = 0;
      good = ready_good ready;
      known = ready_known ready;
      spent = ready_spent ready;
      paid = ready_paid ready;
      recalled = λ i aware. absurd (ready_unaware ready i aware);
      knowing = λ i other current. nothing_known (c i) (w i) (omega (arith, (rests ready i).place));
      distinct = distinct;
      lists = lists;
      long = omega (arith, long);
      tickets =
          record {
            values = λ b p few. ready.values b p;
            stands = λ i b p insert. absurd (omega (arith, insert, (rests ready i).kind));
          };
      seen = λ i from. absurd (omega (arith, from, (rests ready i).place));
      begun = λ i. record { fresh = λ is. (omega (arith, (rests ready i).place), (rests ready i).slot); rests = λ is. none i };
      founded = λ i. no_reasons (HadSince (since i past) past (w i).key) (c i) (w i) (omega (arith, (rests ready i).place));
      missing = λ i some. absurd (omega (arith, some, none i));
      right = right;
    }
