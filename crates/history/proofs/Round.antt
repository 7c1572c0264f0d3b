-- A version comes round after 2^32 commits, and then the swap of whoever slept through them is won (§3.8): so inserts have to be few in demand
-- 3, and 2^32 are one too many. A round, in which the lot is closed and put up again, raises the version and leaves the mark word as it was
-- else; the law of n rounds follows by induction. Assumes nothing.
use Prim.Native.Nat.{ℕ, zero, suc, ◌+◌, ◌^◌, ◌≤◌, ◌<◌}
use mathlib.Core.Bool.{false}
use mathlib.Core.List.{List, [], ◌∷◌, ◌++◌}
use mathlib.Core.Logic.Dec
use mathlib.Core.Logic.{inl, inr}
use mathlib.Core.Path.{◌≡◌, refl, sym, ap, subst, ◌∙◌}
use native.Mathlib.Decide.{ℕ_discrete}
use native.Mathlib.Omega.{arith}
use lib.ListN.{length, get_or-replicate}
use Rattle.mark.specs.Word.{set_mark, bump}
use Rattle.mark.proofs.Fields.{mark_set, mark_set_other}
use Rattle.turn.specs.declared.Worker.{Worker}
use Rattle.turn.specs.declared.Action.TheVariants.{Read, Won}
use Rattle.turn.specs.Worker.{idle, insert_of, remove_of}
use Rattle.turn.specs.Bucket.{cell, value_cell}
use Rattle.turn.specs.Places.{leaves, goes_on, ends}
use Rattle.turn.specs.Turn.{report_of}
use Rattle.turn.proofs.Sound.{whole_parts}
use Rattle.engine.specs.Board.{bucket_at}
use Rattle.engine.specs.Calls.{blank}
use Rattle.floor.specs.Told.{action_number}
use Rattle.history.specs.Trace.{Turn, Entry, acted, By, In, Wins, Closes, IsTurn, Some, None, total}
use Rattle.history.specs.Counts.{commits_in, closes_in, is_commit, is_close, one_if}
use Rattle.history.specs.Moment.{Own, Sees, AtMoment, CommittedOrClosedByAnother}
use Rattle.history.specs.History.{State, Call, workers_of, record_of, remove, turn, ticket, trace, state_from}
use Rattle.history.specs.Values.{value_at}
use Rattle.history.specs.Cells.{mark_word_at}
use Rattle.history.specs.Round.{turns_by, falls_asleep, round, rounds, sleeps_through, StandsAlone, ComesRound}
use Rattle.history.proofs.Ready.{Ready}
use Rattle.history.proofs.Listed.{idle_up}
use Rattle.history.proofs.Counts.{total_append}
use Rattle.history.proofs.Cuts.{none_nil, some_here, some_later, some_as, none_more, none_append}
use Rattle.history.proofs.Later.{some_front, some_back}
use Rattle.history.proofs.RoundPlaces.{Single, raised, raised_round, raised_single, valid_again}
use Rattle.history.proofs.RoundPlaces.{Beside, cells, at_key, at_ticket, at_swap, reading, closing, inserting}
use Rattle.history.proofs.RoundTurns.{Plays, entries_of, plays_own, follows_first, Stage, turn_about}
use Rattle.history.proofs.RoundTurns.{Goes, goes_nowhere, goes_then, goes_turns, goes_remove, goes_insert, goes_about}

-- ---- traces

-- worker 0 closes a lot in bucket 0
abbrev Closing : Entry → Type 0
Closing e = By 0 e × In 0 e × IsTurn Closes e

-- what is done in so many rounds: nothing of worker 1's, and as many commits and closes of worker 0
record InRounds (n : ℕ) (es : List Entry) : Type 0 where
  own : None (By 1) es
  commits : commits_in es ≡ n
  closes : closes_in es ≡ n
  closed : 0 < n → Some Closing es

-- workers 0 and 1 are two
apart : ◌≡◌ {A = ℕ} 1 0 → ⊥
apart is = omega arith

other : ◌≡◌ {A = ℕ} 0 1 → ⊥
other is = omega arith

-- ---- a round

module _ {first : State} (ready : Ready first) (k : Beside) where
  module _ (v : Worker) (s : State) (last m x : ℕ) (single : Single m) (at : Stage ready 0 1 s last (cells k m x) idle v) where
    -- the turns of its remove: three that read, and a swap
    abbrev reads : Plays 0 3 (cells k m x) (remove_of k.lot) (cells k m x) (at_swap k m x)
    reads = reading k 0 m x single.valid

    abbrev closes : Plays 0 1 (cells k m x) (at_swap k m x) (cells k (set_mark m 0 0) x) idle
    closes = closing k 0 m x x

    -- worker 0 closes the lot
    goes_close : Goes ready apart s (remove 0 k.lot ∷ turns_by 0 4) (entries_of 0 reads ++ entries_of 0 closes) last (cells k (set_mark m 0 0) x) idle v 0
    goes_close =
        let starts = goes_remove ready apart at k.lot in
        let comes = goes_then ready apart starts (goes_turns ready apart reads starts.stage) in
        goes_then ready apart comes (goes_turns ready apart closes comes.stage)

    module _ (t : ℕ) (above : last < t) (fits : t < 2 ^ 64) where
      -- the ticket has 64 bits
      small : (ticket t).number ≡ t
      small = omega arith

      -- the mark word after its close and the next commit
      abbrev word_then : ℕ
      word_then = bump (set_mark (set_mark m 0 0) 0 1)

      -- the turns of its insert
      abbrev inserts : Plays 0 11 (cells k (set_mark m 0 0) x) (insert_of k.lot (ticket t).number) (cells k word_then (ticket t).number) idle
      inserts =
          inserting k (set_mark m 0 0) x (ticket t).number 0 (mark_set m 0 0 (omega arith) (omega arith))
          (mark_set_other m 0 0 1 (omega arith) (omega arith) ∙ single.empty1) (mark_set_other m 0 0 2 (omega arith) (omega arith) ∙ single.empty2)

      -- what is done in the round
      abbrev round_entries : List Entry
      round_entries = (entries_of 0 reads ++ entries_of 0 closes) ++ entries_of 0 inserts

      -- and puts it up again on a later ticket: the version is raised, and the mark word is the same else
      one_round : Goes ready apart s (round k.lot t) round_entries t (cells k (bump m) t) idle v 1
      one_round =
          let starts = goes_insert ready apart goes_close.stage k.lot (ticket t) (omega (arith, above, small)) in
          let whole = goes_then ready apart goes_close (goes_then ready apart starts (goes_turns ready apart inserts starts.stage)) in
          let Leaves : ℕ → ℕ → Type 0 = λ word n. Goes ready apart s (round k.lot t) round_entries n (cells k (bump word) n) idle v 1 in
          subst (λ (word : ℕ). Leaves word t) (valid_again m single) (subst (Leaves (set_mark (set_mark m 0 0) 0 1)) small whole)

      -- one commit and one close, and nothing of the sleeper's
      round_counts : InRounds 1 round_entries
      unfolding reading closing inserting total ℕ_discrete Dec.and
      round_counts =
          record {
            own =
                none_append (By 1) _ _ (none_append (By 1) _ _ (plays_own 0 1 apart reads) (plays_own 0 1 apart closes)) (plays_own 0 1 apart inserts);
            commits = refl;
            closes = refl;
            closed = λ some.
                some_front Closing _ (entries_of 0 inserts)
                (some_back Closing (entries_of 0 reads) (entries_of 0 closes) (some_here Closing _ [] (refl, refl, (refl, refl))));
          }

  -- ---- rounds

  -- the ticket of the lot after so many rounds
  abbrev stands_on : ℕ → ℕ → ℕ → ℕ
  stands_on last x zero = x
  stands_on last x (suc n) = last + suc n

  module _ (v : Worker) (s : State) (last m x : ℕ) (single : Single m) (at : Stage ready 0 1 s last (cells k m x) idle v) where
    -- so many rounds from s: each begins an insert and raises the version, and the sleeper is left alone
    record Rounds (n : ℕ) : Type 0 where
      done : List Entry
      goes : Goes ready apart s (rounds k.lot last n) done (last + n) (cells k (raised n m) (stands_on last x n)) idle v n
      counts : InRounds n done

    -- before the first
    none_yet : Rounds 0
    unfolding rounds raised total
    none_yet =
        record {
          done = [];
          goes = subst (λ (t : ℕ). Goes ready apart s [] [] t (cells k m x) idle v 0) (omega arith) (goes_nowhere ready apart at);
          counts = record { own = none_nil (By 1); commits = refl; closes = refl; closed = λ some. absurd (omega arith) };
        }

    -- one round more
    one_more : (n : ℕ) → last + suc n < 2 ^ 64 → Rounds n → Rounds (suc n)
    unfolding rounds raised
    one_more n fits before =
        let t : ℕ = last + suc n in
        let alone = raised_single m single n in
        let goes = one_round v _ (last + n) (raised n m) (stands_on last x n) alone before.goes.stage t (omega arith) (omega arith) in
        let counts = round_counts v _ (last + n) (raised n m) (stands_on last x n) alone before.goes.stage t (omega arith) (omega arith) in
        let es : List Entry = round_entries v _ (last + n) (raised n m) (stands_on last x n) alone before.goes.stage t (omega arith) (omega arith) in
        let Leaves : ℕ → Type 0 =
        λ i. Goes ready apart s (rounds k.lot last (suc n)) (before.done ++ es) t (cells k (raised (suc n) m) t) idle v i in
        record {
          done = before.done ++ es;
          goes = subst Leaves (omega arith) (goes_then ready apart before.goes goes);
          counts =
              record {
                own = none_append (By 1) before.done es before.counts.own counts.own;
                commits = omega (arith, total_append (λ e. one_if (is_commit e)) before.done es, before.counts.commits, counts.commits);
                closes = omega (arith, total_append (λ e. one_if (is_close e)) before.done es, before.counts.closes, counts.closes);
                closed = λ some. some_back Closing before.done es (counts.closed (omega arith));
              };
        }

    -- the law of n rounds
    all_rounds : (n : ℕ) → last + n < 2 ^ 64 → Rounds n
    all_rounds zero fits = none_yet
    all_rounds (suc n) fits = one_more n fits (all_rounds n (omega arith))

-- ---- the first state

-- so many numbers, one after another
abbrev numbers : (ℕ → ℕ) → ℕ → List ℕ
numbers c zero = []
numbers c (suc n) = c 0 ∷ numbers (λ i. c (suc i)) n

-- a list is the numbers that stand in it
numbers_are : (l : List ℕ) → l ≡ numbers (cell l) (length l)
numbers_are [] = refl
numbers_are (x ∷ l) = ap (λ (rest : List ℕ). x ∷ rest) (numbers_are l)

-- a turn that reads a key or a ticket neither reads the mark word whole nor changes it
unseeing : (e : Turn) → e.report.action ≡ Read → 11 ≤ e.was.place → Sees (acted e) → ⊥
unseeing e reads late (inl whole) = omega (arith, late, whole)
unseeing e reads late (inr (inl won)) = omega (arith, ap action_number (sym reads ∙ won))
unseeing e reads late (inr (inr frees)) = omega (arith, late, frees.0)

module _ {first : State} (ready : Ready first) {lot : ℕ} (alone : StandsAlone first lot) where
  abbrev b : List ℕ
  b = bucket_at first.board 0

  -- the mark word, the ticket of the lot, the last ticket, and the other words
  abbrev m : ℕ
  m = mark_word_at first 0

  abbrev x : ℕ
  x = value_at first 0 0

  abbrev last : ℕ
  last = first.floor.last

  abbrev k : Beside
  k = record { lot = lot; key1 = cell b 2; key2 = cell b 3; value1 = cell b 5; value2 = cell b 6; to_spare = cell b 7 }

  -- the lot is alone
  single : Single m
  single = record { valid = alone.valid; empty1 = alone.empty1; empty2 = alone.empty2 }

  -- these are the words of the bucket
  first_bucket : b ≡ cells k m x
  first_bucket =
      let whole = whole_parts b (ready.unbroken.buckets 0 (omega (arith, alone.buckets))) in
      rw (← alone.key) (numbers_are b ∙ ap (numbers (cell b)) whole.eight)

  -- every worker is idle
  first_idle : (i : ℕ) → i < workers_of first → record_of first i ≡ idle
  first_idle i under = idle_up first i (rw ready.idle (get_or-replicate (workers_of first) i idle blank under))

  -- worker 1 is to act, and worker 0 sleeps
  first_stage : Stage ready 1 0 first last (cells k m x) idle idle
  first_stage =
      record {
        follows = follows_first ready;
        acts = omega (arith, alone.workers);
        sleeps = omega (arith, alone.workers);
        one = alone.buckets;
        spends = refl;
        bucket = first_bucket;
        actor = first_idle 1 (omega (arith, alone.workers));
        sleeper = first_idle 0 (omega (arith, alone.workers));
      }

  -- ---- what happens

  -- the turns by which worker 1 reads
  abbrev reads1 : Plays 1 3 (cells k m x) (remove_of lot) (cells k m x) (at_swap k m x)
  reads1 = reading k 1 m x single.valid

  -- worker 1 falls asleep before its swap
  falls : Goes ready other first (falls_asleep lot) (entries_of 1 reads1) last (cells k m x) (at_swap k m x) idle 0
  falls =
      let starts = goes_remove ready other first_stage lot in
      goes_then ready other starts (goes_turns ready other reads1 starts.stage)

  -- worker 0 goes through its rounds
  around : Rounds ready k (at_swap k m x) (state_from first (falls_asleep lot)) last m x single (turn_about ready falls.stage) (2 ^ 32)
  around = all_rounds ready k (at_swap k m x) _ last m x single (turn_about ready falls.stage) (2 ^ 32) alone.tickets

  -- the ticket of the lot then
  abbrev newest : ℕ
  newest = last + 2 ^ 32

  -- all that is done before the swap, which leaves this mark word
  abbrev Leaves : ℕ → Type 0
  Leaves word =
      Goes ready other first (sleeps_through first lot) (entries_of 1 reads1 ++ around.done) newest (cells k word newest) (at_swap k m x) idle (2 ^ 32)

  -- it is the one that worker 1 has in mind: its version has come round
  before : Leaves m
  before = subst Leaves (raised_round m) (goes_then ready other falls (goes_about ready apart other around.goes))

  -- the turn by which worker 1 swaps
  abbrev wakes : Plays 1 1 (cells k m newest) (at_swap k m x) (cells k (set_mark m 0 0) newest) idle
  wakes = closing k 1 m x newest

  abbrev calls : List Call
  calls = sleeps_through first lot ++ (turn 1 ∷ [])

  -- and then worker 1 swaps
  whole :
      Goes ready other first calls ((entries_of 1 reads1 ++ around.done) ++ entries_of 1 wakes) newest (cells k (set_mark m 0 0) newest) idle idle (2 ^ 32)
  whole = goes_then ready other before (goes_turns ready other wakes before.stage)

  -- ---- the swap and its moment

  -- a turn of worker 1 on the bucket as it was at first, which reads
  abbrev read_by : Worker → Worker → Turn
  read_by w v = record { worker = 1; was = w; report = report_of 0 (cells k m x) (leaves (cells k m x) (goes_on Read false v)) }

  -- what comes between: worker 1 reads the key and the ticket, and worker 0 has its rounds
  abbrev between : List Entry
  between = acted (read_by (at_key k m) (at_ticket k m)) ∷ acted (read_by (at_ticket k m) (at_swap k m x)) ∷ around.done

  -- the swap
  abbrev swap : Turn
  swap = record { worker = 1; was = at_swap k m x; report = report_of 0 (cells k m newest) (leaves (cells k (set_mark m 0 0) newest) (ends Won x)) }

  -- since its first turn worker 1 has not read the mark word whole
  latest : None (λ e. Own swap e × Sees e) between
  latest =
      none_more (λ e. Own swap e × Sees e) _ _ (λ sees. unseeing (read_by (at_key k m) (at_ticket k m)) refl (omega arith) sees.1)
      (none_more (λ e. Own swap e × Sees e) _ _ (λ sees. unseeing (read_by (at_ticket k m) (at_swap k m x)) refl (omega arith) sees.1)
      (λ some. around.counts.own (some_as _ (By 1) _ some some.holds.0)))

  -- the trace is cut at the swap and at its moment
  swap_cut : trace first calls ≡ acted (read_by (remove_of lot) (at_key k m)) ∷ (between ++ (acted swap ∷ []))
  unfolding reading closing
  swap_cut = whole.trace_is

  abbrev swap_at : AtMoment (trace first calls)
  swap_at =
      record {
        before = [];
        moment = read_by (remove_of lot) (at_key k m);
        between = between;
        turn = swap;
        after = [];
        cut = swap_cut;
        is = record { own = refl; sees = inl refl; latest = latest };
      }

  -- worker 0 has closed since then
  closed_since : Some (CommittedOrClosedByAnother swap) between
  closed_since =
      let some = around.counts.closed (omega arith) in
      some_later _ _ _
      (some_later _ _ _
      (some_as (λ e newer. Closing e) (CommittedOrClosedByAnother swap) _ some
      (((λ own. omega (arith, own, some.holds.0)), some.holds.1), inr some.holds.2)))

  -- worker 1's reads are no commits and no closes
  between_commits : commits_in between ≡ 2 ^ 32
  unfolding total ℕ_discrete Dec.and
  between_commits = omega (arith, around.counts.commits)

  between_closes : closes_in between ≡ 2 ^ 32
  unfolding total ℕ_discrete Dec.and
  between_closes = omega (arith, around.counts.closes)

  -- §3.8: with one insert more than may be, a swap is won although another worker has committed and closed since its moment
  pub comes_round : ComesRound first (sleeps_through first lot)
  comes_round =
      record {
        inserts_are = whole.inserts_are;
        at = swap_at;
        won = refl;
        others = closed_since;
        commits_are = between_commits;
        closes_are = between_closes;
        answers = refl;
        stood = ap (λ (words : List ℕ). cell words (value_cell 0)) before.stage.bucket;
      }

-- so what demand 3 says of swaps that are won does not hold of these calls, where inserts are not few
pub premise_needed :
    {first : State} {earlier : List Call}
    → ComesRound first earlier
    → ((at : AtMoment (trace first (earlier ++ (turn 1 ∷ [])))) → Wins at.turn → None (CommittedOrClosedByAnother at.turn) at.between)
    → ⊥
premise_needed round wins = wins round.at round.won round.others
