-- Histories reach every kind of entry that demand 3 speaks of, also between a turn and its moment: trials P6 and P11 and a container that is
-- retired do, computed turn by turn. Assumes nothing.
use Prim.Native.Nat.{ℕ}
use mathlib.Core.Bool.{false, xor}
use mathlib.Core.List.{List, [], ◌∷◌, ◌++◌, map}
use mathlib.Core.Logic.Dec
use mathlib.Core.Logic.{inl}
use mathlib.Core.Path.{◌≡◌, refl, sym, ap, ap₂, ◌∙◌}
use native.Mathlib.Decide.{ℕ_discrete}
use native.Mathlib.Omega.{arith}
use lib.ListN.{length, take, replicate}
use Rattle.mark.specs.Word as Word
use Rattle.turn.specs.declared.Action.{Action}
use Rattle.turn.specs.declared.Action.TheVariants.{Read, Won, Lost}
use Rattle.turn.specs.declared.Progress.{Progress}
use Rattle.turn.specs.declared.Progress.TheVariants.{GoesOn, Ended}
use Rattle.turn.specs.declared.Report.{Report}
use Rattle.turn.specs.Worker as Record
use Rattle.turn.specs.Worker.{idle}
use Rattle.turn.specs.Asleep as Asleep
use Rattle.turn.specs.Bucket as Bucket
use Rattle.turn.specs.Places as Places
use Rattle.turn.specs.Turn as Turned
use Rattle.turn.specs.Retire as Retire
use Rattle.engine.specs.Board as Board
use Rattle.engine.specs.Refusals as Refusals
use Rattle.engine.specs.Calls as Calls
use Rattle.engine.specs.Calls.{planned, blank}
use Rattle.bits.specs.Bits as Bits
use Rattle.hall.specs.Index as Index
use Rattle.hall.specs.Refusals as Hall
use Rattle.hall.specs.Refusals.{hall_open_number}
use Rattle.hall.specs.Calls as HallCalls
use Rattle.history.specs.Trace.{Turn, Entry, acted, retired, who, Loses, Claims, Commits, Closes, Frees, ReadsWhole, IsTurn, Changes, Cut, Some, total}
use Rattle.history.specs.Counts.{lost_swaps, changes_in}
use Rattle.history.specs.History.{State, Opening, Call, record_of, opened, state, trace, turn_entries, state_from, trace_from, sum_from, inserts, removes}
use Rattle.history.specs.Moment.{AnothersIn, HasMoment}
use Rattle.history.specs.Reports.{MadeLose}
use Rattle.history.specs.Cells.{mark_word_at}
use Rattle.history.specs.Trials.{A, plan_for, turns_of, sleeper, sleeper_words, before_reading, since_reading, word_repeats, repeated_word, refused_starts, retired_holder, claimed_again}
use Rattle.history.proofs.Cuts.{cut_later, none_nil, SomeTurn, some_turn}
use Rattle.history.proofs.Found.{cut_by_number, found, found_turn, moment_found, moment_later}
use Rattle.history.proofs.Histories.{state_from_append, trace_from_append}

-- ---- the floors

-- so many workers and one bucket, opened on a board, a list and an index that are lent in the right sizes, with something on them
abbrev pub lent : (workers : ℕ) → hall_open_number (planned (plan_for workers)) (replicate 8 1) (replicate 5 1) (length (replicate workers blank)) ≡ 0 → Opening
lent workers accepted =
    record {
      lent = record { board = replicate 8 1; floor = record { workers = 0; buckets = 0; last = 0; version = 0; spare = 0 }; records = replicate workers blank; index = replicate 5 1 };
      plan = plan_for workers;
      accepted = accepted;
      version_fits = omega arith;
    }

-- a floor of one worker
unfoldable pub one_worker : Opening
unfolding Hall.hall_open_number Refusals.open_number Refusals.wrong_sizes
one_worker = lent 1 refl

-- the floor of P6
unfoldable pub two_workers : Opening
unfolding Hall.hall_open_number Refusals.open_number Refusals.wrong_sizes
two_workers = lent 2 refl

-- the floor of P11
unfoldable pub three_workers : Opening
unfolding Hall.hall_open_number Refusals.open_number Refusals.wrong_sizes
three_workers = lent 3 refl

-- the trace of P6
abbrev pub sleeper_trace : List Entry
sleeper_trace = trace (opened two_workers) sleeper

-- the trace of P11
abbrev pub repeated_trace : List Entry
repeated_trace = trace (opened three_workers) repeated_word

-- all that these traces are computed by: what unfolds this unfolds it
unfoldable pub computed : Unit {0}
unfolding
    ℕ_discrete Dec.and Dec.not one_worker two_workers three_workers state_from trace_from sum_from turn_entries total cut_later cut_by_number some_turn found found_turn moment_found
    Calls.start_call Calls.turned Calls.retired HallCalls.hall_open HallCalls.hall_turn HallCalls.hall_retire HallCalls.hall_run_from HallCalls.hall_run
    Hall.hall_open_number Hall.hall_each_number Hall.hall_turn_number Hall.hall_retire_number Hall.hall_run_number
    Index.followed Index.untrue Bits.is_set Bits.with_bit xor
    Refusals.wrong_floor Refusals.wrong_sizes
    Refusals.open_number Refusals.start_number Refusals.each_number Refusals.turn_number Refusals.retire_number Refusals.run_number
    Turned.turn_refusal Retire.retire_refusal Record.broken Record.is_idle Record.sound Record.fits Record.may_stand Record.ticket_fits Record.held_fits Record.word_fits Asleep.slept
    Bucket.broken_bucket Places.turn Places.look_found Places.look_empty Places.find_slot Places.next_slot Places.next_key
    Places.after1 Places.after2 Places.after3 Places.after4 Places.after5 Places.after11 Places.after12
    Board.opened_board Word.version Word.mark_of Word.byte7 Word.set_mark Word.count_marks Word.bump Word.first_empty Word.well_formed
computed = tt

-- ---- every kind of entry

-- a history has an entry of which P holds
pub record Reached (P : Entry → Type 0) : Type 0 where
  pub opening : Opening
  pub calls : List Call
  pub some : Some P (trace (opened opening) calls)

-- a retiring that gives a slot back
abbrev Vacates : Entry → Type 0
Vacates e = (IsTurn (λ t. Unit {0}) e → ⊥) × Changes e

-- lost swaps, claims, commits, closes, slots given back by their insert, and one given back by a retiring
pub record EveryKind : Type 0 where
  pub lost : Reached (IsTurn Loses)
  pub claimed : Reached (IsTurn Claims)
  pub committed : Reached (IsTurn Commits)
  pub closed : Reached (IsTurn Closes)
  pub freed : Reached (IsTurn Frees)
  pub vacated : Reached Vacates

-- histories have each of them: the sleeper has the first four, P11 the fifth, and a container that is retired the last
pub every_kind_reached : EveryKind
unfolding computed
every_kind_reached =
    record {
      lost = record { opening = two_workers; calls = sleeper; some = found (IsTurn Loses) sleeper_trace 29 refl };
      claimed = record { opening = two_workers; calls = sleeper; some = found (IsTurn Claims) sleeper_trace 7 (refl, refl) };
      committed = record { opening = two_workers; calls = sleeper; some = found (IsTurn Commits) sleeper_trace 10 (refl, refl) };
      closed = record { opening = two_workers; calls = sleeper; some = found (IsTurn Closes) sleeper_trace 17 (refl, refl) };
      freed = record { opening = three_workers; calls = repeated_word; some = found (IsTurn Frees) repeated_trace 37 (refl, refl) };
      vacated = record { opening = two_workers; calls = retired_holder; some = found Vacates (trace (opened two_workers) retired_holder) 10 ((λ turn. turn), λ none. omega arith) };
    }

-- ---- how many

-- a history of so many entries, changes, lost swaps, accepted inserts and accepted removes
pub record Totals (o : Opening) (calls : List Call) (turns changed lost inserted removed : ℕ) : Type 0 where
  pub turns_are : length (trace (opened o) calls) ≡ turns
  pub changes_are : changes_in (trace (opened o) calls) ≡ changed
  pub lost_are : lost_swaps (trace (opened o) calls) ≡ lost
  pub inserts_are : inserts (opened o) calls ≡ inserted
  pub removes_are : removes (opened o) calls ≡ removed

-- §10.6: 34 turns, 6 changes and 1 lost swap, with two inserts and two removes: at most 6 could be lost
pub sleeper_totals : Totals two_workers sleeper 34 6 1 2 2
unfolding computed
sleeper_totals = record { turns_are = refl; changes_are = refl; lost_are = refl; inserts_are = refl; removes_are = refl }

-- §10.11: 6 changes and 1 lost swap in 48 turns, with four inserts
pub repeated_totals : Totals three_workers repeated_word 48 6 1 4 0
unfolding computed
repeated_totals = record { turns_are = refl; changes_are = refl; lost_are = refl; inserts_are = refl; removes_are = refl }

-- a start that is refused is not counted
pub refused_totals : Totals two_workers refused_starts 0 0 0 1 0
unfolding computed
refused_totals = record { turns_are = refl; changes_are = refl; lost_are = refl; inserts_are = refl; removes_are = refl }

-- ---- what came between

-- a report of bucket 0, of no full round, with the word that the turn found and the one that it left
abbrev report : Action → Progress → ℕ → ℕ → Report
report action progress found left =
    record { action = action; progress = progress; full = false; bucket = 0; before = found; after = left }

-- a lost swap at turn 30 of P6, its moment at turn 12, a close and a commit by another worker in between, and turn 29, which made it lose; with
-- the reports of these turns
pub record Sleeps : Type 0 where
  pub lost : SomeTurn Loses sleeper_trace
  pub turn_30 : length lost.older ≡ 29
  pub moment : HasMoment lost.older lost.turn
  pub turn_12 : length moment.older ≡ 11
  pub closed : Some (λ e. AnothersIn lost.turn e × IsTurn Closes e) moment.newer
  pub committed : Some (λ e. AnothersIn lost.turn e × IsTurn Commits e) moment.newer
  -- the swap's report, and in it the word that it found: version 2, mark 1
  pub report_30 : lost.turn.report ≡ report Lost GoesOn 4294967298 4294967298
  -- at its moment its worker had left another one there: version 1, mark 1
  pub report_12 : moment.moment.report ≡ report Read GoesOn 4294967297 4294967297
  -- the word that it found was left by turn 29, which made it lose: worker 0's commit of ticket 2
  pub made_lose : Cut (MadeLose lost.turn) lost.older
  pub turn_29 : length made_lose.older ≡ 28
  pub whose : who made_lose.entry ≡ 0
  pub report_29 : IsTurn (λ t. t.report ≡ report Won (Ended 1) 8589934593 4294967298) made_lose.entry

-- the two words of turn 29
words_differ : ◌≡◌ {A = ℕ} 4294967298 8589934593 → ⊥
words_differ is = omega arith

-- the sleeper loses the swap that it fell asleep before, since the lot was closed and opened again after its moment
pub sleeper_sleeps : Sleeps
unfolding computed
sleeper_sleeps =
    let s : SomeTurn Loses sleeper_trace = found_turn Loses sleeper_trace 29 refl in
    let m : HasMoment s.older s.turn =
    moment_found s.turn s.older 11 (record { own = refl; sees = inl refl; latest = refl; bucket = refl; first = refl; rest = refl }) in
    record {
      lost = s;
      turn_30 = refl;
      moment = m;
      turn_12 = refl;
      closed = found (λ e. AnothersIn s.turn e × IsTurn Closes e) m.newer 5 (((λ e. omega arith), refl), (refl, refl));
      committed = found (λ e. AnothersIn s.turn e × IsTurn Commits e) m.newer 16 (((λ e. omega arith), refl), (refl, refl));
      report_30 = refl;
      report_12 = refl;
      made_lose =
          cut_by_number (MadeLose s.turn) s.older 28
          (record { another = (((λ e. omega arith), refl), inl refl); differs = words_differ; left = refl; latest = none_nil _ });
      turn_29 = refl;
      whose = refl;
      report_29 = refl;
    }

-- the words that a turn reports
abbrev words_of : Entry → ℕ × ℕ
words_of (acted e) = (e.report.before, e.report.after)
words_of (retired r) = (0, 0)

-- the words that each of the sleeper's turns reports
pub sleeper_words_lem : map words_of sleeper_trace ≡ sleeper_words
unfolding computed
sleeper_words_lem = refl

-- A's last turn of P11, the mark word before it and the one that A read, and a slot freed and one claimed by others since its moment
pub record Repeats : Type 0 where
  pub won : SomeTurn Claims repeated_trace
  pub by : won.turn.worker ≡ A
  pub before : won.older ≡ trace (opened three_workers) word_repeats
  -- version 1; marks 2, 1, 0
  pub read : (record_of (state (opened three_workers) word_repeats) A).word ≡ 1108101562369
  pub again : mark_word_at (state (opened three_workers) word_repeats) 0 ≡ 1108101562369
  pub moment : HasMoment won.older won.turn
  pub reading : ReadsWhole moment.moment
  pub freed : Some (λ e. AnothersIn won.turn e × IsTurn Frees e) moment.newer
  pub claimed : Some (λ e. AnothersIn won.turn e × IsTurn Claims e) moment.newer

-- where A starts: version 1, marks 2, 1, 0; slot 1 has lot 7 on ticket 2, and B, which has found it there, is to give slot 0 back
abbrev starting : State
starting =
    record {
      board = 1108101562369 ∷ 7 ∷ 7 ∷ 0 ∷ 1 ∷ 2 ∷ 0 ∷ 0 ∷ [];
      floor = record { workers = 3; buckets = 1; last = 3; version = 0; spare = 0 };
      records =
          record { kind = 2; place = 1; key = 8; ticket = 3; slot = 0; word = 0; held = 3; seen = 0; asleep = 0 }
          ∷ record { kind = 2; place = 10; key = 7; ticket = 1; slot = 1; word = 1108101562369; held = 0; seen = 2; asleep = 0 }
          ∷ idle
          ∷ [];
      index = 1 ∷ 1 ∷ 0 ∷ 0 ∷ 0 ∷ [];
    }

-- what is done from there
abbrev since : List Entry
since = trace_from starting since_reading

abbrev left : State
left = state_from starting since_reading

-- it is where the calls before lead: they are computed once, and what comes after from there
starting_is : state (opened three_workers) before_reading ≡ starting
unfolding computed
starting_is = refl

left_is : state (opened three_workers) word_repeats ≡ left
left_is = state_from_append (opened three_workers) before_reading since_reading ∙ ap (λ (s : State). state_from s since_reading) starting_is

since_is : trace (opened three_workers) before_reading ++ since ≡ trace (opened three_workers) word_repeats
since_is =
    sym
    (trace_from_append (opened three_workers) before_reading since_reading
    ∙ ap (λ (s : State). trace (opened three_workers) before_reading ++ trace_from s since_reading) starting_is)

-- A's swap
abbrev swap : Turn
swap = record { worker = A; was = record_of left A; report = report Won GoesOn 1108101562369 564058054983681 }

swap_is : trace_from left (turns_of A 1 ∷ []) ≡ acted swap ∷ []
unfolding computed
swap_is = refl

-- the trace is what was done before, and then the swap
swap_last : repeated_trace ≡ (trace (opened three_workers) before_reading ++ since) ++ (acted swap ∷ [])
swap_last =
    trace_from_append (opened three_workers) word_repeats (turns_of A 1 ∷ [])
    ∙ ap₂ (λ (es ds : List Entry). es ++ ds) (sym since_is) (ap (λ (s : State). trace_from s (turns_of A 1 ∷ [])) left_is ∙ swap_is)

-- §10.11: before A swaps, the mark word is the one that it has read, although others changed it in between; and the swap is won
pub word_repeats_lem : Repeats
unfolding computed
word_repeats_lem =
    let m : HasMoment since swap =
    moment_found swap since 0 (record { own = refl; sees = inl refl; latest = refl; bucket = refl; first = refl; rest = refl }) in
    record {
      won = record { older = trace (opened three_workers) before_reading ++ since; turn = swap; newer = []; cut = swap_last; holds = (refl, refl) };
      by = refl;
      before = since_is;
      read = ap (λ (s : State). (record_of s A).word) left_is;
      again = ap (λ (s : State). mark_word_at s 0) left_is;
      moment = moment_later swap (trace (opened three_workers) before_reading) m;
      reading = refl;
      freed = found (λ e. AnothersIn swap e × IsTurn Frees e) m.newer 7 (((λ e. omega arith), refl), (refl, refl));
      claimed = found (λ e. AnothersIn swap e × IsTurn Claims e) m.newer 16 (((λ e. omega arith), refl), (refl, refl));
    }

-- ---- a container that does not come back

-- worker 0 claims a slot and is retired, and worker 1 claims that slot again
pub record ClaimedAgain : Type 0 where
  -- what worker 0's commit would have expected: version 0, mark 2
  pub expected : Places.filled (record_of (state (opened two_workers) (take 2 retired_holder)) 0) ≡ 8589934592
  -- that word stands there when worker 0 is retired
  pub before : mark_word_at (state (opened two_workers) (take 2 retired_holder)) 0 ≡ 8589934592
  -- the retiring leaves version 1 and no mark
  pub left : mark_word_at (state (opened two_workers) retired_holder) 0 ≡ 1
  -- and then the same slot is claimed: version 1, mark 2
  pub again : mark_word_at (state (opened two_workers) claimed_again) 0 ≡ 8589934593
  -- by worker 1, which has had its eight turns
  pub held : (record_of (state (opened two_workers) claimed_again) 1).held ≡ 0

-- §19.5: the same slot is claimed again, and the word is another
pub claimed_again_lem : ClaimedAgain
unfolding computed
claimed_again_lem = record { expected = refl; before = refl; left = refl; again = refl; held = refl }
