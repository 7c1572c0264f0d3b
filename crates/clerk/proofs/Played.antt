-- The trials P6, P8 and P11 one by one, computed turn by turn: the sequence of each is a function of its trace; and a remove after a move. And
-- what the statement rules out, and what it leaves open: an answer that is made up; a look that tells a ticket which is no longer there when
-- it ends, and one that tells 0 although its lot is there when it begins and when it ends. Assumes nothing.
use Prim.Native.Nat.{ℕ}
use mathlib.Core.List.{List, [], ◌∷◌, head-eq_of_cons-eq}
use mathlib.Core.Logic.{inl, inr}
use mathlib.Core.Path.{◌≡◌, refl, ap, subst}
use native.Mathlib.Omega.{arith}
use lib.ListN.{take}
use Rattle.history.specs.History.{Opening, Call, buckets_of, opened, trace, FewInserts}
use Rattle.history.specs.Moves.{move_number_of, state_through, trace_through}
use Rattle.history.specs.Trials.{sleeper, repeated_word}
use Rattle.history.proofs.Paid.{few_steps}
use Rattle.history.proofs.MovesReached.{moving}
use Rattle.history.proofs.Reached.{two_workers, three_workers, computed}
use Rattle.clerk.specs.Does.{Told, line, look, does}
use Rattle.clerk.specs.Calls.{EndedCall, IsCallOf, IsMomentOf, list_after}
use Rattle.walks.specs.Lists.{In}
use Rattle.clerk.specs.Sequence.{Placed, OneByOne}
use Rattle.clerk.specs.Trials.{sleeper_sequence, two_inserts, two_inserts_sequence, repeated_sequence}
use Rattle.clerk.specs.Trials.{two_buckets, insert_then_move, remove_after_move, remove_after_move_sequence}
use Rattle.clerk.specs.Trials.{look_too_late, late_look, look_too_late_sequence, look_in_the_gap, gap_look, look_in_the_gap_sequence, made_up}
use Rattle.clerk.proofs.Since.{since}
use Rattle.clerk.proofs.Enumerated.{each_is_call, call_counted}
use Rattle.clerk.proofs.Arranged.{sequence_of}
use Rattle.clerk.proofs.Stood.{calls_stood, steps_stood}
use Rattle.clerk.proofs.TheClerk.{in_sequence}

-- where the sequence of a history is this one, that is what the clerk did
played :
    (o : Opening) (calls : List Call) (sequence : List Placed)
    → FewInserts (opened o) calls
    → sequence_of (trace (opened o) calls) ≡ sequence
    → OneByOne (trace (opened o) calls) sequence
played o calls sequence few is =
    let all = calls_stood o calls few in
    subst (OneByOne (trace (opened o) calls)) is (in_sequence all.0 all.1)

-- ---- the trials

-- §10.6: the sleeper, one by one
pub sleeper_one_by_one : OneByOne (trace (opened two_workers) sleeper) sleeper_sequence
unfolding computed since
sleeper_one_by_one = played two_workers sleeper sleeper_sequence (omega arith) refl

-- §10.8: two inserts of one lot, one by one
pub two_inserts_one_by_one : OneByOne (trace (opened two_workers) two_inserts) two_inserts_sequence
unfolding computed since
two_inserts_one_by_one = played two_workers two_inserts two_inserts_sequence (omega arith) refl

-- §10.11: the word that repeats, one by one
pub repeated_one_by_one : OneByOne (trace (opened three_workers) repeated_word) repeated_sequence
unfolding computed since
repeated_one_by_one = played three_workers repeated_word repeated_sequence (omega arith) refl

-- ---- a look that is too late

-- a look that ends after a remove of its lot has, one by one
pub look_one_by_one : OneByOne (trace (opened two_workers) look_too_late) look_too_late_sequence
unfolding computed since
look_one_by_one = played two_workers look_too_late look_too_late_sequence (omega arith) refl

-- a call of a trace that ended with a ticket, when no lot is left; its first turn is a moment of it, and its last is none
pub record TooLate : Type 0 where
  pub call : IsCallOf (trace (opened two_workers) look_too_late) late_look
  pub gone : list_after (trace (opened two_workers) look_too_late) ≡ []
  pub early : IsMomentOf (trace (opened two_workers) look_too_late) late_look 12
  pub late : IsMomentOf (trace (opened two_workers) look_too_late) late_look 19 → ⊥

-- a look may answer a ticket that is no longer there when it ends
pub look_too_late_lem : TooLate
unfolding computed
look_too_late_lem =
    record {
      call = look_one_by_one.calls.1.0.is;
      gone = refl;
      early = record { within = record { from = omega arith; to = omega arith }; fits = refl };
      late = λ moment. let none : ◌≡◌ {A = ℕ} 0 1 = ap (λ (x : Told). x.answer) moment.fits in omega arith;
    }

-- ---- a look in the gap

-- a look that misses its lot while it is away, one by one
pub gap_one_by_one : OneByOne (trace (opened two_workers) look_in_the_gap) look_in_the_gap_sequence
unfolding computed since
gap_one_by_one = played two_workers look_in_the_gap look_in_the_gap_sequence (omega arith) refl

-- a call of a trace that ended with 0, with its lot in the list just after its first turn and just after its last
pub record InTheGap : Type 0 where
  pub call : IsCallOf (trace (opened two_workers) look_in_the_gap) gap_look
  pub first : list_after (take gap_look.first (trace (opened two_workers) look_in_the_gap)) ≡ line 7 2 ∷ line 8 1 ∷ []
  pub last : list_after (take gap_look.last (trace (opened two_workers) look_in_the_gap)) ≡ line 7 3 ∷ []

-- a look may answer 0 although its lot is there when it begins and when it ends
pub look_in_the_gap_lem : InTheGap
unfolding computed
look_in_the_gap_lem = record { call = gap_one_by_one.calls.1.1.1.1.0.is; first = refl; last = refl }

-- ---- a move

-- a move that is refused while an insert is under way, one that is done when it has ended, and a remove that answers the insert's ticket
pub record AfterMove : Type 0 where
  pub refused : move_number_of (state_through (opened two_workers) (take 2 insert_then_move)) two_buckets ≡ 12
  pub done : buckets_of (state_through (opened two_workers) insert_then_move) ≡ 2
  pub list : list_after (trace_through (opened two_workers) insert_then_move) ≡ line 7 1 ∷ []
  pub removed : OneByOne (trace_through (opened two_workers) remove_after_move) remove_after_move_sequence

-- §22.7: there is one list through all moves
pub remove_after_move_lem : AfterMove
unfolding moving since
remove_after_move_lem =
    record {
      refused = refl;
      done = refl;
      list = refl;
      removed = let all = steps_stood two_workers remove_after_move (few_steps _ remove_after_move (omega arith)) in in_sequence all.0 all.1;
    }

-- ---- an answer that is made up

-- the call of that trace
abbrev made_up_call : EndedCall
made_up_call = record { worker = 0; first = 1; last = 1; asked = look 7; answer = 5 }

-- a trace whose answers are made up cannot be put one by one, in whatever sequence
pub made_up_refused : (sequence : List Placed) → OneByOne made_up sequence → ⊥
unfolding since
made_up_refused [] one = one.every made_up_call (each_is_call made_up).0
made_up_refused (x ∷ xs) one = by (call_counted made_up x.call one.calls.0.is)
  where
    by : In x.call (made_up_call ∷ []) → ⊥
    by (inl is) =
        let told : (does x.call.asked []).answer ≡ x.call.answer = head-eq_of_cons-eq one.answers in
        let asked : look 7 ≡ x.call.asked = ap (λ (c : EndedCall). c.asked) is in
        let answer : 5 ≡ x.call.answer = ap (λ (c : EndedCall). c.answer) is in
        let none : ◌≡◌ {A = ℕ} 0 x.call.answer = rw (← asked) at told in
        omega arith
    by (inr none) = none
