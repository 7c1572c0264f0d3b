-- The calls of a trace that ended, counted up turn by turn: a function of the trace, and what it gives is what `IsCallOf` says. Assumes nothing.
use Prim.Native.Nat.{ℕ, ◌+◌, ◌-◌, ◌≤◌, ◌<◌}
use mathlib.Core.List.{List, [], ◌∷◌, ◌++◌, append-nil, append_assoc, head-eq_of_cons-eq}
use mathlib.Core.Logic.{◌⊎◌, inl, inr}
use mathlib.Core.Path.{◌≡◌, refl, sym, ap, ◌∙◌}
use native.Mathlib.Omega.{arith}
use lib.ListN.{length, take, drop, length-append}
use lib.Seq.{take_at, drop_at}
use Rattle.turn.specs.declared.Progress.{Progress}
use Rattle.turn.specs.declared.Progress.TheVariants.{GoesOn, Ended}
use Rattle.history.specs.Trace.{Turn, Entry, acted, retired, OwnEnd, None}
use Rattle.history.specs.InCall.{AtRest, InCall}
use Rattle.history.proofs.InCalls.{every_turn_in_call}
use Rattle.clerk.specs.Calls.{EndedCall, IsCallOf, BeginsWith, asks}
use Rattle.walks.specs.Lists.{Each, In, Ordered}
use Rattle.walks.proofs.Lists.{each_append, has_right, ordered_append, ordered_in}
use Rattle.clerk.proofs.Rests.{rest_on, awaits}
use Rattle.clerk.proofs.Since.{first_or, since, first_since, call_first}

-- ---- the calls

-- the call that turn e, after these, ended with this answer
abbrev pub call_of : List Entry → Turn → ℕ → EndedCall
call_of past e answer =
    record {
      worker = e.worker;
      first = first_or (since e.worker past) (length past + 1);
      last = length past + 1;
      asked = asks e.was;
      answer = answer;
    }

-- turn e, after these, ends a call or does not
abbrev pub ended_by : List Entry → Turn → Progress → List EndedCall
ended_by past e GoesOn = []
ended_by past e (Ended answer) = call_of past e answer ∷ []

-- a retiring ends no call
abbrev pub ended_at : List Entry → Entry → List EndedCall
ended_at past (acted e) = ended_by past e e.report.progress
ended_at past (retired r) = []

-- the calls that turns end, after these
abbrev pub calls_from : List Entry → List Entry → List EndedCall
calls_from past [] = []
calls_from past (e ∷ rest) = ended_at past e ++ calls_from (past ++ (e ∷ [])) rest

-- the calls of a trace that ended, in the order in which they did
abbrev pub calls_of : List Entry → List EndedCall
calls_of trace = calls_from [] trace

-- a call that ended has one answer
pub one_answer : (a b : ℕ) → Ended a ≡ Ended b → a ≡ b
one_answer a b is = cc

-- a call that goes on has not ended
pub goes_not : {A : Type 0} {answer : ℕ} → GoesOn ≡ Ended answer → A
goes_not is = absurd (let z : ◌≡◌ {A = ℕ} 0 1 = cc in omega arith)

-- the calls that turns and more of them end are those that the first end, and those that the rest end after them
pub calls_append : (xs past ys : List Entry) → calls_from past (xs ++ ys) ≡ calls_from past xs ++ calls_from (past ++ xs) ys
calls_append [] past ys = ap (λ (l : List Entry). calls_from l ys) (sym (append-nil past))
calls_append (e ∷ xs) past ys =
    let ended : List EndedCall = ended_at past e in
    let next : List Entry = past ++ (e ∷ []) in
    ap (λ (l : List EndedCall). ended ++ l)
    (calls_append xs next ys ∙ ap (λ (l : List Entry). calls_from next xs ++ calls_from l ys) (append_assoc past (e ∷ []) xs))
    ∙ sym (append_assoc ended (calls_from next xs) (calls_from (past ++ (e ∷ xs)) ys))

-- ---- each that is counted up is a call of the trace

module _ (i : ℕ) where
  -- turns, cut where worker i is at no call, so that its next turn is the first of what comes after
  record CutAtRest (past : List Entry) : Type 0 where
    before : List Entry
    between : List Entry
    is : before ++ between ≡ past
    rested : AtRest i before
    begins : BeginsWith i between
    unended : None (OwnEnd i) between

  -- where the worker is at no call, the turns of others before its next one can be put to what came before
  cut_at_rest :
      (past before between : List Entry)
      → before ++ between ≡ past
      → AtRest i before
      → None (OwnEnd i) between
      → CutAtRest past
  cut_at_rest past before between is rested unended =
      let a = awaits i between unended in
      record {
        before = before ++ a.waiting;
        between = a.rest;
        is = append_assoc before a.waiting a.rest ∙ ap (λ (l : List Entry). before ++ l) (sym a.is) ∙ is;
        rested = rest_on i before a.waiting a.others rested;
        begins = a.begins;
        unended = a.unended;
      }

-- two ways to cut a list after which equally much is left are one
pub same_front : (xs ys zs ws : List Entry) → xs ++ zs ≡ ys ++ ws → length zs ≡ length ws → xs ≡ ys
same_front xs ys zs ws is same =
    let as_long : length ys ≡ length xs = omega (arith, length-append xs zs, length-append ys ws, ap length is) in
    sym (take_at xs zs (length xs) refl) ∙ ap (take (length xs)) is ∙ take_at ys ws (length xs) as_long

-- a trace that is cut into a call is cut at the turn
pub cut_at_end : (trace : List Entry) (at : InCall trace) → trace ≡ (at.before ++ at.between) ++ (acted at.turn ∷ at.after)
cut_at_end trace at = at.cut ∙ sym (append_assoc at.before at.between (acted at.turn ∷ at.after))

module _ (trace past : List Entry) (e : Turn) (after : List Entry) (cut : trace ≡ past ++ (acted e ∷ after)) where
  begun_before : CutAtRest e.worker past
  begun_before =
      let found = every_turn_in_call (record { before = past; turn = e; after = after; cut = cut }) in
      let call : InCall trace = found.0 in
      let whose : call.turn.worker ≡ e.worker = ap (λ (x : Turn). x.worker) found.1 in
      let is : call.before ++ call.between ≡ past =
      same_front (call.before ++ call.between) past (acted call.turn ∷ call.after) (acted e ∷ after) (sym (cut_at_end trace call) ∙ cut)
      (omega (arith, ap length found.2)) in
      rw whose at (cut_at_rest call.turn.worker past call.before call.between is call.rested call.unended)

  -- the call that a turn ended is one of the trace
  pub call_is : (answer : ℕ) → e.report.progress ≡ Ended answer → IsCallOf trace (call_of past e answer)
  call_is answer told =
      let b : CutAtRest e.worker past = begun_before in
      record {
        at =
            record {
              before = b.before;
              between = b.between;
              turn = e;
              after = after;
              cut = cut ∙ ap (λ (l : List Entry). l ++ (acted e ∷ after)) (sym b.is) ∙ append_assoc b.before b.between (acted e ∷ after);
              rested = b.rested;
              unended = b.unended;
            };
        begins = b.begins;
        worker = refl;
        first =
            ap (λ (l : List Entry). first_or (since e.worker l) (length l + 1)) (sym b.is)
            ∙ first_since e.worker b.before b.between b.rested b.begins b.unended;
        last = ap (λ (l : List Entry). length l + 1) (sym b.is);
        asked = refl;
        answer = told;
      }

  ended_is : (p : Progress) → e.report.progress ≡ p → Each (IsCallOf trace) (ended_by past e p)
  ended_is GoesOn told = tt
  ended_is (Ended answer) told = (call_is answer told, tt)

entry_is :
    (trace past : List Entry) (e : Entry) (after : List Entry) → trace ≡ past ++ (e ∷ after) → Each (IsCallOf trace) (ended_at past e)
entry_is trace past (acted e) after cut = ended_is trace past e after cut e.report.progress refl
entry_is trace past (retired r) after cut = tt

calls_are : (trace past rest : List Entry) → trace ≡ past ++ rest → Each (IsCallOf trace) (calls_from past rest)
calls_are trace past [] cut = tt
calls_are trace past (e ∷ rest) cut =
    each_append (IsCallOf trace) (ended_at past e) (calls_from (past ++ (e ∷ [])) rest)
    (entry_is trace past e rest cut)
    (calls_are trace (past ++ (e ∷ [])) rest (cut ∙ sym (append_assoc past (e ∷ []) rest)))

-- each call that is counted up is one of the trace that ended
pub each_is_call : (trace : List Entry) → Each (IsCallOf trace) (calls_of trace)
each_is_call trace = calls_are trace [] trace refl

-- ---- each call of the trace is counted up

module _ (trace : List Entry) (c : EndedCall) (is : IsCallOf trace c) where
  abbrev was : List Entry
  was = is.at.before ++ is.at.between

  -- a call is the one that its last turn ended
  call_same : call_of was is.at.turn c.answer ≡ c
  call_same = λ i. record {
    worker = sym is.worker i;
    first = sym (call_first trace c is) i;
    last = sym is.last i;
    asked = sym is.asked i;
    answer = c.answer;
  }

  -- each call of the trace that ended is counted up
  pub call_counted : In c (calls_of trace)
  call_counted =
      rw (cut_at_end trace is.at, calls_append was [] (acted is.at.turn ∷ is.at.after), is.answer)
      (has_right (λ x. x ≡ c) (calls_of was) _ (inl call_same))

  -- no call ends after the trace
  pub ends_within : c.last ≤ length trace
  ends_within = omega (arith, is.last, ap length (cut_at_end trace is.at), length-append was (acted is.at.turn ∷ is.at.after))

  -- a call's first turn is at least 1, and not after its last
  pub first_before_last : (1 ≤ c.first) × (c.first ≤ c.last)
  first_before_last = (omega (arith, is.first), omega (arith, is.first, is.last, length-append is.at.before is.at.between))

  -- what is left of the trace from the number of a call's last turn on begins with that turn
  pub last_turn : drop (c.last - 1) trace ≡ acted is.at.turn ∷ is.at.after
  last_turn = ap (drop (c.last - 1)) (cut_at_end trace is.at) ∙ drop_at was _ (c.last - 1) (omega (arith, is.last))

  -- where the trace is cut at a turn with the number of a call's last turn, it is that turn
  pub turn_is :
      (past : List Entry) (e : Entry) (rest : List Entry)
      → trace ≡ past ++ (e ∷ rest)
      → c.last ≡ length past + 1
      → acted is.at.turn ≡ e
  turn_is past e rest cut last =
      let n : ℕ = c.last - 1 in head-eq_of_cons-eq (sym last_turn ∙ ap (drop n) cut ∙ drop_at past (e ∷ rest) n (omega arith))

-- ---- in the order in which they ended

-- a call that ended after turn n
abbrev pub EndsAfter : ℕ → EndedCall → Type 0
EndsAfter n c = n < c.last

-- a call that ended before another
abbrev pub EndsBefore : EndedCall → EndedCall → Type 0
EndsBefore x y = x.last < y.last

module _ (past : List Entry) where
  module _ (e : Turn) where
    turn_later : (n : ℕ) → n ≤ length past → (p : Progress) → Each (EndsAfter n) (ended_by past e p)
    turn_later n le GoesOn = tt
    turn_later n le (Ended answer) = (omega arith, tt)

    turn_ordered : (p : Progress) → Ordered EndsBefore (ended_by past e p)
    turn_ordered GoesOn = tt
    turn_ordered (Ended answer) = (tt, tt)

    turn_before :
        (later : List EndedCall)
        → Each (EndsAfter (length past + 1)) later
        → (p : Progress)
        → Each (λ x. Each (EndsBefore x) later) (ended_by past e p)
    turn_before later all GoesOn = tt
    turn_before later all (Ended answer) = (all, tt)

  ended_later : (e : Entry) (n : ℕ) → n ≤ length past → Each (EndsAfter n) (ended_at past e)
  ended_later (acted e) n le = turn_later e n le e.report.progress
  ended_later (retired r) n le = tt

  ended_ordered : (e : Entry) → Ordered EndsBefore (ended_at past e)
  ended_ordered (acted e) = turn_ordered e e.report.progress
  ended_ordered (retired r) = tt

  ended_before :
      (e : Entry) (later : List EndedCall)
      → Each (EndsAfter (length past + 1)) later
      → Each (λ x. Each (EndsBefore x) later) (ended_at past e)
  ended_before (acted e) later all = turn_before e later all e.report.progress
  ended_before (retired r) later all = tt

-- the calls that turns end after a trace end after it
pub calls_later : (rest past : List Entry) (n : ℕ) → n ≤ length past → Each (EndsAfter n) (calls_from past rest)
calls_later [] past n le = tt
calls_later (e ∷ rest) past n le =
    each_append (EndsAfter n) (ended_at past e) (calls_from (past ++ (e ∷ [])) rest)
    (ended_later past e n le) (calls_later rest (past ++ (e ∷ [])) n (omega (arith, length-append past (e ∷ []))))

calls_ordered : (rest past : List Entry) → Ordered EndsBefore (calls_from past rest)
calls_ordered [] past = tt
calls_ordered (e ∷ rest) past =
    let next : List Entry = past ++ (e ∷ []) in
    ordered_append EndsBefore (ended_at past e) (calls_from next rest)
    (ended_ordered past e) (calls_ordered rest next)
    (ended_before past e (calls_from next rest) (calls_later rest next (length past + 1) (omega (arith, length-append past (e ∷ [])))))

-- the calls of a trace end one after another
pub one_after_another : (trace : List Entry) → Ordered EndsBefore (calls_of trace)
one_after_another trace = calls_ordered trace []

-- two calls of a trace that ended at one turn are one; that each turn which ends a call is the last of one is `call_is`
pub one_call_an_end : (trace : List Entry) (c d : EndedCall) → IsCallOf trace c → IsCallOf trace d → c.last ≡ d.last → c ≡ d
one_call_an_end trace c d is_c is-d same =
    by (ordered_in EndsBefore c d (calls_of trace) (one_after_another trace) (call_counted trace c is_c) (call_counted trace d is-d))
  where
    by : (c ≡ d) ⊎ (EndsBefore c d ⊎ EndsBefore d c) → c ≡ d
    by (inl is) = is
    by (inr (inl sooner)) = absurd (omega arith)
    by (inr (inr later)) = absurd (omega arith)
