-- Every step of a version has an insert that pays for it (§3.8): what moved one so far, commits and retirings, and the inserts under way are
-- together no more than the inserts that were accepted. Assumes nothing.
use Prim.Native.Nat.{ℕ, ◌+◌, ◌^◌, ◌≤◌, ◌<◌}
use mathlib.Core.Bool.{Bool, true, false, cond}
use mathlib.Core.List.{List, [], ◌∷◌, ◌++◌}
use mathlib.Core.Path.{◌≡◌, refl, sym, ap}
use native.Mathlib.Omega.{arith}
use lib.Dec.{eqb}
use lib.ListN.{length, length-append}
use borrow.Author.Tests.{ne_eqb}
use Rattle.mark.proofs.Choices.{by_cases}
use Rattle.turn.specs.declared.Worker.{Worker}
use Rattle.turn.specs.Worker.{look_kind, insert_kind, remove_kind}
use Rattle.history.specs.Trace.{Entry, who, bucket_in, total}
use Rattle.history.specs.History.{State, Call, look, insert, remove, turn, retire, run, show, count, orders, ask_total, ask_next, begins, is_start, look_by, insert_by, remove_by, after, sum_from, trace, inserts, FewInserts}
use Rattle.history.specs.Moves.{Step, calls, moves, move_number_of, after_step, inserts_by, inserts_through, FewThrough}
use Rattle.history.specs.Values.{spent_by, tickets_from}
use Rattle.history.proofs.View.{View, worker, inserting, Acts, act_total, start_total}
use Rattle.history.proofs.States.{view}
use Rattle.history.proofs.Lawful.{bumped}
use Rattle.history.proofs.Counts.{bump_of, total_append}
use Rattle.history.proofs.Charges.{moves_pays}
use Rattle.history.proofs.Steps.{Begins, Spends, unticketed, ticketed, Lasts, calls_last}
use Rattle.history.proofs.Ready.{Ready, counts_none}

-- the state, what was done so far, and the tickets that were accepted, one for each insert
abbrev pub Paid : State → List Entry → List ℕ → Type 0
Paid s past ts = total bump_of past + total inserting (view s).records ≤ length ts

-- what moves a version ends the call of the insert that pays for it
act_paid : {n : ℕ} {s t : View} {e : Entry} {v : Worker} → Acts n s e v t → bump_of e + total inserting t.records ≤ total inserting s.records
act_paid {s = s} {t} {e} {v} act =
    let pays = moves_pays (worker s (who e)) act.effect v (s.marks (bucket_in e)) act.moves in
    omega (arith, act.bumps, act_total inserting (bumped act.effect) act pays.bump)

-- with an entry more
paid_on :
    {n : ℕ} (s t : State) {e : Entry} {v : Worker} (past : List Entry) (ts : List ℕ)
    → Acts n (view s) e v (view t)
    → Paid s past ts
    → Paid t (past ++ (e ∷ [])) ts
unfolding total
paid_on s t {e} past ts act old = omega (arith, act_paid act, old, total_append bump_of past (e ∷ []))

-- one for an insert, and else none
inserting_le : (w : Worker) → inserting w ≤ 1
inserting_le w = by_cases (λ (k : ℕ). k ≤ 1) (eqb w.kind insert_kind) 1 0 (λ is. omega arith) (λ isnot. omega arith)

-- a start is paid for by its own ticket, if it is an insert's
begins_paid :
    {s t : State} {v : Worker} {spent : List ℕ} (past : List Entry) (ts : List ℕ) → Begins s v spent t → Paid s past ts → Paid t past (ts ++ spent)
begins_paid {s} {t} {v} {spent} past ts start old = omega (
  arith,
  old,
  start_total inserting inserting start.starts (λ w. omega arith),
  length-append ts spent,
  one start.spends,
)
  where
    one : {last new : ℕ} → Spends last v spent new → inserting v ≤ length spent
    one (unticketed other is new) = rw (is, ne_eqb v.kind insert_kind other) (omega arith)
    one (ticketed above is new) = rw is (inserting_le v)

-- every start, turn and retiring keeps it
pub paid_lasts : Lasts Paid
paid_lasts =
    record {
      begins = λ past ts start old. begins_paid past ts start old;
      turns = λ {s} {t} past ts act old. paid_on s t past ts act.acts old;
      retires = λ {s} {t} past ts act old. paid_on s t past ts act.acts old;
    }

-- where a stretch begins nothing was done and nobody inserts
pub ready_paid : {first : State} → Ready first → Paid first [] []
unfolding total
ready_paid ready = omega (arith, counts_none ready inserting refl)

-- ---- I

-- a start of another kind begins no insert
none : (kind : ℕ) → cond {A = ℕ} (eqb kind insert_kind) 1 0 ≡ 0 → (b : Bool) → ◌≡◌ {A = ℕ} 0 (cond (eqb (cond b kind 0) insert_kind) 1 0)
none kind other true = sym other
none kind other false = refl

-- a call spends a ticket exactly if it begins an insert
one_ticket : (s : State) (c : Call) → length (spent_by s c) ≡ is_start insert_kind s c
one_ticket s (look i lot) = none look_kind refl (eqb (look_by s i lot).refusal 0)
one_ticket s (insert i lot t) = by (eqb (insert_by s i lot t).refusal 0)
  where
    by : (b : Bool) → length (cond {A = List ℕ} b (t.number ∷ []) []) ≡ cond (eqb (cond b insert_kind 0) insert_kind) 1 0
    by true = refl
    by false = refl
one_ticket s (remove i lot) = none remove_kind refl (eqb (remove_by s i lot).refusal 0)
one_ticket s (turn i) = refl
one_ticket s (retire i) = refl
one_ticket s (run turns) = refl
one_ticket s (show lot) = refl
one_ticket s count = refl
one_ticket s (orders depth) = refl
one_ticket s ask_total = refl
one_ticket s (ask_next from) = refl

-- so there are as many tickets as accepted inserts
pub tickets_are : (cs : List Call) (s : State) → length (tickets_from s cs) ≡ sum_from (is_start insert_kind) s cs
unfolding tickets_from sum_from
tickets_are [] s = refl
tickets_are (c ∷ cs) s = omega (arith, length-append (spent_by s c) (tickets_from (after s c) cs), one_ticket s c, tickets_are cs (after s c))

module _ {first : State} (ready : Ready first) (cs : List Call) where
  -- versions were moved no more often than inserts were accepted
  bumps_paid : total bump_of (trace first cs) ≤ inserts first cs
  bumps_paid = omega (arith, calls_last Paid paid_lasts cs first [] [] (ready_paid ready), tickets_are cs first)

  -- and so, where inserts are few, less than 2^32 times
  pub few_bumps : FewInserts first cs → total bump_of (trace first cs) < 2 ^ 32
  few_bumps few = omega (arith, bumps_paid, few)

-- ---- few calls

-- a call begins one insert at most
one_insert : (s : State) (c : Call) → is_start insert_kind s c ≤ 1
one_insert s c = by_cases (λ (k : ℕ). k ≤ 1) (eqb (begins s c) insert_kind) 1 0 (λ is. omega arith) (λ isnot. omega arith)

-- so no more inserts are accepted than there are calls
inserts_most : (cs : List Call) (s : State) → inserts s cs ≤ length cs
unfolding sum_from
inserts_most [] s = omega arith
inserts_most (c ∷ cs) s = omega (arith, one_insert s c, inserts_most cs (after s c))

-- of fewer than 2^32 calls the inserts are few
pub few_calls : (first : State) (cs : List Call) → length cs < 2 ^ 32 → FewInserts first cs
few_calls first cs few = omega (arith, few, inserts_most cs first)

-- one insert more at most
insert_by_lem : (k : ℕ) (s : State) (a : Step) → inserts_by k s a ≤ k + 1
insert_by_lem k s (calls c) = omega (arith, one_insert s c)
insert_by_lem k s (moves m) = by_cases (λ (n : ℕ). n ≤ k + 1) (eqb (move_number_of s m) 0) 0 k (λ is. omega arith) (λ isnot. omega arith)

inserts_through_lem : (steps : List Step) (k : ℕ) (s : State) → inserts_through k s steps ≤ k + length steps
unfolding inserts_through
inserts_through_lem [] k s = omega arith
inserts_through_lem (a ∷ steps) k s = omega (arith, inserts_through_lem steps (inserts_by k s a) (after_step s a), insert_by_lem k s a)

-- and with moves among them too
pub few_steps : (first : State) (steps : List Step) → length steps < 2 ^ 32 → FewThrough first steps
few_steps first steps few earlier later cut =
    omega (arith, few, inserts_through_lem earlier 0 first, ap (λ (l : List Step). length l) cut, length-append earlier later)
