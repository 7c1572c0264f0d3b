-- The figures are met: for each there is a history with a call that takes just so many turns, computed turn by turn; and one with an insert
-- alone that never ends. Assumes nothing.
use Prim.Native.Nat.{ℕ, ◌+◌}
use mathlib.Core.Bool.{false}
use mathlib.Core.List.{List, [], ◌∷◌, ◌++◌}
use mathlib.Core.Logic.{◌⊎◌, inl, inr}
use mathlib.Core.Path.{◌≡◌, refl, sym, ap, subst, ◌∙◌}
use native.Mathlib.Omega.{arith}
use Rattle.mark.specs.Word.{mark_of}
use Rattle.turn.specs.declared.Action.TheVariants.{Read, Won}
use Rattle.turn.specs.declared.Action.{Action}
use Rattle.turn.specs.declared.Progress.TheVariants.{Ended}
use Rattle.turn.specs.Worker.{look_kind, insert_kind, remove_kind, idle}
use Rattle.turn.proofs.Works.{among}
use Rattle.history.specs.Trace.{Turn, Entry, acted, retired, By, IsTurn, Ends, None, total}
use Rattle.history.specs.Cells.{mark_word_at, mark_at, key_at}
use Rattle.history.specs.InCall.{AtRest, own_turns}
use Rattle.history.specs.HowLong.{look_least, look_most, remove_most, insert_most, Disturbs, Alone, NeverEndsAlone, HasRoom, HasLot, StartsSo, Takes}
use Rattle.history.specs.History.{State, Call, look, insert, remove, ticket, opened, record_of, insert_by, state_from, trace_from, state, trace}
use Rattle.history.specs.Trials.{turns_of, two_lots, three_lots, longest_look, shortest_look, longest_remove}
use Rattle.history.proofs.Cuts.{none_nil}
use Rattle.history.proofs.Histories.{trace_from_append}
use Rattle.history.proofs.Found.{At, cut_by_number, none_counted, ended, none_ended}
use Rattle.history.proofs.Numbered.{answered_ends}
use Rattle.history.proofs.Opened.{opening_ready}
use Rattle.history.proofs.Cells.{marked_few}
use Rattle.history.proofs.HowLong.{how_long}
use Rattle.history.proofs.Reached.{one_worker, computed}

-- a number that is not 0 for what is no turn of worker 0
abbrev others : Entry → ℕ
others (acted e) = e.worker
others (retired r) = 1

-- the floor of one worker has no other
alone : (es : List Entry) → total others es ≡ 0 → Alone 0 es
alone = none_counted (Disturbs 0) others counts
  where
    counts : (e : Entry) → Disturbs 0 e → others e ≡ 0 → ⊥
    counts (acted e) other = other
    counts (retired r) other = λ none. omega arith

-- a turn of worker 0 that ends its call with this answer
abbrev EndsWith : ℕ → Entry → Type 0
EndsWith answer e = IsTurn (λ t. (t.worker ≡ 0) × (t.report.progress ≡ Ended answer)) e

ends_with : (answer : ℕ) (e : Entry) → EndsWith answer e → By 0 e × Ends e
ends_with answer (acted e) known = (known.0, answered_ends e answer known.1)
ends_with answer (retired r) known = absurd known

-- after these turns worker 0 is at no call, since turn n, the last of them, ended one
rested : (es : List Entry) (n answer : ℕ) → At (λ e newer. EndsWith answer e × (newer ≡ [])) es n → AtRest 0 es
rested es n answer at =
    let last = cut_by_number (λ e newer. EndsWith answer e × (newer ≡ [])) es n at in
    let known = ends_with answer last.entry last.holds.0 in
    inr (record {
      older = last.older;
      entry = last.entry;
      newer = last.newer;
      cut = last.cut;
      holds = (known.0, known.1, subst (None (By 0)) (sym last.holds.1) (none_nil (By 0)));
    })

-- a call of worker 0 that starts after some calls, which leave the state s with worker 0 at no call
module _ (first : List Call) (s : State) (is : state (opened one_worker) first ≡ s) (rest : AtRest 0 (trace (opened one_worker) first)) where
  -- its start, and so many turns of it
  module _ (start : Call) (more : ℕ) where
    abbrev between : List Entry
    between = trace_from s (start ∷ turns_of 0 more ∷ [])

    -- and then its last turn, with this action and this answer, which leaves this mark word
    abbrev end : Action → ℕ → ℕ → Turn
    end action answer left =
        let found = state_from s (start ∷ turns_of 0 more ∷ []) in
        record {
          worker = 0;
          was = record_of found 0;
          report =
              record {
                action = action;
                progress = Ended answer;
                full = false;
                bucket = 0;
                before = mark_word_at found 0;
                after = left;
              };
        }

    takes :
        (calls : List Call) (kind turns : ℕ) (action : Action) (answer left : ℕ)
        → trace_from s calls ≡ between ++ (acted (end action answer left) ∷ [])
        → total (ended (end action answer left)) between ≡ 0
        → (end action answer left).was.kind ≡ kind
        → own_turns 0 between + 1 ≡ turns
        → total others between ≡ 0
        → Takes (opened one_worker) (first ++ calls) kind turns
    takes calls kind turns action answer left cut unended of_kind number none =
        record {
          at =
              record {
                before = trace (opened one_worker) first;
                between = between;
                turn = end action answer left;
                after = [];
                cut =
                    trace_from_append (opened one_worker) first calls
                    ∙ ap (λ (t : State). trace (opened one_worker) first ++ trace_from t calls) is
                    ∙ ap (λ (es : List Entry). trace (opened one_worker) first ++ es) cut;
                rested = rest;
                unended = none_ended (end action answer left) between unended;
              };
          of_kind = of_kind;
          ends = answered_ends (end action answer left) answer refl;
          number = number;
          alone = alone between none;
        }

-- ---- with two lots, and with three

-- one bucket with this mark word, keys and values, one worker that is idle, as many valid slots as the last ticket has it, and their bit
abbrev one_bucket : List ℕ → ℕ → State
one_bucket bucket last =
    record {
      board = bucket;
      floor = record { workers = 1; buckets = 1; last = last; version = 0; spare = 0 };
      records = idle ∷ [];
      index = last ∷ 1 ∷ 0 ∷ 0 ∷ 0 ∷ [];
    }

-- version 2; marks 1, 1, 0
abbrev two : State
two = one_bucket (1103806595074 ∷ 7 ∷ 8 ∷ 0 ∷ 1 ∷ 2 ∷ 0 ∷ 0 ∷ []) 2

-- version 3; marks 1, 1, 1
abbrev full_word : ℕ
full_word = 282578783305731

-- version 3; marks 1, 1, 0
abbrev closed_word : ℕ
closed_word = 1103806595075

-- with the mark word of three valid lots
abbrev three : State
three = one_bucket (full_word ∷ 7 ∷ 8 ∷ 9 ∷ 1 ∷ 2 ∷ 3 ∷ 0 ∷ []) 3

two_is : state (opened one_worker) two_lots ≡ two
unfolding computed
two_is = refl

two_rested : AtRest 0 (trace (opened one_worker) two_lots)
unfolding computed
two_rested = rested (trace (opened one_worker) two_lots) 22 1 ((refl, refl), refl)

three_is : state (opened one_worker) three_lots ≡ three
unfolding computed
three_is = refl

three_rested : AtRest 0 (trace (opened one_worker) three_lots)
unfolding computed
three_rested = rested (trace (opened one_worker) three_lots) 35 1 ((refl, refl), refl)

-- ---- the figures

-- §15.1: there is a look that takes ten turns
pub look_takes_ten : Takes (opened one_worker) longest_look look_kind look_most
unfolding computed
look_takes_ten = takes three_lots three three_is three_rested (look 0 9) 9 (look 0 9 ∷ turns_of 0 look_most ∷ []) look_kind look_most Read 3 full_word refl refl refl refl refl

-- §15.1: there is a look that takes four
pub look_takes_four : Takes (opened one_worker) shortest_look look_kind look_least
unfolding computed
look_takes_four = takes three_lots three three_is three_rested (look 0 7) 3 (look 0 7 ∷ turns_of 0 look_least ∷ []) look_kind look_least Read 1 full_word refl refl refl refl refl

-- §15.2: there is a remove alone that takes six
pub remove_takes_six : Takes (opened one_worker) longest_remove remove_kind remove_most
unfolding computed
remove_takes_six =
    takes three_lots three three_is three_rested (remove 0 9) 5 (remove 0 9 ∷ turns_of 0 remove_most ∷ []) remove_kind remove_most Won 3 closed_word refl refl refl refl refl

-- §15.3: there is an insert alone that takes thirteen
pub insert_takes_thirteen : Takes (opened one_worker) three_lots insert_kind insert_most
unfolding computed
insert_takes_thirteen =
    takes two_lots two two_is two_rested (insert 0 9 (ticket 3)) 12 (insert 0 9 (ticket 3) ∷ turns_of 0 insert_most ∷ []) insert_kind insert_most Won 1 full_word
    refl refl refl refl refl

-- ---- and without end

-- three lots leave no slot empty, and lot 10 is none of them
no_room : (HasRoom three 10 ⊎ HasLot three 10) → ⊥
unfolding mark_of
no_room (inl room) = among (λ p. mark_at three 0 p ≡ 0 → ⊥) 0 3 room.slot (omega arith, (omega arith, (omega arith, tt))) (omega arith) (omega (arith, room.few)) room.empty
no_room (inr there) =
    among (λ p. key_at three 0 p ≡ 10 → ⊥) 0 3 there.slot (omega arith, (omega arith, (omega arith, tt))) (omega arith)
    (omega (arith, marked_few _ there.slot there.valid)) there.key

-- §15.3: there is an insert alone that never ends
pub insert_goes_round : StartsSo (state (opened one_worker) three_lots) 0 (insert_by (state (opened one_worker) three_lots) 0 10 (ticket 4)) (λ t. NeverEndsAlone t 0)
insert_goes_round =
    (how_long (opening_ready one_worker) three_lots).alone.insert_never 0 10 (ticket 4) (rw three_is) (rw three_is (omega arith)) (rw three_is no_room)
