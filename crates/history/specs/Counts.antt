-- What is counted in a trace. Each test answers what its type says, a word of Trace, so that no count goes by anything else.
use Rattle.std.specs.Prelude.{ℕ, cond, List, ◌⊎◌, ◌≡◌, refl}
use Rattle.std.proofs.Common.{inl, inr, ap, arith}
use Rattle.std.proofs.Math.Logic.Dec.{and, not}
use Rattle.std.proofs.Math.Decide.{ℕ_discrete}
use Rattle.turn.specs.declared.Action.{Action}
use Rattle.turn.specs.declared.Action.TheVariants.{Read, Store, Won, Lost}
use Rattle.turn.specs.Worker.{commit_place, free_place, close_place, no_slot}
use Rattle.engine.specs.declared.Totals.{Totals}
use Rattle.floor.specs.Told.{action_number}
use Rattle.history.specs.Trace.{Turn, Entry, acted, retired, Loses, Commits, Closes, IsTurn, Changes, total}

-- ---- tests

-- whether an action is a store
abbrev pub store? : (a : Action) → Dec (a ≡ Store)
store? Read = no (λ is. omega (arith, ap action_number is))
store? Store = yes refl
store? Won = no (λ is. omega (arith, ap action_number is))
store? Lost = no (λ is. omega (arith, ap action_number is))

-- whether it is a won swap
abbrev pub won? : (a : Action) → Dec (a ≡ Won)
won? Read = no (λ is. omega (arith, ap action_number is))
won? Store = no (λ is. omega (arith, ap action_number is))
won? Won = yes refl
won? Lost = no (λ is. omega (arith, ap action_number is))

-- whether it is a lost swap
abbrev pub lost? : (a : Action) → Dec (a ≡ Lost)
lost? Read = no (λ is. omega (arith, ap action_number is))
lost? Store = no (λ is. omega (arith, ap action_number is))
lost? Won = no (λ is. omega (arith, ap action_number is))
lost? Lost = yes refl

-- whether one of two things holds
abbrev pub either? : {A B : Type 0} → Dec A → Dec B → Dec (A ⊎ B)
either? (yes a) b = yes (inl a)
either? (no a) (yes b) = yes (inr b)
either? {A} {B} (no a) (no b) = no neither
  where
    neither : A ⊎ B → ⊥
    neither (inl is) = a is
    neither (inr is) = b is

-- ---- of an entry

-- whether it is a turn of which P holds, where P can be told of each turn
abbrev pub turn? : {P : Turn → Type 0} → ((t : Turn) → Dec (P t)) → (e : Entry) → Dec (IsTurn P e)
turn? test (acted t) = test t
turn? test (retired r) = no (λ is. is)

-- whether it is a turn
abbrev pub is_turn : (e : Entry) → Dec (IsTurn (λ t. Unit {0}) e)
is_turn e = turn? (λ t. yes tt) e

-- whether it is a lost swap
abbrev pub is_lost : (e : Entry) → Dec (IsTurn Loses e)
is_lost e = turn? (λ t. lost? t.report.action) e

-- whether it is a change
abbrev pub is_change : (e : Entry) → Dec (Changes e)
is_change (acted t) = either? (won? t.report.action) (and (ℕ_discrete t.was.place free_place) (store? t.report.action))
is_change (retired r) = not (ℕ_discrete r.was.held no_slot)

-- whether it is a commit
abbrev pub is_commit : (e : Entry) → Dec (IsTurn Commits e)
is_commit e = turn? (λ t. and (ℕ_discrete t.was.place commit_place) (won? t.report.action)) e

-- whether it is a close
abbrev pub is_close : (e : Entry) → Dec (IsTurn Closes e)
is_close e = turn? (λ t. and (ℕ_discrete t.was.place close_place) (won? t.report.action)) e

-- ---- counts

-- 1 where it is so, and 0 where it is not
abbrev pub one_if : {A : Type 0} → Dec A → ℕ
one_if (yes is) = 1
one_if (no isnot) = 0

-- how many entries are such, each tested
abbrev pub how_many : {P : Entry → Type 0} → ((e : Entry) → Dec (P e)) → List Entry → ℕ
how_many test trace = total (λ e. one_if (test e)) trace

-- the turns of a trace
abbrev pub turns_in : List Entry → ℕ
turns_in trace = how_many is_turn trace

-- §11.3: the lost swaps of a trace, by the reports of its turns
abbrev pub lost_swaps : List Entry → ℕ
lost_swaps trace = how_many is_lost trace

-- its changes
abbrev pub changes_in : List Entry → ℕ
changes_in trace = how_many is_change trace

-- the commits of a trace
abbrev pub commits_in : List Entry → ℕ
commits_in trace = how_many is_commit trace

-- the closes of a trace
abbrev pub closes_in : List Entry → ℕ
closes_in trace = how_many is_close trace

-- 1 for a turn that was a full round
abbrev pub round_of : Entry → ℕ
round_of (acted t) = cond t.report.full 1 0
round_of (retired r) = 0

-- its full rounds
abbrev pub full_rounds : List Entry → ℕ
full_rounds trace = total round_of trace

-- the totals of a trace: its turns, and the three counts
abbrev pub counts_of : List Entry → Totals
counts_of trace = record { turns = turns_in trace; changes = changes_in trace; lost = lost_swaps trace; full = full_rounds trace }
