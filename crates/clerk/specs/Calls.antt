-- The calls of a trace: what each asked, its first turn and its last, its answer; the clerk's list after a trace; and the moments of a call.
-- Entries are counted from 1, so that the first m of a trace are what was done when entry m was; where nobody is retired these are the
-- numbers of the turns, as in the listing.
use Rattle.std.specs.Prelude.{ℕ, ◌+◌, ◌≤◌, cond, List, [], ◌∷◌, ◌++◌, ◌⊎◌, ◌≡◌, eqb, length, take}
use Rattle.turn.specs.declared.Worker.{Worker}
use Rattle.turn.specs.declared.Progress.TheVariants.{Ended}
use Rattle.turn.specs.Worker.{look_kind, insert_kind}
use Rattle.engine.specs.Move.{Line}
use Rattle.history.specs.Trace.{Turn, Entry, acted, was_of, Commits, Closes, IsTurn, By}
use Rattle.history.specs.Counts.{either?, turn?, is_commit, is_close}
use Rattle.history.specs.Moment.{AtTurn}
use Rattle.history.specs.InCall.{InCall}
use Rattle.clerk.specs.Does.{Asked, look, insert, remove, told, does}

-- ---- the clerk's list after a trace

-- what a busy worker's call asks of the clerk, by its record
abbrev pub asks : Worker → Asked
asks w = cond (eqb w.kind look_kind) (look w.key) (cond (eqb w.kind insert_kind) (insert w.key w.ticket) (remove w.key))

-- a commit or a close: a turn by which a lot comes to be valid, or ceases to be
abbrev pub Settles : Turn → Type 0
Settles e = Commits e ⊎ Closes e

-- whether it is a turn that commits or closes
abbrev pub is_settled : (e : Entry) → Dec (IsTurn Settles e)
is_settled e = turn? (λ t. either? (is_commit (acted t)) (is_close (acted t))) e

-- a turn that commits or closes is done by the clerk, and any other leaves the list, as a retiring does
abbrev pub done_by : (e : Entry) → Dec (IsTurn Settles e) → List Line → List Line
done_by e (yes is) list = (does (asks (was_of e)) list).list
done_by e (no isnot) list = list

-- the list after entries, from a list
abbrev pub list_from : List Line → List Entry → List Line
list_from list [] = list
list_from list (e ∷ es) = list_from (done_by e (is_settled e) list) es

-- §17.2: the list after a trace, from no lots
abbrev pub list_after : List Entry → List Line
list_after trace = list_from [] trace

-- ---- the calls that ended

-- a call that ended: the worker, its first turn and its last, what it asked, and its answer
pub record EndedCall : Type 0 where
  pub worker : ℕ
  pub first : ℕ
  pub last : ℕ
  pub asked : Asked
  pub answer : ℕ

-- if there are entries, the first of them is worker i's
abbrev pub BeginsWith : ℕ → List Entry → Type 0
BeginsWith i [] = Unit {0}
BeginsWith i (e ∷ es) = By i e

-- §17.3: c is a call of the trace that ended
pub record IsCallOf (trace : List Entry) (c : EndedCall) : Type 0 where
  -- the trace is cut before its first turn and at its last; where the two are one, nothing is between
  pub at : InCall trace
  pub begins : BeginsWith at.turn.worker at.between
  -- whose it is, and the numbers of the two turns
  pub worker : c.worker ≡ at.turn.worker
  pub first : c.first ≡ length at.before + 1
  pub last : c.last ≡ length (at.before ++ at.between) + 1
  -- the last turn tells the answer, and the record before it what was asked
  pub asked : c.asked ≡ asks at.turn.was
  pub answer : at.turn.report.progress ≡ Ended c.answer

-- ---- moments

-- entry m is one from a call's first turn to its last, both included
pub record Within (c : EndedCall) (m : ℕ) : Type 0 where
  pub from : c.first ≤ m
  pub to : m ≤ c.last

-- the clerk who has this list gives the call's answer, and leaves the list
abbrev pub Fits : EndedCall → List Line → Type 0
Fits c list = does c.asked list ≡ told c.answer list

-- §17.6: entry m is within the call, and the call fits the list as it stands just after it
pub record IsMomentOf (trace : List Entry) (c : EndedCall) (m : ℕ) : Type 0 where
  pub within : Within c m
  pub fits : Fits c (list_after (take m trace))

-- the calls of a trace that ended have their moments
pub record HasMoments (trace : List Entry) : Type 0 where
  -- §17.5: a won commit or close is one: it ends its call, with the answer of the clerk who has the list as it was before that turn
  pub won :
      (at : AtTurn trace)
      → Settles at.turn
      → at.turn.report.progress ≡ Ended (does (asks at.turn.was) (list_after at.before)).answer
  -- §17.6: every other call that ended has one, at which its answer is the clerk's and the list stays
  pub others : (c : EndedCall) (is : IsCallOf trace c) → (Settles is.at.turn → ⊥) → (m : ℕ) × IsMomentOf trace c m
