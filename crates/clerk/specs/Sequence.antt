-- Calls one by one: a sequence of calls with their moments, and what it has to be so that it is the clerk's.
use Rattle.std.specs.Prelude.{ℕ, ◌≤◌, ◌<◌, ◌≡◌, take}
use mathlib.Core.List.{List, [], ◌∷◌, ◌++◌, map, filter}
use Rattle.std.proofs.Math.Decide.{dec_le}
use Rattle.walks.specs.Lists.{Each, Has, Ordered}
use Rattle.history.specs.Trace.{Entry}
use Rattle.clerk.specs.Does.{Asked, answers_to, list_left}
use Rattle.clerk.specs.Calls.{EndedCall, IsCallOf, Settles, Within, IsMomentOf, list_after}

-- ---- calls with their moments

-- a call, and the turn at which the clerk does it
pub record Placed : Type 0 where
  pub call : EndedCall
  pub moment : ℕ

-- §17.5, §17.6: a call of the trace is done at a moment of its own
pub record DoneAt (trace : List Entry) (x : Placed) : Type 0 where
  pub is : IsCallOf trace x.call
  -- one of the turns from its first to its last
  pub within : Within x.call x.moment
  -- where it ended by a commit or a close, that very turn
  pub won : Settles is.at.turn → x.moment ≡ x.call.last
  -- where it did not, one at which its answer is the clerk's, and the list stays
  pub other : (Settles is.at.turn → ⊥) → IsMomentOf trace x.call x.moment

-- c stands in a sequence, and d after it
pub record Precedes (c d : EndedCall) (sequence : List Placed) : Type 0 where
  pub older : List Placed
  pub one : Placed
  pub newer : List Placed
  pub cut : sequence ≡ older ++ (one ∷ newer)
  pub is : one.call ≡ c
  pub then : Has (λ x. x.call ≡ d) newer

-- those of a sequence that are done at turn m or before it
abbrev pub done_until : ℕ → List Placed → List Placed
done_until m sequence = filter (λ x. dec_le x.moment m) sequence

-- what the calls of a sequence ask
abbrev pub asked_in : List Placed → List Asked
asked_in sequence = map (λ x. x.call.asked) sequence

-- what the calls of a sequence were answered
abbrev pub answered_in : List Placed → List ℕ
answered_in sequence = map (λ x. x.call.answer) sequence

-- §17.7: the sequence is the trace's calls, one by one
pub record OneByOne (trace : List Entry) (sequence : List Placed) : Type 0 where
  -- it is sorted by moment
  pub sorted : Ordered (λ x y. x.moment ≤ y.moment) sequence
  -- each in it is a call of the trace that ended, at a moment of its own
  pub calls : Each (DoneAt trace) sequence
  -- every call of the trace that ended is in it
  pub every : (c : EndedCall) → IsCallOf trace c → Has (λ x. x.call ≡ c) sequence
  -- and no call is in it twice
  pub once : Ordered (λ x y. x.call ≡ y.call → ⊥) sequence
  -- the clerk, who starts from no lots and does them in that order, gives each its answer
  pub answers : answers_to (asked_in sequence) [] ≡ answered_in sequence
  -- just after each turn, having done those whose moment has come, that clerk has the list as it stands then
  pub keeps : (m : ℕ) → list_left (asked_in (done_until m sequence)) [] ≡ list_after (take m trace)
  -- and in the end the list after the trace
  pub ends : list_left (asked_in sequence) [] ≡ list_after trace
  -- of two calls of which one ended before the other's first turn, that one comes first
  pub in_order : (c d : EndedCall) → IsCallOf trace c → IsCallOf trace d → c.last < d.first → Precedes c d sequence
