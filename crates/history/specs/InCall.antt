-- The turns of a call: a trace is cut where a worker is at no call, and at one of its turns since, with no end of a call between. So each
-- turn has its number in its call. A call whose worker was retired is over without a last turn.
use Rattle.std.specs.Prelude.{ℕ, ◌+◌, List, ◌∷◌, ◌++◌, ◌⊎◌, ◌≡◌}
use Rattle.std.proofs.Math.Decide.{ℕ_discrete}
use Rattle.history.specs.Trace.{Turn, Entry, acted, who, By, Ends, OwnEnd, Cut, None}
use Rattle.history.specs.Counts.{how_many}

-- after these entries worker i is at no call that had a turn: none is its own, or its last one ended its call
abbrev pub AtRest : ℕ → List Entry → Type 0
AtRest i trace = None (By i) trace ⊎ Cut (λ e newer. By i e × Ends e × None (By i) newer) trace

-- a trace, cut before a call and at one of the call's turns; between them are its turns before that one, and what others did meanwhile
pub record InCall (trace : List Entry) : Type 0 where
  pub before : List Entry
  pub between : List Entry
  pub turn : Turn
  pub after : List Entry
  pub cut : trace ≡ before ++ (between ++ (acted turn ∷ after))
  pub rested : AtRest turn.worker before
  pub unended : None (OwnEnd turn.worker) between

-- how many of these are worker i's; within a call they are all turns
abbrev pub own_turns : ℕ → List Entry → ℕ
own_turns i es = how_many (λ e. ℕ_discrete (who e) i) es

-- which turn of its call it is, counted from 1
abbrev pub number_in_call : {trace : List Entry} → InCall trace → ℕ
number_in_call at = own_turns at.turn.worker at.between + 1
