-- A version that comes round: while a worker sleeps before its swap, another one closes the same lot and puts it up again, 2^32 times.
-- That the swap is won then is `comes_round`, in proofs/Round.
use Rattle.std.specs.Prelude.{ℕ, zero, suc, ◌+◌, ◌^◌, ◌≤◌, ◌<◌, List, [], ◌∷◌, ◌++◌, ◌≡◌, replicate}
use Rattle.turn.specs.declared.Progress.TheVariants.{Ended}
use Rattle.history.specs.Trace.{Wins, Some}
use Rattle.history.specs.Counts.{commits_in, closes_in}
use Rattle.history.specs.Moment.{AtMoment, CommittedOrClosedByAnother}
use Rattle.history.specs.History.{State, Call, insert, remove, turn, ticket, workers_of, buckets_of, state, trace, inserts}
use Rattle.history.specs.Values.{value_at}
use Rattle.history.specs.Cells.{mark_at, key_at}

-- ---- the calls

-- so many turns of one worker, each a call of its own
abbrev pub turns_by : ℕ → ℕ → List Call
turns_by i n = replicate n (turn i)

-- worker 1 starts a remove and pauses before its swap
abbrev pub falls_asleep : ℕ → List Call
falls_asleep lot = remove 1 lot ∷ turns_by 1 3

-- a round: worker 0 closes the lot and puts it up again on this ticket
abbrev pub round : ℕ → ℕ → List Call
round lot t = (remove 0 lot ∷ turns_by 0 4) ++ (insert 0 lot (ticket t) ∷ turns_by 0 11)

-- so many rounds, on the tickets that follow the last one
unfoldable pub rounds : ℕ → ℕ → ℕ → List Call
rounds lot last zero = []
rounds lot last (suc n) = rounds lot last n ++ round lot (last + suc n)

-- all that is called before the swap: worker 1 falls asleep, and worker 0 goes through as many rounds as there are versions
abbrev pub sleeps_through : State → ℕ → List Call
sleeps_through first lot = falls_asleep lot ++ rounds lot first.floor.last (2 ^ 32)

-- ---- where it can happen

-- a board of one bucket for two workers or more, with the lot alone in slot 0, and tickets left for 2^32 inserts
pub record StandsAlone (first : State) (lot : ℕ) : Type 0 where
  pub buckets : buckets_of first ≡ 1
  pub workers : 2 ≤ workers_of first
  pub valid : mark_at first 0 0 ≡ 1
  pub key : key_at first 0 0 ≡ lot
  pub empty1 : mark_at first 0 1 ≡ 0
  pub empty2 : mark_at first 0 2 ≡ 0
  pub tickets : first.floor.last + 2 ^ 32 < 2 ^ 64

-- ---- what happens

-- §3.8: after these calls the next turn of worker 1 is a swap that is won, since the word that it has in mind has come round
pub record ComesRound (first : State) (earlier : List Call) : Type 0 where
  -- one insert too many was accepted
  pub inserts_are : inserts first (earlier ++ (turn 1 ∷ [])) ≡ 2 ^ 32
  -- the swap, and its moment
  pub at : AtMoment (trace first (earlier ++ (turn 1 ∷ [])))
  -- it is won
  pub won : Wins at.turn
  -- another worker has committed or closed in its bucket since its moment
  pub others : Some (CommittedOrClosedByAnother at.turn) at.between
  -- there were as many commits and closes in between as there are versions
  pub commits_are : commits_in at.between ≡ 2 ^ 32
  pub closes_are : closes_in at.between ≡ 2 ^ 32
  -- it answers the ticket on which the lot stood at first
  pub answers : at.turn.report.progress ≡ Ended (value_at first 0 0)
  -- while the lot stood on the last of 2^32 later ones
  pub stood : value_at (state first earlier) 0 0 ≡ first.floor.last + 2 ^ 32
