-- A board on which a version can come round is reached: two workers, one bucket, lot 7 put up, and a move to another bucket. So inserts have to
-- be few there too. Assumes nothing.
use Prim.Native.Nat.{◌^◌, ◌≤◌}
use mathlib.Core.List.{List, [], ◌∷◌, ◌++◌}
use mathlib.Core.Path.{◌≡◌, refl}
use native.Mathlib.Omega.{arith}
use lib.ListN.{replicate}
use Rattle.history.specs.History.{State, Call, insert, turn, ticket, opened, state, trace, inserts}
use Rattle.history.specs.Trace.{Wins, None}
use Rattle.history.specs.Moment.{AtMoment, CommittedOrClosedByAnother}
use Rattle.history.specs.Trials.{turns_of}
use Rattle.history.specs.Moves.{Lent, move_number_of}
use Rattle.history.specs.Moved.{moved_to}
use Rattle.history.specs.Round.{sleeps_through, StandsAlone, ComesRound}
use Rattle.history.proofs.Ready.{Ready}
use Rattle.history.proofs.Opened.{opening_ready}
use Rattle.history.proofs.Moved.{move_done, state_in_stretch}
use Rattle.history.proofs.Reached.{two_workers}
use Rattle.history.proofs.Round.{comes_round, premise_needed}
use Rattle.history.proofs.MovesReached.{moving}

-- lot 7 is put up on ticket 1
abbrev put_up : List Call
put_up = insert 0 7 (ticket 1) ∷ turns_of 0 11 ∷ []

-- a second board of one bucket, with something on it
abbrev second : Lent
second = record { words = replicate 8 9; buckets = 1 }

-- the state that the move leaves
abbrev pub after_move : State
after_move = moved_to (state (opened two_workers) put_up) second

-- the move is accepted
move_accepted : move_number_of (state (opened two_workers) put_up) second ≡ 0
unfolding moving
move_accepted = refl

-- a stretch can begin there
pub move_ready : Ready after_move
move_ready = (move_done (state (opened two_workers) put_up) second (state_in_stretch (opening_ready two_workers) put_up) move_accepted).ready

-- and the lot stands alone
pub move_alone : StandsAlone after_move 7
unfolding moving
move_alone =
    record {
      buckets = refl;
      workers = omega arith;
      valid = refl;
      key = refl;
      empty1 = refl;
      empty2 = refl;
      tickets = omega arith;
    }

-- §3.8: from there a version comes round
pub round_reached : ComesRound after_move (sleeps_through after_move 7)
round_reached = comes_round move_ready move_alone

-- §3.8: so the premise of demand 3 cannot be had with one insert more
pub one_too_many :
    ((first : State)
    → Ready first
    → (calls : List Call)
    → inserts first calls ≤ 2 ^ 32
    → (at : AtMoment (trace first calls))
    → Wins at.turn
    → None (CommittedOrClosedByAnother at.turn) at.between)
    → ⊥
one_too_many claim =
    premise_needed round_reached (claim after_move move_ready (sleeps_through after_move 7 ++ (turn 1 ∷ [])) (omega (arith, round_reached.inserts_are)))
