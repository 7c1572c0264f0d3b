-- Trials P6, P8 and P11 as the clerk does them one by one; a look that answers a ticket which is no longer there when it ends; a look that
-- answers 0 although its lot is there both when it begins and when it ends; and a remove after a move. A line for each call: who, from which
-- turn to which, what was asked, the answer, and the turn at which the clerk does it.
use Rattle.std.specs.Prelude.{ℕ, false, List, [], ◌∷◌, ◌++◌, replicate}
use Rattle.turn.specs.declared.Action.TheVariants.{Read}
use Rattle.turn.specs.declared.Progress.TheVariants.{Ended}
use Rattle.turn.specs.Worker.{look_for}
use Rattle.history.specs.Trace.{Entry, acted}
use Rattle.history.specs.History as History
use Rattle.history.specs.History.{Call, ticket}
use Rattle.history.specs.Moves.{Lent, Step, calls, moves}
use Rattle.history.specs.Trials.{A, B, C, turns_of}
use Rattle.clerk.specs.Does.{Asked, look, insert, remove}
use Rattle.clerk.specs.Calls.{EndedCall}
use Rattle.clerk.specs.Sequence.{Placed}

-- a call at its moment: the worker, its first turn and its last, what it asked, its answer, and the moment
abbrev pub placed : ℕ → ℕ → ℕ → Asked → ℕ → ℕ → Placed
placed worker first last asked answer moment =
    record { call = record { worker = worker; first = first; last = last; asked = asked; answer = answer }; moment = moment }

-- §10.6: the sleeper: worker 1 began to remove at turn 12, and comes last
abbrev pub sleeper_sequence : List Placed
sleeper_sequence =
    placed 0 1 11 (insert 7 1) 1 11
    ∷ placed 0 15 18 (remove 7) 1 18
    ∷ placed 0 19 29 (insert 7 2) 1 29
    ∷ placed 1 12 34 (remove 7) 2 34
    ∷ []

-- §10.8: two inserts of lot 7, of which one claims the slot and the other loses its swap
abbrev pub two_inserts : List Call
two_inserts =
    History.insert A 7 (ticket 1)
    ∷ History.insert B 7 (ticket 2)
    ∷ turns_of A 7
    ∷ turns_of B 7
    ∷ turns_of A 1
    ∷ turns_of B 1
    ∷ turns_of A 3
    ∷ turns_of B 5
    ∷ []

-- §10.8: B's insert comes after A's, at the turn of A's commit
abbrev pub two_inserts_sequence : List Placed
two_inserts_sequence = placed A 1 19 (insert 7 1) 1 19 ∷ placed B 8 24 (insert 7 2) 0 19 ∷ []

-- §10.11: of five inserts two ended; B's, which began first, comes second
abbrev pub repeated_sequence : List Placed
repeated_sequence = placed C 9 19 (insert 7 2) 1 19 ∷ placed B 1 38 (insert 7 1) 0 19 ∷ []

-- a look has read the mark and the key of lot 7 and not yet the value again, when the lot is removed
abbrev pub look_too_late : List Call
look_too_late =
    History.insert 0 7 (ticket 1)
    ∷ turns_of 0 11
    ∷ History.look 1 7
    ∷ turns_of 1 3
    ∷ History.remove 0 7
    ∷ turns_of 0 4
    ∷ turns_of 1 1
    ∷ []

-- that look: from turn 12 to turn 19, with the answer 1
abbrev pub late_look : EndedCall
late_look = record { worker = 1; first = 12; last = 19; asked = look 7; answer = 1 }

-- it ends last, and comes before the remove
abbrev pub look_too_late_sequence : List Placed
look_too_late_sequence = placed 0 1 11 (insert 7 1) 1 11 ∷ record { call = late_look; moment = 12 } ∷ placed 0 15 18 (remove 7) 1 18 ∷ []

-- a look has passed the first slot, with another lot in it, when both lots are removed and its own comes back to that slot
abbrev pub look_in_the_gap : List Call
look_in_the_gap =
    History.insert 0 8 (ticket 1)
    ∷ turns_of 0 11
    ∷ History.insert 0 7 (ticket 2)
    ∷ turns_of 0 12
    ∷ History.look 1 7
    ∷ turns_of 1 3
    ∷ History.remove 0 8
    ∷ turns_of 0 4
    ∷ History.remove 0 7
    ∷ turns_of 0 5
    ∷ History.insert 0 7 (ticket 3)
    ∷ turns_of 0 11
    ∷ turns_of 1 4
    ∷ []

-- that look: from turn 24 to turn 50, with the answer 0
abbrev pub gap_look : EndedCall
gap_look = record { worker = 1; first = 24; last = 50; asked = look 7; answer = 0 }

-- it comes into the gap: after the remove of its lot, and before the insert that brings the lot back
abbrev pub look_in_the_gap_sequence : List Placed
look_in_the_gap_sequence =
    placed 0 1 11 (insert 8 1) 1 11
    ∷ placed 0 12 23 (insert 7 2) 1 23
    ∷ placed 0 27 30 (remove 8) 1 30
    ∷ placed 0 31 35 (remove 7) 2 35
    ∷ record { call = gap_look; moment = 35 }
    ∷ placed 0 36 46 (insert 7 3) 1 46
    ∷ []

-- a second board of two buckets, with something on it
abbrev pub two_buckets : Lent
two_buckets = record { words = replicate 16 1; buckets = 2 }

-- §22: lot 7 is inserted on a board of one bucket; a move while the insert is under way, and one when it has ended
abbrev pub insert_then_move : List Step
insert_then_move =
    calls (History.insert 0 7 (ticket 1))
    ∷ calls (turns_of 0 9)
    ∷ moves two_buckets
    ∷ calls (turns_of 0 2)
    ∷ moves two_buckets
    ∷ []

-- §22: and it is removed from the board of two
abbrev pub remove_after_move : List Step
remove_after_move = insert_then_move ++ (calls (History.remove 1 7) ∷ calls (turns_of 1 4) ∷ [])

-- §22.7: the remove answers the ticket of the insert, as if there had been no move
abbrev pub remove_after_move_sequence : List Placed
remove_after_move_sequence = placed 0 1 11 (insert 7 1) 1 11 ∷ placed 1 12 15 (remove 7) 1 15 ∷ []

-- a trace that no engine of the rules can leave: a look's only turn, on an empty board, which ends with the answer 5
abbrev pub made_up : List Entry
made_up =
    acted (record {
      worker = 0;
      was = look_for 7;
      report = record { action = Read; progress = Ended 5; full = false; bucket = 0; before = 0; after = 0 };
    })
    ∷ []
