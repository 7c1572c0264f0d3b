-- Moves among the calls (§22). One that is refused leaves everything as it was. One that is accepted leaves a second board in the place of the
-- first, with which a new stretch begins.
use Rattle.std.specs.Prelude.{ℕ, ◌+◌, ◌^◌, ◌<◌, cond, List, [], ◌∷◌, ◌++◌, ◌≡◌, eqb, length}
use Rattle.turn.specs.Turn.{After}
use Rattle.engine.specs.declared.Moved.{Moved}
use Rattle.engine.specs.Move.{rest_number}
use Rattle.hall.specs.Refusals.{hall_move_number}
use Rattle.hall.specs.Calls.{hall_move, moved_index}
use Rattle.history.specs.Trace.{Entry}
use Rattle.turn.specs.Worker.{insert_kind}
use Rattle.history.specs.History.{State, Call, after, entries, is_start}

-- a second board that is lent: its words, whatever they are, and how many buckets it is to have
pub record Lent : Type 0 where
  pub words : List ℕ
  pub buckets : ℕ

-- what can be asked of an opened board: a call, or a move to a second one
pub data Step : Type 0 where
  calls : Call → Step
  moves : Lent → Step

-- §7.2: the number of a move, or 0
abbrev pub move_number_of : State → Lent → ℕ
move_number_of s m =
    hall_move_number s.floor s.board s.index (length s.records) (rest_number s.records) m.buckets m.words

-- what the engine says of a move
abbrev pub move_by : State → Lent → After Moved
move_by s m = hall_move s.board m.words s.index s.floor (length s.records) (rest_number s.records) m.buckets

-- §22.3: a move leaves the records; where it is accepted the second board is the opened one, else the first still is
abbrev pub moved_as : State → Lent → After Moved → State
moved_as s m x =
    record {
      board = cond (eqb x.handed.refusal 0) x.words s.board;
      floor = x.handed.floor;
      records = s.records;
      index = moved_index s.index x.words m.buckets x.handed.refusal;
    }

-- the state that a call or a move leaves
abbrev pub after_step : State → Step → State
after_step s (calls c) = after s c
after_step s (moves m) = moved_as s m (move_by s m)

-- what it does; a move is no turn
abbrev pub entries_by : State → Step → List Entry
entries_by s (calls c) = entries s c
entries_by s (moves m) = []

-- the state after calls and moves one after another
unfoldable pub state_through : State → List Step → State
state_through s [] = s
state_through s (a ∷ more) = state_through (after_step s a) more

-- what they do, through all moves
unfoldable pub trace_through : State → List Step → List Entry
trace_through s [] = []
trace_through s (a ∷ more) = entries_by s a ++ trace_through (after_step s a) more

-- ---- how many inserts

-- the inserts accepted since a stretch began, of which there were k before this step: a move that is accepted begins a new one
abbrev pub inserts_by : ℕ → State → Step → ℕ
inserts_by k s (calls c) = k + is_start insert_kind s c
inserts_by k s (moves m) = cond (eqb (move_number_of s m) 0) 0 k

-- and after calls and moves one after another
unfoldable pub inserts_through : ℕ → State → List Step → ℕ
inserts_through k s [] = k
inserts_through k s (a ∷ more) = inserts_through (inserts_by k s a) (after_step s a) more

-- §3.8: inserts have been few at all times: wherever the calls and moves are cut, fewer than 2^32 were accepted since the opening or the last move
abbrev pub FewThrough : State → List Step → Type 0
FewThrough first steps = (earlier later : List Step) → steps ≡ earlier ++ later → inserts_through 0 first earlier < 2 ^ 32
