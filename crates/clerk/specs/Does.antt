-- The clerk: one person with one list of lots and tickets, who does one call after another. No slot, no worker and no turn is spoken of
-- here.
use Rattle.std.specs.Prelude.{ℕ, ◌≤◌, Bool, false, cond, ◌||◌, List, [], ◌∷◌, ◌≡◌, eqb}
use Rattle.engine.specs.Move.{Line}

-- a line of the clerk's list: this lot with this ticket
abbrev pub line : ℕ → ℕ → Line
line lot ticket = record { lot = lot; ticket = ticket }

-- what can be asked of the clerk
pub data Asked : Type 0 where
  -- the ticket of a lot
  look : ℕ → Asked
  -- that a lot be added, with a ticket
  insert : ℕ → ℕ → Asked
  -- that a lot be struck
  remove : ℕ → Asked

-- what the clerk answers, and the list that the clerk leaves
pub record Told : Type 0 where
  pub answer : ℕ
  pub list : List Line

-- this answer, and this list
abbrev pub told : ℕ → List Line → Told
told answer list = record { answer = answer; list = list }

-- whether a lot is in the list
abbrev pub is_in : ℕ → List Line → Bool
is_in lot [] = false
is_in lot (l ∷ list) = eqb l.lot lot || is_in lot list

-- the ticket of a lot, or 0 if the lot is not in the list
abbrev pub ticket_in : ℕ → List Line → ℕ
ticket_in lot [] = 0
ticket_in lot (l ∷ list) = cond (eqb l.lot lot) l.ticket (ticket_in lot list)

-- the list with a lot struck
abbrev pub without : ℕ → List Line → List Line
without lot [] = []
without lot (l ∷ list) = cond (eqb l.lot lot) (without lot list) (l ∷ without lot list)

-- §17.1: a look tells the lot's ticket; an insert adds a lot that is not there; a remove tells the lot's ticket and strikes the lot
abbrev pub does : Asked → List Line → Told
does (look lot) list = told (ticket_in lot list) list
does (insert lot ticket) list = cond (is_in lot list) (told 0 list) (told 1 (line lot ticket ∷ list))
does (remove lot) list = told (ticket_in lot list) (without lot list)

-- §17.1: the answers to calls that are done one after another, from a list
abbrev pub answers_to : List Asked → List Line → List ℕ
answers_to [] list = []
answers_to (a ∷ rest) list = (does a list).answer ∷ answers_to rest (does a list).list

-- §17.1: the list that these calls leave
abbrev pub list_left : List Asked → List Line → List Line
list_left [] list = list
list_left (a ∷ rest) list = list_left rest (does a list).list

-- §17.5: whether an answer tells that the call has changed the list: that of an insert if it is 1, that of a remove if it is a ticket
abbrev pub TellsChange : Asked → ℕ → Type 0
TellsChange (look lot) answer = ⊥
TellsChange (insert lot ticket) answer = answer ≡ 1
TellsChange (remove lot) answer = 1 ≤ answer
