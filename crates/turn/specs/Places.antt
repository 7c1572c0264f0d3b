-- The place table: what a turn does at each place (§4, §5). The figures are the report's, section 2.2.
use Rattle.std.specs.Prelude.{ℕ, ◌+◌, Bool, true, false, cond, ◌&&◌, not, List, [], ◌∷◌, get_or, set, eqb, ltb}
use Rattle.mark.specs.Word.{mark_of, set_mark, bump, first_empty}
use Rattle.turn.specs.declared.Worker.{Worker}
use Rattle.turn.specs.declared.Action.{Action}
use Rattle.turn.specs.declared.Action.TheVariants.{Read, Store, Won, Lost}
use Rattle.turn.specs.declared.Progress.TheVariants.{GoesOn, Ended}
use Rattle.turn.specs.declared.Stepped.{Stepped}
use Rattle.turn.specs.Worker.{look_kind, remove_kind, no_slot, idle, go_to, at_slot, saw, read_word, claimed}
use Rattle.turn.specs.Bucket.{mark_cell, key_cell, value_cell, cell}

-- ---- how a step comes out: the action, whether the call goes on, and whether this was a full round

-- §4.8: the call goes on
abbrev pub goes_on : Action → Bool → Worker → Stepped
goes_on action full w = record { worker = w; action = action; progress = GoesOn; full = full }

-- §4.3, §4.8: the call has ended with an answer, and its worker is idle
abbrev pub ends : Action → ℕ → Stepped
ends action answer = record { worker = idle; action = action; progress = Ended answer; full = false }

-- ---- what follows a search

-- §4.6: the search has found (figure 6, line 14; figure 7, lines 15 to 22)
unfoldable pub look_found : Worker → Stepped
look_found w = cond (eqb w.kind look_kind) (ends Read w.seen) (cond (eqb w.held no_slot) (ends Read 0) (goes_on Read false (go_to 10 w)))

-- §4.7: the slot to claim, or a full round (figure 7, lines 24 to 30)
unfoldable pub find_slot : Worker → Stepped
find_slot w = cond (ltb (first_empty w.word) 3) (goes_on Read false (at_slot 6 (first_empty w.word) w)) (goes_on Read true (at_slot 1 0 w))

-- §4.7: the search is empty (figure 6, lines 18 and 23; figure 7, lines 24 and 41 to 44)
unfoldable pub look_empty : Worker → Stepped
look_empty w = cond (eqb w.kind look_kind) (ends Read 0) (cond (eqb w.held no_slot) (find_slot w) (goes_on Read false (go_to 9 w)))

-- §4.5: to the next slot (figure 6, lines 5 and 23)
unfoldable pub next_slot : Worker → Stepped
next_slot w = cond (ltb w.slot 2) (goes_on Read false (at_slot 2 (w.slot + 1) w)) (look_empty w)

-- ---- what follows what was read

-- §5.1: an insert begins its search, a remove goes through the keys
unfoldable pub after1 : Worker → ℕ → Stepped
after1 w x = cond (eqb w.kind remove_kind) (goes_on Read false (read_word 11 x w)) (goes_on Read false (read_word 2 x w))

-- §5.2: the value is remembered
unfoldable pub after2 : Worker → ℕ → Stepped
after2 w x = goes_on Read false (saw 3 x w)

-- §5.3: a slot that is not valid is passed over
unfoldable pub after3 : Worker → ℕ → Stepped
after3 w x = cond (eqb (mark_of x w.slot) 1) (goes_on Read false (go_to 4 w)) (next_slot w)

-- §5.4: a slot with another lot is passed over
unfoldable pub after4 : Worker → ℕ → Stepped
after4 w x = cond (eqb x w.key) (goes_on Read false (go_to 5 w)) (next_slot w)

-- §5.5: found where both readings of the value agree, and it is not 0
unfoldable pub after5 : Worker → ℕ → Stepped
after5 w x = cond (eqb x w.seen && not (eqb x 0)) (look_found w) (look_empty w)

-- §5.11: to the next key; after the last one the lot is not there
unfoldable pub next_key : Worker → Stepped
next_key w = cond (ltb w.slot 2) (goes_on Read false (at_slot 11 (w.slot + 1) w)) (ends Read 0)

-- §5.11: the key has to be the lot, and the slot valid in the word that was read
unfoldable pub after11 : Worker → ℕ → Stepped
after11 w x = cond (eqb x w.key && eqb (mark_of w.word w.slot) 1) (goes_on Read false (go_to 12 w)) (next_key w)

-- §5.12: the value is remembered
unfoldable pub after12 : Worker → ℕ → Stepped
after12 w x = goes_on Read false (saw 13 x w)

-- ---- the one memory action of a turn

-- §4.1: there are three kinds of action, and no fourth
pub data Act : Type 0 where
  -- the word at a cell is read, and `next` of it follows
  read : (Worker → ℕ) → (Worker → ℕ → Stepped) → Act
  -- the word at a cell becomes `what` of the one that stood there, and `next` follows
  store : (Worker → ℕ) → (ℕ → Worker → ℕ) → (Worker → Stepped) → Act
  -- the mark word becomes `new` if it is `expected`, and `won` follows; else it is lost
  swap : (Worker → ℕ) → (Worker → ℕ) → (Worker → Stepped) → Act

-- what a step leaves: the bucket, and the worker with how the step came out
pub record Step : Type 0 where
  pub bucket : List ℕ
  pub stepped : Stepped

-- this bucket, and this worker
abbrev pub leaves : List ℕ → Stepped → Step
leaves b s = record { bucket = b; stepped = s }

-- §4.4: whether a swap is won
abbrev pub wins : List ℕ → ℕ → Bool
wins b expected = eqb (cell b mark_cell) expected

-- §4.4: a swap that is won leaves the new mark word, and one that is lost the bucket as it was
abbrev pub swapped : List ℕ → ℕ → ℕ → Stepped → Stepped → Step
swapped b expected new won lost = cond (wins b expected) (leaves (set b mark_cell new) won) (leaves b lost)

-- §4.4: who has lost a swap begins again
abbrev pub loses : Worker → Stepped
loses w = goes_on Lost false (go_to 1 w)

-- §4.1: an action done by a worker on a bucket
abbrev pub does : Act → List ℕ → Worker → Step
does (read at next) b w = leaves b (next w (cell b (at w)))
does (store at what next) b w = leaves (set b (at w) (what (cell b (at w)) w)) (next w)
does (swap expected new won) b w = swapped b (expected w) (new w) (won w) (loses w)

-- ---- the cells that the places touch

-- the mark word
abbrev pub mark : Worker → ℕ
mark w = mark_cell

-- key[slot]
abbrev pub key : Worker → ℕ
key w = key_cell w.slot

-- value[slot]
abbrev pub value : Worker → ℕ
value w = value_cell w.slot

-- key[held]
abbrev pub held_key : Worker → ℕ
held_key w = key_cell w.held

-- value[held]
abbrev pub held_value : Worker → ℕ
held_value w = value_cell w.held

-- ---- the mark words that the swaps expect and leave

-- the word that was read
abbrev pub word : Worker → ℕ
word w = w.word

-- §5.6: the slot is being inserted
abbrev pub claim : Worker → ℕ
claim w = set_mark w.word w.slot 2

-- §5.9: the held slot is being inserted, as a commit expects it
abbrev pub filled : Worker → ℕ
filled w = set_mark w.word w.held 2

-- §5.9: the held slot is valid, at the next version (decision 26)
abbrev pub commit : Worker → ℕ
commit w = bump (set_mark (filled w) w.held 1)

-- §5.13: the slot is empty, at the same version
abbrev pub close : Worker → ℕ
close w = set_mark w.word w.slot 0

-- ---- the table

-- no call is at place 0: a turn there is refused before it comes to the table, and the row changes nothing (decision 22)
abbrev pub stays : Act
stays = read mark (λ w x. goes_on Read false w)

-- §1.3, §11.2: a row for each place from 0 on
abbrev pub rows : List Act
rows =
    stays  -- 0
    ∷ read mark after1  -- §5.1: figure 7, line 13; figure 8, line 13
    ∷ read value after2  -- §5.2: figure 6, line 7
    ∷ read mark after3  -- §5.3: figure 6, line 8
    ∷ read key after4  -- §5.4: figure 6, line 10
    ∷ read value after5  -- §5.5: figure 6, lines 12 to 18
    ∷ swap word claim (λ w. goes_on Won false (claimed (claim w) w))  -- §5.6: figure 7, lines 31 to 35
    ∷ store held_value (λ old w. w.ticket) (λ w. goes_on Store false (go_to 8 w))  -- §5.7: figure 7, line 38
    ∷ store held_key (λ old w. w.key) (λ w. goes_on Store false (go_to 9 w))  -- §5.8: figure 7, line 39
    ∷ swap filled commit (λ w. ends Won 1)  -- §5.9: figure 7, lines 43 to 52
    ∷ store mark (λ old w. set_mark old w.held 0) (λ w. ends Store 0)  -- §5.10: figure 7, lines 19 and 21
    ∷ read key after11  -- §5.11: figure 8, line 16
    ∷ read value after12  -- §5.12: figure 8, line 18
    ∷ swap word close (λ w. ends Won w.seen)  -- §5.13: figure 8, lines 20 to 27
    ∷ []

-- §4.1: the place decides what a turn does
unfoldable pub turn : List ℕ → Worker → Step
turn b w = does (get_or rows w.place stays) b w
