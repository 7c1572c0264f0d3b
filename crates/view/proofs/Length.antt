-- How long the words of a scene are at most: so much room is enough. Assumes nothing.
use Prim.Native.Nat.{ℕ, ◌+◌, ◌*◌, ◌≤◌}
use mathlib.Core.Bool.{Bool, true, false, cond, not}
use mathlib.Core.Path.{◌≡◌, refl}
use mathlib.Core.List.{List, [], ◌∷◌, ◌++◌}
use native.Mathlib.Omega.{arith}
use lib.Dec.{eqb, leb}
use borrow.Author.Tests.{leb-true}
use lib.ListN.{length, length-append}
use Rattle.mark.specs.Word.{version, mark_of}
use Rattle.turn.specs.declared.Worker.{Worker}
use Rattle.turn.specs.declared.Action.{Action}
use Rattle.turn.specs.declared.Action.TheVariants.{Read, Store, Won, Lost}
use Rattle.turn.specs.declared.Progress.{Progress}
use Rattle.turn.specs.declared.Progress.TheVariants.{GoesOn, Ended}
use Rattle.turn.specs.declared.Report.{Report}
use Rattle.engine.specs.declared.Plan.{Plan}
use Rattle.engine.specs.declared.Totals.{Totals}
use Rattle.sheet.specs.declared.Call.{Call}
use Rattle.pen.specs.Words.{bytes}
use Rattle.pen.proofs.Decimal.{decimal_short}
use Rattle.view.specs.declared.Change.{Change}
use Rattle.view.specs.declared.Acted.{Acted}
use Rattle.view.specs.declared.Stop.{Stop}
use Rattle.view.specs.Telling.{told, things, mark_name, mark_told, word_told, cell_on, slot_told, slots_told, bucket_told, line_if, kind_name}
use Rattle.view.specs.Telling.{read_told, outcome_told, swap_told, store_told, writes_told, does_told, head_told, turn_told}
use Rattle.view.specs.Telling.{new_word, new_ticket, new_held, new_slot, learnt_told, full_told, blame_told, lost_told, answer_told, end_told, news_told}
use Rattle.view.specs.Telling.{open_told, ticket_told, begin_told, meaning, why_told, whose_told, stop_told}
use Rattle.view.specs.Telling.{call_told, busy_told, busy_from, totals_told, over_told}

-- ---- choices and numbers

-- a choice is no longer than the longer of its cases
pub cond_fits : (k : ℕ) (t : Bool) (l m : List ℕ) → length l ≤ k → length m ≤ k → length (cond t l m) ≤ k
cond_fits k true l m h g = h
cond_fits k false l m h g = g

-- a line that may be missing
pub line_fits : (k : ℕ) (t : Bool) (l : List ℕ) → length l ≤ k → length (line_if t l) ≤ k
line_fits k t l h = cond_fits k t l [] h (omega arith)

-- what is plainly short enough
pub short : (k : ℕ) (l : List ℕ) → leb (length l) k ≡ true → length l ≤ k
short k l h = leb-true (length l) k h

-- `search choosing` closes that a choice of words is short enough
pub ruleset choosing = (cond_fits, line_fits, short)

things_fits : (words : List ℕ) (n : ℕ) (name : List ℕ) → length (things words n name) ≤ length words + 20 + length name + 1
unfolding bytes things
things_fits words n name =
    simp length-append (omega (arith, decimal_short n, cond_fits 1 (eqb n 1) [] (bytes "s") (omega arith) (omega arith)))

-- ---- a mark word

mark_fits : (mark : ℕ) → length (mark_name mark) ≤ 14
unfolding bytes mark_name
mark_fits mark = search choosing

word_fits : (k : ℕ) (words : List ℕ) (word : ℕ) → leb (length words + 75) k ≡ true → length (word_told words word) ≤ k
unfolding bytes word_told
word_fits k words word h =
    simp length-append
    (omega (
      arith,
      leb-true (length words + 75) k h,
      decimal_short (version word),
      mark_fits (mark_of word 0),
      mark_fits (mark_of word 1),
      mark_fits (mark_of word 2),
    ))

-- ---- what a turn does

read_fits :
    (k : ℕ) (words : List ℕ) (slot value : ℕ) → leb (length words + 42) k ≡ true → length (read_told words slot value) ≤ k
unfolding bytes read_told
read_fits k words slot value h =
    simp length-append (omega (arith, leb-true (length words + 42) k h, decimal_short slot, decimal_short value))

outcome_fits : (action : Action) → length (outcome_told action) ≤ 6
unfolding bytes outcome_told
outcome_fits Read = omega arith
outcome_fits Store = omega arith
outcome_fits Won = omega arith
outcome_fits Lost = omega arith

swap_fits :
    (k : ℕ) (words : List ℕ) (slot : ℕ) (more : List ℕ) (action : Action)
    → leb (length words + length more + 26) k ≡ true
    → length (swap_told words slot more action) ≤ k
unfolding swap_told
swap_fits k words slot more action h =
    simp length-append (omega (arith, leb-true (length words + length more + 26) k h, decimal_short slot, outcome_fits action))

store_fits :
    (k : ℕ) (words : List ℕ) (value slot : ℕ) → leb (length words + 51) k ≡ true → length (store_told words value slot) ≤ k
unfolding bytes store_told
store_fits k words value slot h =
    simp length-append (omega (arith, leb-true (length words + 51) k h, decimal_short value, decimal_short slot))

writes_fits : (w : Worker) (action : Action) → length (writes_told w action) ≤ 84
unfolding bytes writes_told
writes_fits w action = search (choosing, swap_fits, store_fits) depth 9

reads_mark : (slot word : ℕ) → length (told (bytes "reads the mark of slot ") slot ++ mark_told (bytes ": ") word slot) ≤ 84
unfolding bytes
reads_mark slot word = simp length-append (omega (arith, decimal_short slot, mark_fits (mark_of word slot)))

does_fits : (board : List ℕ) (w : Worker) (report : Report) → length (does_told board w report) ≤ 84
unfolding bytes does_told
does_fits board w report = search (choosing, read_fits, reads_mark, writes_fits) depth 9

-- ---- what is new

line_of : (k : ℕ) (words : List ℕ) (n : ℕ) → leb (length words + 21) k ≡ true → length (told words n ++ bytes "\n") ≤ k
unfolding bytes
line_of k words n h = simp length-append (omega (arith, leb-true (length words + 21) k h, decimal_short n))

new_word_lem : (w v : Worker) (action : Action) → length (new_word w v action) ≤ 95
unfolding bytes new_word
new_word_lem w v action = search (choosing, word_fits)

new_ticket_lem : (w v : Worker) → length (new_ticket w v) ≤ 40
unfolding bytes new_ticket
new_ticket_lem w v = search (choosing, line_of)

new_held_lem : (w v : Worker) (action : Action) → length (new_held w v action) ≤ 34
unfolding bytes new_held
new_held_lem w v action = search (choosing, line_of)

new_slot_lem : (w v : Worker) (progress : Progress) → length (new_slot w v progress) ≤ 34
unfolding bytes new_slot
new_slot_lem w v progress = search (choosing, line_of)

learnt_fits : (w v : Worker) (action : Action) (progress : Progress) → length (learnt_told w v action progress) ≤ 203
unfolding learnt_told
learnt_fits w v action progress =
    simp length-append (omega (arith, new_word_lem w v action, new_ticket_lem w v, new_held_lem w v action, new_slot_lem w v progress))

full_fits : (full : Bool) → length (full_told full) ≤ 60
unfolding bytes full_told
full_fits full = search choosing

blame_fits : (word : ℕ) (c : Change) → length (blame_told word c) ≤ 193
unfolding bytes blame_told
blame_fits word c =
    simp length-append (omega (arith, word_fits 93 (bytes "  went by version ") word refl, decimal_short c.worker, decimal_short c.turn))

lost_fits : (w : Worker) (action : Action) (c : Change) → length (lost_told w action c) ≤ 193
unfolding lost_told
lost_fits w action c = search (choosing, blame_fits)

kind_fits : (kind : ℕ) → length (kind_name kind) ≤ 6
unfolding bytes kind_name
kind_fits kind = search choosing

answer_fits : (kind answer : ℕ) → length (answer_told kind answer) ≤ 44
unfolding bytes answer_told
answer_fits kind answer = simp length-append (omega (arith, kind_fits kind, decimal_short answer))

end_fits : (kind : ℕ) (progress : Progress) → length (end_told kind progress) ≤ 44
unfolding end_told
end_fits kind GoesOn = omega arith
end_fits kind (Ended answer) = answer_fits kind answer

news_fits : (a : Acted) → length (news_told a) ≤ 500
unfolding news_told
news_fits a =
    let r : Report = a.report in
    let w : Worker = a.before in
    simp length-append
    (omega (
      arith,
      learnt_fits w a.after r.action r.progress,
      full_fits r.full,
      lost_fits w r.action a.change,
      end_fits w.kind r.progress,
    ))

-- ---- the bucket

slot_fits : (board : List ℕ) (bucket word slot : ℕ) → length (slot_told board bucket word slot) ≤ 72
unfolding bytes slot_told
slot_fits board bucket word slot =
    simp length-append
    (omega
    (arith, mark_fits (mark_of word slot), decimal_short (cell_on board bucket (1 + slot)), decimal_short (cell_on board bucket (4 + slot))))

slots_fits : (board : List ℕ) (bucket word : ℕ) → length (slots_told board bucket word) ≤ 217
unfolding bytes slots_told
slots_fits board bucket word =
    simp length-append
    (omega (arith, slot_fits board bucket word 0, slot_fits board bucket word 1, slot_fits board bucket word 2))

bucket_fits : (board : List ℕ) (bucket : ℕ) → length (bucket_told board bucket) ≤ 276
unfolding bytes bucket_told
bucket_fits board bucket =
    let word = cell_on board bucket 0 in
    simp length-append (omega (arith, decimal_short bucket, decimal_short (version word), slots_fits board bucket word))

-- ---- the scenes

head_fits : (board : List ℕ) (turn : ℕ) (a : Acted) → length (head_told board turn a) ≤ 140
unfolding bytes head_told
head_fits board turn a =
    simp length-append (omega (arith, decimal_short turn, decimal_short a.worker, does_fits board a.before a.report))

-- a turn
pub turn_fits : (board : List ℕ) (turn : ℕ) (a : Acted) → length (turn_told board turn a) ≤ 1024
unfolding turn_told
turn_fits board turn a =
    simp length-append (omega (arith, head_fits board turn a, news_fits a, bucket_fits board a.report.bucket))

-- a floor
pub open_fits : (p : Plan) → length (open_told p) ≤ 1024
unfolding bytes open_told
open_fits p =
    simp length-append
    (omega (
      arith,
      things_fits (bytes "floor: ") p.workers (bytes " worker"),
      things_fits (bytes ", ") p.buckets (bytes " bucket"),
      decimal_short p.version,
    ))

ticket_fits_lem : (kind ticket : ℕ) → length (ticket_told kind ticket) ≤ 29
unfolding bytes ticket_told
ticket_fits_lem kind ticket = line_fits 29 (eqb kind 2) _ (simp length-append (omega (arith, decimal_short ticket)))

-- the start of a call
pub begin_fits : (c : Call) → length (begin_told c) ≤ 1024
unfolding bytes begin_told
begin_fits c =
    simp length-append
    (omega (arith, decimal_short c.worker, kind_fits c.kind, decimal_short c.lot, ticket_fits_lem c.kind c.ticket))

meaning_fits : (number : ℕ) → length (meaning number) ≤ 60
unfolding bytes meaning
meaning_fits number = search choosing depth 12

whose_fits : (turn worker : ℕ) → length (whose_told turn worker) ≤ 58
unfolding bytes whose_told
whose_fits turn worker =
    line_fits 58 (not (eqb turn 0)) _ (simp length-append (omega (arith, decimal_short turn, decimal_short worker)))

why_fits : (number : ℕ) → length (why_told number) ≤ 93
unfolding bytes why_told
why_fits number = simp length-append (omega (arith, decimal_short number, meaning_fits number))

-- a refusal
pub stop_fits : (s : Stop) → length (stop_told s) ≤ 1024
unfolding bytes stop_told
stop_fits s =
    simp length-append
    (omega (arith, why_fits s.number, decimal_short s.field, decimal_short s.offset, whose_fits s.turn s.worker))

call_fits : (i : ℕ) (w : Worker) → length (call_told i w) ≤ 81
unfolding bytes call_told
call_fits i w = simp length-append (omega (arith, decimal_short i, kind_fits w.kind, decimal_short w.key))

busy_fits : (i : ℕ) (w : Worker) → length (busy_told i w) ≤ 81
unfolding busy_told
busy_fits i w = search (choosing, call_fits)

everyone_fits : (i : ℕ) (ws : List Worker) → length (busy_from i ws) ≤ 81 * length ws
unfolding busy_from
everyone_fits i [] = omega arith
everyone_fits i (w ∷ ws) = simp length-append (omega (arith, busy_fits i w, everyone_fits (i + 1) ws))

totals_fits : (t : Totals) → length (totals_told t) ≤ 125
unfolding bytes totals_told
totals_fits t =
    simp length-append
    (omega (
      arith,
      things_fits (bytes "; ") t.turns (bytes " turn"),
      things_fits (bytes ", ") t.changes (bytes " change"),
      things_fits (bytes ", ") t.lost (bytes " lost swap"),
      things_fits (bytes ", ") t.full (bytes " full round"),
    ))

-- the end, which tells of every record
pub over_fits : (lots : ℕ) (t : Totals) (ws : List Worker) → length (over_told lots t ws) ≤ 1024 + 81 * length ws
unfolding bytes over_told
over_fits lots t ws =
    simp length-append
    (omega (arith, things_fits (bytes "end: ") lots (bytes " lot"), totals_fits t, everyone_fits 0 ws))
