-- A scene in words.
use Rattle.std.specs.Prelude.{ℕ, ◌+◌, ◌*◌, Bool, true, false, cond, ◌&&◌, ◌||◌, not, List, [], ◌∷◌, ◌++◌, get_or, eqb}
use Rattle.mark.specs.Word.{version, mark_of}
use Rattle.turn.specs.declared.Worker.{Worker}
use Rattle.turn.specs.declared.Action.{Action}
use Rattle.turn.specs.declared.Action.TheVariants.{Read, Store, Won, Lost}
use Rattle.turn.specs.declared.Progress.{Progress}
use Rattle.turn.specs.declared.Progress.TheVariants.{GoesOn, Ended}
use Rattle.turn.specs.declared.Report.{Report}
use Rattle.turn.specs.Worker.{is_idle, look_kind, insert_kind}
use Rattle.turn.specs.Turn.{After}
use Rattle.engine.specs.declared.Plan.{Plan}
use Rattle.engine.specs.declared.Totals.{Totals}
use Rattle.sheet.specs.declared.Call.{Call}
use Rattle.pen.specs.Words.{bytes}
use Rattle.pen.specs.Decimal.{decimal}
use Rattle.view.specs.declared.Change.{Change}
use Rattle.view.specs.declared.Acted.{Acted}
use Rattle.view.specs.declared.Stop.{Stop}
use Rattle.view.specs.declared.Scene.{Scene}
use Rattle.view.specs.declared.Scene.TheVariants.{Nothing, Opened, Began, Turned, Stopped, Over}
use Rattle.view.specs.declared.Stage.{Stage}

-- words, and then a number
abbrev pub told : List ℕ → ℕ → List ℕ
told words n = words ++ decimal n

-- words, a number of things by their name: one of it has the name without the s
unfoldable pub things : List ℕ → ℕ → List ℕ → List ℕ
things words n name = told words n ++ (name ++ cond (eqb n 1) [] (bytes "s"))

-- ---- a mark word

-- the name of a mark
unfoldable pub mark_name : ℕ → List ℕ
mark_name mark =
    cond (eqb mark 0) (bytes "empty")
    (cond (eqb mark 1) (bytes "valid")
    (cond (eqb mark 2) (bytes "being inserted") (bytes "broken")))

-- words, and the name of a slot's mark
abbrev pub mark_told : List ℕ → ℕ → ℕ → List ℕ
mark_told words word slot = words ++ mark_name (mark_of word slot)

-- words, and a mark word: its version and its marks, to the end of the line
unfoldable pub word_told : List ℕ → ℕ → List ℕ
word_told words word =
    told words (version word) ++
    (mark_told (bytes ", marks ") word 0 ++ (mark_told (bytes ", ") word 1 ++ (mark_told (bytes ", ") word 2 ++ bytes "\n")))

-- ---- what a turn does

-- the word of a bucket in one of its cells
abbrev pub cell_on : List ℕ → ℕ → ℕ → ℕ
cell_on board bucket cell = get_or board (8 * bucket + cell) 0

-- words, a slot and what was read there
unfoldable pub read_told : List ℕ → ℕ → ℕ → List ℕ
read_told words slot value = told words slot ++ told (bytes ": ") value

-- a swap that was won or lost; nothing else is
unfoldable pub outcome_told : Action → List ℕ
outcome_told Read = []
outcome_told Store = []
outcome_told Won = bytes ": won"
outcome_told Lost = bytes ": lost"

-- words, a slot, more words, and how the swap came out
unfoldable pub swap_told : List ℕ → ℕ → List ℕ → Action → List ℕ
swap_told words slot more action = told words slot ++ (more ++ outcome_told action)

-- words, what was written, and into which slot
unfoldable pub store_told : List ℕ → ℕ → ℕ → List ℕ
store_told words value slot = told words value ++ told (bytes " into slot ") slot

-- a turn that writes, by the place of the worker's record
unfoldable pub writes_told : Worker → Action → List ℕ
writes_told w action =
    cond (eqb w.place 6) (swap_told (bytes "swaps slot ") w.slot (bytes " from empty to being inserted") action)
    (cond (eqb w.place 7) (store_told (bytes "writes ticket ") w.ticket w.held)
    (cond (eqb w.place 8) (store_told (bytes "writes lot ") w.key w.held)
    (cond (eqb w.place 9) (swap_told (bytes "swaps slot ") w.held (bytes " from being inserted to valid, version plus one") action)
    (cond (eqb w.place 10) (swap_told (bytes "gives back slot ") w.held (bytes ", from being inserted to empty") action)
    (swap_told (bytes "swaps slot ") w.slot (bytes " from valid to empty") action)))))

-- §23.2: the memory action of a turn; a read finds what stands there still
unfoldable pub does_told : List ℕ → Worker → Report → List ℕ
does_told board w report =
    let b = report.bucket in
    let s = w.slot in
    cond (eqb w.place 1) (bytes "reads the mark word whole")
    (cond (eqb w.place 2 || eqb w.place 12) (read_told (bytes "reads the ticket in slot ") s (cell_on board b (4 + s)))
    (cond (eqb w.place 3) (told (bytes "reads the mark of slot ") s ++ mark_told (bytes ": ") report.before s)
    (cond (eqb w.place 4 || eqb w.place 11) (read_told (bytes "reads the lot in slot ") s (cell_on board b (1 + s)))
    (cond (eqb w.place 5) (read_told (bytes "reads the ticket again in slot ") s (cell_on board b (4 + s))) (writes_told w report.action)))))

-- ---- what is new in its memory: a line each

-- a line, where there is one
abbrev pub line_if : Bool → List ℕ → List ℕ
line_if there line = cond there line []

-- whether a swap was won, and whether it was lost
abbrev pub is_won : Action → Bool
is_won Read = false
is_won Store = false
is_won Won = true
is_won Lost = false

abbrev pub is_lost : Action → Bool
is_lost Read = false
is_lost Store = false
is_lost Won = false
is_lost Lost = true

-- whether the call goes on
abbrev pub goes_on : Progress → Bool
goes_on GoesOn = true
goes_on (Ended answer) = false

-- the mark word, which is read whole at place 1 and changed by a claim at place 6
unfoldable pub new_word : Worker → Worker → Action → List ℕ
new_word w v action =
    line_if (eqb w.place 1 || (eqb w.place 6 && is_won action)) (word_told (bytes "  remembers version ") v.word)

-- the ticket, which is read to be remembered at places 2 and 12
unfoldable pub new_ticket : Worker → Worker → List ℕ
new_ticket w v = line_if (eqb w.place 2 || eqb w.place 12) (told (bytes "  remembers ticket ") v.seen ++ bytes "\n")

-- the slot that it holds, after a claim
unfoldable pub new_held : Worker → Worker → Action → List ℕ
new_held w v action = line_if (eqb w.place 6 && is_won action) (told (bytes "  holds slot ") v.held ++ bytes "\n")

-- the slot that it is at, if it has gone on to another
unfoldable pub new_slot : Worker → Worker → Progress → List ℕ
new_slot w v progress = line_if (goes_on progress && not (eqb v.slot w.slot)) (told (bytes "  is at slot ") v.slot ++ bytes "\n")

-- a full round
unfoldable pub full_told : Bool → List ℕ
full_told full = line_if full (bytes "  finds no empty slot, and begins again: a full round\n")

-- what a worker went by, and who has changed the mark word since, and when
unfoldable pub blame_told : ℕ → Change → List ℕ
blame_told word c =
    word_told (bytes "  went by version ") word ++
    (told (bytes "  but worker ") c.worker ++ (told (bytes " changed the word at turn ") c.turn ++ bytes ", so it begins again\n"))

-- §23.4: that, after a lost swap
unfoldable pub lost_told : Worker → Action → Change → List ℕ
lost_told w action c = line_if (is_lost action) (blame_told w.word c)

-- the name of a call
unfoldable pub kind_name : ℕ → List ℕ
kind_name kind = cond (eqb kind look_kind) (bytes "look") (cond (eqb kind insert_kind) (bytes "insert") (bytes "remove"))

-- the answer of a call
unfoldable pub answer_told : ℕ → ℕ → List ℕ
answer_told kind answer = bytes "  its " ++ (kind_name kind ++ (told (bytes " ends with ") answer ++ bytes "\n"))

-- §9.1: a call that has ended, with its answer
unfoldable pub end_told : ℕ → Progress → List ℕ
end_told kind GoesOn = []
end_told kind (Ended answer) = answer_told kind answer

-- ---- the bucket that it touched

-- a slot of a bucket: its mark, its lot and its ticket
unfoldable pub slot_told : List ℕ → ℕ → ℕ → ℕ → List ℕ
slot_told board bucket word slot =
    mark_told (bytes " [") word slot ++
    (told (bytes ", lot ") (cell_on board bucket (1 + slot)) ++ (told (bytes ", ticket ") (cell_on board bucket (4 + slot)) ++ bytes "]"))

-- the three slots of a bucket
unfoldable pub slots_told : List ℕ → ℕ → ℕ → List ℕ
slots_told board bucket word =
    slot_told board bucket word 0 ++ (slot_told board bucket word 1 ++ (slot_told board bucket word 2 ++ bytes "\n"))

-- §23.5: a bucket: its number, its version, and its three slots
unfoldable pub bucket_told : List ℕ → ℕ → List ℕ
bucket_told board bucket =
    let word = cell_on board bucket 0 in
    told (bytes "  bucket ") bucket ++ (told (bytes ": version ") (version word) ++ slots_told board bucket word)

-- ---- the scenes

-- the worker and what it does
unfoldable pub head_told : List ℕ → ℕ → Acted → List ℕ
head_told board turn a =
    told (bytes "turn ") turn ++
    (told (bytes ": worker ") a.worker ++ (bytes " " ++ (does_told board a.before a.report ++ bytes "\n")))

-- what the worker itself has learnt
unfoldable pub learnt_told : Worker → Worker → Action → Progress → List ℕ
learnt_told w v action progress = new_word w v action ++ (new_ticket w v ++ (new_held w v action ++ new_slot w v progress))

-- §23.3: what is new in its memory, and how its call stands
unfoldable pub news_told : Acted → List ℕ
news_told a =
    let w : Worker = a.before in
    let r : Report = a.report in
    learnt_told w a.after r.action r.progress ++
    (full_told r.full ++ (lost_told w r.action a.change ++ end_told w.kind r.progress))

-- a turn
unfoldable pub turn_told : List ℕ → ℕ → Acted → List ℕ
turn_told board turn a = head_told board turn a ++ (news_told a ++ bucket_told board a.report.bucket)

-- §23.6: the floor
unfoldable pub open_told : Plan → List ℕ
open_told p =
    things (bytes "floor: ") p.workers (bytes " worker") ++
    (things (bytes ", ") p.buckets (bytes " bucket") ++ (told (bytes ", version ") p.version ++ bytes "\n"))

-- the ticket of an insert
unfoldable pub ticket_told : ℕ → ℕ → List ℕ
ticket_told kind ticket = line_if (eqb kind insert_kind) (told (bytes ", ticket ") ticket)

-- §23.6: the start of a call
unfoldable pub begin_told : Call → List ℕ
begin_told c =
    told (bytes "worker ") c.worker ++
    (bytes " starts: " ++ (kind_name c.kind ++ (told (bytes " lot ") c.lot ++ (ticket_told c.kind c.ticket ++ bytes "\n"))))

-- what the number of a refusal means
unfoldable pub meaning : ℕ → List ℕ
meaning number =
    cond (eqb number 1) (bytes "a floor has 1 to 64 workers and 1 to 256 buckets")
    (cond (eqb number 2) (bytes "the floor has no such worker")
    (cond (eqb number 3) (bytes "the record of the worker is broken")
    (cond (eqb number 4) (bytes "the worker is at a call already")
    (cond (eqb number 5) (bytes "the ticket is not greater than every one before it")
    (cond (eqb number 6) (bytes "the worker is idle")
    (cond (eqb number 7) (bytes "the bucket is broken")
    (cond (eqb number 8) (bytes "the field is not written as a field is")
    (cond (eqb number 9) (bytes "the sheet is longer than 16384 bytes")
    (bytes "there is no such number")))))))))

-- of a refused turn, which it would have been and whose
unfoldable pub whose_told : ℕ → ℕ → List ℕ
whose_told turn worker = line_if (not (eqb turn 0)) (told (bytes ", turn ") turn ++ told (bytes " of worker ") worker)

-- the number of a refusal and what it means
unfoldable pub why_told : ℕ → List ℕ
why_told number = told (bytes "refused by ") number ++ (bytes ": " ++ meaning number)

-- §9.3, §23.7: a refusal: why, and of which field
unfoldable pub stop_told : Stop → List ℕ
stop_told s =
    why_told s.number ++
    (told (bytes "; field ") s.field ++ (told (bytes " at offset ") s.offset ++ (whose_told s.turn s.worker ++ bytes "\n")))

-- a worker that is at a call
unfoldable pub call_told : ℕ → Worker → List ℕ
call_told i w =
    told (bytes "  worker ") i ++ (bytes " is still at its " ++ (kind_name w.kind ++ (told (bytes " of lot ") w.key ++ bytes "\n")))

-- a worker, if it is still at a call
unfoldable pub busy_told : ℕ → Worker → List ℕ
busy_told i w = line_if (not (is_idle w)) (call_told i w)

-- every worker that is, from a number on
unfoldable pub busy_from : ℕ → List Worker → List ℕ
busy_from i [] = []
busy_from i (w ∷ ws) = busy_told i w ++ busy_from (i + 1) ws

-- what the turns come to
unfoldable pub totals_told : Totals → List ℕ
totals_told t =
    things (bytes "; ") t.turns (bytes " turn") ++
    (things (bytes ", ") t.changes (bytes " change") ++
    (things (bytes ", ") t.lost (bytes " lost swap") ++ things (bytes ", ") t.full (bytes " full round")))

-- §23.6: the end: the lots that stand, the totals, and who is still at a call
unfoldable pub over_told : ℕ → Totals → List Worker → List ℕ
over_told lots t ws = things (bytes "end: ") lots (bytes " lot") ++ (totals_told t ++ (bytes "\n" ++ busy_from 0 ws))

-- THE WORDS OF A SCENE, from the board and the stage that it leaves
abbrev pub scene_told : List ℕ → Totals → List Worker → Scene → List ℕ
scene_told board t ws Nothing = []
scene_told board t ws (Opened p) = open_told p
scene_told board t ws (Began c) = begin_told c
scene_told board t ws (Turned a) = turn_told board t.turns a
scene_told board t ws (Stopped s) = stop_told s
scene_told board t ws (Over lots) = over_told lots t ws

-- the scene that a stage has come by
abbrev pub stage_told : After Stage → List ℕ
stage_told s = scene_told s.words s.handed.totals s.handed.records s.handed.scene
