-- From a text to its sheet: a line of the text is a field of the sheet.
use Rattle.std.specs.Prelude.{ℕ, zero, suc, ◌+◌, Bool, true, false, cond, ◌&&◌, ◌||◌, not, List, [], ◌++◌, length, get_or, replicate, eqb, leb, ltb}
use Rattle.turn.specs.Worker.{look_kind, insert_kind, remove_kind}
use Rattle.sheet.specs.declared.Call.{Call}
use Rattle.pen.specs.Words.{bytes}
use Rattle.schedule.specs.declared.Word.{Word}
use Rattle.schedule.specs.Tokens.{Got}
use Rattle.schedule.specs.Tokens.{small, past_blanks, word_at, spelled, same, number_in, number_at, either_at, keyword_at, line_end_at}
use Rattle.schedule.specs.Bytes.{floor_bytes, call_bytes, turns_bytes}

-- what a part of a text comes to: its bytes, and the place behind it; or the place where something else was expected, and its number
pub record Line : Type 0 where
  pub bytes : List ℕ
  pub at : ℕ
  pub what : ℕ

-- a part that is right
abbrev pub right : List ℕ → ℕ → Line
right bytes next = record { bytes = bytes; at = next; what = 0 }

-- a part that is wrong has no bytes
abbrev pub wrong : ℕ → ℕ → Line
wrong at what = record { bytes = []; at = at; what = what }

-- what comes after something that was found
abbrev pub and_then : Got → (ℕ → ℕ → Line) → Line
and_then g rest = cond (eqb g.what 0) (rest g.value g.at) (wrong g.at g.what)

-- ---- a line of the text, behind its first word

-- §24.2: floor 2 workers 1 bucket version 0
unfoldable pub floor_line : List ℕ → ℕ → Line
floor_line text at =
    and_then (number_at text at 255 2) (λ workers a.
    and_then (either_at text a (bytes "worker") (bytes "workers") 3) (λ _ b.
    and_then (number_at text b 65535 4) (λ buckets c.
    and_then (either_at text c (bytes "bucket") (bytes "buckets") 5) (λ _ d.
    and_then (keyword_at text d (bytes "version") 6) (λ _ e.
    and_then (number_at text e 4294967295 7) (λ version f.
    right (floor_bytes (record { workers = workers; buckets = buckets; version = version })) f))))))

-- a call that is asked for
abbrev pub call_of : ℕ → ℕ → ℕ → ℕ → Call
call_of worker kind lot ticket = record { lot = lot; ticket = ticket; worker = worker; kind = kind }

-- .. lot 7, of a look or a remove
unfoldable pub lot_line : List ℕ → ℕ → ℕ → ℕ → Line
lot_line text worker kind at =
    and_then (keyword_at text at (bytes "lot") 13) (λ _ a.
    and_then (number_at text a 18446744073709551615 14) (λ lot b.
    right (call_bytes (call_of worker kind lot 0) false) b))

-- .. for lot 7
unfoldable pub look_line : List ℕ → ℕ → ℕ → Line
look_line text worker at = and_then (keyword_at text at (bytes "for") 12) (λ _ a. lot_line text worker look_kind a)

-- §24.4: .. 1, behind ticket or long ticket: eight bytes where they are asked for, or where four do not hold it
unfoldable pub ticket_line : List ℕ → ℕ → ℕ → Bool → ℕ → Line
ticket_line text worker lot long at =
    and_then (number_at text at 18446744073709551615 16) (λ ticket a.
    right (call_bytes (call_of worker insert_kind lot ticket) (long || ltb 4294967295 ticket)) a)

-- .. ticket, behind long
unfoldable pub long_line : List ℕ → ℕ → ℕ → ℕ → Line
long_line text worker lot at = and_then (keyword_at text at (bytes "ticket") 15) (λ _ a. ticket_line text worker lot true a)

-- .. lot 7 ticket 1, of an insert
unfoldable pub insert_line : List ℕ → ℕ → ℕ → Line
insert_line text worker at =
    and_then (keyword_at text at (bytes "lot") 13) (λ _ a.
    and_then (number_at text a 18446744073709551615 14) (λ lot b.
    and_then (either_at text b (bytes "ticket") (bytes "long") 15) (λ which c.
    cond (eqb which 1) (ticket_line text worker lot false c) (long_line text worker lot c))))

-- looks, inserts or removes
unfoldable pub verb_at : List ℕ → ℕ → Got
verb_at text at =
    let w : Word = word_at text at in
    let word : List ℕ = spelled text w.start w.end in
    cond (same word (bytes "looks")) (record { value = look_kind; at = w.end; what = 0 })
    (cond (same word (bytes "inserts")) (record { value = insert_kind; at = w.end; what = 0 })
    (cond (same word (bytes "removes")) (record { value = remove_kind; at = w.end; what = 0 })
    (record { value = 0; at = past_blanks text at; what = 11 })))

-- a call by its kind
abbrev pub kind_line : List ℕ → ℕ → ℕ → ℕ → Line
kind_line text worker kind at =
    cond (eqb kind look_kind) (look_line text worker at)
    (cond (eqb kind insert_kind) (insert_line text worker at) (lot_line text worker remove_kind at))

-- §24.2: .. 0 inserts lot 7 ticket 1, behind worker
unfoldable pub call_line : List ℕ → ℕ → Line
call_line text at =
    and_then (number_at text at 255 10) (λ worker a.
    and_then (verb_at text a) (λ kind b.
    kind_line text worker kind b))

-- ---- turns

-- x11 behind a worker's number: so many turns of it, one where no such word stands there
unfoldable pub times_at : List ℕ → ℕ → Got
times_at text at =
    let w : Word = word_at text at in
    cond (not (eqb w.start w.end) && eqb (small (get_or text w.start 0)) 120)
    (number_in text w.start (w.start + 1) w.end 1 16384 18)
    (record { value = 1; at = at; what = 0 })

-- the turns that a line lists, so many at most: workers' numbers, each perhaps with how often; `at` is where the line has no more of them
unfoldable pub turns_from : ℕ → List ℕ → ℕ → Line
turns_from zero text at = right [] at
turns_from (suc more) text at =
    let w : Word = word_at text at in
    cond (eqb w.start w.end) (right [] w.start)
    (and_then (number_at text at 255 17) (λ worker a.
    and_then (times_at text a) (λ times b.
    let rest : Line = turns_from more text b in
    cond (eqb rest.what 0) (right (replicate times worker ++ rest.bytes) rest.at) rest)))

-- §24.2: behind turns: at least one, and no more than a sheet holds
unfoldable pub turns_line : List ℕ → ℕ → Line
turns_line text at =
    and_then (number_at text at 255 17) (λ _ _.
    let all : Line = turns_from (length text) text at in
    cond (eqb all.what 0)
    (cond (ltb 16384 (length all.bytes)) (wrong at 19) (right (turns_bytes all.bytes) all.at))
    all)

-- ---- a line

-- §24.2: by its first word: the first line is the floor, and no other is
unfoldable pub line_by : Bool → List ℕ → Word → Line
line_by first text w =
    let word : List ℕ = spelled text w.start w.end in
    cond first (cond (same word (bytes "floor")) (floor_line text w.end) (wrong w.start 1))
    (cond (same word (bytes "worker")) (call_line text w.end)
    (cond (same word (bytes "turns")) (turns_line text w.end) (wrong w.start 9)))

-- a line, to its end
abbrev pub whole_line : Bool → List ℕ → Word → Line
whole_line first text w =
    let line : Line = line_by first text w in
    cond (eqb line.what 0) (and_then (line_end_at text line.at 8) (λ _ end. right line.bytes end)) line

-- ---- the text

-- these bytes first
abbrev pub before : List ℕ → Line → Line
before l rest = record { bytes = l ++ rest.bytes; at = rest.at; what = rest.what }

-- a line that is right, and what comes after it, `wrote` bytes being written already: a sheet has no more than 16384
abbrev pub line_then : (ℕ → ℕ → Line) → ℕ → ℕ → Line → Line
line_then rest start wrote line =
    cond (eqb line.what 0)
    (cond (ltb 16384 (wrote + length line.bytes)) (wrong start 19)
    (before line.bytes (rest line.at (wrote + length line.bytes))))
    line

-- lines from a place on, so many at most: one without a word counts for nothing
unfoldable pub lines_from : ℕ → List ℕ → ℕ → ℕ → Line
lines_from zero text at wrote = right [] at
lines_from (suc more) text at wrote =
    let w : Word = word_at text at in
    cond (eqb w.start w.end)
    (cond (leb (length text) w.start) (cond (eqb wrote 0) (wrong w.start 1) (right [] w.start)) (lines_from more text (w.start + 1) wrote))
    (line_then (lines_from more text) w.start wrote (whole_line (eqb wrote 0) text w))

-- §24.5: THE SHEET OF A TEXT, or where it is wrong
unfoldable pub sheet_of : List ℕ → Line
sheet_of text = lines_from (suc (length text)) text 0 0
