-- Each call's whole outcome, as a function of what it is given: what it answers, and what it leaves of board, records and floor (§12.1). A
-- refused call answers its number and leaves everything as it came (§7.1).
use Rattle.std.specs.Prelude.{ℕ, ◌+◌, ◌*◌, Bool, false, cond, List, [], ◌∷◌, map, length, get_or, set, replicate, eqb, Result, Ok, Err}
use Rattle.turn.specs.declared.Worker.{Worker}
use Rattle.turn.specs.declared.Action.{Action}
use Rattle.turn.specs.declared.Action.TheVariants.{Read, Store, Won, Lost}
use Rattle.turn.specs.declared.Report.{Report}
use Rattle.turn.specs.Worker.{free_place, idle, look_for, insert_of, remove_of}
use Rattle.turn.specs.Bucket.{cell, mark_cell}
use Rattle.turn.specs.Asleep.{capped, awake, slept}
use Rattle.turn.specs.Places.{Step, turn}
use Rattle.turn.specs.declared.refusal.Refusal.{Refusal as Why}
use Rattle.turn.specs.Number.{number}
use Rattle.turn.specs.Turn.{Answer, Refused, Done, Turned, Tried, After, after, report_of, refusing, doing, no_report, refused, done}
use Rattle.turn.specs.Retire.{Retired, vacated, not_retired, is_retired}
use Rattle.engine.specs.declared.Floor.{Floor}
use Rattle.engine.specs.declared.Plan.{Plan}
use Rattle.engine.specs.declared.Bid.{Bid}
use Rattle.engine.specs.declared.Seat.{Seat}
use Rattle.engine.specs.declared.Begun.{Begun}
use Rattle.engine.specs.declared.Asked.{Asked}
use Rattle.engine.specs.declared.Asked.TheVariants.{Look, Insert, Remove}
use Rattle.engine.specs.declared.Totals.{Totals}
use Rattle.engine.specs.declared.Touched.{Touched}
use Rattle.engine.specs.Board.{bucket_of, with_bucket, opened_board, lots_on}
use Rattle.engine.specs.Refusals.{wrong_floor, spent, bucket_for, open_number, start_number, each_number, turn_number, retire_number, run_number, show_number, count_number}

-- ---- open

-- what an opening hands back, with the records as it leaves them
pub record Opened : Type 0 where
  pub refusal : ℕ
  pub floor : Floor
  pub records : List Worker

-- §2.1, §2.10: the floor that a plan asks for; no ticket is spent yet
abbrev pub planned : Plan → Floor
planned p = record { workers = p.workers; buckets = p.buckets; last = 0; version = p.version; spare = 0 }

-- §2.10, §7.1: what an opening with this number of refusal, or 0, comes to
abbrev pub opened_by : ℕ → List ℕ → Floor → List Worker → Plan → After Opened
opened_by number board f records p =
    cond (eqb number 0)
    (after (opened_board p.buckets p.version) (record { refusal = 0; floor = planned p; records = replicate (length records) idle }))
    (after board (record { refusal = number; floor = f; records = records }))

-- §2.10: an opening
unfoldable pub open_call : List ℕ → Floor → List Worker → ℕ → Plan → After Opened
open_call board f records listed p = opened_by (open_number (planned p) board listed) board f records p

-- what an opening hands back beside the board: the floor as it now stands, how many records become idle, and the number of refusal, or 0
pub record Laid : Type 0 where
  pub floor : Floor
  pub idle : ℕ
  pub refusal : ℕ

-- so of an answer, on this floor with a list of so many records
abbrev pub laid_as : Floor → ℕ → Result Floor Why → Laid
laid_as f listed (Ok g) = record { floor = g; idle = listed; refusal = 0 }
laid_as f listed (Err why) = record { floor = f; idle = 0; refusal = number why }

-- an opening as far as it concerns no record: of the list it says how many become idle
abbrev pub laid_by : ℕ → After Opened → After Laid
laid_by listed x =
    let number = x.handed.refusal in
    after x.words (record { floor = x.handed.floor; idle = cond (eqb number 0) listed 0; refusal = number })

abbrev pub lay_call : List ℕ → Floor → ℕ → Plan → After Laid
lay_call board f listed p = laid_by listed (open_call board f [] listed p)

-- ---- start

-- what a start hands back: the record and the floor as they now stand, and the number of refusal, or 0
pub record Started : Type 0 where
  pub worker : Worker
  pub floor : Floor
  pub refusal : ℕ

-- so of an answer, on this floor for a worker with this record
abbrev pub started_as : Floor → Worker → Result Begun Why → Started
started_as f w (Ok b) = record { worker = b.worker; floor = b.floor; refusal = 0 }
started_as f w (Err why) = record { worker = w; floor = f; refusal = number why }

-- §7.1: a start with this number of refusal, or 0: where it is accepted the record becomes `new` and the floor `g`
abbrev pub start_made : ℕ → Floor → Worker → Worker → Floor → Started
start_made number f w new g =
    cond (eqb number 0) (record { worker = new; floor = g; refusal = 0 }) (record { worker = w; floor = f; refusal = number })

-- a start, late if its ticket is spent
unfoldable pub start_call : List ℕ → Seat → Worker → Bool → Worker → Floor → Started
start_call board s w late new g = start_made (start_number s.floor board s.listed s.worker w late) s.floor w new g

-- §3.5: the ticket of an accepted insert is the floor's last
abbrev pub spending : Floor → ℕ → Floor
spending f ticket = record { workers = f.workers; buckets = f.buckets; last = ticket; version = f.version; spare = f.spare }

-- §3.4: the start of a look
abbrev pub look_call : List ℕ → Seat → Worker → ℕ → Started
look_call board s w lot = start_call board s w false (look_for lot) s.floor

-- §3.4: the start of an insert
abbrev pub insert_call : List ℕ → Seat → Worker → Bid → Started
insert_call board s w bid =
    start_call board s w (spent s.floor bid.ticket) (insert_of bid.lot bid.ticket) (spending s.floor bid.ticket)

-- §3.4: the start of a remove
abbrev pub remove_call : List ℕ → Seat → Worker → ℕ → Started
remove_call board s w lot = start_call board s w false (remove_of lot) s.floor

-- §3.4: the start of whatever is asked for
abbrev pub asked_call : List ℕ → Seat → Worker → Asked → Started
asked_call board s w (Look lot) = look_call board s w lot
asked_call board s w (Insert bid) = insert_call board s w bid
asked_call board s w (Remove lot) = remove_call board s w lot

-- §3.4: the record that it begins with
abbrev pub record_for : Asked → Worker
record_for (Look lot) = look_for lot
record_for (Insert bid) = insert_of bid.lot bid.ticket
record_for (Remove lot) = remove_of lot

-- §6.5: whether it has a ticket that is spent
abbrev pub asked_late : Floor → Asked → Bool
asked_late f (Look lot) = false
asked_late f (Insert bid) = spent f bid.ticket
asked_late f (Remove lot) = false

-- §3.5: the floor after it
abbrev pub floor_after : Floor → Asked → Floor
floor_after f (Look lot) = f
floor_after f (Insert bid) = spending f bid.ticket
floor_after f (Remove lot) = f

-- ---- turn

-- §4.12: what a step of a worker on the bucket of its lot reports
abbrev pub report_on : Floor → List ℕ → Worker → Step → Report
report_on f board w s = report_of (bucket_of w.key f.buckets) (bucket_for f board w.key) s

-- §4.1: a turn that is done is the place table's, on the bucket where the worker's lot belongs
abbrev pub turn_done : Floor → List ℕ → Worker → Step → After Turned
turn_done f board w s = after (with_bucket board (bucket_of w.key f.buckets) s.bucket) (doing s (report_on f board w s))

-- §7.1, §20.2: what a turn with this number of refusal, or 0, comes to; whoever has it is awake
unfoldable pub turned : ℕ → Floor → List ℕ → Worker → After Turned
turned number f board w =
    cond (eqb number 0) (turn_done f board w (turn (bucket_for f board w.key) (awake w))) (after board (refusing number w))

-- the same without an enum
unfoldable pub tried : ℕ → Floor → List ℕ → Worker → After Tried
tried number f board w =
    let s = turn (bucket_for f board w.key) (awake w) in
    cond (eqb number 0)
    (after (turn_done f board w s).words (done s.stepped.worker (report_on f board w s) w.place))
    (after board (refused number w))

-- one turn, so
unfoldable pub try_call : List ℕ → Seat → Worker → After Tried
try_call board s w = tried (turn_number s.floor board s.listed s.worker w) s.floor board w

-- one turn
unfoldable pub turn_call : List ℕ → Seat → Worker → After Turned
turn_call board s w = turned (turn_number s.floor board s.listed s.worker w) s.floor board w

-- ---- retire

-- §19.2: the board with the bucket of the worker's lot as a retiring leaves it
abbrev pub vacated_on : Floor → List ℕ → Worker → List ℕ
vacated_on f board w = with_bucket board (bucket_of w.key f.buckets) (vacated (bucket_for f board w.key) w)

-- §7.1: what a retiring with this number of refusal, or 0, comes to
unfoldable pub retired : ℕ → Floor → List ℕ → Worker → After Retired
retired number f board w = cond (eqb number 0) (after (vacated_on f board w) is_retired) (after board (not_retired number w))

-- §19.1: retiring a worker
unfoldable pub retire_call : List ℕ → Seat → Worker → After Retired
retire_call board s w = retired (retire_number s.floor board s.listed s.worker w) s.floor board w

-- ---- the bucket that is touched

-- §2.4: the bucket of a lot, and the mark word in it; 0 and 0 where the size of the board is wrong
abbrev pub touched_by : List ℕ → Floor → ℕ → Touched
touched_by board f lot =
    cond (wrong_floor f board) (record { bucket = 0; word = 0 })
    (record { bucket = bucket_of lot f.buckets; word = cell (bucket_for f board lot) mark_cell })

-- ---- run

-- §4.9: 1 for a change, else 0
abbrev pub changes : ℕ → Action → ℕ
changes place Read = 0
changes place Store = cond (eqb place free_place) 1 0
changes place Won = 1
changes place Lost = 0

-- §4.10: 1 for a lost swap, else 0
abbrev pub losses : Action → ℕ
losses Read = 0
losses Store = 0
losses Won = 0
losses Lost = 1

-- §4.10: the totals with one turn more, done at a place
abbrev pub tallied : ℕ → Report → Totals → Totals
tallied place r t =
    record {
      turns = t.turns + 1;
      changes = t.changes + changes place r.action;
      lost = t.lost + losses r.action;
      full = t.full + cond r.full 1 0;
    }

-- each of the totals is a count of 32 bits, which stays at the highest number; those of a run never come there
abbrev pub capped_totals : Totals → Totals
capped_totals t = record { turns = capped t.turns; changes = capped t.changes; lost = capped t.lost; full = capped t.full }

-- nothing is counted yet
abbrev pub no_turns : Totals
no_turns = record { turns = 0; changes = 0; lost = 0; full = 0 }

-- what a run hands back, with the records as it leaves them
pub record Ran : Type 0 where
  pub records : List Worker
  pub totals : Totals
  pub last : Report
  pub stop : ℕ

-- how a run stands: what it has left so far, what it has counted, its last turn's report, and the number that stopped it, or 0
abbrev pub standing : List ℕ → List Worker → Totals → Report → ℕ → After Ran
standing board records totals last stop = after board (record { records = records; totals = totals; last = last; stop = stop })

-- §4.13: a run that has done no turn, also one that is refused as a whole, has counted nothing and has the report of none
abbrev pub unbegun : List ℕ → List Worker → ℕ → After Ran
unbegun board records stop = standing board records no_turns no_report stop

-- what stands for a record past the end of the list, whose worker has no turn (decision 40)
abbrev pub blank : Worker
blank = record { kind = 0; place = 0; key = 0; ticket = 0; slot = 0; word = 0; held = 0; seen = 0; asleep = 0 }

-- §3.1: a worker's record in a list
abbrev pub record_in : List Worker → ℕ → Worker
record_in records i = get_or records i blank

-- §3.1: a worker's seat on a floor with this list
abbrev pub seat_in : Floor → List Worker → ℕ → Seat
seat_in f records i = record { floor = f; listed = length records; worker = i }

-- §20.2: the records that a turn of worker i leaves which is done: its own becomes w, and whoever else is busy has slept one turn more
abbrev pub after_turn : List Worker → ℕ → Worker → List Worker
after_turn records i w = set (map slept records) i w

-- §7.1: what a turn of worker i leaves of the records, done or refused
abbrev pub records_left : List Worker → ℕ → Worker → Answer → List Worker
records_left records i w (Refused number) = records
records_left records i w (Done report) = after_turn records i w

-- §4.10: what the turn of worker t came to: the run goes on from there, or it stops and leaves what was done before
abbrev pub go_on : {A : Type 0} → (After Ran → A) → (After Ran → A) → ℕ → ℕ → List ℕ → Worker → Answer → Ran → A
go_on rest stops t place board w (Refused number) r = stops (standing board r.records r.totals r.last number)
go_on rest stops t place board w (Done report) r = rest (standing board (after_turn r.records t w) (tallied place report r.totals) report 0)

-- one turn of worker t, and then the rest
abbrev pub one_turn : (After Ran → After Ran) → Floor → ℕ → Worker → After Ran → After Ran
one_turn rest f t w s =
    let x : After Turned = turned (each_number f s.words t w) f s.words w in
    go_on rest (λ y. y) t w.place x.words x.handed.worker x.handed.answer s.handed

-- §4.10: the turns of a list, from where a run stands
unfoldable pub run_from : Floor → List ℕ → After Ran → After Ran
run_from f [] s = s
run_from f (t ∷ ts) s = one_turn (run_from f ts) f t (record_in s.handed.records t) s

-- §4.10, §7.1: a run; 1 and 9 refuse it whole
unfoldable pub run_call : List ℕ → Floor → List Worker → ℕ → List ℕ → After Ran
run_call board f records listed turns =
    cond (eqb (run_number f board listed turns) 0)
    (run_from f turns (unbegun board records 0))
    (unbegun board records (run_number f board listed turns))

-- ---- show and count

-- §2.8: the words of the lot's bucket; none where the show is refused
unfoldable pub show_call : List ℕ → Floor → ℕ → List ℕ
show_call board f lot = cond (eqb (show_number f board lot) 0) (bucket_for f board lot) []

-- §2.8: where they begin on the board; a part without words begins where the board does
unfoldable pub show_start : List ℕ → Floor → ℕ → ℕ
show_start board f lot = cond (eqb (show_number f board lot) 0) (8 * bucket_of lot f.buckets) 0

-- §2.8: so many words of eight bytes on from where a reference points, in the same block of memory: so it is no copy (decision 32)
abbrev pub words_on : ℕ × ℕ → ℕ → ℕ × ℕ
words_on p n = (p.0, p.1 + 8 * n)

-- §2.9, §14.9: what a count answers: the number of refusal, or the lots
pub data Counted : Type 0 where
  Refusal : ℕ → Counted
  Lots : ℕ → Counted

-- so of the code's answer
abbrev pub counted_as : Result ℕ Why → Counted
counted_as (Ok lots) = Lots lots
counted_as (Err why) = Refusal (number why)

-- §2.9: the lots on the board, or the number alone
unfoldable pub count_call : List ℕ → Floor → Counted
count_call board f = cond (eqb (count_number f board) 0) (Lots (lots_on board f.buckets)) (Refusal (count_number f board))

-- §14.9: the number of each case of a count: a refusal's own, and 0 for a number of lots
abbrev pub counted_number : Counted → ℕ
counted_number (Refusal number) = number
counted_number (Lots lots) = 0
