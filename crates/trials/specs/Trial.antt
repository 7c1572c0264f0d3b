-- What a trial is, and what it means that it holds: the engine's own calls are made one after another, and each comes to what the
-- trial says of it.
use Rattle.std.specs.Prelude.{ℕ, zero, suc, ◌+◌, ◌-◌, ◌*◌, ◌≡◌, cond, List, [], ◌∷◌, map, length, get_or, set, replicate, eqb}
use Rattle.turn.specs.declared.Worker.{Worker}
use Rattle.turn.specs.declared.Action.{Action}
use Rattle.turn.specs.declared.Action.TheVariants.{Read, Store, Won, Lost}
use Rattle.turn.specs.declared.Progress.{Progress}
use Rattle.turn.specs.declared.Progress.TheVariants.{GoesOn, Ended}
use Rattle.turn.specs.Bucket.{cell, mark_cell}
use Rattle.turn.specs.Turn.{Answer, Refused, Done, Turned, After}
use Rattle.engine.specs.declared.Floor.{Floor}
use Rattle.engine.specs.declared.Plan.{Plan}
use Rattle.engine.specs.declared.Seat.{Seat}
use Rattle.engine.specs.Calls.{Started}
use Rattle.engine.specs.declared.Totals.{Totals}
use Rattle.engine.specs.Board.{bucket_at}
use Rattle.engine.specs.Calls.{Opened, open_call, look_call, insert_call, remove_call, turn_call, tallied, no_turns, blank, record_in, seat_in, after_turn}
use Rattle.walks.specs.Calls.{Walked}
use Rattle.walks.specs.Calls.{Refusal, Orders}
use Rattle.walks.specs.Calls.{orders_call}

-- ---- a trial: what is asked of the desk, and beside it what is said to come of it

-- what can be asked of the desk
pub data Request : Type 0 where
  -- a floor of so many workers and so many buckets is opened at a version
  opens : ℕ → ℕ → ℕ → Request
  -- a worker starts a look for a lot
  looks : ℕ → ℕ → Request
  -- a worker starts an insert of a lot, with a ticket
  inserts : ℕ → ℕ → ℕ → Request
  -- a worker starts a remove of a lot
  removes : ℕ → ℕ → Request
  -- a worker has turns up to the n-th of its call
  turns : ℕ → ℕ → Request
  -- what do all turns so far come to?
  totals : Request
  -- what is the mark word of bucket 0?
  mark_word : Request
  -- what is the mark word that a worker has read?
  word_read : ℕ → Request
  -- at what place is a worker?
  place_of : ℕ → Request
  -- how many turns of others has it slept through?
  asleep_of : ℕ → Request
  -- what is the floor's last ticket?
  last_ticket : Request
  -- what do all orders of turns from here come to, to a depth?
  all_orders : ℕ → Request

-- what can come of it
pub data Outcome : Type 0 where
  -- the opening or the start is accepted
  accepted : Outcome
  -- the opening, the start or the last turn is refused by this number
  refused : ℕ → Outcome
  -- the last turn reads or stores, and the call goes on
  goes_on : Outcome
  -- the last turn is a swap that wins, and the call goes on
  wins : Outcome
  -- the last turn is a swap that loses
  loses : Outcome
  -- the last turn, and none before it, ends the call with this answer
  ends : ℕ → Outcome
  -- there is no turn to have: the worker has had as many in its call
  no_turn : Outcome
  -- turns, changes, lost swaps and full rounds
  counts : ℕ → ℕ → ℕ → ℕ → Outcome
  -- the number that was asked for
  is : ℕ → Outcome
  -- finished walks, cut walks, the sum of lost swaps, and the most in one walk
  walked : ℕ → ℕ → ℕ → ℕ → Outcome

infix 68 ◌⇒◌
-- a line of a trial: of this comes that
pub data Line : Type 0 where
  ◌⇒◌ : Request → Outcome → Line

-- a trial is its lines, from the opening on
abbrev pub Trial : Type 0
Trial = List Line

-- what a line asks
abbrev pub asks : Line → Request
asks (r ⇒ o) = r

-- what a line says of it
abbrev pub says : Line → Outcome
says (r ⇒ o) = o

-- ---- how a trial stands between two lines

-- board, floor and records as the engine left them, the turns that each worker has had in its call, and the totals over all turns
pub record Standing : Type 0 where
  pub board : List ℕ
  pub floor : Floor
  pub records : List Worker
  pub had : List ℕ
  pub counted : Totals

-- before the opening there is nothing
abbrev pub nothing : Standing
nothing = record { board = []; floor = record { workers = 0; buckets = 0; last = 0; version = 0; spare = 0 }; records = []; had = []; counted = no_turns }

-- what came of a request, and how the trial stands then
pub record Came : Type 0 where
  pub outcome : Outcome
  pub standing : Standing

-- this came of it, and so it stands
abbrev pub came : Outcome → Standing → Came
came o s = record { outcome = o; standing = s }

-- a worker's record
abbrev pub record_of : Standing → ℕ → Worker
record_of s i = record_in s.records i

-- a worker's seat
abbrev pub seat_of : Standing → ℕ → Seat
seat_of s i = seat_in s.floor s.records i

-- the turns that a worker has had in its call
abbrev pub had_by : Standing → ℕ → ℕ
had_by s i = get_or s.had i 0

-- ---- openings and starts

-- 0 is no refusal
abbrev pub by_number : ℕ → Outcome
by_number number = cond (eqb number 0) accepted (refused number)

-- what an opening leaves: nobody has had a turn
abbrev pub opened_as : List ℕ → Opened → Came
opened_as board x =
    came (by_number x.refusal)
    (record { board = board; floor = x.floor; records = x.records; had = replicate (length x.records) 0; counted = no_turns })

-- the engine opens a board and a list that are lent to it in the right sizes, with something on them
abbrev pub opening : Plan → Came
opening p =
    let x : After Opened = open_call (replicate (8 * p.buckets) 1) nothing.floor (replicate p.workers blank) p.workers p in
    opened_as x.words x.handed

-- what a start leaves, accepted or refused, is what the engine hands back; an accepted one begins a call
abbrev pub started_at : ℕ → Standing → Started → Came
started_at i s x =
    came (by_number x.refusal)
    (record {
      board = s.board;
      floor = x.floor;
      records = set s.records i x.worker;
      had = cond (eqb x.refusal 0) (set s.had i 0) s.had;
      counted = s.counted;
    })

-- ---- turns

-- what comes of a turn that is done, from its report
abbrev pub by_report : Action → Progress → Outcome
by_report action (Ended answer) = ends answer
by_report Read GoesOn = goes_on
by_report Store GoesOn = goes_on
by_report Won GoesOn = wins
by_report Lost GoesOn = loses

-- what a turn leaves, done or refused, is what the engine hands back; one that is done is counted
abbrev pub turned_at : ℕ → Standing → List ℕ → Worker → Answer → Came
turned_at i s board w (Refused number) =
    came (refused number) (record { board = board; floor = s.floor; records = s.records; had = s.had; counted = s.counted })
turned_at i s board w (Done report) =
    came (by_report report.action report.progress)
    (record {
      board = board;
      floor = s.floor;
      records = after_turn s.records i w;
      had = set s.had i (had_by s i + 1);
      counted = tallied (record_of s i).place report s.counted;
    })

-- one turn is the engine's
abbrev pub one_turn : ℕ → Standing → Came
one_turn i s =
    let x : After Turned = turn_call s.board (seat_of s i) (record_of s i) in
    turned_at i s x.words x.handed.worker x.handed.answer

-- so many turns more: a call that ends before the last of them leaves an idle worker, whose next turn is refused by 6
unfoldable pub more_turns : ℕ → ℕ → Came → Came
more_turns i zero c = c
more_turns i (suc n) c = more_turns i n (one_turn i c.standing)

-- ---- all orders

-- what comes of all orders
abbrev pub by_walks : Walked → Outcome
by_walks (Refusal number) = refused number
by_walks (Orders w) = walked w.finished w.cut w.lost w.most

-- ---- a trial played

-- what comes of a request
abbrev pub answering : Request → Standing → Came
answering (opens workers buckets version) s = opening (record { workers = workers; buckets = buckets; version = version })
answering (looks i lot) s = started_at i s (look_call s.board (seat_of s i) (record_of s i) lot)
answering (inserts i lot ticket) s = started_at i s (insert_call s.board (seat_of s i) (record_of s i) (record { lot = lot; ticket = ticket }))
answering (removes i lot) s = started_at i s (remove_call s.board (seat_of s i) (record_of s i) lot)
answering (turns i n) s = more_turns i (n - had_by s i) (came no_turn s)
answering totals s = came (counts s.counted.turns s.counted.changes s.counted.lost s.counted.full) s
answering mark_word s = came (is (cell (bucket_at s.board 0) mark_cell)) s
answering (word_read i) s = came (is (record_of s i).word) s
answering (place_of i) s = came (is (record_of s i).place) s
answering (asleep_of i) s = came (is (record_of s i).asleep) s
answering last_ticket s = came (is s.floor.last) s
answering (all_orders depth) s = came (by_walks (orders_call s.board s.floor s.records (length s.records) depth)) s

-- what comes of one line after another
unfoldable pub played_from : Standing → Trial → List Outcome
played_from s [] = []
played_from s (l ∷ ls) = let c : Came = answering (asks l) s in c.outcome ∷ played_from c.standing ls

-- what comes of a trial, line by line
abbrev pub played : Trial → List Outcome
played t = played_from nothing t

-- what the trial says, line by line
abbrev pub said : Trial → List Outcome
said t = map says t

-- a trial holds if what comes of it is what it says
abbrev pub Holds : Trial → Type 0
Holds t = played t ≡ said t

-- each trial of a list holds
abbrev pub AllHold : List Trial → Type 0
AllHold [] = Unit {0}
AllHold (t ∷ ts) = Holds t × AllHold ts
