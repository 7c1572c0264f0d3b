-- The whole outcome of each call that takes the index: the engine's, by the number that it has here, and the five words that are left.
use Rattle.std.specs.Prelude.{ℕ, zero, suc, ◌-◌, Bool, cond, List, [], ◌∷◌, eqb, ltb, replicate}
use Rattle.bits.specs.Seek.{seek}
use Rattle.turn.specs.declared.Worker.{Worker}
use Rattle.turn.specs.Turn.{Tried}
use Rattle.turn.specs.Retire.{Retired}
use Rattle.turn.specs.Bucket.{cell, mark_cell}
use Rattle.turn.specs.Turn.{Answer, Refused, Done, Turned, After}
use Rattle.engine.specs.declared.Floor.{Floor}
use Rattle.engine.specs.declared.Plan.{Plan}
use Rattle.engine.specs.declared.Seat.{Seat}
use Rattle.engine.specs.Calls.{Laid}
use Rattle.engine.specs.declared.Moved.{Moved}
use Rattle.engine.specs.Board.{bucket_of, bucket_at}
use Rattle.engine.specs.Move.{moved_by}
use Rattle.engine.specs.Refusals.{bucket_for}
use Rattle.engine.specs.Calls.{Opened, Ran, planned, opened_by, laid_by, turned, tried, retired, vacated_on, unbegun, record_in, go_on}
use Rattle.hall.specs.Totalled.{Totalled}
use Rattle.hall.specs.Next.{Next}
use Rattle.hall.specs.Index.{index_words, total_in, bit_in, followed}
use Rattle.hall.specs.Refusals.{hall_open_number, hall_each_number, hall_turn_number, hall_retire_number, hall_run_number, hall_move_number, question_number}

-- ---- open

-- §2.10: an opening
unfoldable pub hall_open : List ℕ → List ℕ → Floor → List Worker → ℕ → Plan → After Opened
hall_open board index f records listed p = opened_by (hall_open_number (planned p) board index listed) board f records p

-- an opening as far as it concerns no record
abbrev pub hall_lay : List ℕ → List ℕ → Floor → ℕ → Plan → After Laid
hall_lay board index f listed p = laid_by listed (hall_open board index f [] listed p)

-- §21.2: what an opening with this number of refusal, or 0, leaves of the index: five zeros
abbrev pub opened_index : List ℕ → ℕ → List ℕ
opened_index index number = cond (eqb number 0) (replicate index_words 0) index

-- ---- turn

-- one turn, without an enum
unfoldable pub hall_try : List ℕ → List ℕ → Seat → Worker → After Tried
hall_try board index s w = tried (hall_turn_number s.floor board index s.listed s.worker w) s.floor board w

-- one turn
unfoldable pub hall_turn : List ℕ → List ℕ → Seat → Worker → After Turned
hall_turn board index s w = turned (hall_turn_number s.floor board index s.listed s.worker w) s.floor board w

-- §21.2: what a turn leaves of the index: it follows the mark word from the one before the turn to the one after it
abbrev pub index_left : List ℕ → Answer → List ℕ
index_left index (Refused number) = index
index_left index (Done report) = followed index report.bucket report.before report.after

-- ---- retire

-- §19.1: retiring a worker
unfoldable pub hall_retire : List ℕ → List ℕ → Seat → Worker → After Retired
hall_retire board index s w = retired (hall_retire_number s.floor board index s.listed s.worker w) s.floor board w

-- §21.2: what a retiring with this number of refusal, or 0, leaves of the index: it follows the bucket of the worker's lot
abbrev pub retired_index : Floor → List ℕ → List ℕ → Worker → ℕ → List ℕ
retired_index f board index w number =
    cond (eqb number 0)
    (followed index (bucket_of w.key f.buckets)
    (cell (bucket_for f board w.key) mark_cell) (cell (bucket_for f (vacated_on f board w) w.key) mark_cell))
    index

-- ---- run

-- what a run leaves, with the index that it leaves
pub record Indexed (A : Type 0) : Type 0 where
  pub index : List ℕ
  pub left : A

-- this index beside this
abbrev pub indexed : {A : Type 0} → List ℕ → A → Indexed A
indexed index left = record { index = index; left = left }

-- §4.10, §21.2: what the turn of worker t came to, as in the engine's run, with the index that it leaves
abbrev pub hall_go_on : (Indexed (After Ran) → Indexed (After Ran)) → ℕ → ℕ → List ℕ → List ℕ → Worker → Answer → Ran → Indexed (After Ran)
hall_go_on rest t place board index w a r = go_on (λ x. rest (indexed (index_left index a) x)) (indexed index) t place board w a r

-- one turn of worker t, and then the rest
abbrev pub hall_one_turn : (Indexed (After Ran) → Indexed (After Ran)) → Floor → ℕ → Worker → Indexed (After Ran) → Indexed (After Ran)
hall_one_turn rest f t w s =
    let board : List ℕ = s.left.words in
    let x : After Turned = turned (hall_each_number f board s.index t w) f board w in
    hall_go_on rest t w.place x.words s.index x.handed.worker x.handed.answer s.left.handed

-- §4.10: the turns of a list, from where a run stands
unfoldable pub hall_run_from : Floor → List ℕ → Indexed (After Ran) → Indexed (After Ran)
hall_run_from f [] s = s
hall_run_from f (t ∷ ts) s = hall_one_turn (hall_run_from f ts) f t (record_in s.left.handed.records t) s

-- §4.10, §7.1: a run; 1 and 9 refuse it whole
unfoldable pub hall_run : List ℕ → List ℕ → Floor → List Worker → ℕ → List ℕ → Indexed (After Ran)
hall_run board index f records listed turns =
    cond (eqb (hall_run_number f board index listed turns) 0)
    (hall_run_from f turns (indexed index (unbegun board records 0)))
    (indexed index (unbegun board records (hall_run_number f board index listed turns)))

-- ---- move

-- §22.1: a move to a board of n buckets
unfoldable pub hall_move : List ℕ → List ℕ → List ℕ → Floor → ℕ → ℕ → ℕ → After Moved
hall_move old board index f listed rest n = moved_by (hall_move_number f old index listed rest n board) old f n board

-- §22.4: an index made afresh: it follows each bucket from a mark word without marks to the one that stands there
unfoldable pub fresh_index : List ℕ → ℕ → List ℕ
fresh_index board zero = replicate index_words 0
fresh_index board (suc b) = followed (fresh_index board b) b 0 (cell (bucket_at board b) mark_cell)

-- §22.4: what a move with this number of refusal, or 0, leaves of the index, where it leaves this board
abbrev pub moved_index : List ℕ → List ℕ → ℕ → ℕ → List ℕ
moved_index index board n number = cond (eqb number 0) (fresh_index board n) index

-- ---- the questions

-- §21.3: the number of valid slots that the index has, or the number alone
unfoldable pub total_call : List ℕ → List ℕ → Floor → Totalled
total_call board index f = cond (eqb (question_number f board index) 0) (Totalled.Slots (total_in index)) (Totalled.Refusal (question_number f board index))

-- §14.9: the number of each case of a total: a refusal's own, and 0 for a number of slots
abbrev pub totalled_number : Totalled → ℕ
totalled_number (Totalled.Refusal number) = number
totalled_number (Totalled.Slots slots) = 0

-- §21.4: of n buckets the first that passes, at or after one, or none
unfoldable pub first_of : (ℕ → Bool) → ℕ → ℕ → Next
first_of passes n from = let b = seek passes from (n - from) in cond (ltb b n) (Next.Bucket b) Next.Nowhere

-- §21.4: of n buckets the first whose bit is set, at or after one
abbrev pub next_in : List ℕ → ℕ → ℕ → Next
next_in index n from = first_of (bit_in index) n from

-- §21.4: the next occupied bucket, or the number alone
unfoldable pub next_call : List ℕ → List ℕ → Floor → ℕ → Next
next_call board index f from =
    cond (eqb (question_number f board index) 0) (next_in index f.buckets from) (Next.Refusal (question_number f board index))

-- §14.9: the number of each case of a next bucket: a refusal's own, and 0 for a bucket and for none
abbrev pub next_number : Next → ℕ
next_number (Next.Refusal number) = number
next_number Next.Nowhere = 0
next_number (Next.Bucket b) = 0
