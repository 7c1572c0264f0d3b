-- A point of a play that stands as the calls so far leave an opened board: what its worker's seat and record are there. Assumes nothing.
use Prim.Native.Nat.{ℕ, zero, suc, ◌≤◌, ◌<◌}
use mathlib.Core.Bool.{Bool}
use mathlib.Core.Path.{◌≡◌, refl, sym, ap, ◌∙◌, subst}
use mathlib.Core.List.{List, [], ◌∷◌, map}
use native.Mathlib.Decide.{dec_le}
use native.Mathlib.Omega.{arith}
use lib.ListN.{length, set, take}
use lib.Seq.{get_or-take, take-set-lt}
use borrow.Author.Tests.{le-leb}
use Rattle.turn.specs.declared.Worker.{Worker}
use Rattle.turn.specs.Asleep.{slept}
use Rattle.engine.specs.declared.Floor.{Floor}
use Rattle.engine.specs.Refusals.{start_number, each_number, turn_number}
use Rattle.engine.specs.Calls.{record_in, blank, after_turn}
use Rattle.engine.proofs.Sizes.{right_listed}
use Rattle.hall.proofs.Same.{turn_same_number}
use Rattle.sheet.specs.Play.{seat_at}
use Rattle.history.specs.History.{State, Opening, Call, opened, listed_of, seat_of, state}
use Rattle.history.specs.Numbers.{OneOf}
use Rattle.history.specs.Unbroken.{Unbroken}
use Rattle.history.proofs.Opened.{opened_workers, opening_ready}
use Rattle.history.proofs.SameSizes.{state_workers}
use Rattle.history.proofs.Unbroken.{state_unbroken}
use Rattle.history.proofs.Unrefused.{start_numbers, turn_numbers}
use Rattle.plays.specs.Points.{Point}
use Rattle.plays.specs.Plays.{StandsAs}

-- past the last worker it is the same whatever the record is: the number of a start
start_past :
    (f : Floor) (board : List ℕ) (listed i : ℕ) (late : Bool)
    → f.workers ≤ i
    → (w v : Worker)
    → start_number f board listed i w late ≡ start_number f board listed i v late
unfolding start_number
start_past f board listed i late beyond w v = rw (le-leb _ i beyond)

-- that of a turn
turn_past :
    (f : Floor) (board : List ℕ) (listed i : ℕ)
    → f.workers ≤ i
    → (w v : Worker)
    → turn_number f board listed i w ≡ turn_number f board listed i v
unfolding turn_number each_number
turn_past f board listed i beyond w v = rw (le-leb _ i beyond)

-- the first so many records sleep alike, whoever sleeps beside them
take_slept : (n : ℕ) (ws : List Worker) → take n (map slept ws) ≡ map slept (take n ws)
take_slept zero ws = refl
take_slept (suc n) [] = refl
take_slept (suc n) (w ∷ ws) = ap (λ (vs : List Worker). slept w ∷ vs) (take_slept n ws)

-- a point of a play that stands so, with all of the program's records
pub record Stands (o : Opening) (done : List Call) (p : Point) : Type 0 where
  pub stands : StandsAs o done p
  pub long : length p.left.handed.records ≡ 64

module _ (o : Opening) (done : List Call) (p : Point) (so : Stands o done p) where
  -- so it does at another place of the sheet
  pub elsewhere :
      (field next : ℕ) (ts : List ℕ)
      → Stands o done (record { field = field; next = next; turns = ts; left = p.left; lines = p.lines })
  elsewhere field next ts =
      record {
        stands =
            record {
              board = so.stands.board;
              floor = so.stands.floor;
              records = so.stands.records;
              totals = so.stands.totals;
              lines = so.stands.lines;
            };
        long = so.long;
      }

  -- the history's state
  abbrev s : State
  s = state (opened o) done

  -- the desk's records, and the board
  abbrev ws : List Worker
  ws = p.left.handed.records

  abbrev words : List ℕ
  words = p.left.words

  -- nothing there is broken
  abbrev ok : Unbroken s
  ok = state_unbroken (opening_ready o) done

  listed : length s.records ≡ s.floor.workers
  listed = right_listed s.floor s.board (length s.records) ok.sized

  same_floor : p.left.handed.floor ≡ s.floor
  same_floor = so.stands.floor

  -- each worker has the same seat in the history as at the desk
  pub seat_same : (i : ℕ) → seat_of s i ≡ seat_at p.left.handed.floor i
  seat_same i = rw (same_floor, listed)

  -- a worker that there is has the same record
  pub record_same : (i : ℕ) → i < s.floor.workers → listed_of s i ≡ record_in ws i
  record_same i known =
      let under : i < o.plan.workers = omega (arith, state_workers (opened o) done, opened_workers o) in
      ap (λ (l : List Worker). record_in l i) (sym so.stands.records) ∙ get_or-take o.plan.workers ws i blank under

  -- which is put back in both
  pub records_set : (i : ℕ) (v : Worker) → i < s.floor.workers → take o.plan.workers (set ws i v) ≡ set s.records i v
  records_set i v known =
      let under : i < o.plan.workers = omega (arith, state_workers (opened o) done, opened_workers o) in
      take-set-lt o.plan.workers ws i v under ∙ ap (λ (l : List Worker). set l i v) so.stands.records

  -- so it is after a turn, through which the others sleep
  pub records_turn : (i : ℕ) (v : Worker) → i < s.floor.workers → take o.plan.workers (after_turn ws i v) ≡ after_turn s.records i v
  records_turn i v known =
      let under : i < o.plan.workers = omega (arith, state_workers (opened o) done, opened_workers o) in
      take-set-lt o.plan.workers (map slept ws) i v under
      ∙ ap (λ (l : List Worker). set l i v) (take_slept o.plan.workers ws)
      ∙ ap (λ (l : List Worker). after_turn l i v) so.stands.records

  -- ---- the numbers of refusal

  -- a number that goes by the record of a worker that there is
  same_number :
      (number : Worker → ℕ) (i : ℕ)
      → (s.floor.workers ≤ i → (w v : Worker) → number w ≡ number v)
      → number (listed_of s i) ≡ number (record_in ws i)
  same_number number i past = by (dec_le s.floor.workers i)
    where
      by : Dec (s.floor.workers ≤ i) → number (listed_of s i) ≡ number (record_in ws i)
      by (yes beyond) = past beyond _ _
      by (no under) = ap number (record_same i (omega arith))

  -- a start is accepted, or refused by 2, 4 or 5
  pub start_number_is :
      (i : ℕ) (late : Bool)
      → OneOf (0 ∷ 2 ∷ 4 ∷ 5 ∷ [])
      (start_number p.left.handed.floor words p.left.handed.floor.workers i (record_in ws i) late)
  start_number_is i late =
      let number : Worker → ℕ = λ w. start_number s.floor s.board (length s.records) i w late in
      rw (same_floor, ← listed, so.stands.board, ← same_number number i (start_past s.floor s.board _ i late)) (start_numbers s ok i late)

  -- a turn is done, or refused by 2 or 6
  pub turn_number_is :
      (i : ℕ)
      → OneOf (0 ∷ 2 ∷ 6 ∷ []) (turn_number p.left.handed.floor words p.left.handed.floor.workers i (record_in ws i))
  turn_number_is i =
      let number : Worker → ℕ = λ w. turn_number s.floor s.board (length s.records) i w in
      rw (same_floor, ← listed, so.stands.board, ← same_number number i (turn_past s.floor s.board _ i))
      (subst (OneOf (0 ∷ 2 ∷ 6 ∷ [])) (turn_same_number s.floor ok.reads (length s.records) i (listed_of s i)) (turn_numbers s ok i))
