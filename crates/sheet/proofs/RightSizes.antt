-- A floor that is opened fits its board, and calls and turns keep it so; no field has more turns than a run may have. Assumes nothing.
use Prim.Native.Nat.{ℕ, ◌-◌, ◌≤◌}
use mathlib.Core.Bool.{Bool, false}
use mathlib.Core.Path.{◌≡◌, sym, ◌∙◌}
use mathlib.Core.List.{List, [], ◌∷◌}
use native.Mathlib.Nat.{min-le_right}
use native.Mathlib.Omega.{arith}
use lib.Dec.{eqb}
use lib.ListN.{length, drop, length-take, length-drop}
use borrow.Author.Tests.{eqb-true, eqb-false}
use Rattle.mark.proofs.Choices.{by_cases, passes}
use Rattle.turn.specs.declared.Worker.{Worker}
use Rattle.turn.specs.Turn.{Answer, Refused, Done, After}
use Rattle.engine.specs.declared.Floor.{Floor}
use Rattle.engine.specs.declared.Plan.{Plan}
use Rattle.engine.specs.declared.Seat.{Seat}
use Rattle.engine.specs.Calls.{Started}
use Rattle.engine.specs.Board.{opened_board}
use Rattle.engine.specs.Refusals.{wrong_sizes, open_number, start_number}
use Rattle.engine.specs.Calls.{Opened, planned, open_call, spending, start_call, turn_call}
use Rattle.engine.proofs.Buckets.{length_opened}
use Rattle.engine.proofs.Sizes.{right_sizes}
use Rattle.engine.proofs.Keeps.{turn_keeps}
use Rattle.sheet.specs.declared.Call.{Call}
use Rattle.sheet.specs.declared.Span.{Span}
use Rattle.sheet.specs.Play.{Desk, Outcome, seat_of, record_of, open_field, call_field, turn_listed, turn_at_desk, turns_done, turns_in}
use Rattle.sheet.proofs.Seats.{asked_is}

-- a board of the same length has the same sizes
pub same_sizes :
    (f : Floor) (board later : List ℕ) (listed : ℕ) → length later ≡ length board → wrong_sizes f later listed ≡ wrong_sizes f board listed
unfolding wrong_sizes
same_sizes f board later listed long = rw long

-- the sizes are right, with a record for each worker
abbrev Sized : Floor → List ℕ → Type 0
Sized f board = wrong_sizes f board f.workers ≡ false

-- ---- a floor

opened_sized : (p : Plan) (board : List ℕ) → open_number (planned p) board p.workers ≡ 0 → Sized (planned p) (opened_board p.buckets p.version)
unfolding open_number
opened_sized p board none =
    let ok = (passes (wrong_sizes (planned p) board p.workers) 0 0 none).0 in
    let words = (right_sizes (planned p) board p.workers ok).words in
    same_sizes (planned p) board _ p.workers (length_opened p.version p.buckets ∙ sym words) ∙ ok

-- a floor that is not refused has the right sizes
pub sizes_opened :
    (p : Plan) (s : After Desk)
    → (open_field p s).stop ≡ 0
    → let o = (open_field p s).left in
    wrong_sizes o.handed.floor o.words o.handed.floor.workers ≡ false
unfolding open_field open_call
sizes_opened p s =
    let n = open_number (planned p) s.words p.workers in
    by_cases (λ (x : After Opened). x.handed.refusal ≡ 0 → Sized x.handed.floor x.words) (eqb n 0) _ _
    (λ is none. opened_sized p s.words (eqb-true n 0 is)) (λ isnot none. absurd (eqb-false n 0 isnot none))

-- ---- a call

module _ (board : List ℕ) (s : Seat) (w : Worker) (right : Sized s.floor board) where
  abbrev Kept : Started → Type 0
  Kept x = Sized x.floor board

  start_sized : (late : Bool) (new : Worker) (f : Floor) → Sized f board → Kept (start_call board s w late new f)
  unfolding start_call
  start_sized late new f same =
      let n = start_number s.floor board s.listed s.worker w late in
      by_cases Kept (eqb n 0) (record { refusal = 0; floor = f; worker = new }) (record { refusal = n; floor = s.floor; worker = w })
      (λ done. same) (λ isnot. right)

  spending_sized : (ticket : ℕ) → Sized (spending s.floor ticket) board
  unfolding wrong_sizes
  spending_sized ticket = right

-- a call keeps them right, accepted or refused
pub sizes_called :
    (c : Call) (s : After Desk)
    → wrong_sizes s.handed.floor s.words s.handed.floor.workers ≡ false
    → let o = (call_field c s).left in
    wrong_sizes o.handed.floor o.words o.handed.floor.workers ≡ false
unfolding call_field
sizes_called c s right =
    let seat = seat_of s.handed c.worker in
    let w = record_of s.handed c.worker in
    asked_is s.words seat w (λ x. Sized x.floor s.words)
    (λ late new ticket. start_sized s.words seat w right late new _ (spending_sized s.words seat w right ticket)) c

-- ---- turns

listed_sized :
    (i : ℕ) (w : Worker) (board : List ℕ) (v : Worker) (a : Answer) (d : Desk)
    → Sized d.floor board
    → let o = (turn_listed i w board v a d).left in
    Sized o.handed.floor o.words
listed_sized i w board v (Refused number) d right = right
listed_sized i w board v (Done report) d right = right

turn_sized : (i : ℕ) (s : After Desk) → Sized s.handed.floor s.words → let o = (turn_at_desk i s).left in Sized o.handed.floor o.words
unfolding turn_at_desk
turn_sized i s right =
    let f = s.handed.floor in
    let w = record_of s.handed i in
    let x = turn_call s.words (seat_of s.handed i) w in
    let long = (turn_keeps s.words (seat_of s.handed i) w).long in
    listed_sized i w x.words x.handed.worker x.handed.answer s.handed (same_sizes f s.words x.words f.workers long ∙ right)

-- so do turns, whether one is refused or not
pub sizes_turned :
    (ts : List ℕ) (s : After Desk)
    → wrong_sizes s.handed.floor s.words s.handed.floor.workers ≡ false
    → let o = (turns_done ts s).left in
    wrong_sizes o.handed.floor o.words o.handed.floor.workers ≡ false
unfolding turns_done
sizes_turned [] s right = right
sizes_turned (t ∷ ts) s right =
    let o = turn_at_desk t s in
    by_cases (λ (x : Outcome). Sized x.left.handed.floor x.left.words) (eqb o.stop 0) _ _
    (λ done. sizes_turned ts o.left (turn_sized t s right)) (λ isnot. turn_sized t s right)

-- no field of a sheet that is played has more turns than a run may have
pub turns_few : (sheet : List ℕ) (span : Span) → length sheet ≤ 16384 → length (turns_in sheet span) ≤ 65535
turns_few sheet span short =
    let l = drop span.start sheet in
    let dropped = length-drop span.start sheet in
    let taken = length-take (span.end - span.start) l in
    let less = min-le_right (span.end - span.start) (length l) in
    omega (arith, short, dropped, taken, less)
