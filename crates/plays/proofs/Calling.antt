-- A start that is accepted at a point of a play is that start of the history. Assumes nothing.
use Prim.Native.Nat.{ℕ, ◌^◌, ◌<◌}
use mathlib.Core.Bool.{Bool}
use mathlib.Core.Path.{◌≡◌, refl, sym, ap, ◌∙◌}
use mathlib.Core.List.{List, [], ◌∷◌, ◌++◌, append-nil}
use native.Mathlib.Omega.{arith}
use lib.Dec.{eqb}
use lib.ListN.{length-set}
use borrow.Author.Tests.{eqb-true}
use Rattle.mark.proofs.Choices.{by_cases}
use Rattle.turn.specs.declared.Worker.{Worker}
use Rattle.engine.specs.declared.Floor.{Floor}
use Rattle.engine.specs.declared.Seat.{Seat}
use Rattle.engine.specs.Calls.{Started}
use Rattle.engine.specs.Refusals.{start_number}
use Rattle.engine.specs.Calls.{record_in, start_call}
use Rattle.sheet.specs.declared.Call as Field
use Rattle.sheet.specs.declared.Desk.{Desk}
use Rattle.sheet.specs.Play.{seat_at, asked, call_field}
use Rattle.sheet.proofs.Seats.{asked_is, asked_known}
use Rattle.history.specs.Trace.{Entry}
use Rattle.history.specs.Numbers.{OneOf}
use Rattle.history.specs.History.{State, Opening, Call, started_as, opened, state, trace}
use Rattle.history.proofs.Histories.{state_from_then, trace_from_then}
use Rattle.plays.specs.Points.{Point, call_of}
use Rattle.plays.proofs.Asked.{after_call, entries_call}
use Rattle.plays.proofs.Standing.{Stands, seat_same, record_same, records_set, start_number_is}

module _ (board : List ℕ) (seat : Seat) (w : Worker) (late : Bool) (new : Worker) (f : Floor) where
  -- a start hands back its number
  start_refusal_lem : (start_call board seat w late new f).refusal ≡ start_number seat.floor board seat.listed seat.worker w late
  unfolding start_call
  start_refusal_lem =
      let n = start_number seat.floor board seat.listed seat.worker w late in
      by_cases (λ (x : Started). x.refusal ≡ n) (eqb n 0) _ _ (λ is. sym (eqb-true n 0 is)) (λ isnot. refl)

module _ (o : Opening) (done : List Call) (p : Point) (so : Stands o done p) (c : Field.Call) where
  abbrev d : Desk
  d = p.left.handed

  abbrev f : Floor
  f = d.floor

  abbrev i : ℕ
  i = c.worker

  abbrev w : Worker
  w = record_in d.records i

  -- what the engine says of the start
  abbrev x : Started
  x = asked p.left.words (seat_at f i) w c

  -- a start is accepted, or refused by 2, 4 or 5
  pub call_number_is : OneOf (0 ∷ 2 ∷ 4 ∷ 5 ∷ []) (call_field c p.left).stop
  unfolding call_field
  call_number_is =
      asked_is p.left.words (seat_at f i) w (λ y. OneOf (0 ∷ 2 ∷ 4 ∷ 5 ∷ []) y.refusal)
      (λ late new ticket. rw (start_refusal_lem p.left.words (seat_at f i) w late new _) (start_number_is o done p so i late)) c

  module _ (small : c.ticket < 2 ^ 64) (accepted : (call_field c p.left).stop ≡ 0) where
    -- the history's state
    abbrev s : State
    s = state (opened o) done

    -- there is such a worker
    known : i < s.floor.workers
    unfolding call_field
    known =
        let same = ap (λ (g : Floor). g.workers) so.stands.floor in
        omega (arith, same, (asked_known p.left.words (seat_at f i) w c accepted).0)

    -- the calls with it
    abbrev more : List Call
    more = done ++ (call_of c ∷ [])

    state_is : state (opened o) more ≡ started_as s i x
    state_is =
        state_from_then (opened o) done (call_of c)
        ∙ after_call s c small
        ∙ rw (← so.stands.board, seat_same o done p so i, record_same o done p so i known)

    -- it is no turn
    pub trace_is : trace (opened o) more ≡ trace (opened o) done
    trace_is =
        trace_from_then (opened o) done (call_of c)
        ∙ ap (λ (es : List Entry). trace (opened o) done ++ es) (entries_call s c)
        ∙ append-nil (trace (opened o) done)

    -- the point after it
    pub call_stands :
        (field next : ℕ)
        → Stands o more
        (record { field = field; next = next; turns = []; left = (call_field c p.left).left; lines = p.lines ++ (call_field c p.left).lines })
    unfolding call_field
    call_stands field next =
        record {
          stands =
              record {
                board = rw state_is so.stands.board;
                floor = rw state_is;
                records = rw state_is (records_set o done p so i x.worker known);
                totals = rw trace_is so.stands.totals;
                lines = rw trace_is (append-nil p.lines ∙ so.stands.lines);
              };
          long = length-set d.records i x.worker ∙ so.long;
        }
