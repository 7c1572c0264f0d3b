-- An opening that lays out the board and the index, and then makes the records of the list idle, is the opening of board, list and index. Assumes
-- nothing.
use Prim.Native.Nat.{ℕ}
use mathlib.Core.Bool.{Bool, true, false, cond}
use mathlib.Core.Path.{◌≡◌, refl, ap, ◌∙◌}
use mathlib.Core.List.{List, []}
use lib.Dec.{eqb}
use lib.ListN.{length, replicate}
use Rattle.turn.specs.declared.Worker.{Worker}
use Rattle.turn.specs.Worker.{idle}
use Rattle.turn.specs.Turn.{After, after}
use Rattle.engine.specs.declared.Floor.{Floor}
use Rattle.engine.specs.declared.Plan.{Plan}
use Rattle.std.proofs.Common.{Result}
use Rattle.turn.specs.declared.refusal.Refusal.{Refusal}
use Rattle.engine.specs.Calls.{Laid, laid_as}
use Rattle.engine.proofs.Answers.{laid_told}
use Rattle.engine.specs.Board.{opened_board}
use Rattle.engine.specs.Calls.{Opened, planned}
use Rattle.engine.specs.Firsts.{firsts}
use Rattle.hall.specs.Refusals.{hall_open_number}
use Rattle.hall.specs.Calls.{hall_open, hall_lay}
use Rattle.hall.specs.Promises.{FloorKept}
use Rattle.floor.specs.Promises.{FloorOpened}
use Rattle.engine.proofs.Firsts.{firsts_none, firsts_one}

module _ (board index : List ℕ) (f : Floor) (ys : List Worker) (p : Plan) where
  -- what is handed back, with the list as it is left
  abbrev pub on_records : After Laid → After Opened
  on_records x =
      after x.words (record { refusal = x.handed.refusal; floor = x.handed.floor; records = firsts (λ k old. idle) x.handed.idle ys })

  abbrev number : ℕ
  number = hall_open_number (planned p) board index (length ys)

  -- refused by this number, or accepted
  abbrev opens : Bool → List Worker → After Opened
  opens t ws =
      cond t (after (opened_board p.buckets p.version) (record { refusal = 0; floor = planned p; records = replicate (length ws) idle }))
      (after board (record { refusal = number; floor = f; records = ws }))

  either_way :
      (t : Bool)
      → eqb number 0 ≡ t
      → let x = opens t [] in
      on_records (after x.words (record { floor = x.handed.floor; idle = cond (eqb x.handed.refusal 0) (length ys) 0; refusal = x.handed.refusal }))
      ≡ opens t ys
  either_way true is =
      ap (λ (l : List Worker). after (opened_board p.buckets p.version) (record { refusal = 0; floor = planned p; records = l }))
      (firsts_one idle ys)
  either_way false isnot = rw (isnot, firsts_none (λ k old. idle) ys)

  pub opened_on_list : on_records (hall_lay board index f (length ys) p) ≡ hall_open board index f ys (length ys) p
  unfolding hall_open
  opened_on_list = either_way (eqb number 0) refl

-- the promise, from what the calls say
pub open_left :
    (board : List ℕ) (ys : List Worker) (index : List ℕ) (f : Floor) (p : Plan) (board' index' : List ℕ) (r : Result Floor Refusal) (ys' : List Worker)
    → FloorKept board index f (length ys) p board' index' r
    → let laid = laid_as f (length ys) r in
    ys' ≡ firsts (λ k old. idle) laid.idle ys
    → FloorOpened board ys index f p board' ys' index' (record { refusal = laid.refusal; floor = laid.floor })
open_left board ys index f p board' index' r ys' e₁ e₂ =
    record {
      whole = rw e₂ (ap (on_records board index f ys p) e₁.whole ∙ opened_on_list board index f ys p);
      kept = rw (laid_told f (length ys) r) e₁.kept;
    }
