-- A floor at the desk is what the engine lays out, with the desk's records: they become idle, or stay where it is refused.
-- Assumes nothing.
use Prim.Native.Nat.{ℕ}
use mathlib.Core.Bool.{true, false}
use mathlib.Core.Path.{◌≡◌, refl, sym, ap, ◌∙◌}
use mathlib.Core.List.{List, []}
use lib.Dec.{eqb}
use lib.ListN.{length, replicate}
use borrow.Author.Tests.{eqb-true, eq-eqb, ne_eqb}
use Rattle.mark.proofs.Choices.{by_cases}
use Rattle.std.specs.Prelude.{Result, Ok, Err}
use Rattle.turn.specs.declared.refusal.Refusal.{Refusal}
use Rattle.turn.specs.Number.{number as number_of}
use Rattle.turn.proofs.Refusing.{number_some}
use Rattle.engine.specs.declared.Floor.{Floor}
use Rattle.turn.specs.Worker.{idle}
use Rattle.turn.specs.Turn.{After, after}
use Rattle.engine.specs.declared.Plan.{Plan}
use Rattle.engine.specs.Calls.{Laid}
use Rattle.engine.specs.Refusals.{open_number}
use Rattle.engine.specs.Calls.{Opened, planned, open_call, laid_as, lay_call}
use Rattle.sheet.specs.Play.{Desk, desk_of, outcome, open_field}
use Rattle.sheet.specs.Promises.{Comes}

module _
    (p : Plan) (s : After Desk) (later : List ℕ) (l : Laid)
    (whole : after later l ≡ lay_call s.words s.handed.floor p.workers p)
  where
    abbrev number : ℕ
    number = open_number (planned p) s.words p.workers

    lay_number : (lay_call s.words s.handed.floor p.workers p).handed.refusal ≡ number
    unfolding open_call
    lay_number = by_cases (λ (x : After Opened). x.handed.refusal ≡ number) (eqb number 0) _ _ (λ is. sym (eqb-true number 0 is)) (λ isnot. refl)

    laid_number : l.refusal ≡ number
    laid_number = ap (λ (x : After Laid). x.handed.refusal) whole ∙ lay_number

    -- a floor that is refused leaves the desk as it was
    pub laid_refused : (l.refusal ≡ 0 → ⊥) → outcome [] (after later s.handed) l.refusal ≡ open_field p s
    unfolding open_field open_call
    laid_refused some =
        let isnot : eqb number 0 ≡ false = ne_eqb number 0 (λ none. some (laid_number ∙ none)) in
        rw isnot (ap (λ (x : After Laid). outcome [] (after x.words s.handed) x.handed.refusal) (rw isnot at whole))

    -- one that is not refused makes every record idle
    pub laid_done :
        l.refusal ≡ 0
        → length s.handed.records ≡ 64
        → outcome [] (after later (desk_of l.floor (replicate 64 idle) s.handed.totals)) 0 ≡ open_field p s
    unfolding open_field open_call
    laid_done none all =
        let is : eqb number 0 ≡ true = eq-eqb number 0 (sym laid_number ∙ none) in
        rw (is, all)
        (ap (λ (x : After Laid). outcome [] (after x.words (desk_of x.handed.floor (replicate 64 idle) s.handed.totals)) 0) (rw is at whole))

-- so it is with what the engine answers
module _
    (p : Plan) (board later : List ℕ) (d : Desk) (r : Result Floor Refusal)
    (whole : after later (laid_as d.floor p.workers r) ≡ lay_call board d.floor p.workers p)
  where
    pub open_refused : (why : Refusal) → r ≡ Err why → Comes (open_field p (after board d)) later d (number_of why)
    open_refused why is =
        let refused = rw is at (laid_refused p (after board d) later (laid_as d.floor p.workers r) whole) in
        rw (← refused (number_some why)) (record { words = refl; stop = refl; desk = refl })

    pub open_done :
        (f : Floor) → r ≡ Ok f → length d.records ≡ 64 → Comes (open_field p (after board d)) later (desk_of f (replicate 64 idle) d.totals) 0
    open_done f is all =
        let done = rw is at (laid_done p (after board d) later (laid_as d.floor p.workers r) whole) in
        rw (← done refl all) (record { words = refl; stop = refl; desk = refl })
