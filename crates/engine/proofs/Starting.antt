-- A start, whatever is asked for, is the start of its record with the floor that it leaves. Assumes nothing.
use Rattle.std.proofs.Common.{◌≡◌, ℕ, Bool, List, length, refl, ap, ◌∙◌}
use Rattle.turn.specs.declared.Worker.{Worker}
use Rattle.engine.specs.declared.Seat.{Seat}
use Rattle.engine.specs.declared.Asked.{Asked}
use Rattle.engine.specs.declared.Asked.TheVariants.{Look, Insert, Remove}
use Rattle.engine.specs.Refusals.{start_refusal, start_number}
use Rattle.engine.specs.Calls.{start_made, start_call, asked_call, record_for, asked_late, floor_after}

asked_start :
    (board : List ℕ) (s : Seat) (w : Worker) (asked : Asked)
    → start_call board s w (asked_late s.floor asked) (record_for asked) (floor_after s.floor asked) ≡ asked_call board s w asked
asked_start board s w (Look lot) = refl
asked_start board s w (Insert bid) = refl
asked_start board s w (Remove lot) = refl

-- by the number that the lengths and the record come to
pub start_asked :
    (board : List ℕ) (s : Seat) (w : Worker) (asked : Asked) (n : ℕ) (late : Bool)
    → late ≡ asked_late s.floor asked
    → n ≡ start_refusal s.floor (length board) s.listed s.worker w late
    → start_made n s.floor w (record_for asked) (floor_after s.floor asked) ≡ asked_call board s w asked
unfolding start_call start_number
start_asked board s w asked n late is told =
    ap (λ (m : ℕ). start_made m s.floor w (record_for asked) (floor_after s.floor asked))
    (told ∙ ap (λ (t : Bool). start_refusal s.floor (length board) s.listed s.worker w t) is)
    ∙ asked_start board s w asked
