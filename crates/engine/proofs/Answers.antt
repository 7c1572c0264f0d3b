-- What the code answers, and the same with its number beside it: no two answers are one there. Assumes nothing.
use Rattle.std.proofs.Common.{◌≡◌, ℕ, Result, Ok, Err, refl, sym, ap, ◌∙◌}
use Rattle.turn.specs.declared.Worker.{Worker}
use Rattle.turn.specs.declared.refusal.Refusal.{Refusal}
use Rattle.turn.specs.Number.{result_number}
use Rattle.turn.proofs.Refusing.{answer_same}
use Rattle.engine.specs.declared.Floor.{Floor}
use Rattle.engine.specs.declared.Begun.{Begun}
use Rattle.engine.specs.Calls.{Laid, laid_as, Started, started_as, Counted, counted_as, counted_number, Refusal as Refused, Lots}

-- an opening
pub laid_told : (f : Floor) (listed : ℕ) (r : Result Floor Refusal) → (laid_as f listed r).refusal ≡ result_number r
laid_told f listed (Ok g) = refl
laid_told f listed (Err why) = refl

pub laid_same : (f : Floor) (listed : ℕ) (r t : Result Floor Refusal) → laid_as f listed r ≡ laid_as f listed t → r ≡ t
laid_same f listed r t is =
    answer_same r t (sym (laid_told f listed r) ∙ ap (λ (x : Laid). x.refusal) is ∙ laid_told f listed t)
    (λ x y told said. ap (λ (z : Laid). z.floor) (sym (ap (laid_as f listed) told) ∙ is ∙ ap (laid_as f listed) said))

-- a start
pub started_told : (f : Floor) (w : Worker) (r : Result Begun Refusal) → (started_as f w r).refusal ≡ result_number r
started_told f w (Ok b) = refl
started_told f w (Err why) = refl

pub started_same : (f : Floor) (w : Worker) (r t : Result Begun Refusal) → started_as f w r ≡ started_as f w t → r ≡ t
started_same f w r t is =
    answer_same r t (sym (started_told f w r) ∙ ap (λ (x : Started). x.refusal) is ∙ started_told f w t)
    (λ x y told said.
    let same : started_as f w (Ok x) ≡ started_as f w (Ok y) = sym (ap (started_as f w) told) ∙ is ∙ ap (started_as f w) said in
    ap (λ (z : Started). record { worker = z.worker; floor = z.floor }) same)

-- a count
pub counted_told : (r : Result ℕ Refusal) → counted_number (counted_as r) ≡ result_number r
counted_told (Ok lots) = refl
counted_told (Err why) = refl

lots_of : Counted → ℕ
lots_of (Lots lots) = lots
lots_of (Refused number) = 0

pub counted_same : (r t : Result ℕ Refusal) → counted_as r ≡ counted_as t → r ≡ t
unfolding lots_of
counted_same r t is =
    answer_same r t (sym (counted_told r) ∙ ap counted_number is ∙ counted_told t)
    (λ x y told said. ap lots_of (sym (ap counted_as told) ∙ is ∙ ap counted_as said))
