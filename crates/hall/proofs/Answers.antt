-- What the code answers to a question, and the same with its number: no two answers are one there. Assumes nothing.
use Rattle.std.proofs.Common.{◌≡◌, ℕ, Result, Ok, Err, Option, Some, None, refl, sym, ap, ◌∙◌}
use Rattle.turn.specs.declared.refusal.Refusal.{Refusal}
use Rattle.turn.specs.Number.{result_number}
use Rattle.turn.proofs.Refusing.{answer_same}
use Rattle.hall.specs.Totalled.{Totalled, totalled_as}
use Rattle.hall.specs.Next.{Next, bucket_if_any, next_as}
use Rattle.hall.specs.Calls.{totalled_number, next_number}

-- a total
pub totalled_told : (r : Result ℕ Refusal) → totalled_number (totalled_as r) ≡ result_number r
totalled_told (Ok slots) = refl
totalled_told (Err why) = refl

abbrev slots_of : Totalled → ℕ
slots_of (Totalled.Refusal number) = 0
slots_of (Totalled.Slots slots) = slots

pub totalled_same : (r t : Result ℕ Refusal) → totalled_as r ≡ totalled_as t → r ≡ t
totalled_same r t is =
    answer_same r t (sym (totalled_told r) ∙ ap totalled_number is ∙ totalled_told t)
    (λ x y told said. ap slots_of (sym (ap totalled_as told) ∙ is ∙ ap totalled_as said))

-- a next bucket
pub next_told : (r : Result (Option ℕ) Refusal) → next_number (next_as r) ≡ result_number r
next_told (Ok (Some b)) = refl
next_told (Ok None) = refl
next_told (Err why) = refl

abbrev bucket_of_next : Next → Option ℕ
bucket_of_next (Next.Refusal number) = None
bucket_of_next Next.Nowhere = None
bucket_of_next (Next.Bucket b) = Some b

if_any : (o : Option ℕ) → bucket_of_next (bucket_if_any o) ≡ o
if_any (Some b) = refl
if_any None = refl

pub next_same : (r t : Result (Option ℕ) Refusal) → next_as r ≡ next_as t → r ≡ t
next_same r t is =
    answer_same r t (sym (next_told r) ∙ ap next_number is ∙ next_told t)
    (λ x y told said. sym (if_any x) ∙ ap bucket_of_next (sym (ap next_as told) ∙ is ∙ ap next_as said) ∙ if_any y)
