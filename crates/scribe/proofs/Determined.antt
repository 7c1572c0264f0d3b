-- §12.2: what the program writes is a function of its input, and it never writes and complains at once. Assumes nothing.
use Prim.Native.Nat.{ℕ, ◌≤◌}
use mathlib.Core.Path.{◌≡◌, refl, sym, ap, ◌∙◌}
use mathlib.Core.List.{List, []}
use lib.Dec.{eqb, ltb}
use lib.ListN.{length, take}
use lib.Seq.{length-take-le}
use Rattle.mark.proofs.OneAnswer.{one_answer}
use Rattle.mark.proofs.Choices.{by_cases}
use Rattle.schedule.specs.Reading.{sheet_of}
use Rattle.schedule.specs.Writing.{text_of}
use Rattle.schedule.specs.Promises.{is_text}
use Rattle.scribe.specs.declared.Answered.{Answered}
use Rattle.scribe.specs.Answers.{Answer, text_answer, sheet_answer, answer, Answers}

-- as many bytes as stand there
counted : (n : ℕ) (buffer bytes : List ℕ) → take n buffer ≡ bytes → n ≤ length buffer → n ≡ length bytes
counted n buffer bytes is fits = sym (length-take-le n buffer fits) ∙ ap length is

-- two outcomes that meet the promise are equal in all that is written
pub answers_determined :
    (a : Answer) (out said other later : List ℕ) (r t : Answered)
    → Answers a out said r
    → Answers a other later t
    → (take r.written out ≡ take t.written other) × (take r.said said ≡ take t.said later) × (r ≡ t)
answers_determined a out said other later r t p q =
    let w = one_answer (counted _ _ _ p.output p.output_fits) (counted _ _ _ q.output q.output_fits) in
    let s = one_answer (counted _ _ _ p.error p.error_fits) (counted _ _ _ q.error q.error_fits) in
    let same : r ≡ t = λ i. record { written = w i; said = s i } in
    (one_answer p.output q.output, one_answer p.error q.error, same)

-- where something is said, nothing is written
abbrev Silent : Answer → Type 0
Silent a = (a.said ≡ [] → ⊥) → a.out ≡ []

text_silent : (text : List ℕ) → Silent (text_answer text)
unfolding text_answer
text_silent text =
    by_cases Silent (ltb 262144 (length text)) _ _ (λ long some. refl)
    (λ short. by_cases Silent (eqb (sheet_of text).what 0) _ _ (λ right some. absurd (some refl)) (λ wrong some. refl))

sheet_silent : (sheet : List ℕ) → Silent (sheet_answer sheet)
unfolding sheet_answer
sheet_silent sheet =
    by_cases Silent (ltb 16384 (length sheet)) _ _ (λ long some. refl)
    (λ short. by_cases Silent (text_of sheet).whole _ _ (λ whole some. absurd (some refl)) (λ malformed some. refl))

-- so it is with every input
pub answer_silent : (input : List ℕ) → ((answer input).said ≡ [] → ⊥) → (answer input).out ≡ []
unfolding answer
answer_silent input = by_cases Silent (is_text input) _ _ (λ text. text_silent input) (λ other. sheet_silent input)
