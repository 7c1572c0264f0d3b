-- How far something goes from a place of a text on. Assumes nothing.
use Prim.Native.Nat.{ℕ, ◌+◌, ◌-◌, ◌<◌, ◌≤◌, max}
use mathlib.Core.Path.{◌≡◌, refl, sym, ◌∙◌}
use mathlib.Core.Bool.{Bool, true, false}
use mathlib.Core.List.{List, [], ◌∷◌}
use native.Mathlib.Numerals.{add-one}
use native.Mathlib.Omega.{arith}
use lib.ListN.{length, get_or, drop, length-drop, drop_of_length-le}
use lib.Seq.{drop-cons}
use lib.Dec.{leb}
use borrow.Author.Tests.{leb-true, leb-false}
use Rattle.mark.proofs.Choices.{by_cases}
use Rattle.schedule.specs.Tokens.{is_hash, goes_on, span, word_start}
use Rattle.schedule.specs.Promises.{Reaches}

module _ (kind : ℕ) (text : List ℕ) (i : ℕ) where
  -- where it goes on, it ends where it does from the next place on
  pub span_on : i < length text → goes_on kind (get_or text i 0) ≡ true → i + span kind (drop i text) ≡ i + 1 + span kind (drop (i + 1) text)
  unfolding span
  span_on h on = rw (drop-cons text i 0 h, on, add-one) (omega arith)

  -- where it does not, it ends here
  pub span_off : i < length text → goes_on kind (get_or text i 0) ≡ false → i + span kind (drop i text) ≡ i
  unfolding span
  span_off h off = rw (drop-cons text i 0 h, off) (omega arith)

  -- past the end nothing goes on
  pub span_past : length text ≤ i → i + span kind (drop i text) ≡ i
  unfolding span
  span_past h = rw (drop_of_length-le text {i = i} h) (omega arith)

-- what went on till a place, which is the end of the text or where it began past that
pub span_all :
    (kind : ℕ) (text : List ℕ) (at end : ℕ) {r : ℕ}
    → r ≡ max at (length text)
    → (at ≤ length text → end ≤ length text)
    → length text ≤ end
    → end + span kind (drop end text) ≡ at + span kind (drop at text)
    → r ≡ at + span kind (drop at text)
span_all kind text at end {r} is within over on = by_test (leb (length text) at) refl
  where
    by_test : (t : Bool) → leb (length text) at ≡ t → r ≡ at + span kind (drop at text)
    by_test true e = let past = leb-true (length text) at e in omega (arith, is, past) ∙ sym (span_past kind text at past)
    by_test false e =
        let inside = leb-false (length text) at e in
        let same : end ≤ length text = within (omega (arith, inside)) in
        omega (arith, is, inside, same, over) ∙ sym (span_past kind text end over) ∙ on

-- no further than to the end
span_most : (kind : ℕ) (l : List ℕ) → span kind l ≤ length l
unfolding span
span_most kind [] = omega arith
span_most kind (b ∷ l) =
    let rest = span_most kind l in
    by_cases (λ (n : ℕ). n ≤ length (b ∷ l)) (goes_on kind b) _ _ (λ on. omega (arith, rest)) (λ off. omega arith)

-- no further than to the end of the text
pub span_within : (kind : ℕ) (text : List ℕ) (i : ℕ) → span kind (drop i text) ≤ length text - i
span_within kind text i = rw (length-drop i text) at (span_most kind (drop i text))

-- a place is reached from itself
pub reach_here : (text : List ℕ) (at : ℕ) → Reaches text at at
reach_here text at = record { onward = omega arith; within = omega arith }

-- one reach after another
pub reach_then : {text : List ℕ} {a b c : ℕ} → Reaches text a b → Reaches text b c → Reaches text a c
reach_then p q = record { onward = omega arith; within = omega arith }

-- how far something goes is reached
pub reach_span : (kind : ℕ) (text : List ℕ) (i : ℕ) → Reaches text i (i + span kind (drop i text))
reach_span kind text i = let most = span_within kind text i in record { onward = omega arith; within = omega arith }

-- the beginning of the next word
pub reach_start : (text : List ℕ) (at : ℕ) → Reaches text at (word_start text at)
unfolding word_start
reach_start text at =
    let next = at + span 0 (drop at text) in
    reach_then (reach_span 0 text at) (by_cases (Reaches text next) (is_hash (get_or text next 0)) _ _ (λ on. reach_span 1 text next) (λ off. reach_here text next))
