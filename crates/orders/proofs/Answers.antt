-- What is answered for a sheet: its listing where it was refused, and else what all orders answers. Assumes nothing.
use Prim.Native.Nat.{ℕ, zero, suc, ◌≤◌}
use mathlib.Core.Path.{◌≡◌, refl, sym, ap, ◌∙◌}
use mathlib.Core.List.{List, [], ◌∷◌}
use native.Mathlib.Omega.{arith}
use lib.ListN.{length, take, replicate}
use borrow.Author.Tests.{eq-eqb, ne_eqb}
use lib.Dec.{eqb}
use Rattle.mark.proofs.Choices.{by_cases}
use Rattle.std.specs.Prelude.{Result}
use Rattle.sheet.specs.declared.Played.{Played}
use Rattle.sheet.specs.declared.Stopped.{Stopped}
use Rattle.sheet.specs.Listing.{Ending}
use Rattle.sheet.specs.Play.{desk_of}
use Rattle.sheet.specs.Room.{longest}
use Rattle.sheet.specs.Promises.{floor_of, records_of, written_of, stop_of, Leaves}
use Rattle.sheet.specs.Written.{Wrote}
use Rattle.sheet.proofs.Writing.{wrote_within}
use Rattle.turn.specs.declared.refusal.Refusal.{Refusal as Why}
use Rattle.walks.specs.declared.Walks.{Walks}
use Rattle.walks.specs.Calls.{Walked, Refusal, Orders, walked_as}
use Rattle.orders.specs.declared.Answer.{Answer as Said}
use Rattle.orders.specs.declared.Answer.TheVariants.{Listing as SaidListing}
use Rattle.orders.specs.Answers.{Answer, Listing, Refused, Counts, answer_as, orders_from, answer_of, answer_from, Answered, sheet_in, depth_in}

-- the first words of a board of zeros
pub take_zeros : (n m : ℕ) → n ≤ m → take n (replicate m 0) ≡ replicate {A = ℕ} n 0
take_zeros zero m less = refl
take_zeros (suc n) zero less = absurd (omega arith)
take_zeros (suc n) (suc m) less = ap (λ (ws : List ℕ). 0 ∷ ws) (take_zeros n m (omega arith))

-- what a sheet comes to, and what is handed back of it
module _ {e : Ending} {out board later : List ℕ} {p : Result Played Stopped} (left : Leaves e out board later p) (fits : written_of p ≤ longest) where
  abbrev long : ℕ
  long = length e.handed.lines

  written : written_of p ≡ long
  written = let w = left.tells.lines.place in omega (arith, w)

  lines : Wrote out 0 e.handed.lines later long
  lines = record { buffer = left.tells.lines.buffer; place = omega arith }

  -- it was refused
  pub answers_listing : (sheet : List ℕ) (depth : ℕ) → (stop_of p ≡ 0 → ⊥) → Answered e sheet depth out later (SaidListing (written_of p))
  answers_listing sheet depth some =
      record {
        whole = rw (ne_eqb e.handed.stop 0 (λ none. some (left.tells.stop ∙ none))) (ap Listing written);
        lines = lines;
        fits = omega (arith, written);
      }

  -- it was not, and this is what all orders answers from there
  pub answers_walked :
      (sheet : List ℕ) (depth : ℕ) (w : Result Walks Why) (r : Said)
      → stop_of p ≡ 0
      → walked_as w ≡ orders_from board (desk_of (floor_of p) (records_of p) e.handed.desk.totals) depth
      → answer_as r ≡ answer_of (length sheet) (walked_as w)
      → Answered e sheet depth out later r
  answers_walked sheet depth w r none is told =
      record {
        whole =
            rw (eq-eqb e.handed.stop 0 (sym left.tells.stop ∙ none))
            (told ∙ ap (answer_of (length sheet)) (rw (left.left, left.tells.floor, left.tells.records) at is));
        lines = lines;
        fits = omega (arith, written);
      }

-- ---- the input

-- where there is no byte at all, the sheet has none
pub none_in : (input : List ℕ) → length input ≡ 0 → (sheet_in input ≡ input) × (depth_in input ≡ 0)
none_in [] none = (refl, refl)
none_in (b ∷ bs) none = absurd (omega (arith, none))

-- ---- the answer

-- the length that an answer tells, and else this one
abbrev length_in : ℕ → Answer → ℕ
length_in other (Listing n) = n
length_in other (Refused number offset) = other
length_in other (Counts walks) = other

counts_none : (other offset : ℕ) (w : Walked) → length_in other (answer_of offset w) ≡ other
counts_none other offset (Refusal number) = refl
counts_none other offset (Orders walks) = refl

-- a listing that is told of stands in the buffer
pub listing_stands :
    {e : Ending} {sheet : List ℕ} {depth : ℕ} {out later : List ℕ} {r : Said} (n : ℕ)
    → r ≡ SaidListing n
    → Answered e sheet depth out later r
    → n ≤ length later
listing_stands {e} {sheet} {depth} {r = r} n is a =
    let long = length e.handed.lines in
    let told : length_in long (answer_from e sheet depth) ≡ long =
    by_cases (λ (x : Answer). length_in long x ≡ long) (eqb e.handed.stop 0) _ _
    (λ none. counts_none long (length sheet) (orders_from e.words e.handed.desk depth)) (λ some. refl) in
    let same : n ≡ long = ap (length_in long) (sym (ap answer_as is) ∙ a.whole) ∙ told in
    omega (arith, same, wrote_within _ _ _ _ a.lines)
