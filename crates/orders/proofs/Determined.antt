-- §12.2: two outcomes that meet the promise of an input are equal. It is over the record that the function's contract cites. Assumes nothing.
use mathlib.Core.Path.{◌≡◌, ap, ap₂}
use native.Mathlib.Omega.{arith}
use mathlib.Core.List.{List}
use Prim.Native.Nat.{ℕ}
use Rattle.mark.proofs.OneAnswer.{one_answer}
use Rattle.turn.specs.Number.{number as number_of}
use Rattle.turn.proofs.Refusing.{number_same}
use Rattle.orders.specs.declared.Answer.{Answer as Said}
use Rattle.orders.specs.declared.Answer.TheVariants.{Listing as SaidListing, Refused as SaidRefused, Counts as SaidCounts}
use Rattle.orders.specs.Answers.{answer_as, InputAnswered}

-- no two answers are told as one
answer_same : (r t : Said) → answer_as r ≡ answer_as t → r ≡ t
answer_same (SaidListing n) (SaidListing m) e = let same : n ≡ m = cc in ap SaidListing same
answer_same (SaidListing n) (SaidRefused why at) e = absurd (let z : ◌≡◌ {A = ℕ} 0 1 = cc in omega arith)
answer_same (SaidListing n) (SaidCounts walks) e = absurd (let z : ◌≡◌ {A = ℕ} 0 1 = cc in omega arith)
answer_same (SaidRefused why at) (SaidListing n) e = absurd (let z : ◌≡◌ {A = ℕ} 0 1 = cc in omega arith)
answer_same (SaidRefused why at) (SaidRefused other there) e =
    let number : number_of why ≡ number_of other = cc in
    let same : at ≡ there = cc in
    ap₂ SaidRefused (number_same why other number) same
answer_same (SaidRefused why at) (SaidCounts walks) e = absurd (let z : ◌≡◌ {A = ℕ} 0 1 = cc in omega arith)
answer_same (SaidCounts walks) (SaidListing n) e = absurd (let z : ◌≡◌ {A = ℕ} 0 1 = cc in omega arith)
answer_same (SaidCounts walks) (SaidRefused why at) e = absurd (let z : ◌≡◌ {A = ℕ} 0 1 = cc in omega arith)
answer_same (SaidCounts walks) (SaidCounts other) e = let same : walks ≡ other = cc in ap SaidCounts same

-- an input: the buffer, and the answer
pub answered_determined :
    (input out later other : List ℕ) (r t : Said)
    → InputAnswered input out later r
    → InputAnswered input out other t
    → (later ≡ other) × (r ≡ t)
answered_determined input out later other r t p q =
    (one_answer p.given.lines.buffer q.given.lines.buffer, answer_same r t (one_answer p.given.whole q.given.whole))
