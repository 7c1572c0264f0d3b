-- What a number of refusal, or 0, says of the tests that follow. Assumes nothing.
use Rattle.std.proofs.Common.{◌≡◌, ℕ, Bool, true, false, cond, eqb, Result, Ok, Err, refl, sym, ap, ◌∙◌, arith}
use Rattle.turn.specs.declared.Worker.{Worker}
use Rattle.turn.specs.declared.refusal.Refusal.{Refusal}
use Rattle.turn.specs.declared.refusal.Refusal.TheVariants.{WrongSizes, NoWorker, BrokenRecord, BusyWorker, SpentTicket, IdleWorker, BrokenBucket, Malformed, TooLong, NoSmallClass, UntrueIndex, NotAtRest, CrowdedBucket}
use Rattle.turn.specs.declared.TurnDone.{TurnDone}
use Rattle.turn.specs.Number.{number, result_number}
use Rattle.turn.specs.Worker.{broken, is_idle}
use Rattle.turn.specs.Turn.{Tried, tried_as, busy_refusal}
use Rattle.turn.specs.Retire.{Retired, retired_as}

-- no refusal has number 0
pub number_some : (why : Refusal) → number why ≡ 0 → ⊥
number_some WrongSizes is = omega (arith, is)
number_some NoWorker is = omega (arith, is)
number_some BrokenRecord is = omega (arith, is)
number_some BusyWorker is = omega (arith, is)
number_some SpentTicket is = omega (arith, is)
number_some IdleWorker is = omega (arith, is)
number_some BrokenBucket is = omega (arith, is)
number_some Malformed is = omega (arith, is)
number_some TooLong is = omega (arith, is)
number_some NoSmallClass is = omega (arith, is)
number_some UntrueIndex is = omega (arith, is)
number_some NotAtRest is = omega (arith, is)
number_some CrowdedBucket is = omega (arith, is)

-- the refusal of a number
of_number : ℕ → Refusal
of_number n =
    cond (eqb n 1) WrongSizes
    (cond (eqb n 2) NoWorker
    (cond (eqb n 3) BrokenRecord
    (cond (eqb n 4) BusyWorker
    (cond (eqb n 5) SpentTicket
    (cond (eqb n 6) IdleWorker
    (cond (eqb n 7) BrokenBucket
    (cond (eqb n 8) Malformed
    (cond (eqb n 9) TooLong
    (cond (eqb n 10) NoSmallClass
    (cond (eqb n 11) UntrueIndex
    (cond (eqb n 12) NotAtRest CrowdedBucket)))))))))))

numbered : (why : Refusal) → of_number (number why) ≡ why
unfolding of_number
numbered WrongSizes = refl
numbered NoWorker = refl
numbered BrokenRecord = refl
numbered BusyWorker = refl
numbered SpentTicket = refl
numbered IdleWorker = refl
numbered BrokenBucket = refl
numbered Malformed = refl
numbered TooLong = refl
numbered NoSmallClass = refl
numbered UntrueIndex = refl
numbered NotAtRest = refl
numbered CrowdedBucket = refl

-- two refusals of one number are one
pub number_same : (why other : Refusal) → number why ≡ number other → why ≡ other
number_same why other is = sym (numbered why) ∙ ap of_number is ∙ numbered other

-- two answers of one number are equal, if they are where nothing is refused
pub answer_same :
    {A : Type 0} (r t : Result A Refusal)
    → result_number r ≡ result_number t
    → ((x y : A) → r ≡ Ok x → t ≡ Ok y → x ≡ y)
    → r ≡ t
answer_same (Ok x) (Ok y) is done = ap Ok (done x y refl refl)
answer_same (Ok x) (Err why) is done = absurd (number_some why (sym is))
answer_same (Err why) (Ok y) is done = absurd (number_some why is)
answer_same (Err why) (Err other) is done = ap Err (number_same why other is)

-- so are two answers that have nothing to say but their number
pub test_same : (r t : Result (Unit {0}) Refusal) → result_number r ≡ result_number t → r ≡ t
test_same r t is = answer_same r t is (λ x y told said. refl)

-- a turn that was tried tells the number of its answer
pub tried_number : (w : Worker) (r : Result TurnDone Refusal) → (tried_as w r).said.refusal ≡ result_number r
tried_number w (Ok t) = refl
tried_number w (Err why) = refl

-- and no two answers are one
pub tried_same : (w : Worker) (r t : Result TurnDone Refusal) → tried_as w r ≡ tried_as w t → r ≡ t
tried_same w r t is =
    answer_same r t (sym (tried_number w r) ∙ ap (λ (x : Tried). x.said.refusal) is ∙ tried_number w t)
    (λ x y told said.
    let same : tried_as w (Ok x) ≡ tried_as w (Ok y) = sym (ap (tried_as w) told) ∙ is ∙ ap (tried_as w) said in
    ap (λ (z : Tried). record { worker = z.worker; report = z.said.report }) same)

-- the same of a retiring
pub retired_told : (w : Worker) (r : Result Worker Refusal) → (retired_as w r).refusal ≡ result_number r
retired_told w (Ok v) = refl
retired_told w (Err why) = refl

pub retired_same : (w : Worker) (r t : Result Worker Refusal) → retired_as w r ≡ retired_as w t → r ≡ t
retired_same w r t is =
    answer_same r t (sym (retired_told w r) ∙ ap (λ (x : Retired). x.refusal) is ∙ retired_told w t)
    (λ x y told said.
    ap (λ (z : Retired). z.worker) (sym (ap (retired_as w) told) ∙ is ∙ ap (retired_as w) said))

-- a record that is refused is refused whatever follows
pub busy_stops : (w : Worker) (follows : ℕ) (why : Refusal) → number why ≡ busy_refusal w 0 → number why ≡ busy_refusal w follows
busy_stops w follows why = by (broken w) (is_idle w)
  where
    by : (t u : Bool) → number why ≡ cond t 3 (cond u 6 0) → number why ≡ cond t 3 (cond u 6 follows)
    by true u is = is
    by false true is = is
    by false false is = absurd (number_some why is)

-- and where it is not, what follows decides
pub busy_passes : (w : Worker) (follows : ℕ) → ◌≡◌ {A = ℕ} 0 (busy_refusal w 0) → busy_refusal w follows ≡ follows
busy_passes w follows = by (broken w) (is_idle w)
  where
    by : (t u : Bool) → ◌≡◌ {A = ℕ} 0 (cond t 3 (cond u 6 0)) → cond t 3 (cond u 6 follows) ≡ follows
    by true u is = absurd (omega (arith, is))
    by false true is = absurd (omega (arith, is))
    by false false is = refl
