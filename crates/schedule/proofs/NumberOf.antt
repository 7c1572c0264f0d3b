-- The numbers of what is expected. Assumes nothing.
use Prim.Native.Nat.{ℕ}
use mathlib.Core.Bool.{cond}
use lib.Dec.{eqb}
use native.Mathlib.Omega.{arith}
use mathlib.Core.Path.{◌≡◌, refl, ap, ◌∙◌, sym}
use Rattle.schedule.specs.declared.expected.Expected.{Expected}
use Rattle.schedule.specs.declared.expected.Expected.TheVariants.{Floor, WorkerCount, Workers, BucketCount, Buckets, Version, VersionNumber, LineEnd, WorkerOrTurns, WorkerNumber, Verb, For, Lot, LotNumber, Ticket, TicketNumber, Turn, Times, Room}
use Rattle.std.proofs.Common.{Result, Ok, Err}
use Rattle.std.specs.Result.{result_unwrap_or}
use borrow.Author.Tests.{ne_eqb}
use Rattle.schedule.specs.declared.expected.UnknownNumber.{UnknownNumber}
use Rattle.schedule.specs.Numbers.{expected_number, Numbered}
use Rattle.schedule.specs.Saying.{expected}

-- none is 0
pub some_number : (e : Expected) → expected_number e ≡ 0 → ⊥
some_number Floor is = absurd (omega (arith, is))
some_number WorkerCount is = absurd (omega (arith, is))
some_number Workers is = absurd (omega (arith, is))
some_number BucketCount is = absurd (omega (arith, is))
some_number Buckets is = absurd (omega (arith, is))
some_number Version is = absurd (omega (arith, is))
some_number VersionNumber is = absurd (omega (arith, is))
some_number LineEnd is = absurd (omega (arith, is))
some_number WorkerOrTurns is = absurd (omega (arith, is))
some_number WorkerNumber is = absurd (omega (arith, is))
some_number Verb is = absurd (omega (arith, is))
some_number For is = absurd (omega (arith, is))
some_number Lot is = absurd (omega (arith, is))
some_number LotNumber is = absurd (omega (arith, is))
some_number Ticket is = absurd (omega (arith, is))
some_number TicketNumber is = absurd (omega (arith, is))
some_number Turn is = absurd (omega (arith, is))
some_number Times is = absurd (omega (arith, is))
some_number Room is = absurd (omega (arith, is))

-- what a number is of
of_number : ℕ → Expected
of_number n =
    cond (eqb n 1) Floor
    (cond (eqb n 2) WorkerCount
    (cond (eqb n 3) Workers
    (cond (eqb n 4) BucketCount
    (cond (eqb n 5) Buckets
    (cond (eqb n 6) Version
    (cond (eqb n 7) VersionNumber
    (cond (eqb n 8) LineEnd
    (cond (eqb n 9) WorkerOrTurns
    (cond (eqb n 10) WorkerNumber
    (cond (eqb n 11) Verb
    (cond (eqb n 12) For
    (cond (eqb n 13) Lot
    (cond (eqb n 14) LotNumber
    (cond (eqb n 15) Ticket
    (cond (eqb n 16) TicketNumber
    (cond (eqb n 17) Turn
    (cond (eqb n 18) Times
    Room)))))))))))))))))

of_its_number : (e : Expected) → of_number (expected_number e) ≡ e
unfolding of_number
of_its_number Floor = refl
of_its_number WorkerCount = refl
of_its_number Workers = refl
of_its_number BucketCount = refl
of_its_number Buckets = refl
of_its_number Version = refl
of_its_number VersionNumber = refl
of_its_number LineEnd = refl
of_its_number WorkerOrTurns = refl
of_its_number WorkerNumber = refl
of_its_number Verb = refl
of_its_number For = refl
of_its_number Lot = refl
of_its_number LotNumber = refl
of_its_number Ticket = refl
of_its_number TicketNumber = refl
of_its_number Turn = refl
of_its_number Times = refl
of_its_number Room = refl

-- each has its own
pub one_number : (e f : Expected) → expected_number e ≡ expected_number f → e ≡ f
one_number e f same = sym (of_its_number e) ∙ ap of_number same ∙ of_its_number f

-- a number of none of them is said as the last
pub said_other : (n : ℕ) → ((e : Expected) → expected_number e ≡ n → ⊥) → expected 19 ≡ expected n
unfolding expected
said_other n none =
    rw (
      ne_eqb n 1 (λ is. none Floor (sym is)),
      ne_eqb n 2 (λ is. none WorkerCount (sym is)),
      ne_eqb n 3 (λ is. none Workers (sym is)),
      ne_eqb n 4 (λ is. none BucketCount (sym is)),
      ne_eqb n 5 (λ is. none Buckets (sym is)),
      ne_eqb n 6 (λ is. none Version (sym is)),
      ne_eqb n 7 (λ is. none VersionNumber (sym is)),
      ne_eqb n 8 (λ is. none LineEnd (sym is)),
      ne_eqb n 9 (λ is. none WorkerOrTurns (sym is)),
      ne_eqb n 10 (λ is. none WorkerNumber (sym is)),
      ne_eqb n 11 (λ is. none Verb (sym is)),
      ne_eqb n 12 (λ is. none For (sym is)),
      ne_eqb n 13 (λ is. none Lot (sym is)),
      ne_eqb n 14 (λ is. none LotNumber (sym is)),
      ne_eqb n 15 (λ is. none Ticket (sym is)),
      ne_eqb n 16 (λ is. none TicketNumber (sym is)),
      ne_eqb n 17 (λ is. none Turn (sym is)),
      ne_eqb n 18 (λ is. none Times (sym is)),
    )

-- what is said by a number
pub said_by : (n : ℕ) (r : Result Expected UnknownNumber) → Numbered n r → expected (expected_number (result_unwrap_or r Room)) ≡ expected n
said_by n (Ok e) is = ap expected is
said_by n (Err u) none = said_other n none.1
