-- What is read from a sheet of bytes fits: a ticket has 64 bits, and a version 32; and a ticket is the same number in both of its forms. Assumes
-- nothing.
use Prim.Native.Nat.{ℕ, zero, suc, ◌+◌, ◌*◌, ◌-◌, ◌^◌, ◌≤◌, ◌<◌}
use mathlib.Core.Path.{◌≡◌, ap, ◌∙◌}
use mathlib.Core.List.{List}
use native.Mathlib.Nat.{pow-suc, pow-le-pow_right}
use native.Mathlib.Omega.{arith}
use lib.Dec.{eqb}
use Rattle.mark.proofs.Choices.{by_cases}
use Rattle.turn.specs.Worker.{insert_kind}
use Rattle.engine.specs.declared.Plan.{Plan}
use Rattle.sheet.specs.declared.Call.{Call}
use Rattle.sheet.specs.declared.Field.TheVariants.{Opening, Calling}
use Rattle.sheet.specs.Fields.{Read, Whole, byte_at, number_at, ticket_at, plan_at, call_at, read_field}
use Rattle.sheet.proofs.Fitting.{fits_within}
use Rattle.sheet.proofs.Fielding.{Reading, opening_read, calling_read, turning_read, not_read, reading, first_field}
use Rattle.plays.specs.Points.{Bytes}

-- a number of so many bytes is below that power of 256
number_small : (sheet : List ℕ) → Bytes sheet → (at n : ℕ) → number_at sheet at n < 256 ^ n
unfolding number_at
number_small sheet bytes at zero = omega arith
number_small sheet bytes at (suc n) = rw pow-suc (omega (arith, number_small sheet bytes at n, bytes (at + n)))

module _ (sheet : List ℕ) (bytes : Bytes sheet) (at n : ℕ) where
  -- a ticket of eight bytes at most has 64 bits
  ticket_fits_lem : (kind long : ℕ) → long ≤ 18 → ticket_at sheet at kind long < 2 ^ 64
  unfolding ticket_at
  ticket_fits_lem kind long within =
      let most : 256 ^ (long - 10) ≤ 256 ^ 8 = pow-le-pow_right {n = 256} (omega arith) {i = long - 10} {j = 8} (omega arith) in
      by_cases (λ (x : ℕ). x < 2 ^ 64) (eqb kind insert_kind) _ _
      (λ is. omega (arith, number_small sheet bytes (at + 13) (long - 10))) (λ isnot. omega arith)

  -- a call that is read is what stands there, in a value of 18 bytes at most
  call_read : (c : Call) → read_field sheet at ≡ Whole (Calling c) n → (long : ℕ) × ((long ≤ 18) × (c ≡ call_at sheet at long))
  call_read c is = of_reading (reading sheet at) is
    where
      of_reading : {r : Read} → Reading sheet at r → r ≡ Whole (Calling c) n → (long : ℕ) × ((long ≤ 18) × (c ≡ call_at sheet at long))
      of_reading (opening_read long first seven fits) e = (0, (omega arith, cc))
      of_reading (calling_read long later right fits) e = (long, (fits_within right, cc))
      of_reading (turning_read long later some fits) e = (0, (omega arith, cc))
      of_reading not_read e = (0, (omega arith, cc))

  -- the ticket of a call that is read has 64 bits
  pub call_ticket : (c : Call) → read_field sheet at ≡ Whole (Calling c) n → c.ticket < 2 ^ 64
  call_ticket c is = let r = call_read c is in rw r.1.1 (ticket_fits_lem (byte_at sheet (at + 4)) r.0 r.1.0)

-- the version of a floor that is read has 32 bits
pub floor_version : (sheet : List ℕ) → Bytes sheet → (plan : Plan) (next : ℕ) → read_field sheet 0 ≡ Whole (Opening plan) next → plan.version < 2 ^ 32
floor_version sheet bytes plan next is =
    let same : plan ≡ plan_at sheet 0 = let e = first_field sheet (Opening plan) next is in cc in
    rw same (omega (arith, number_small sheet bytes 6 4))

-- ---- the two forms of a ticket

-- a number of eight bytes is its high half, of four, and its low half
number_halves : (sheet : List ℕ) (at : ℕ) → number_at sheet at 8 ≡ 2 ^ 32 * number_at sheet at 4 + number_at sheet (at + 4) 4
unfolding number_at
number_halves sheet at =
    let byte : (k : ℕ) → byte_at sheet (at + 4 + k) ≡ byte_at sheet (at + (4 + k)) = λ k. ap (byte_at sheet) (omega arith) in
    omega (arith, byte 0, byte 1, byte 2, byte 3)

-- §8.3: an insert's ticket of eight bytes is what its four bytes say as the short form has them, and behind these four bytes more
pub long_ticket :
    (sheet : List ℕ) (at : ℕ) → ticket_at sheet at insert_kind 18 ≡ 2 ^ 32 * ticket_at sheet at insert_kind 14 + number_at sheet (at + 17) 4
unfolding ticket_at
long_ticket sheet at = number_halves sheet (at + 13) ∙ ap (λ (k : ℕ). 2 ^ 32 * number_at sheet (at + 13) 4 + number_at sheet k 4) (omega arith)

-- §8.3: so with four zeros before it a short ticket is the same number
pub same_ticket :
    (short long : List ℕ) (at there : ℕ)
    → ((k : ℕ) → k < 4 → byte_at long (there + 13 + k) ≡ 0)
    → ((k : ℕ) → k < 4 → byte_at long (there + 17 + k) ≡ byte_at short (at + 13 + k))
    → ticket_at long there insert_kind 18 ≡ ticket_at short at insert_kind 14
unfolding ticket_at number_at
same_ticket short long at there zeros bytes =
    long_ticket long there
    ∙ omega (
      arith,
      zeros 0 (omega arith),
      zeros 1 (omega arith),
      zeros 2 (omega arith),
      zeros 3 (omega arith),
      bytes 0 (omega arith),
      bytes 1 (omega arith),
      bytes 2 (omega arith),
      bytes 3 (omega arith),
    )
