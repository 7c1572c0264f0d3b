-- What stands in the buffers is the answer. Assumes nothing.
use Prim.Native.Nat.{ℕ, ◌+◌, ◌≤◌}
use mathlib.Core.Path.{◌≡◌, refl}
use mathlib.Core.List.{List, ◌++◌}
use native.Mathlib.Omega.{arith}
use lib.ListN.{length, take, drop, length-append}
use lib.Seq.{take_at}
use Rattle.pen.specs.Words.{bytes}
use Rattle.pen.specs.Decimal.{decimal}
use Rattle.pen.specs.Written.{wrote, Wrote, Puts}
use Rattle.pen.proofs.Putting.{puts_all}
use Rattle.pen.proofs.Writing.{wrote_within}
use Rattle.pen.proofs.Decimal.{decimal_short}
use Rattle.scribe.specs.Answers.{writes, says, Answers}

-- bytes that were written from the start on stand there
pub stands : (out l later : List ℕ) (n : ℕ) → Wrote out 0 l later n → take n later ≡ l
unfolding wrote
stands out l later n w = rw w.buffer (take_at l (drop (0 + length l) out) n (omega (arith, w.place)))

-- an answer that is written
pub writes_in : {out l later said : List ℕ} {n : ℕ} → Wrote out 0 l later n → Answers (writes l) later said (record { written = n; said = 0 })
writes_in {out} {l} {later} {said} {n} w =
    record { output = stands out l later n w; error = refl; output_fits = wrote_within out l later n w; error_fits = omega arith }

-- an answer that is said, in a buffer of 256 bytes
pub says_in :
    {out l later said : List ℕ} {n : ℕ}
    → Puts said 0 l later n
    → length said ≡ 256
    → length l ≤ 256
    → Answers (says l) out later (record { written = 0; said = n })
says_in {out} {l} {later} {said} {n} p long short =
    let w = puts_all p (omega arith) in
    record { output = refl; error = stands said l later n w; output_fits = omega arith; error_fits = wrote_within said l later n w }

-- where a sheet is malformed
pub place_fits : (at : ℕ) → length ((bytes "no sheet: the field at " ++ decimal at) ++ bytes " is malformed\n") ≤ 256
unfolding bytes
place_fits at = let digits = decimal_short at in simp length-append (omega arith)
