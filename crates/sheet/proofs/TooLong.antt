-- A sheet over the limit: one byte past it is all that has to be read. Assumes nothing.
use Prim.Native.Nat.{ℕ, ◌<◌}
use mathlib.Core.Path.{◌≡◌, sym, ◌∙◌}
use mathlib.Core.List.{List}
use native.Mathlib.Omega.{arith}
use lib.ListN.{length, take}
use lib.Seq.{length-take-le}
use borrow.Author.Tests.{lt-ltb}
use Rattle.sheet.specs.Line.{refusal_line}
use Rattle.sheet.specs.Listing.{played, own_play, listing}

-- its listing is the line R 9 0, whatever its bytes are
pub too_long : (sheet : List ℕ) → 16384 < length sheet → listing sheet ≡ refusal_line 9 0
unfolding listing own_play played
too_long sheet long = rw (listing, lt-ltb 16384 (length sheet) long)

-- so its first 16,385 bytes have the listing of the whole
pub cut_same : (sheet : List ℕ) → 16384 < length sheet → listing (take 16385 sheet) ≡ listing sheet
cut_same sheet long =
    let cut : 16384 < length (take 16385 sheet) = let n = length-take-le 16385 sheet (omega arith) in omega (arith, n) in
    too_long (take 16385 sheet) cut ∙ sym (too_long sheet long)
