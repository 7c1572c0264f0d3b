-- The text of a sheet of bytes, in a buffer that has room for it. Assumes nothing.
use Prim.Native.Nat.{ℕ}
use mathlib.Core.Path.{◌≡◌, refl}
use mathlib.Core.List.{List}
use native.Mathlib.Omega.{arith}
use lib.ListN.{length}
use Rattle.std.proofs.Common.{Result, Ok, Err}
use Rattle.pen.specs.declared.Pen.{Pen}
use Rattle.pen.proofs.Putting.{writes_puts, puts_all}
use Rattle.sheet.specs.Fields.{Bytes}
use Rattle.schedule.specs.Promises.{TextRecited, Recites, recited_of}
use Rattle.schedule.specs.Results.{Tells, recited_as}
use Rattle.schedule.proofs.Width.{text_fits}

recited : {sheet : List ℕ} {old new : Pen} (r : Result ℕ ℕ) → old.at ≡ 0 → Tells sheet old new r → Recites sheet old.out.now new.out.now (recited_as new.at r)
recited (Ok at) start t = record { lines = rw start at (writes_puts t.lines); at = t.at; whole = t.whole }
recited (Err at) start t = record { lines = rw start at (writes_puts t.lines); at = t.at; whole = t.whole }

so_many : (written : ℕ) (r : Result ℕ ℕ) → recited_of (recited_as written r) ≡ written
so_many written (Ok at) = refl
so_many written (Err at) = refl

pub text_recited :
    {sheet : List ℕ} {old new : Pen} (r : Result ℕ ℕ)
    → Bytes sheet
    → old.at ≡ 0
    → length old.out.now ≡ 65600
    → Tells sheet old new r
    → TextRecited sheet old.out.now new.out.now (recited_as new.at r)
text_recited {sheet} {old} {new} r bytes start long t =
    let most = text_fits sheet bytes in
    let puts = rw start at (writes_puts t.lines) in
    record {
      recites = recited r start t;
      fits = λ short. rw (so_many new.at r) (omega (arith, (puts_all puts (omega (arith, most, short, long))).place, most, short));
      all = λ short. rw (so_many new.at r) (puts_all puts (omega (arith, most, short, long)));
    }
