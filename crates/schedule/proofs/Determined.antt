-- §12.2: two outcomes that meet the promise of a text's sheet, of a sheet's text, of a complaint or of what has a number are equal. Assumes nothing.
use Prim.Native.Nat.{ℕ}
use mathlib.Core.Path.{◌≡◌}
use mathlib.Core.List.{List}
use Rattle.mark.proofs.OneAnswer.{one_answer}
use Rattle.pen.proofs.Determined.{wrote_determined, puts_determined}
use Rattle.schedule.specs.declared.Made.{Made}
use Rattle.schedule.specs.declared.Recited.{Recited}
use Rattle.schedule.specs.declared.Stopped.{Stopped}
use Rattle.schedule.specs.declared.Malformed.{Malformed}
use Rattle.schedule.specs.declared.expected.Expected.{Expected}
use Rattle.schedule.specs.declared.expected.UnknownNumber.{UnknownNumber}
use Rattle.std.proofs.Common.{Result, Ok, Err, ap, sym, ◌∙◌}
use Rattle.std.specs.Result.{is_ok}
use Rattle.schedule.specs.Promises.{SheetMade, TextRecited, Complained, written_of, end_of, wrong_of, recited_of, place_of}
use Rattle.schedule.specs.Numbers.{Numbered}
use Rattle.schedule.proofs.NumberOf.{some_number, one_number}

-- what is made of a text is known by its three parts
same_made : (r t : Result Made Stopped) → written_of r ≡ written_of t → end_of r ≡ end_of t → wrong_of r ≡ wrong_of t → r ≡ t
same_made (Ok r) (Ok t) w e n = λ i. Ok (record { written = w i; at = e i })
same_made (Ok r) (Err t) w e n = absurd (some_number t.wrong.what (sym n))
same_made (Err r) (Ok t) w e n = absurd (some_number r.wrong.what n)
same_made (Err r) (Err t) w e n =
    let what = one_number r.wrong.what t.wrong.what n in
    λ i. Err (record { written = w i; wrong = record { at = e i; what = what i } })

-- the sheet of a text
pub sheet_determined :
    (text out later other : List ℕ) (r t : Result Made Stopped)
    → SheetMade text out later r
    → SheetMade text out other t
    → (later ≡ other) × (r ≡ t)
sheet_determined text out later other r t p q =
    let h = wrote_determined p.bytes q.bytes in
    (h.0, same_made r t h.1 (one_answer p.at q.at) (one_answer p.what q.what))

-- and what is written of a sheet's text
same_recited : (r t : Result Recited Malformed) → recited_of r ≡ recited_of t → place_of r ≡ place_of t → is_ok r ≡ is_ok t → r ≡ t
same_recited (Ok r) (Ok t) w e n = λ i. Ok (record { written = w i; at = e i })
same_recited (Ok r) (Err t) w e n = cc
same_recited (Err r) (Ok t) w e n = cc
same_recited (Err r) (Err t) w e n = λ i. Err (record { written = w i; at = e i })

-- the text of a sheet
pub text_determined :
    (sheet out later other : List ℕ) (r t : Result Recited Malformed)
    → TextRecited sheet out later r
    → TextRecited sheet out other t
    → (later ≡ other) × (r ≡ t)
text_determined sheet out later other r t p q =
    let m = p.recites in
    let n = q.recites in
    let h = puts_determined m.lines n.lines in
    (h.0, same_recited r t h.1 (one_answer m.at n.at) (one_answer m.whole n.whole))

-- what is said of a text
pub complaint_determined :
    (text : List ℕ) (at what : ℕ) (out later other : List ℕ) (r t : ℕ)
    → Complained text at what out later r
    → Complained text at what out other t
    → (later ≡ other) × (r ≡ t)
complaint_determined text at what out later other r t p q = puts_determined p.lines q.lines

-- what a number is of
pub numbered_determined : (n : ℕ) (r t : Result Expected UnknownNumber) → Numbered n r → Numbered n t → r ≡ t
numbered_determined n (Ok e) (Ok f) p q = ap Ok (one_number e f (p ∙ sym q))
numbered_determined n (Ok e) (Err v) p q = absurd (q.1 e p)
numbered_determined n (Err u) (Ok f) p q = absurd (p.1 f q)
numbered_determined n (Err u) (Err v) p q = let same = p.0 ∙ sym q.0 in λ i. Err (record { 0 = same i })
