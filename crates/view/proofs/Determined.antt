-- §12.2: two outcomes that meet the promise of a page, or of a refusal, are equal. Each is over the record that the function's contract
-- cites. Assumes nothing.
use Prim.Native.Nat.{ℕ}
use mathlib.Core.Path.{◌≡◌}
use mathlib.Core.List.{List}
use Rattle.mark.proofs.OneAnswer.{one_answer}
use Rattle.pen.proofs.Determined.{wrote_determined}
use Rattle.view.specs.declared.Page.{Page}
use Rattle.view.specs.Promises.{PageWritten, RefusalSaid}

-- a page: the buffer, how long the page is, and whether it is the last
pub page_determined :
    (sheet : List ℕ) (page : ℕ) (out later other : List ℕ) (r t : Page)
    → PageWritten sheet page out later r
    → PageWritten sheet page out other t
    → (later ≡ other) × (r ≡ t)
page_determined sheet page out later other r t p q =
    let h = wrote_determined p.lines q.lines in
    let same : r ≡ t = λ i. record { written = h.1 i; last = one_answer p.last q.last i } in
    (h.0, same)

-- what is said of a refusal: the buffer, and how long it is
pub refusal_determined :
    (sheet out later other : List ℕ) (r t : ℕ) → RefusalSaid sheet out later r → RefusalSaid sheet out other t → (later ≡ other) × (r ≡ t)
refusal_determined sheet out later other r t p q = wrote_determined p.lines q.lines
