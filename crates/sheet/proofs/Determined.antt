-- §12.2: two outcomes that meet the promise of a sheet are equal. Each is over the record that the function's contract cites. Assumes nothing.
use Prim.Native.Nat.{ℕ}
use mathlib.Core.Path.{◌≡◌, refl, sym, ap, ◌∙◌}
use mathlib.Core.List.{List}
use native.Mathlib.Omega.{arith}
use Rattle.std.specs.Prelude.{Option, Some, None, Result, Ok, Err}
use Rattle.turn.proofs.Refusing.{number_some, number_same}
use Rattle.mark.proofs.OneAnswer.{one_answer}
use Rattle.sheet.specs.declared.Found.{Found}
use Rattle.sheet.specs.declared.Played.{Played}
use Rattle.sheet.specs.declared.Stopped.{Stopped}
use Rattle.sheet.specs.Fields.{Whole, Refused, read_of, read_field}
use Rattle.sheet.specs.Written.{Wrote}
use Rattle.sheet.specs.Promises.{floor_of, records_of, written_of, stop_of, SheetPlayed, SheetListed, BoardAsked, ListingWritten}

-- the buffer, and the place after what was written
wrote_determined :
    {out bytes later other : List ℕ} {at r t : ℕ} → Wrote out at bytes later r → Wrote out at bytes other t → (later ≡ other) × (r ≡ t)
wrote_determined p q = (one_answer p.buffer q.buffer, one_answer p.place q.place)

-- what is handed back is known by what is told of it
handed_back :
    (r t : Result Played Stopped)
    → written_of r ≡ written_of t
    → floor_of r ≡ floor_of t
    → records_of r ≡ records_of t
    → stop_of r ≡ stop_of t
    → r ≡ t
handed_back (Ok p) (Ok q) written floor records stop = ap Ok (λ i. record { records = records i; floor = floor i; written = written i })
handed_back (Ok p) (Err s) written floor records stop = absurd (number_some s.why (sym stop))
handed_back (Err s) (Ok p) written floor records stop = absurd (number_some s.why stop)
handed_back (Err s) (Err u) written floor records stop =
    ap Err (λ i. record { records = records i; floor = floor i; written = written i; why = number_same s.why u.why stop i })

-- a sheet on a lent board: the board, the buffer, and all that is handed back
pub stand_determined :
    (sheet board out b c later other : List ℕ) (r t : Result Played Stopped)
    → SheetPlayed sheet board out b later r
    → SheetPlayed sheet board out c other t
    → (b ≡ c) × (later ≡ other) × (r ≡ t)
stand_determined sheet board out b c later other r t p q =
    let m = p.whole.tells in
    let n = q.whole.tells in
    let h = wrote_determined m.lines n.lines in
    let same = handed_back r t h.1 (one_answer m.floor n.floor) (one_answer m.records n.records) (one_answer m.stop n.stop) in
    (one_answer p.whole.left q.whole.left, h.0, same)

-- a sheet on a lent board: the board, the buffer and the length of the listing
pub list_determined :
    (sheet board out b c later other : List ℕ) (r t : ℕ)
    → SheetListed sheet board out b later r
    → SheetListed sheet board out c other t
    → (b ≡ c) × (later ≡ other) × (r ≡ t)
list_determined sheet board out b c later other r t p q =
    let h = wrote_determined p.whole.lines q.whole.lines in (one_answer p.whole.left q.whole.left, h.0, h.1)

-- the words of a board that a sheet asks for
pub words_determined : (sheet : List ℕ) (r t : ℕ) → BoardAsked sheet r → BoardAsked sheet t → r ≡ t
words_determined sheet r t p q = one_answer p.whole q.whole

-- a sheet on the program's own board: the buffer and the length of the listing
pub listing_determined :
    (sheet out later other : List ℕ) (r t : ℕ) → ListingWritten sheet out later r → ListingWritten sheet out other t → (later ≡ other) × (r ≡ t)
listing_determined sheet out later other r t p q = wrote_determined p.lines q.lines

-- the field at a place: what was found, or none
pub read_determined : (sheet : List ℕ) (at : ℕ) (r t : Option Found) → read_of at r ≡ read_field sheet at → read_of at t ≡ read_field sheet at → r ≡ t
read_determined sheet at None None p q = refl
read_determined sheet at None (Some found) p q = let e : Refused at ≡ Whole found.field found.next = p ∙ sym q in absurd (let z : ◌≡◌ {A = ℕ} 0 1 = cc in omega arith)
read_determined sheet at (Some found) None p q = let e : Whole found.field found.next ≡ Refused at = p ∙ sym q in absurd (let z : ◌≡◌ {A = ℕ} 0 1 = cc in omega arith)
read_determined sheet at (Some found) (Some other) p q =
    let e : Whole found.field found.next ≡ Whole other.field other.next = p ∙ sym q in
    let f : found.field ≡ other.field = cc in
    let n : found.next ≡ other.next = cc in
    ap Some (λ i. record { field = f i; next = n i })
