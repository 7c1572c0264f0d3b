-- What is found where it is expected: a number, a word, how often, the end of a line. Assumes nothing.
use Prim.Native.Nat.{ℕ, ◌+◌, ◌-◌, ◌^◌, ◌≤◌, ◌<◌}
use mathlib.Core.Bool.{Bool, true, false, cond, ◌&&◌, and-eq-true_iff}
use mathlib.Core.Path.{◌≡◌, refl, ◌∙◌}
use mathlib.Core.List.{List, [], ◌∷◌, ◌++◌, map}
use native.Mathlib.Omega.{arith}
use lib.Dec.{leb}
use lib.ListN.{length, take, drop, length-append, get_or-append}
use lib.Seq.{take-append_seam}
use borrow.Author.Tests.{leb-true, le-leb, eq-eqb, ne_eqb}
use Rattle.pen.specs.Decimal.{decimal}
use Rattle.schedule.specs.Tokens.{Got}
use Rattle.schedule.specs.Tokens.{small, span, word_at, same, is_number, number_in, number_at, either_at, line_end_at, past_blanks}
use Rattle.schedule.specs.Reading.{Line, times_at}
use Rattle.schedule.proofs.Places.{At, Stands, is_word, along, head, no_word, word_next}
use Rattle.schedule.proofs.Spelling.{Spells, spells, digits_word, digits_head}

-- found: its value, and what stands behind it
pub record Found (text : List ℕ) (v : ℕ) (rest : List ℕ) (g : Got) : Type 0 where
  pub fine : g.what ≡ 0
  pub value : g.value ≡ v
  pub left : At text g.at rest

-- a part of a line that is right: its bytes, and what stands behind it
pub record Reads (text made rest : List ℕ) (l : Line) : Type 0 where
  pub fine : l.what ≡ 0
  pub bytes : l.bytes ≡ made
  pub left : At text l.at rest

-- ---- numbers

-- the test of a number
is_number_lem : (least most n : ℕ) (word : List ℕ) → Spells n word → least ≤ n → n ≤ most → is_number least most word ≡ true
unfolding is_number
is_number_lem least most n word s low high =
    let some = s.some in
    rw (ne_eqb (length word) 0 (omega arith), s.digits, s.says, le-leb least n low, le-leb n most high)

-- digits that stand between two places
number_in_lem :
    {text : List ℕ} {rest : List ℕ} (at start end least most what n : ℕ) (word : List ℕ)
    → take (end - start) (drop start text) ≡ word
    → Spells n word
    → least ≤ n
    → n ≤ most
    → At text end rest
    → Found text n rest (number_in text at start end least most what)
number_in_lem at start end least most what n word is s low high a =
    rw (is, is_number_lem least most n word s low high, s.says) (record { fine = refl; value = refl; left = a })

-- a number behind a blank
pub number_found :
    {text : List ℕ} {at : ℕ} (n most what : ℕ) (rest : List ℕ)
    → At text at (32 ∷ (decimal n ++ rest))
    → span 2 rest ≡ 0
    → n ≤ most
    → most < 10 ^ 20
    → Found text n rest (number_at text at most what)
unfolding number_at
number_found {text} {at} n most what rest a ends high room =
    let s = spells n (omega arith) in
    let w = word_next (decimal n) rest (digits_word (decimal n) s.digits) s.some ends a in
    number_in_lem (past_blanks text at) (word_at text at).start (word_at text at).end 0 most what n (decimal n) w.bytes s (omega arith) high
    w.left

-- ---- words

-- a word, in the small form of its letters
unfoldable pub is_plain : List ℕ → Bool
is_plain word = is_word word && (leb 1 (length word) && same (map small word) word)

plain_word : (word : List ℕ) → is_plain word ≡ true → (is_word word ≡ true) × ((1 ≤ length word) × (same (map small word) word ≡ true))
unfolding is_plain
plain_word word plain =
    let a = (and-eq-true_iff (is_word word) (leb 1 (length word) && same (map small word) word)).0 plain in
    let b = (and-eq-true_iff (leb 1 (length word)) (same (map small word) word)).0 a.1 in
    (a.0, (leb-true 1 (length word) b.0, b.1))

-- one that stands behind a blank
pub plain_next :
    {text : List ℕ} {at : ℕ} (word rest : List ℕ)
    → At text at (32 ∷ (word ++ rest))
    → span 2 rest ≡ 0
    → is_plain word ≡ true
    → Stands text word rest (word_at text at)
plain_next word rest a ends plain = let p = plain_word word plain in word_next word rest p.0 p.1.0 ends a

-- the first of two words that may stand behind a blank
pub first_found :
    {text : List ℕ} {at : ℕ} (one other : List ℕ) (what : ℕ) (rest : List ℕ)
    → At text at (32 ∷ (one ++ rest))
    → span 2 rest ≡ 0
    → is_plain one ≡ true
    → Found text 1 rest (either_at text at one other what)
unfolding either_at
first_found one other what rest a ends plain =
    let w = plain_next one rest a ends plain in
    rw (w.bytes, (plain_word one plain).1.1) (record { fine = refl; value = refl; left = w.left })

-- the second of them
pub second_found :
    {text : List ℕ} {at : ℕ} (one other : List ℕ) (what : ℕ) (rest : List ℕ)
    → At text at (32 ∷ (other ++ rest))
    → span 2 rest ≡ 0
    → is_plain other ≡ true
    → same (map small other) one ≡ false
    → Found text 2 rest (either_at text at one other what)
unfolding either_at
second_found one other what rest a ends plain isnot =
    let w = plain_next other rest a ends plain in
    rw (w.bytes, isnot, (plain_word other plain).1.1) (record { fine = refl; value = refl; left = w.left })

-- either of them
pub either_found :
    {text : List ℕ} {at : ℕ} (t : Bool) (one other : List ℕ) (what : ℕ) (rest : List ℕ)
    → At text at (32 ∷ (cond t one other ++ rest))
    → span 2 rest ≡ 0
    → is_plain one ≡ true
    → is_plain other ≡ true
    → same (map small other) one ≡ false
    → Found text (cond t 1 2) rest (either_at text at one other what)
either_found true one other what rest a ends first second isnot = first_found one other what rest a ends first
either_found false one other what rest a ends first second isnot = second_found one other what rest a ends second isnot

-- ---- the end of a line

-- no word at a line feed
pub at_line_end : (text : List ℕ) (at : ℕ) (rest : List ℕ) → At text at (10 ∷ rest) → word_at text at ≡ record { start = at; end = at }
unfolding span
at_line_end text at rest a = no_word text at (10 ∷ rest) a refl refl refl

-- so it is found
pub line_end_found : (text : List ℕ) (at : ℕ) (rest : List ℕ) (what : ℕ) → At text at (10 ∷ rest) → Found text 0 (10 ∷ rest) (line_end_at text at what)
unfolding line_end_at
line_end_found text at rest what a =
    rw (at_line_end text at rest a, eq-eqb at at refl) (record { fine = refl; value = refl; left = a })

-- ---- how often

-- x and a number behind a blank
pub times_found :
    {text : List ℕ} {at : ℕ} (n : ℕ) (rest : List ℕ)
    → At text at (32 ∷ (120 ∷ (decimal n ++ rest)))
    → span 2 rest ≡ 0
    → 1 ≤ n
    → n ≤ 16384
    → Found text n rest (times_at text at)
unfolding times_at is_word
times_found {text} {at} n rest a ends low high =
    let s = spells n (omega arith) in
    let w = word_next (120 ∷ decimal n) rest (digits_word (decimal n) s.digits) (omega arith) ends a in
    let x = head w.begins in
    let next : At text ((word_at text at).start + 1) (decimal n ++ rest) = along (120 ∷ []) w.begins in
    let whole = length-append (decimal n) rest in
    let long : (word_at text at).end - ((word_at text at).start + 1) ≡ length (decimal n) = omega (arith, next.within, w.left.within) in
    rw (w.some, x)
    (number_in_lem (word_at text at).start ((word_at text at).start + 1) (word_at text at).end 1 16384 18 n (decimal n)
    (rw (long, next.stands) (take-append_seam (decimal n) rest)) s low high w.left)

-- none: the line ends, or another worker's number stands there
pub data Next : List ℕ → Type 0 where
  line_end : (rest : List ℕ) → Next (10 ∷ rest)
  another : (n : ℕ) (rest : List ℕ) → n < 10 ^ 20 → span 2 rest ≡ 0 → Next (32 ∷ (decimal n ++ rest))

pub once_found : {text : List ℕ} {at : ℕ} (rest : List ℕ) → At text at rest → Next rest → Found text 1 rest (times_at text at)
unfolding times_at
once_found {text} {at} rest a (line_end more) = rw (at_line_end text at more a, eq-eqb at at refl) (record { fine = refl; value = refl; left = a })
once_found {text} {at} rest a (another n more small ends) =
    let s = spells n small in
    let w = word_next (decimal n) more (digits_word (decimal n) s.digits) s.some ends a in
    let first = head w.begins ∙ get_or-append (decimal n) more 0 0 s.some in
    rw (w.some, first, digits_head (decimal n) s.digits s.some) (record { fine = refl; value = refl; left = a })
