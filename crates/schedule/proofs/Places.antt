-- What a text has from a place on, and the word that stands there. Assumes nothing.
use Prim.Native.Nat.{ℕ, ◌+◌, ◌-◌, ◌≤◌}
use mathlib.Core.Bool.{Bool, true, false, ◌&&◌, ◌||◌, and-eq-true_iff}
use mathlib.Core.Path.{◌≡◌, refl, sym, ap, ◌∙◌}
use mathlib.Core.List.{List, [], ◌∷◌, ◌++◌}
use native.Mathlib.Nat.{add-zero}
use native.Mathlib.Omega.{arith}
use lib.Dec.{eqb}
use lib.ListN.{length, take, drop, get_or, length-append}
use lib.Seq.{drop-drop, drop-append_seam, take-append_seam, get_or-drop}
use borrow.Author.Tests.{ne_eqb, not-true}
use Rattle.mark.proofs.Choices.{not_both}
use Rattle.schedule.specs.declared.Word.{Word}
use Rattle.schedule.specs.Tokens.{is_blank, is_hash, in_word, span, past_blanks, word_start, word_at}

-- ---- a place

-- from this place on the text is just this
pub record At (text : List ℕ) (at : ℕ) (rest : List ℕ) : Type 0 where
  pub stands : drop at text ≡ rest
  pub within : at + length rest ≡ length text

-- where it begins
pub at_start_lem : (text : List ℕ) → At text 0 text
at_start_lem text = record { stands = refl; within = omega arith }

-- behind what stands there
pub along : {text : List ℕ} {at : ℕ} (l : List ℕ) {rest : List ℕ} → At text at (l ++ rest) → At text (at + length l) rest
along {text} {at} l {rest} a =
    let long = length-append l rest in
    let all = a.within in
    record { stands = rw (← drop-drop (length l) at text, a.stands) (drop-append_seam l rest); within = omega arith }

-- the byte at a place, and 0 at the end
pub head : {text : List ℕ} {at : ℕ} {rest : List ℕ} → At text at rest → get_or text at 0 ≡ get_or rest 0 0
head {text} {at} a = ap (λ (n : ℕ). get_or text n 0) (sym (add-zero at)) ∙ (sym (get_or-drop at text 0 0) ∙ ap (λ (l : List ℕ). get_or l 0 0) a.stands)

-- ---- a word

-- every byte may stand in a word
unfoldable pub is_word : List ℕ → Bool
is_word [] = true
is_word (b ∷ bs) = in_word b && is_word bs

-- a word goes as far as its bytes do
span_word : (word rest : List ℕ) → is_word word ≡ true → span 2 rest ≡ 0 → span 2 (word ++ rest) ≡ length word
unfolding is_word span
span_word [] rest is ends = ends
span_word (b ∷ bs) rest is ends =
    let both = (and-eq-true_iff (in_word b) (is_word bs)).0 is in
    rw (both.0, span_word bs rest both.1 ends) (omega arith)

-- the next word: it is one, its bytes, and what stands from it on and behind it
pub record Stands (text word rest : List ℕ) (w : Word) : Type 0 where
  pub some : eqb w.start w.end ≡ false
  pub bytes : take (w.end - w.start) (drop w.start text) ≡ word
  pub begins : At text w.start (word ++ rest)
  pub left : At text w.end rest

module _ (text : List ℕ) (at : ℕ) where
  -- past the blanks there is no comment
  no_comment : (p : ℕ) (rest : List ℕ) → past_blanks text at ≡ p → At text p rest → is_hash (get_or rest 0 0) ≡ false → word_start text at ≡ p
  unfolding word_start
  no_comment p rest past a plain = rw (past, head a, plain)

  -- a word begins where the blanks end
  word_from :
      (p : ℕ) (word rest : List ℕ)
      → word_start text at ≡ p
      → At text p (word ++ rest)
      → is_word word ≡ true
      → 1 ≤ length word
      → span 2 rest ≡ 0
      → Stands text word rest (word_at text at)
  unfolding word_at
  word_from p word rest start a is some ends =
      let long : span 2 (drop p text) ≡ length word = rw a.stands (span_word word rest is ends) in
      let less : p + length word - p ≡ length word = omega arith in
      rw (start, long)
      (record {
        some = ne_eqb p (p + length word) (omega arith);
        bytes = rw (less, a.stands) (take-append_seam word rest);
        begins = a;
        left = along word a;
      })

  -- no word: the end of a line, or of the text
  pub no_word :
      (rest : List ℕ)
      → At text at rest
      → span 0 rest ≡ 0
      → span 2 rest ≡ 0
      → is_hash (get_or rest 0 0) ≡ false
      → word_at text at ≡ record { start = at; end = at }
  unfolding word_at
  no_word rest a blank ends plain =
      let here : past_blanks text at ≡ at = rw (a.stands, blank, add-zero at) in
      rw (no_comment at rest here a plain, a.stands, ends, add-zero at)

-- ---- a word here, and behind a blank

none_of : (t u : Bool) → (t || u) ≡ false → (t ≡ false) × (u ≡ false)
none_of true u off = not_both true off refl
none_of false u off = (refl, off)

-- a byte of a word is no blank, and begins no comment
word_byte : (b : ℕ) (bs : List ℕ) → is_word (b ∷ bs) ≡ true → (is_blank b ≡ false) × (is_hash b ≡ false)
unfolding is_word
word_byte b bs is =
    let no = none_of (is_blank b) (is_hash b || eqb b 10) (not-true _ ((and-eq-true_iff (in_word b) (is_word bs)).0 is).0) in
    (no.0, (none_of (is_hash b) (eqb b 10) no.1).0)

-- where a word stands, there are no more blanks
no_blank : (word rest : List ℕ) → is_word word ≡ true → 1 ≤ length word → (span 0 (word ++ rest) ≡ 0) × (is_hash (get_or (word ++ rest) 0 0) ≡ false)
unfolding span
no_blank [] rest is some = absurd (omega arith)
no_blank (b ∷ bs) rest is some = let no = word_byte b bs is in (rw no.0, no.1)

module _ {text : List ℕ} {at : ℕ} (word rest : List ℕ) (is : is_word word ≡ true) (some : 1 ≤ length word) (ends : span 2 rest ≡ 0) where
  -- at the place itself
  pub word_here : At text at (word ++ rest) → Stands text word rest (word_at text at)
  word_here a =
      let no = no_blank word rest is some in
      let here : past_blanks text at ≡ at = rw (a.stands, no.0, add-zero at) in
      word_from text at at word rest (no_comment text at at (word ++ rest) here a no.1) a is some ends

  -- behind a blank
  pub word_next : At text at (32 ∷ (word ++ rest)) → Stands text word rest (word_at text at)
  unfolding span
  word_next a =
      let no = no_blank word rest is some in
      let next : At text (at + 1) (word ++ rest) = along (32 ∷ []) a in
      let here : past_blanks text at ≡ at + 1 = rw (a.stands, no.0) in
      word_from text at (at + 1) word rest (no_comment text at (at + 1) (word ++ rest) here next no.1) next is some ends
