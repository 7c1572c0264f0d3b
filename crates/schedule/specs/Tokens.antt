-- The words and numbers of a text, and the blanks and comments between them. A text is bytes; a place counts those before it.
use Rattle.std.specs.Prelude.{ℕ, ◌+◌, ◌*◌, ◌-◌, Bool, true, false, cond, ◌&&◌, ◌||◌, not, List, [], ◌∷◌, map, length, take, drop, get_or, eqb, leb}
use Rattle.schedule.specs.declared.Word.{Word}

-- ---- bytes

-- space, tab and carriage return; a line feed ends the line
abbrev pub is_blank : ℕ → Bool
is_blank b = eqb b 32 || (eqb b 9 || eqb b 13)

-- '#' begins a comment, which goes to the end of its line
abbrev pub is_hash : ℕ → Bool
is_hash b = eqb b 35

-- a byte of a word: no blank, no comment, no end of a line
abbrev pub in_word : ℕ → Bool
in_word b = not (is_blank b || (is_hash b || eqb b 10))

-- a letter in its small form
abbrev pub small : ℕ → ℕ
small b = cond (leb 65 b && leb b 90) (b + 32) b

-- '0' to '9'
abbrev pub is_digit : ℕ → Bool
is_digit b = leb 48 b && leb b 57

-- ---- how far something goes

-- the bytes that are skipped or taken together: 0 for blanks, 1 for the rest of a line, 2 for a word
abbrev pub goes_on : ℕ → ℕ → Bool
goes_on kind b = cond (eqb kind 0) (is_blank b) (cond (eqb kind 1) (not (eqb b 10)) (in_word b))

-- how many bytes go on so
unfoldable pub span : ℕ → List ℕ → ℕ
span kind [] = 0
span kind (b ∷ bs) = cond (goes_on kind b) (1 + span kind bs) 0

-- the place where the blanks from a place on end
abbrev pub past_blanks : List ℕ → ℕ → ℕ
past_blanks text at = at + span 0 (drop at text)

-- the place behind the comment at a place; where none is, that place
abbrev pub past_comment : List ℕ → ℕ → ℕ
past_comment text at = cond (is_hash (get_or text at 0)) (at + span 1 (drop at text)) at

-- where the next word begins; where the line has no more, the end of the line
unfoldable pub word_start : List ℕ → ℕ → ℕ
word_start text at = past_comment text (past_blanks text at)

-- §24.1: the next word of the line, from start to end; the two are the same place where there is none
unfoldable pub word_at : List ℕ → ℕ → Word
word_at text at =
    let start = word_start text at in
    record { start = start; end = start + span 2 (drop start text) }

-- ---- what a word says

-- its bytes, letters in their small form
abbrev pub spelled : List ℕ → ℕ → ℕ → List ℕ
spelled text start end = map small (take (end - start) (drop start text))

-- whether two lists of bytes are the same
unfoldable pub same : List ℕ → List ℕ → Bool
same [] [] = true
same [] (c ∷ cs) = false
same (b ∷ bs) [] = false
same (b ∷ bs) (c ∷ cs) = eqb b c && same bs cs

-- every byte is a digit
unfoldable pub are_digits : List ℕ → Bool
are_digits [] = true
are_digits (b ∷ bs) = is_digit b && are_digits bs

-- the number that digits say, after those before them
unfoldable pub value_after : ℕ → List ℕ → ℕ
value_after before [] = before
value_after before (b ∷ bs) = value_after (10 * before + (b - 48)) bs

-- §24.3: digits, at least one, that say a number within a range
unfoldable pub is_number : ℕ → ℕ → List ℕ → Bool
is_number least most digits =
    not (eqb (length digits) 0) && (are_digits digits && (leb least (value_after 0 digits) && leb (value_after 0 digits) most))

-- ---- what was found where something is expected

-- its value and the place behind it, and 0; or the place where something else stands, and the number of what is expected there
pub record Got : Type 0 where
  pub value : ℕ
  pub at : ℕ
  pub what : ℕ

-- a number and the place behind it
abbrev pub found : ℕ → ℕ → Got
found value next = record { value = value; at = next; what = 0 }

-- something else: where it stands, or where the line has no more but perhaps a comment; and the number of what is expected there
abbrev pub missing : ℕ → ℕ → Got
missing at what = record { value = 0; at = at; what = what }

-- the digits from start to end, as a number within a range; where they say none, the word at `at` is not what is expected
abbrev pub number_in : List ℕ → ℕ → ℕ → ℕ → ℕ → ℕ → ℕ → Got
number_in text at start end least most what =
    let digits : List ℕ = take (end - start) (drop start text) in
    cond (is_number least most digits) (found (value_after 0 digits) end) (missing at what)

-- a number up to the most that is expected
unfoldable pub number_at : List ℕ → ℕ → ℕ → ℕ → Got
number_at text at most what =
    let w : Word = word_at text at in
    number_in text (past_blanks text at) w.start w.end 0 most what

-- one of two words; the value is 1 for the first and 2 for the second
unfoldable pub either_at : List ℕ → ℕ → List ℕ → List ℕ → ℕ → Got
either_at text at one other what =
    let w : Word = word_at text at in
    let word : List ℕ = spelled text w.start w.end in
    cond (same word one) (found 1 w.end) (cond (same word other) (found 2 w.end) (missing (past_blanks text at) what))

-- a word
abbrev pub keyword_at : List ℕ → ℕ → List ℕ → ℕ → Got
keyword_at text at word what = either_at text at word word what

-- the end of the line, where no word is left
unfoldable pub line_end_at : List ℕ → ℕ → ℕ → Got
line_end_at text at what =
    let w : Word = word_at text at in
    cond (eqb w.start w.end) (found 0 w.start) (missing w.start what)
