-- Where a listing ends in totals, or in a refusal by another number than 3 and 7, neither R 3 nor R 7 stands anywhere in it: an R stands
-- nowhere but at the beginning of the last line. Assumes nothing.
use Prim.Native.Nat.{ℕ, zero, suc, ◌+◌, ◌/◌, ◌<◌}
use mathlib.Core.Bool.{Bool, true, ◌&&◌, not, and-eq-true_iff}
use mathlib.Core.Path.{◌≡◌, refl, sym, ap, ◌∙◌}
use mathlib.Core.List.{List, [], ◌∷◌, ◌++◌, head-eq_of_cons-eq, tail-eq_of_cons-eq, nil≢cons}
use native.Mathlib.Omega.{arith}
use lib.Dec.{eqb, ltb}
use borrow.Author.Tests.{eqb-false, ltb-true, lt-ltb, not-true}
use Rattle.mark.proofs.Choices.{by_cases}
use Rattle.turn.specs.declared.Progress.{Progress}
use Rattle.turn.specs.declared.Progress.TheVariants.{GoesOn, Ended}
use Rattle.sheet.specs.Line.{decimal_in, decimal, numbers}
use Rattle.history.specs.Trace.{Turn, Entry, acted, retired}
use Rattle.history.specs.Numbers.{OneOf}
use Rattle.history.proofs.Later.{one_each}
use Rattle.plays.specs.Plays.{line_for, end_lines, every_refusal, EndsIn, in_totals, in_refusal, refused_by, NeverBroken}

-- ---- bytes that are no R

-- none of these bytes is an R
abbrev Quiet : List ℕ → Type 0
Quiet [] = Unit {0}
Quiet (b ∷ bs) = (b ≡ 82 → ⊥) × Quiet bs

quiet_append : (bs cs : List ℕ) → Quiet bs → Quiet cs → Quiet (bs ++ cs)
quiet_append [] cs none more = more
quiet_append (b ∷ bs) cs none more = (none.0, quiet_append bs cs none.1 more)

quiet_decimal : (places n : ℕ) → Quiet (decimal_in places n)
unfolding decimal_in
quiet_decimal zero n = tt
quiet_decimal (suc places) n =
    by_cases Quiet (ltb n 10) _ _ (λ is. let small = ltb-true n 10 is in ((λ r. omega arith), tt))
    (λ isnot. quiet_append (decimal_in places (n / 10)) _ (quiet_decimal places (n / 10)) ((λ r. omega arith), tt))

quiet_numbers : (ns : List ℕ) → Quiet (numbers ns)
quiet_numbers [] = ((λ r. omega arith), tt)
quiet_numbers (n ∷ ns) = ((λ r. omega arith), quiet_append (decimal n) (numbers ns) (quiet_decimal 20 n) (quiet_numbers ns))

quiet_line : (n : ℕ) (e : Turn) (p : Progress) → Quiet (line_for n e p)
quiet_line n e GoesOn = tt
quiet_line n e (Ended answer) = ((λ r. omega arith), quiet_numbers (n ∷ e.worker ∷ e.was.kind ∷ answer ∷ []))

-- so it is with E lines
quiet_ends : (n : ℕ) (es : List Entry) → Quiet (end_lines n es)
unfolding end_lines
quiet_ends n [] = tt
quiet_ends n (acted e ∷ es) = quiet_append (line_for n e e.report.progress) _ (quiet_line n e e.report.progress) (quiet_ends (suc n) es)
quiet_ends n (retired r ∷ es) = quiet_ends n es

-- ---- an R in a listing

module _ (rest : List ℕ) where
  -- there is none among such bytes
  quiet_none : (bs before : List ℕ) → Quiet bs → bs ≡ before ++ (82 ∷ rest) → ⊥
  quiet_none [] [] none is = nil≢cons is
  quiet_none [] (b ∷ before) none is = nil≢cons is
  quiet_none (b ∷ bs) [] none is = none.0 (head-eq_of_cons-eq is)
  quiet_none (b ∷ bs) (c ∷ before) none is = quiet_none bs before none.1 (tail-eq_of_cons-eq is)

  -- one that comes after them is in what follows
  after_quiet :
      (bs line before : List ℕ) → Quiet bs → bs ++ line ≡ before ++ (82 ∷ rest) → (later : List ℕ) × (line ≡ later ++ (82 ∷ rest))
  after_quiet [] line before none is = (before, is)
  after_quiet (b ∷ bs) line [] none is = absurd (none.0 (head-eq_of_cons-eq is))
  after_quiet (b ∷ bs) line (c ∷ before) none is = after_quiet bs line before none.1 (tail-eq_of_cons-eq is)

  -- and at its beginning, if no other R is there
  at_first : (bs later : List ℕ) → Quiet bs → 82 ∷ bs ≡ later ++ (82 ∷ rest) → bs ≡ rest
  at_first bs [] none is = tail-eq_of_cons-eq is
  at_first bs (c ∷ later) none is = absurd (quiet_none bs later none (tail-eq_of_cons-eq is))

-- ---- the last line

-- a number of one digit in decimal
one_digit : (n : ℕ) → n < 10 → decimal n ≡ (48 + n) ∷ []
unfolding decimal_in
one_digit n small = rw (lt-ltb n 10 small)

-- a line R with the digit of another number is another line
other_digit : (n digit offset : ℕ) (rest : List ℕ) → n < 10 → numbers (n ∷ offset ∷ []) ≡ 32 ∷ (48 + digit) ∷ rest → n ≡ digit
other_digit n digit offset rest small is =
    let same : 48 + n ≡ 48 + digit = head-eq_of_cons-eq (tail-eq_of_cons-eq (ap (λ (d : List ℕ). 32 ∷ (d ++ numbers (offset ∷ []))) (sym (one_digit n small)) ∙ is)) in
    omega arith

-- a number of one digit that is neither 3 nor 7
record Other (n : ℕ) : Type 0 where
  one_digit : n < 10
  not_3 : n ≡ 3 → ⊥
  not_7 : n ≡ 7 → ⊥

abbrev is_other : ℕ → Bool
is_other n = ltb n 10 && (not (eqb n 3) && not (eqb n 7))

-- as every number by which a sheet is refused is
others : (n : ℕ) → OneOf every_refusal n → Other n
others n one =
    let tested = one_each (λ m. is_other m ≡ true) every_refusal (refl, (refl, (refl, (refl, (refl, (refl, (refl, tt))))))) n one in
    let first = (and-eq-true_iff _ _).0 tested in
    let second = (and-eq-true_iff _ _).0 first.1 in
    record {
      one_digit = ltb-true n 10 first.0;
      not_3 = eqb-false n 3 (not-true _ second.0);
      not_7 = eqb-false n 7 (not-true _ second.1);
    }

-- a last line does not begin as a refusal by a digit that no sheet is refused by
module _ (digit : ℕ) (other : (n : ℕ) → OneOf every_refusal n → n ≡ digit → ⊥) where
  not_last : {line : List ℕ} → EndsIn line → (before rest : List ℕ) → line ≡ before ++ refused_by digit rest → ⊥
  not_last (in_totals t) before rest is =
      quiet_none _ _ before ((λ r. omega arith), quiet_numbers (t.turns ∷ t.changes ∷ t.lost ∷ t.full ∷ [])) is
  not_last (in_refusal n offset one) before rest is =
      other n one (other_digit n digit offset (32 ∷ rest) (others n one).one_digit
      (at_first _ (numbers (n ∷ offset ∷ [])) before (quiet_numbers (n ∷ offset ∷ [])) is))

  -- so it stands nowhere in a listing
  nowhere :
      (es : List Entry) (line : List ℕ) → EndsIn line → (before rest : List ℕ) → end_lines 1 es ++ line ≡ before ++ refused_by digit rest → ⊥
  nowhere es line ends before rest is =
      let found = after_quiet _ (end_lines 1 es) line before (quiet_ends 1 es) is in
      not_last ends found.0 rest found.1

-- a listing of E lines and one last line has neither R 3 nor R 7
pub never_refused : (listing : List ℕ) (es : List Entry) (line : List ℕ) → EndsIn line → listing ≡ end_lines 1 es ++ line → NeverBroken listing
never_refused listing es line ends whole =
    record {
      turns = es;
      line = line;
      ends = ends;
      whole = whole;
      no_3 = λ before rest is. nowhere 3 (λ n one. (others n one).not_3) es line ends before rest (sym whole ∙ is);
      no_7 = λ before rest is. nowhere 7 (λ n one. (others n one).not_7) es line ends before rest (sym whole ∙ is);
    }
