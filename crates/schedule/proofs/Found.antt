-- What was found, at the beginning or the end of the next word. Assumes nothing.
use Prim.Native.Nat.{ℕ, ◌-◌, ◌≤◌}
use mathlib.Core.Bool.{Bool, true, false, cond, ◌&&◌, not, and-eq-true_iff}
use mathlib.Core.Path.{◌≡◌, refl}
use mathlib.Core.List.{List}
use lib.Dec.{leb, eqb}
use lib.ListN.{length, take, drop}
use borrow.Author.Tests.{leb-true}
use Rattle.std.proofs.Common.{Option, Some, None}
use Rattle.schedule.specs.declared.Word.{Word}
use Rattle.schedule.specs.Promises.{Words, Finds}
use Rattle.schedule.specs.Tokens.{Got, found, missing, past_blanks, is_number, are_digits, value_after, number_at}
use Rattle.schedule.proofs.Spans.{reach_then, reach_span}

module _ {text : List ℕ} {from : ℕ} {w : Word} (word : Words text from w) where
  -- the word was taken
  pub found_end : (value : ℕ) {g : Got} → found value w.end ≡ g → Finds text from g (found value w.end)
  found_end value is = record { is = is; reach = reach_then word.start word.end }

-- nothing was found behind the blanks
pub found_blanks : {text : List ℕ} {from : ℕ} (what : ℕ) {g : Got} → missing (past_blanks text from) what ≡ g → Finds text from g (missing (past_blanks text from) what)
found_blanks {text} {from} what is = record { is = is; reach = reach_span 0 text from }

-- ---- a number

none_said : (b : Bool) (v : ℕ) → None ≡ cond b (Some v) None → b ≡ false
none_said true v e = cc
none_said false v e = refl

some_said : (b : Bool) (v n : ℕ) → Some n ≡ cond b (Some v) None → (b ≡ true) × (v ≡ n)
some_said true v n e = (refl, cc)
some_said false v n e = cc

module _ {text : List ℕ} {from : ℕ} {w : Word} (word : Words text from w) (most what : ℕ) where
  abbrev digits : List ℕ
  digits = take (w.end - w.start) (drop w.start text)

  abbrev said : Option ℕ
  said = cond (is_number 0 most digits) (Some (value_after 0 digits)) None

  -- the word says none
  pub number_none : None ≡ said → Finds text from (number_at text from most what) (missing (past_blanks text from) what)
  unfolding number_at
  number_none e = found_blanks what (rw (← word.is, none_said (is_number 0 most digits) _ e))

  -- it says this one
  pub number_some : {n : ℕ} → Some n ≡ said → Finds text from (number_at text from most what) (found n w.end)
  unfolding number_at
  number_some {n} e =
      let some = some_said (is_number 0 most digits) (value_after 0 digits) n e in
      found_end word n (rw (← word.is, some.0, some.1))

  pub number_most : {n : ℕ} → Some n ≡ said → n ≤ most
  unfolding is_number
  number_most {n} e =
      let some = some_said (is_number 0 most digits) (value_after 0 digits) n e in
      let v = value_after 0 digits in
      let a = (and-eq-true_iff (not (eqb (length digits) 0)) (are_digits digits && (leb 0 v && leb v most))).0 some.0 in
      let b = (and-eq-true_iff (are_digits digits) (leb 0 v && leb v most)).0 a.1 in
      rw (← some.1) (leb-true v most ((and-eq-true_iff (leb 0 v) (leb v most)).0 b.1).1)
