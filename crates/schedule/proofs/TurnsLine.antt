-- The line of turns is read as those turns, run by run. Assumes nothing.
use Prim.Native.Nat.{ℕ, zero, suc, ◌+◌, ◌≤◌, ◌<◌}
use mathlib.Core.Bool.{Bool, true, false, cond}
use mathlib.Core.Path.{◌≡◌, refl, ap}
use mathlib.Core.List.{List, [], ◌∷◌, ◌++◌, append_assoc}
use native.Mathlib.Omega.{arith}
use lib.Dec.{eqb}
use lib.ListN.{length, drop, replicate, length-append, length-drop}
use lib.Seq.{get_or-drop}
use borrow.Author.Tests.{eqb-true, eq-eqb, le-ltb}
use Rattle.pen.specs.Words.{bytes}
use Rattle.pen.specs.Decimal.{decimal}
use Rattle.sheet.specs.Fields.{Bytes}
use Rattle.schedule.specs.Tokens.{span, word_at, number_at}
use Rattle.schedule.specs.Bytes.{turns_bytes}
use Rattle.schedule.specs.Reading.{times_at, turns_from, turns_line}
use Rattle.schedule.specs.Writing.{told, same_as, run_text, runs_text, turns_text}
use Rattle.schedule.proofs.Places.{At, word_next}
use Rattle.schedule.proofs.Spelling.{spells, digits_word}
use Rattle.schedule.proofs.Tokens.{Reads, Found, Next, line_end, another, number_found, times_found, once_found, at_line_end}
use Rattle.schedule.proofs.Runs.{same_within}

-- ---- runs

-- a run, and what comes after it, are the turns
run_first : (i : ℕ) (is : List ℕ) → replicate (same_as i is) i ++ drop (same_as i is) is ≡ is
unfolding same_as
run_first i [] = refl
run_first i (j ∷ js) = by_test (eqb j i) refl (run_first i js)
  where
    by_test :
        (t : Bool)
        → eqb j i ≡ t
        → replicate (same_as i js) i ++ drop (same_as i js) js ≡ js
        → replicate (cond t (1 + same_as i js) 0) i ++ drop (cond t (1 + same_as i js) 0) (j ∷ js) ≡ j ∷ js
    by_test true same rest =
        let next : 1 + same_as i js ≡ suc (same_as i js) = omega arith in
        rw (next, eqb-true j i same) (ap (λ (l : List ℕ). i ∷ l) rest)
    by_test false other rest = refl

-- ---- a run

-- what comes next ends a word
next_ends : {rest : List ℕ} → Next rest → span 2 rest ≡ 0
unfolding span
next_ends (line_end rest) = refl
next_ends (another n rest small ends) = refl

-- a run that was read: a word is there, whose it is, and how often
record RunRead (text : List ℕ) (at i times : ℕ) (tail : List ℕ) : Type 0 where
  some : eqb (word_at text at).start (word_at text at).end ≡ false
  fine : (number_at text at 255 17).what ≡ 0
  who : (number_at text at 255 17).value ≡ i
  often : Found text times tail (times_at text (number_at text at 255 17).at)

module _ {text : List ℕ} {at : ℕ} (i times : ℕ) (tail : List ℕ) (byte : i ≤ 255) (next : Next tail) where
  worker_read :
      (rest : List ℕ)
      → span 2 rest ≡ 0
      → At text at (told (bytes " ") i ++ rest)
      → ((a : ℕ) → At text a rest → Found text times tail (times_at text a))
      → RunRead text at i times tail
  unfolding bytes
  worker_read rest ends a often =
      let s = spells i (omega arith) in
      let n = number_found i 255 17 rest a ends byte (omega arith) in
      record {
        some = (word_next (decimal i) rest (digits_word (decimal i) s.digits) s.some ends a).some;
        fine = n.fine;
        who = n.value;
        often = often (number_at text at 255 17).at n.left;
      }

  run_read : 1 ≤ times → times ≤ 16384 → At text at (run_text i times ++ tail) → RunRead text at i times tail
  unfolding run_text bytes span
  run_read low high a =
      let apart = append_assoc (told (bytes " ") i) (cond (eqb times 1) [] (told (bytes " x") times)) tail in
      by_test (eqb times 1) refl (rw apart at a)
    where
      by_test :
          (t : Bool)
          → eqb times 1 ≡ t
          → At text at (told (bytes " ") i ++ (cond t [] (told (bytes " x") times) ++ tail))
          → RunRead text at i times tail
      by_test true once a = worker_read tail (next_ends next) a (λ p b. rw (eqb-true times 1 once) (once_found tail b next))
      by_test false more a =
          worker_read (told (bytes " x") times ++ tail) refl a (λ p b. times_found times tail b (next_ends next) low high)

-- ---- runs, one after another

-- a run is what may come next
run_next : (i times : ℕ) (tail : List ℕ) → i < 256 → Next tail → Next (run_text i times ++ tail)
unfolding run_text bytes span
run_next i times tail byte next =
    rw (append_assoc (told (bytes " ") i) (cond (eqb times 1) [] (told (bytes " x") times)) tail)
    (another i (cond (eqb times 1) [] (told (bytes " x") times) ++ tail) (omega arith) (ends (eqb times 1)))
  where
    ends : (t : Bool) → span 2 (cond t [] (told (bytes " x") times) ++ tail) ≡ 0
    ends true = next_ends next
    ends false = refl

-- a run takes room
run_long : (i times : ℕ) → 1 ≤ length (run_text i times)
unfolding run_text bytes
run_long i times = omega arith

-- turns that are left
pub later : (i n : ℕ) (is : List ℕ) → Bytes (i ∷ is) → Bytes (drop n is)
later i n is are k = rw (get_or-drop n is k 0) (are (suc (n + k)))

-- what stands behind a run is another, or the end of the line
runs_next : (fuel : ℕ) (turns rest : List ℕ) → Bytes turns → Next (runs_text fuel turns ++ (10 ∷ rest))
unfolding runs_text
runs_next zero turns rest are = line_end rest
runs_next (suc fuel) [] rest are = line_end rest
runs_next (suc fuel) (i ∷ is) rest are =
    let n = same_as i is in
    rw (append_assoc (run_text i (1 + n)) (runs_text fuel (drop n is)) (10 ∷ rest))
    (run_next i (1 + n) (runs_text fuel (drop n is) ++ (10 ∷ rest)) (are 0) (runs_next fuel (drop n is) rest (later i n is are)))

-- so the word turns ends before them
pub runs_ends : (turns rest : List ℕ) → Bytes turns → span 2 (runs_text (length turns) turns ++ (10 ∷ rest)) ≡ 0
runs_ends turns rest are = next_ends (runs_next (length turns) turns rest are)

-- at the end of the line
none_left : {text : List ℕ} {at : ℕ} (more : ℕ) (rest : List ℕ) → At text at (10 ∷ rest) → Reads text [] (10 ∷ rest) (turns_from more text at)
unfolding turns_from
none_left zero rest a = record { fine = refl; bytes = refl; left = a }
none_left {text} {at} (suc more) rest a =
    rw (at_line_end text at rest a, eq-eqb at at refl) (record { fine = refl; bytes = refl; left = a })

-- the first run
first_run :
    {text : List ℕ} {at : ℕ} (fuel i : ℕ) (is rest : List ℕ)
    → Bytes (i ∷ is)
    → suc (length is) ≤ 16384
    → At text at (runs_text (suc fuel) (i ∷ is) ++ (10 ∷ rest))
    → RunRead text at i (1 + same_as i is) (runs_text fuel (drop (same_as i is) is) ++ (10 ∷ rest))
unfolding runs_text
first_run {text} {at} fuel i is rest are few a =
    let n = same_as i is in
    let tail = runs_text fuel (drop n is) in
    let byte = are 0 in
    let short = same_within i is in
    let next = runs_next fuel (drop n is) rest (later i n is are) in
    let first : At text at (run_text i (1 + n) ++ (tail ++ (10 ∷ rest))) = rw (append_assoc (run_text i (1 + n)) tail (10 ∷ rest)) at a in
    run_read i (1 + n) (tail ++ (10 ∷ rest)) (omega arith) next (omega arith) (omega arith) first

-- and the others
runs_read :
    {text : List ℕ} {at : ℕ} (fuel more : ℕ) (turns rest : List ℕ)
    → Bytes turns
    → length turns ≤ 16384
    → length turns ≤ fuel
    → length (runs_text fuel turns) ≤ more
    → At text at (runs_text fuel turns ++ (10 ∷ rest))
    → Reads text turns (10 ∷ rest) (turns_from more text at)
unfolding runs_text turns_from
runs_read zero more [] rest are few enough room a = none_left more rest a
runs_read zero more (i ∷ is) rest are few enough room a = absurd (omega arith)
runs_read (suc fuel) more [] rest are few enough room a = none_left more rest a
runs_read (suc fuel) zero (i ∷ is) rest are few enough room a =
    let n = same_as i is in
    absurd (omega (arith, length-append (run_text i (1 + n)) (runs_text fuel (drop n is)), run_long i (1 + n)))
runs_read {text} {at} (suc fuel) (suc more) (i ∷ is) rest are few enough room a =
    let n = same_as i is in
    let short = same_within i is in
    let long = length-drop n is in
    let less = length-append (run_text i (1 + n)) (runs_text fuel (drop n is)) in
    let some = run_long i (1 + n) in
    let r = first_run fuel i is rest are few a in
    let l = runs_read {at = (times_at text (number_at text at 255 17).at).at} fuel more (drop n is) rest (later i n is are) (omega arith) (omega arith) (omega arith) r.often.left in
    let one : 1 + n ≡ suc n = omega arith in
    let all : replicate (1 + n) i ++ drop n is ≡ i ∷ is = rw one (ap (λ (l : List ℕ). i ∷ l) (run_first i is)) in
    rw (r.some, r.fine, r.who, r.often.fine, r.often.value, l.fine, l.bytes) (record { fine = refl; bytes = all; left = l.left })

-- behind turns
pub turns_read :
    {text : List ℕ} {at : ℕ} (turns rest : List ℕ)
    → Bytes turns
    → 1 ≤ length turns
    → length turns ≤ 16384
    → At text at (runs_text (length turns) turns ++ (10 ∷ rest))
    → Reads text (turns_bytes turns) (10 ∷ rest) (turns_line text at)
unfolding turns_line
turns_read [] rest are some few a = absurd (omega arith)
turns_read {text} {at} (i ∷ is) rest are some few a =
    let all = runs_text (suc (length is)) (i ∷ is) in
    let long = length-append all (10 ∷ rest) in
    let r = first_run (length is) i is rest are few a in
    let inside = a.within in
    let l = runs_read (suc (length is)) (length text) (i ∷ is) rest are few (omega arith) (omega arith) a in
    rw (r.fine, l.fine, l.bytes, le-ltb 16384 (suc (length is)) few) (record { fine = refl; bytes = refl; left = l.left })

-- the line of turns, from its first word on
pub turns_shape : (turns rest : List ℕ) → turns_text turns ++ rest ≡ bytes "turns" ++ (runs_text (length turns) turns ++ (10 ∷ rest))
unfolding turns_text bytes
turns_shape turns rest = simp append_assoc
