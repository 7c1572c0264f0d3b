-- How long the text of a sheet gets: no more than four bytes for each of the sheet, and 64. Assumes nothing.
use Prim.Native.Nat.{ℕ, zero, suc, ◌+◌, ◌*◌, ◌-◌, ◌≤◌, ◌<◌}
use mathlib.Core.Bool.{Bool, true, false, cond, ◌&&◌}
use mathlib.Core.Path.{◌≡◌, refl, ap, subst}
use mathlib.Core.List.{List, [], ◌∷◌, ◌++◌}
use native.Mathlib.Omega.{arith}
use lib.Dec.{eqb, leb, ltb}
use lib.ListN.{length, drop, length-append, length-drop}
use borrow.Author.Tests.{eqb-true, eqb-false, ltb-true, ltb-false, eq-eqb, ne_eqb}
use Rattle.mark.proofs.Choices.{by_cases}
use Rattle.pen.specs.Words.{bytes}
use Rattle.pen.specs.Decimal.{decimal}
use Rattle.pen.proofs.Decimal.{decimal_long, decimal_short}
use Rattle.engine.specs.declared.Plan.{Plan}
use Rattle.sheet.specs.declared.Call.{Call}
use Rattle.sheet.specs.Fields.{Read, Whole, Refused, byte_at, Bytes, plan_at, call_at, span_at, read_field}
use Rattle.sheet.specs.Play.{turns_in}
use Rattle.sheet.proofs.Fielding.{Reading, opening_read, calling_read, turning_read, not_read, reading, whole_next}
use Rattle.sheet.proofs.Fitting.{CallFits, fits_short, fits_four, fits_eight}
use Rattle.schedule.specs.Writing.{told, things, floor_text, ticket_text, verb_text, call_text, same_as, run_text, runs_text, turns_text}
use Rattle.schedule.specs.Writing.{Text, field_text, read_text, text_from, text_of}
use Rattle.schedule.proofs.Runs.{same_within}
use Rattle.schedule.proofs.FieldAt.{ticket_small, turns_long, turns_byte}
use Rattle.schedule.proofs.TurnsLine.{later}

-- ---- turns

-- a run takes no more than four bytes for each turn
run_width : (i times : ℕ) → i < 256 → 1 ≤ times → length (run_text i times) ≤ 4 * times
unfolding run_text bytes
run_width i times byte some =
    let worker = decimal_long 3 i (omega arith) (omega arith) in
    by_cases (λ (l : List ℕ). suc (length (decimal i ++ l)) ≤ 4 * times) (eqb times 1) _ _
    (λ one. let is = eqb-true times 1 one in simp length-append (omega arith))
    (λ isnot.
    let other = eqb-false times 1 isnot in
    let any = decimal_short times in
    by_cases (λ (b : Bool). suc (length (decimal i ++ told (bytes " x") times)) ≤ 4 * times) (ltb times 10) true true
    (λ few. let one = decimal_long 1 times (omega arith) (omega (arith, ltb-true times 10 few)) in simp length-append (omega arith))
    (λ many. let more = ltb-false times 10 many in simp length-append (omega arith)))

runs_width : (more : ℕ) (turns : List ℕ) → Bytes turns → length (runs_text more turns) ≤ 4 * length turns
unfolding runs_text
runs_width zero turns small = omega arith
runs_width (suc more) [] small = omega arith
runs_width (suc more) (i ∷ is) small =
    let same = same_as i is in
    let few = same_within i is in
    let run = run_width i (1 + same) (small 0) (omega arith) in
    let others = runs_width more (drop same is) (later i same is small) in
    let left = length-drop same is in
    simp length-append (omega arith)

turns_width : (turns : List ℕ) → Bytes turns → length (turns_text turns) ≤ 4 * length turns + 6
unfolding turns_text bytes
turns_width turns small = let runs = runs_width (length turns) turns small in simp length-append (omega arith)

-- ---- a floor

things_width : (n : ℕ) (name : List ℕ) → length (things n name) ≤ 21 + length name
unfolding things bytes
things_width n name =
    let any = decimal_short n in
    by_cases (λ (l : List ℕ). length (decimal n ++ (name ++ l)) ≤ 21 + length name) (eqb n 1) _ _
    (λ one. simp length-append (omega arith)) (λ isnot. simp length-append (omega arith))

floor_width : (p : Plan) → length (floor_text p) ≤ 104
unfolding floor_text bytes
floor_width p =
    let workers = things_width p.workers (bytes " worker") in
    let buckets = things_width p.buckets (bytes " bucket") in
    let version = decimal_short p.version in
    simp length-append (omega arith)

-- ---- a call

ticket_width : (c : Call) (long : Bool) → length (ticket_text c long) ≤ 33
unfolding ticket_text bytes
ticket_width c long =
    let any = decimal_short c.ticket in
    by_cases (λ (l : List ℕ). length l ≤ 33) (long && leb c.ticket 4294967295) _ _ (λ is. omega arith) (λ isnot. omega arith)

-- one of four bytes
ticket_four : (c : Call) → c.ticket ≤ 4294967295 → length (ticket_text c false) ≤ 18
unfolding ticket_text bytes
ticket_four c small = let ten = decimal_long 10 c.ticket (omega arith) (omega arith) in omega arith

verb_width : (c : Call) (long : Bool) → length (verb_text c long) ≤ 35 + cond (eqb c.kind 2) (length (ticket_text c long)) 0
unfolding verb_text bytes
verb_width c long =
    let any = decimal_short c.lot in
    by_cases (λ (l : List ℕ). length l ≤ 35 + cond (eqb c.kind 2) (length (ticket_text c long)) 0) (eqb c.kind 1) _ _
    (λ look. omega arith)
    (λ other.
    by_cases (λ (l : List ℕ). length l ≤ 35 + cond (eqb c.kind 2) (length (ticket_text c long)) 0) (eqb c.kind 2) _ _
    (λ insert. rw insert (simp length-append (omega arith))) (λ remove. omega arith))

call_width :
    (c : Call) (long : Bool) → c.worker < 256 → length (call_text c long) ≤ 46 + cond (eqb c.kind 2) (length (ticket_text c long)) 0
unfolding call_text bytes
call_width c long byte =
    let worker = decimal_long 3 c.worker (omega arith) (omega arith) in
    let verb = verb_width c long in
    simp length-append (omega arith)

-- ---- a field

-- what the first field may have beyond four bytes for each of its own
abbrev spare : ℕ → ℕ
spare zero = 64
spare (suc at) = 0

spare_later : (at : ℕ) → 1 ≤ at → spare at ≡ 0
spare_later zero some = absurd (omega arith)
spare_later (suc at) some = refl

module _ (sheet : List ℕ) (small : Bytes sheet) where
  -- a call's line, by the length of its value
  calling_width :
      (at long : ℕ)
      → CallFits (byte_at sheet (at + 4)) long
      → length (call_text (call_at sheet at long) (eqb (at + 3 + long - at) 21)) + 4 * at ≤ 4 * (at + 3 + long)
  calling_width at long (fits_short is other) =
      let whole = call_width (call_at sheet at long) (eqb (at + 3 + long - at) 21) (small (at + 3)) in
      omega (arith, rw (ne_eqb (byte_at sheet (at + 4)) 2 other) at whole)
  calling_width at long (fits_four insert is) =
      let c = call_at sheet at long in
      let short = ne_eqb (at + 3 + long - at) 21 (omega arith) in
      let whole = call_width c false (small (at + 3)) in
      let ticket = ticket_four c ((ticket_small sheet small at long (fits_four insert is)).1 short) in
      rw short (omega (arith, rw (eq-eqb (byte_at sheet (at + 4)) 2 insert) at whole))
  calling_width at long (fits_eight insert is) =
      let c = call_at sheet at long in
      let whole = call_width c (eqb (at + 3 + long - at) 21) (small (at + 3)) in
      let ticket = ticket_width c (eqb (at + 3 + long - at) 21) in
      omega (arith, rw (eq-eqb (byte_at sheet (at + 4)) 2 insert) at whole)

  -- the line of turns
  turning_width :
      (at long : ℕ) → at + 3 + long ≤ length sheet → length (turns_text (turns_in sheet (span_at at long))) + 4 * at ≤ 4 * (at + 3 + long)
  turning_width at long fits =
      let turns = turns_in sheet (span_at at long) in
      let line = turns_width turns (turns_byte sheet small at long) in
      let count = turns_long sheet small at long fits in
      omega arith

  -- a line takes no more than four bytes for each of its field, and the first what is spared
  abbrev Narrow : ℕ → Read → Type 0
  Narrow at (Whole f next) = length (field_text sheet at f next) + 4 * at ≤ 4 * next + spare at
  Narrow at (Refused place) = 0 ≤ at

  narrow : (at : ℕ) {r : Read} → Reading sheet at r → Narrow at r
  narrow at (opening_read long first seven fits) =
      let line = floor_width (plan_at sheet at) in
      let first_spare : spare at ≡ 64 = ap spare first in
      omega arith
  narrow at (calling_read long later right fits) = omega (arith, calling_width at long right)
  narrow at (turning_read long later some fits) = omega (arith, turning_width at long fits)
  narrow at not_read = omega arith

  -- a field, and what comes after it
  read_width :
      (rest : ℕ → Text)
      → ((next : ℕ) → next ≤ length sheet → length (rest next).lines + 4 * next ≤ 4 * length sheet + spare next)
      → (at : ℕ) (r : Read)
      → at ≤ length sheet
      → read_field sheet at ≡ r
      → length (read_text rest sheet at r).lines + 4 * at ≤ 4 * length sheet + spare at
  read_width rest others at (Refused place) inside is = omega arith
  read_width rest others at (Whole f next) inside is =
      let n = whole_next sheet at f next is in
      let line = subst (Narrow at) is (narrow at (reading sheet at)) in
      by_cases (λ (t : Text). length (field_text sheet at f next ++ t.lines) + 4 * at ≤ 4 * length sheet + spare at) (eqb next (length sheet)) _ _
      (λ over. simp length-append (omega arith))
      (λ more.
      let none = spare_later next (omega arith) in
      let after = others next n.1 in
      simp length-append (omega arith))

  text_width : (more at : ℕ) → at ≤ length sheet → length (text_from more sheet at).lines + 4 * at ≤ 4 * length sheet + spare at
  unfolding text_from
  text_width zero at inside = omega arith
  text_width (suc more) at inside = read_width (text_from more sheet) (text_width more) at (read_field sheet at) inside refl

  -- THE TEXT OF A SHEET FITS
  pub text_fits : length (text_of sheet).lines ≤ 4 * length sheet + 64
  unfolding text_of
  text_fits = omega (arith, text_width (suc (length sheet)) 0 (omega arith))
