-- The line of a field is read as the bytes of that field. Assumes nothing.
use Prim.Native.Nat.{ℕ, ◌+◌, ◌-◌, ◌≤◌}
use mathlib.Core.Bool.{Bool, true, false}
use mathlib.Core.Path.{◌≡◌, refl, sym, subst}
use mathlib.Core.List.{List, ◌∷◌, ◌++◌}
use native.Mathlib.Omega.{arith}
use lib.Dec.{eqb}
use lib.ListN.{length}
use borrow.Author.Tests.{eq-eqb, ne_eqb}
use Rattle.engine.specs.declared.Plan.{Plan}
use Rattle.sheet.specs.Fields.{Read, Whole, Refused, byte_at, number_at, length_at, plan_at, call_at, span_at, Bytes}
use Rattle.sheet.specs.Play.{turns_in}
use Rattle.sheet.proofs.Fitting.{call_fits_lem}
use Rattle.pen.specs.Words.{bytes}
use Rattle.schedule.specs.declared.Word.{Word}
use Rattle.schedule.specs.Tokens.{span, same, word_at}
use Rattle.schedule.specs.Bytes.{floor_bytes, call_bytes, turns_bytes}
use Rattle.schedule.specs.Reading.{call_of, line_by, whole_line}
use Rattle.schedule.specs.Writing.{floor_text, call_text, turns_text, field_text, runs_text}
use Rattle.schedule.proofs.Places.{At, is_word, word_here}
use Rattle.schedule.proofs.Tokens.{Reads, line_end_found}
use Rattle.schedule.proofs.FloorLine.{floor_tail, floor_shape, floor_read}
use Rattle.schedule.proofs.CallLine.{call_shape, call_read}
use Rattle.schedule.proofs.TurnsLine.{turns_shape, turns_read, runs_ends}
use Rattle.sheet.proofs.HighFirst.{number_small}
use Rattle.schedule.proofs.FieldBytes.{part}
use Rattle.schedule.proofs.FieldAt.{Way, floor_way, call_way, turns_way, no_way, kind_known, floor_bytes_lem, call_bytes_lem, ticket_small, turns_bytes_lem, turns_long, turns_byte}

-- a line that was read: a word is there, and the line comes to these bytes
pub record LineRead (text : List ℕ) (at : ℕ) (first : Bool) (made rest : List ℕ) : Type 0 where
  pub some : eqb (word_at text at).start (word_at text at).end ≡ false
  pub reads : Reads text made (10 ∷ rest) (whole_line first text (word_at text at))

-- to its end
to_end :
    (text : List ℕ) (first : Bool) (made rest : List ℕ) (w : Word)
    → Reads text made (10 ∷ rest) (line_by first text w)
    → Reads text made (10 ∷ rest) (whole_line first text w)
to_end text first made rest w l =
    let e = line_end_found text (line_by first text w).at rest 8 l.left in
    rw (l.fine, e.fine) (record { fine = refl; bytes = l.bytes; left = e.left })

-- ---- each kind of line

floor_line_lem :
    {text : List ℕ} {at : ℕ} (p : Plan) (rest : List ℕ)
    → p.workers ≤ 255
    → p.buckets ≤ 65535
    → p.version ≤ 4294967295
    → At text at (floor_text p ++ rest)
    → LineRead text at true (floor_bytes p) rest
unfolding line_by bytes span is_word same
floor_line_lem {text} {at} p rest few small low a =
    let w = word_here (bytes "floor") (floor_tail p rest) refl (omega arith) refl (rw (floor_shape p rest) at a) in
    let l = floor_read p rest few small low w.left in
    record { some = w.some; reads = to_end text true (floor_bytes p) rest (word_at text at) (rw w.bytes l) }

call_line :
    {text : List ℕ} {at : ℕ} (worker kind lot ticket : ℕ) (long : Bool) (rest : List ℕ)
    → worker ≤ 255
    → 1 ≤ kind
    → kind ≤ 3
    → lot ≤ 18446744073709551615
    → ticket ≤ 18446744073709551615
    → (long ≡ false → ticket ≤ 4294967295)
    → At text at (call_text (call_of worker kind lot ticket) long ++ rest)
    → LineRead text at false (call_bytes (call_of worker kind lot ticket) long) rest
unfolding line_by bytes span is_word same
call_line {text} {at} worker kind lot ticket long rest few low high known fits short a =
    let w = word_here (bytes "worker") _ refl (omega arith) refl (rw (call_shape worker kind lot ticket long rest) at a) in
    let l = call_read worker lot ticket known fits rest _ kind long low high short few w.left in
    record { some = w.some; reads = to_end text false _ rest (word_at text at) (rw w.bytes l) }

turns_line_lem :
    {text : List ℕ} {at : ℕ} (turns rest : List ℕ)
    → Bytes turns
    → 1 ≤ length turns
    → length turns ≤ 16384
    → At text at (turns_text turns ++ rest)
    → LineRead text at false (turns_bytes turns) rest
unfolding line_by bytes span is_word same
turns_line_lem {text} {at} turns rest are some few a =
    let shape = rw (turns_shape turns rest) at a in
    let w = word_here (bytes "turns") (runs_text (length turns) turns ++ (10 ∷ rest)) refl (omega arith) (runs_ends turns rest are) shape in
    let l = turns_read turns rest are some few w.left in
    record { some = w.some; reads = to_end text false (turns_bytes turns) rest (word_at text at) (rw w.bytes l) }

-- ---- the line of a field

-- what a reading at a place comes to, as a line
abbrev pub ReadBack : List ℕ → ℕ → Read → Type 0
ReadBack sheet at (Refused place) = Unit
ReadBack sheet at (Whole f next) =
    (text : List ℕ) (q : ℕ) (rest : List ℕ)
    → At text q (field_text sheet at f next ++ rest)
    → LineRead text q (eqb at 0) (part sheet at (next - at)) rest

module _ (sheet : List ℕ) (are : Bytes sheet) (short : length sheet ≤ 16384) (at : ℕ) where
  -- a line is read as it was written
  pub read_back : {r : Read} → Way sheet at r → ReadBack sheet at r
  read_back (floor_way first tag says fits) =
      let long : at + 3 + length_at sheet at - at ≡ 3 + 7 = omega arith in
      let workers = are (at + 3) in
      let buckets = number_small sheet are (at + 4) 2 in
      let version = number_small sheet are (at + 6) 4 in
      λ text q rest a.
      rw (eq-eqb at 0 first, long, ← floor_bytes_lem sheet are at tag says (omega arith))
      (floor_line_lem (plan_at sheet at) rest (omega arith) (omega arith) (omega arith) a)
  read_back (call_way later tag right fits) =
      let size = length_at sheet at in
      let long : at + 3 + size - at ≡ 3 + size = omega arith in
      let kind = kind_known (byte_at sheet (at + 4)) size right in
      let fit = call_fits_lem (byte_at sheet (at + 4)) size right in
      let ticket = ticket_small sheet are at size fit in
      let worker = are (at + 3) in
      let lot = number_small sheet are (at + 5) 8 in
      let made = call_bytes_lem sheet are at tag size refl fits fit in
      λ text q rest a.
      subst (λ (n : ℕ). LineRead text q (eqb at 0) (part sheet at n) rest) (sym long)
      (rw (ne_eqb at 0 (omega arith), ← made)
      (call_line (byte_at sheet (at + 3)) (byte_at sheet (at + 4)) (number_at sheet (at + 5) 8) (call_at sheet at size).ticket
      (eqb (at + 3 + size - at) 21) rest (omega arith) kind.0 kind.1 (omega arith) ticket.0 ticket.1 a))
  read_back (turns_way later tag some fits) =
      let size = length_at sheet at in
      let long : at + 3 + size - at ≡ 3 + size = omega arith in
      let all = turns_long sheet are at size fits in
      λ text q rest a.
      let line = turns_line_lem (turns_in sheet (span_at at size)) rest (turns_byte sheet are at size) (omega arith) (omega arith) a in
      rw (ne_eqb at 0 (omega arith), long, ← turns_bytes_lem sheet are at size tag refl fits) line
  read_back no_way = tt
