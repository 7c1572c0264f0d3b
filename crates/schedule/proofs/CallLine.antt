-- The line of a call is read as that call. Assumes nothing.
use Prim.Native.Nat.{ℕ, zero, suc, ◌≤◌}
use mathlib.Core.Bool.{Bool, true, false, cond, ◌&&◌, ◌||◌, and-eq-true_iff}
use mathlib.Core.Path.{◌≡◌, refl}
use mathlib.Core.List.{List, ◌∷◌, ◌++◌, append_assoc}
use native.Mathlib.Omega.{arith}
use lib.Dec.{leb, ltb}
use borrow.Author.Tests.{leb-false, lt-ltb, le-ltb}
use Rattle.pen.specs.Words.{bytes}
use Rattle.schedule.specs.Tokens.{span, same}
use Rattle.schedule.specs.Bytes.{call_bytes}
use Rattle.schedule.specs.Reading.{call_of, lot_line, look_line, ticket_line, long_line, insert_line, verb_at, call_line}
use Rattle.schedule.specs.Writing.{told, ticket_text, verb_text, call_text}
use Rattle.schedule.proofs.Places.{At, is_word}
use Rattle.schedule.proofs.Tokens.{Reads, Found, is_plain, plain_next, number_found, first_found, second_found}

-- ---- what a worker does

module _ {text : List ℕ} {at : ℕ} (rest : List ℕ) (ends : span 2 rest ≡ 0) where
  looks_found : At text at (bytes " looks" ++ rest) → Found text 1 rest (verb_at text at)
  unfolding verb_at bytes is_word is_plain same
  looks_found a = let w = plain_next (bytes "looks") rest a ends refl in rw w.bytes (record { fine = refl; value = refl; left = w.left })

  inserts_found : At text at (bytes " inserts" ++ rest) → Found text 2 rest (verb_at text at)
  unfolding verb_at bytes is_word is_plain same
  inserts_found a = let w = plain_next (bytes "inserts") rest a ends refl in rw w.bytes (record { fine = refl; value = refl; left = w.left })

  removes_found : At text at (bytes " removes" ++ rest) → Found text 3 rest (verb_at text at)
  unfolding verb_at bytes is_word is_plain same
  removes_found a = let w = plain_next (bytes "removes") rest a ends refl in rw w.bytes (record { fine = refl; value = refl; left = w.left })

module _ {text : List ℕ} (worker lot ticket : ℕ) (known : lot ≤ 18446744073709551615) (fits : ticket ≤ 18446744073709551615) (rest : List ℕ) where
  -- ---- a look and a remove

  lot_read :
      (at kind : ℕ)
      → At text at (told (bytes " lot ") lot ++ (10 ∷ rest))
      → Reads text (call_bytes (call_of worker kind lot 0) false) (10 ∷ rest) (lot_line text worker kind at)
  unfolding lot_line bytes span is_word is_plain same
  lot_read at kind a =
      let k = first_found (bytes "lot") (bytes "lot") 13 _ a refl refl in
      let n = number_found lot 18446744073709551615 14 (10 ∷ rest) k.left refl known (omega arith) in
      rw (k.fine, n.fine, n.value) (record { fine = refl; bytes = refl; left = n.left })

  look_read :
      (at : ℕ)
      → At text at (told (bytes " for lot ") lot ++ (10 ∷ rest))
      → Reads text (call_bytes (call_of worker 1 lot 0) false) (10 ∷ rest) (look_line text worker at)
  unfolding look_line bytes span is_word is_plain same
  look_read at a = let k = first_found (bytes "for") (bytes "for") 12 _ a refl refl in rw k.fine (lot_read _ 1 k.left)

  -- ---- an insert

  ticket_read :
      (at : ℕ) (long : Bool)
      → At text at (told (bytes " ") ticket ++ (10 ∷ rest))
      → Reads text (call_bytes (call_of worker 2 lot ticket) (long || ltb 4294967295 ticket)) (10 ∷ rest) (ticket_line text worker lot long at)
  unfolding ticket_line bytes span
  ticket_read at long a =
      let n = number_found ticket 18446744073709551615 16 (10 ∷ rest) a refl fits (omega arith) in
      rw (n.fine, n.value) (record { fine = refl; bytes = refl; left = n.left })

  long_read :
      (at : ℕ)
      → At text at (told (bytes " ticket ") ticket ++ (10 ∷ rest))
      → Reads text (call_bytes (call_of worker 2 lot ticket) true) (10 ∷ rest) (long_line text worker lot at)
  unfolding long_line bytes span is_word is_plain same
  long_read at a = let k = first_found (bytes "ticket") (bytes "ticket") 15 _ a refl refl in rw k.fine (ticket_read _ true k.left)

  insert_read :
      (at : ℕ) (long : Bool)
      → (long ≡ false → ticket ≤ 4294967295)
      → (t : Bool)
      → (long && leb ticket 4294967295) ≡ t
      → At text at
      (told (bytes " lot ") lot ++
      (cond t (told (bytes " long ticket ") ticket) (told (bytes " ticket ") ticket) ++ (10 ∷ rest)))
      → Reads text (call_bytes (call_of worker 2 lot ticket) long) (10 ∷ rest) (insert_line text worker at)
  unfolding insert_line bytes span is_word is_plain same
  insert_read at long short true is a =
      let k = first_found (bytes "lot") (bytes "lot") 13 _ a refl refl in
      let n = number_found lot 18446744073709551615 14 _ k.left refl known (omega arith) in
      let e = second_found (bytes "ticket") (bytes "long") 15 _ n.left refl refl refl in
      rw (k.fine, n.fine, n.value, e.fine, e.value, ((and-eq-true_iff long (leb ticket 4294967295)).0 is).0) (long_read _ e.left)
  insert_read at long short false is a =
      let k = first_found (bytes "lot") (bytes "lot") 13 _ a refl refl in
      let n = number_found lot 18446744073709551615 14 _ k.left refl known (omega arith) in
      let e = first_found (bytes "ticket") (bytes "long") 15 _ n.left refl refl in
      rw (k.fine, n.fine, n.value, e.fine, e.value, ← wide long short is) (ticket_read _ false e.left)
    where
      wide : (long : Bool) → (long ≡ false → ticket ≤ 4294967295) → (long && leb ticket 4294967295) ≡ false → ltb 4294967295 ticket ≡ long
      wide true short is = lt-ltb 4294967295 ticket (leb-false ticket 4294967295 is)
      wide false short is = le-ltb 4294967295 ticket (short refl)

  -- ---- a call, by its kind

  pub call_read :
      (at kind : ℕ) (long : Bool)
      → 1 ≤ kind
      → kind ≤ 3
      → (long ≡ false → ticket ≤ 4294967295)
      → worker ≤ 255
      → At text at (told (bytes " ") worker ++ (verb_text (call_of worker kind lot ticket) long ++ (10 ∷ rest)))
      → Reads text (call_bytes (call_of worker kind lot ticket) long) (10 ∷ rest) (call_line text at)
  unfolding call_line verb_text ticket_text bytes span
  call_read at zero long low high short few a = absurd (omega arith)
  call_read at (suc zero) long low high short few a =
      let n = number_found worker 255 10 _ a refl few (omega arith) in
      let v = looks_found _ refl n.left in
      rw (n.fine, n.value, v.fine, v.value) (look_read _ v.left)
  call_read at (suc (suc zero)) long low high short few a =
      let apart = append_assoc (told (bytes " inserts lot ") lot) (ticket_text (call_of worker 2 lot ticket) long) (10 ∷ rest) in
      let b = rw apart at a in
      let n = number_found worker 255 10 _ b refl few (omega arith) in
      let v = inserts_found _ refl n.left in
      rw (n.fine, n.value, v.fine, v.value) (insert_read _ long short (long && leb ticket 4294967295) refl v.left)
  call_read at (suc (suc (suc zero))) long low high short few a =
      let n = number_found worker 255 10 _ a refl few (omega arith) in
      let v = removes_found _ refl n.left in
      rw (n.fine, n.value, v.fine, v.value) (lot_read _ 3 v.left)
  call_read at (suc (suc (suc (suc kind)))) long low high short few a = absurd (omega arith)

-- the line of a call, from its first word on
pub call_shape :
    (worker kind lot ticket : ℕ) (long : Bool) (rest : List ℕ)
    → call_text (call_of worker kind lot ticket) long ++ rest
    ≡ bytes "worker" ++ (told (bytes " ") worker ++ (verb_text (call_of worker kind lot ticket) long ++ (10 ∷ rest)))
unfolding call_text bytes
call_shape worker kind lot ticket long rest = simp append_assoc
