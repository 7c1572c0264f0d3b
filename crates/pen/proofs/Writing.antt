-- What was written to a buffer: nothing, one byte, and one thing after another. Assumes nothing.
use Prim.Native.Nat.{ℕ, ◌+◌, ◌<◌, ◌≤◌}
use mathlib.Core.Path.{◌≡◌, refl, sym, ap, ◌∙◌}
use mathlib.Core.Bool.{Bool, true, false}
use mathlib.Core.List.{List, [], ◌∷◌, ◌++◌, append-nil, append_assoc}
use native.Mathlib.Nat.{add-zero, add_assoc}
use native.Mathlib.Numerals.{add-one}
use native.Mathlib.Omega.{arith}
use lib.Dec.{leb}
use borrow.Author.Tests.{leb-true, leb-false}
use lib.ListN.{length, take, drop, set, take-append-drop, length-append, drop_of_length-le}
use lib.Seq.{set_split, length-take-le, take_all, take_at, drop-drop, drop_at}
use Rattle.pen.specs.Written.{wrote, Wrote}

-- nothing written leaves the buffer as it was
wrote_nothing : (out : List ℕ) (at : ℕ) → wrote out at [] ≡ out
unfolding wrote
wrote_nothing out at = rw add-zero (take-append-drop at out)

-- a byte stored is that byte written
pub wrote_byte : (out : List ℕ) (at b : ℕ) → at < length out → set out at b ≡ wrote out at (b ∷ [])
unfolding wrote
wrote_byte out at b h = rw add-one (set_split out at b h)

-- what stands after a write that begins where a part ends
seam : (h d m : List ℕ) (n : ℕ) → length h ≡ n → take n (h ++ d) ++ (m ++ drop (n + length m) (h ++ d)) ≡ h ++ (m ++ drop (length m) d)
seam h d m n e = rw (take_at h d n e, ← drop-drop (length m) n (h ++ d), drop_at h d n e)

module _ (out : List ℕ) (at : ℕ) (l m : List ℕ) where
  abbrev joins : Type 0
  joins = wrote (wrote out at l) (at + length l) m ≡ wrote out at (l ++ m)

  within : at ≤ length out → joins
  unfolding wrote
  within h =
      let long : length (take at out ++ l) ≡ at + length l = rw (length-append, length-take-le at out h) in
      rw (← append_assoc (take at out) l (drop (at + length l) out))
      (seam (take at out ++ l) (drop (at + length l) out) m (at + length l) long
      ∙ simp (append_assoc, drop-drop, length-append, add_assoc))

  beyond : length out < at → joins
  unfolding wrote
  beyond h =
      let long : length (out ++ l) ≤ at + length l = rw length-append (omega arith) in
      rw (take_all at out (omega arith), drop_of_length-le out {i = at + length l} (omega arith), append-nil l)
      (rw (take_all (at + length l) (out ++ l) long, drop_of_length-le (out ++ l) {i = at + length l + length m} (omega arith))
      (rw (drop_of_length-le out {i = at + length (l ++ m)} (omega arith)) (simp (append-nil, append_assoc))))

  joined : (fits : Bool) → leb at (length out) ≡ fits → joins
  joined true e = within (leb-true at (length out) e)
  joined false e = beyond (leb-false at (length out) e)

-- one thing written after another is both of them written
pub wrote_then :
    {out : List ℕ} {at : ℕ} {l mid : List ℕ} {next : ℕ} {m later : List ℕ} {last : ℕ}
    → Wrote out at l mid next
    → Wrote mid next m later last
    → Wrote out at (l ++ m) later last
wrote_then {out} {at} {l} {mid} {next} {m} a b =
    record {
      buffer = rw (b.buffer, a.place, a.buffer) (joined out at l m (leb at (length out)) refl);
      place = rw (b.place, a.place) (simp length-append (omega arith));
    }

-- nothing written, at whatever place
pub wrote_none : (out : List ℕ) (at : ℕ) → Wrote out at [] out at
wrote_none out at = record { buffer = sym (wrote_nothing out at); place = omega arith }

-- what was written from the start on stands in the buffer
pub wrote_within : (out bytes later : List ℕ) (next : ℕ) → Wrote out 0 bytes later next → next ≤ length later
unfolding wrote
wrote_within out bytes later next w =
    let all = ap length w.buffer ∙ length-append bytes (drop (0 + length bytes) out) in
    omega (arith, w.place, all)
