-- What was put into a buffer as far as there is room: nothing, one byte, and one thing after another. Assumes nothing.
use Prim.Native.Nat.{ℕ, zero, suc, ◌+◌, ◌-◌, ◌<◌, ◌≤◌}
use mathlib.Core.Path.{◌≡◌, refl, sym, ap, subst, ◌∙◌}
use mathlib.Core.List.{List, [], ◌∷◌, ◌++◌}
use native.Mathlib.Omega.{arith}
use lib.ListN.{length, take, set, length-append, length-take, length-drop}
use lib.Seq.{take_all, take-nil}
use Rattle.pen.specs.Written.{wrote, Wrote, room_for, Puts, Writes, written}
use Rattle.pen.specs.declared.Pen.{Pen}
use Rattle.pen.proofs.Writing.{wrote_byte, wrote_none, wrote_then}

-- what is put fits
room_fits : (out : List ℕ) (at : ℕ) (l : List ℕ) → length (room_for out at l) ≤ length out - at
room_fits out at l = rw length-take (omega arith)

-- the buffer keeps its length
wrote_length : (out : List ℕ) (at : ℕ) (l : List ℕ) → length l ≤ length out - at → length (wrote out at l) ≡ length out
unfolding wrote
wrote_length out at l h = simp (length-append, length-take, length-drop) (omega arith)

-- a part of two lists, one after the other
take_both : (k : ℕ) (l m : List ℕ) → take k (l ++ m) ≡ take k l ++ take (k - length (take k l)) m
take_both zero l m = refl
take_both (suc k) [] m = let all : suc k ≡ suc k - 0 = omega arith in ap (λ (n : ℕ). take n m) all
take_both (suc k) (x ∷ l) m =
    let less : suc k - suc (length (take k l)) ≡ k - length (take k l) = omega arith in
    rw less (ap (λ (r : List ℕ). x ∷ r) (take_both k l m))

-- what is put of two lists is put of one and then of the other
room_then :
    (out : List ℕ) (at : ℕ) (l m mid : List ℕ) (next : ℕ)
    → Wrote out at (room_for out at l) mid next
    → room_for out at l ++ room_for mid next m ≡ room_for out at (l ++ m)
room_then out at l m mid next a =
    let long : length mid ≡ length out = ap length a.buffer ∙ wrote_length out at (room_for out at l) (room_fits out at l) in
    let left : length mid - next ≡ length out - at - length (room_for out at l) = omega (arith, long, a.place) in
    rw left (sym (take_both (length out - at) l m))

-- one thing put after another is both of them put
pub puts_then :
    {out : List ℕ} {at : ℕ} {l mid : List ℕ} {next : ℕ} {m later : List ℕ} {last : ℕ}
    → Puts out at l mid next
    → Puts mid next m later last
    → Puts out at (l ++ m) later last
puts_then {out} {at} {l} {mid} {next} {m} {later} {last} a b =
    record {
      part =
          subst
          (λ (bytes : List ℕ). Wrote out at bytes later last)
          (room_then out at l m mid next a.part) (wrote_then a.part b.part);
    }

-- nothing put, at whatever place
pub puts_none : (out : List ℕ) (at : ℕ) → Puts out at [] out at
puts_none out at =
    record { part = subst (λ (bytes : List ℕ). Wrote out at bytes out at) (sym (take-nil (length out - at))) (wrote_none out at) }

-- a byte for which there is room
pub puts_byte : (out : List ℕ) (at b : ℕ) → at < length out → Puts out at (b ∷ []) (set out at b) (at + 1)
puts_byte out at b h =
    let all : room_for out at (b ∷ []) ≡ b ∷ [] = take_all (length out - at) (b ∷ []) (omega arith) in
    record {
      part =
          subst
          (λ (bytes : List ℕ). Wrote out at bytes (set out at b) (at + 1))
          (sym all) (record { buffer = wrote_byte out at b h; place = refl });
    }

-- bytes for which there is none
pub puts_beyond : (out : List ℕ) (at : ℕ) (l : List ℕ) → length out ≤ at → Puts out at l out at
puts_beyond out at l h =
    let none : length out - at ≡ 0 = omega arith in
    record { part = rw none (wrote_none out at) }

-- the buffer keeps its length
pub puts_length : {out : List ℕ} {at : ℕ} {l later : List ℕ} {next : ℕ} → Puts out at l later next → length later ≡ length out
puts_length {out} {at} {l} a = ap length a.part.buffer ∙ wrote_length out at (room_for out at l) (room_fits out at l)

-- where there is room for all of it, all of it was written
pub puts_all :
    {out : List ℕ} {at : ℕ} {l later : List ℕ} {next : ℕ}
    → Puts out at l later next
    → at + length l ≤ length out
    → Wrote out at l later next
puts_all {out} {at} {l} {later} {next} a h =
    subst (λ (bytes : List ℕ). Wrote out at bytes later next) (take_all (length out - at) l (omega arith)) a.part

-- what a pen has put
written_puts : (a : Pen) (s : List ℕ) → Puts a.out.now a.at s (written a s).out.now (written a s).at
unfolding written
written_puts a s = record { part = record { buffer = refl; place = refl } }

pub writes_puts : {a b : Pen} {s : List ℕ} → Writes a s b → Puts a.out.now a.at s b.out.now b.at
writes_puts {a} {b} {s} p = rw p.leaves (written_puts a s)

-- and the other way, in the same buffer
pub puts_writes :
    {a b : Pen} {s : List ℕ}
    → a.out.ref_ptr ≡ b.out.ref_ptr
    → a.out.ghost_name ≡ b.out.ghost_name
    → Puts a.out.now a.at s b.out.now b.at
    → Writes a s b
unfolding written
puts_writes p g h =
    record {
      leaves = λ i. record { out = record { ref_ptr = sym p i; ghost_name = sym g i; now = h.part.buffer i }; at = h.part.place i };
    }

-- one thing after another
pub written_then : (a : Pen) (s t : List ℕ) → written a (s ++ t) ≡ written (written a s) t
unfolding written
written_then a s t =
    let both : Writes a (s ++ t) (written (written a s) t) = puts_writes refl refl (puts_then (written_puts a s) (written_puts (written a s) t)) in
    sym both.leaves

-- the same of what was written
pub writes_then : {a b c : Pen} {s t : List ℕ} → Writes a s b → Writes b t c → Writes a (s ++ t) c
writes_then {a} {b} {c} {s} {t} p q = record { leaves = q.leaves ∙ ap (λ (d : Pen). written d t) p.leaves ∙ sym (written_then a s t) }

-- nothing written
pub writes_none : (a : Pen) → Writes a [] a
writes_none a = puts_writes refl refl (puts_none a.out.now a.at)

pub written_none : (a : Pen) → written a [] ≡ a
written_none a = let none = writes_none a in sym none.leaves

-- one byte after another
pub written_cons : (a : Pen) (x : ℕ) (s : List ℕ) → written a (x ∷ s) ≡ written (written a (x ∷ [])) s
written_cons a x s = written_then a (x ∷ []) s

-- the same buffer
pub written_same : (a : Pen) (s : List ℕ) → (written a s).out.ghost_name ≡ a.out.ghost_name
unfolding written
written_same a s = refl

-- what a function that writes one thing after another needs
pub ruleset pens = (written_then, written_cons, written_none, written_same)
