-- The line of a floor is read as that floor. Assumes nothing.
use Prim.Native.Nat.{ℕ, ◌≤◌}
use mathlib.Core.Bool.{Bool, true, false, cond}
use mathlib.Core.Path.{◌≡◌, refl}
use mathlib.Core.List.{List, [], ◌∷◌, ◌++◌, append_assoc}
use native.Mathlib.Omega.{arith}
use lib.Dec.{eqb}
use Rattle.engine.specs.declared.Plan.{Plan}
use Rattle.pen.specs.Words.{bytes}
use Rattle.pen.specs.Decimal.{decimal}
use Rattle.schedule.specs.Tokens.{span, same}
use Rattle.schedule.specs.Bytes.{floor_bytes}
use Rattle.schedule.specs.Reading.{floor_line}
use Rattle.schedule.specs.Writing.{things, floor_text}
use Rattle.schedule.proofs.Places.{At, is_word}
use Rattle.schedule.proofs.Tokens.{Reads, is_plain, number_found, first_found, either_found}

-- what stands behind floor
abbrev pub floor_tail : Plan → List ℕ → List ℕ
floor_tail p rest =
    32 ∷ (decimal p.workers ++ (32 ∷ (cond (eqb p.workers 1) (bytes "worker") (bytes "workers") ++
    (32 ∷ (decimal p.buckets ++ (32 ∷ (cond (eqb p.buckets 1) (bytes "bucket") (bytes "buckets") ++
    (32 ∷ (bytes "version" ++ (32 ∷ (decimal p.version ++ (10 ∷ rest))))))))))))

-- one word after another
floor_words :
    (t u : Bool) (w b v rest : List ℕ)
    → ((bytes "floor " ++ (w ++ (bytes " worker" ++ cond t [] (bytes "s")))) ++
    ((bytes " " ++ (b ++ (bytes " bucket" ++ cond u [] (bytes "s")))) ++ ((bytes " version " ++ v) ++ bytes "\n"))) ++
    rest
    ≡ bytes "floor" ++
    (32 ∷ (w ++ (32 ∷ (cond t (bytes "worker") (bytes "workers") ++
    (32 ∷ (b ++ (32 ∷ (cond u (bytes "bucket") (bytes "buckets") ++
    (32 ∷ (bytes "version" ++ (32 ∷ (v ++ (10 ∷ rest)))))))))))))
unfolding bytes
floor_words true true w b v rest = simp append_assoc
floor_words true false w b v rest = simp append_assoc
floor_words false true w b v rest = simp append_assoc
floor_words false false w b v rest = simp append_assoc

pub floor_shape : (p : Plan) (rest : List ℕ) → floor_text p ++ rest ≡ bytes "floor" ++ floor_tail p rest
unfolding floor_text things
floor_shape p rest = floor_words (eqb p.workers 1) (eqb p.buckets 1) (decimal p.workers) (decimal p.buckets) (decimal p.version) rest

-- behind floor
pub floor_read :
    {text : List ℕ} {at : ℕ} (p : Plan) (rest : List ℕ)
    → p.workers ≤ 255
    → p.buckets ≤ 65535
    → p.version ≤ 4294967295
    → At text at (floor_tail p rest)
    → Reads text (floor_bytes p) (10 ∷ rest) (floor_line text at)
unfolding floor_line bytes span is_word is_plain same
floor_read p rest few small low a =
    let w = number_found p.workers 255 2 _ a refl few (omega arith) in
    let x = either_found (eqb p.workers 1) (bytes "worker") (bytes "workers") 3 _ w.left refl refl refl refl in
    let b = number_found p.buckets 65535 4 _ x.left refl small (omega arith) in
    let y = either_found (eqb p.buckets 1) (bytes "bucket") (bytes "buckets") 5 _ b.left refl refl refl refl in
    let z = first_found (bytes "version") (bytes "version") 6 _ y.left refl refl in
    let v = number_found p.version 4294967295 7 (10 ∷ rest) z.left refl low (omega arith) in
    rw (w.fine, w.value, x.fine, b.fine, b.value, y.fine, z.fine, v.fine, v.value)
    (record { fine = refl; bytes = refl; left = v.left })
