-- The lines of a board one by one (§22.1): each valid slot's and no other, those of each new bucket, and that no two have the same lot.
-- Assumes nothing.
use Prim.Native.Nat.{ℕ, zero, suc, ◌<◌}
use mathlib.Core.Logic.{◌⊎◌, inl, inr}
use mathlib.Core.Path.{◌≡◌, refl, sym, ap, subst, ◌∙◌}
use mathlib.Core.List.{List, [], ◌∷◌, ◌++◌}
use native.Mathlib.Decide.{ℕ_discrete}
use native.Mathlib.Omega.{arith}
use lib.Dec.{eqb}
use lib.ListN.{length, get_or}
use borrow.Author.Tests.{eq-eqb, ne_eqb, eqb-true}
use Rattle.mark.specs.Word.{mark_of}
use Rattle.mark.proofs.Choices.{by_cases}
use Rattle.mark.proofs.Slots.{slots, mark_past}
use Rattle.turn.specs.Bucket.{cell, mark_cell, key_cell}
use Rattle.engine.specs.Board.{bucket_of, bucket_at}
use Rattle.engine.specs.Move.{Line, line_at, line_in, lines_in, lines_on, lines_for}

-- ---- one of some lines

-- no line, past the end of some
abbrev pub no_line : Line
no_line = record { lot = 0; ticket = 0 }

-- a line is one of these
abbrev pub Among : Line → List Line → Type 0
Among l [] = ⊥
Among l (m ∷ ms) = (m ≡ l) ⊎ Among l ms

-- the p-th of them is
pub among_at : (ls : List Line) (p : ℕ) → p < length ls → Among (get_or ls p no_line) ls
among_at [] p under = absurd (omega arith)
among_at (l ∷ ls) zero under = inl refl
among_at (l ∷ ls) (suc p) under = inr (among_at ls p (omega arith))

-- the place of a line among them
pub record PlaceOf (l : Line) (ls : List Line) : Type 0 where
  pub at : ℕ
  pub under : at < length ls
  pub is : get_or ls at no_line ≡ l

pub place_of : (l : Line) (ls : List Line) → Among l ls → PlaceOf l ls
place_of l [] none = elim none [ ]
place_of l (m ∷ ms) (inl is) = record { at = 0; under = omega arith; is = is }
place_of l (m ∷ ms) (inr there) =
    let rest = place_of l ms there in
    record { at = suc rest.at; under = omega (arith, rest.under); is = rest.is }

module _ (l : Line) where
  among_front : (xs ys : List Line) → Among l xs → Among l (xs ++ ys)
  among_front [] ys none = elim none [ ]
  among_front (x ∷ xs) ys (inl is) = inl is
  among_front (x ∷ xs) ys (inr there) = inr (among_front xs ys there)

  among_back : (xs ys : List Line) → Among l ys → Among l (xs ++ ys)
  among_back [] ys there = there
  among_back (x ∷ xs) ys there = inr (among_back xs ys there)

  among_either : (xs ys : List Line) → Among l (xs ++ ys) → Among l xs ⊎ Among l ys
  among_either [] ys there = inr there
  among_either (x ∷ xs) ys (inl is) = inl (inl is)
  among_either (x ∷ xs) ys (inr there) = by (among_either xs ys there)
    where
      by : Among l xs ⊎ Among l ys → Among l (x ∷ xs) ⊎ Among l ys
      by (inl front) = inl (inr front)
      by (inr back) = inr back

-- ---- the lines of a board

-- a valid slot of a bucket with this line
pub record SlotOf (bucket : List ℕ) (l : Line) : Type 0 where
  pub slot : ℕ
  pub few : slot < 3
  pub valid : mark_of (cell bucket mark_cell) slot ≡ 1
  pub line : line_at bucket slot ≡ l

module _ (bucket : List ℕ) where
  own_in : (p : ℕ) → mark_of (cell bucket mark_cell) p ≡ 1 → Among (line_at bucket p) (line_in bucket p)
  own_in p valid = rw (eq-eqb (mark_of (cell bucket mark_cell) p) 1 valid) (inl refl)

  -- the line of each valid slot is one of its bucket's
  lines_have : (p : ℕ) → mark_of (cell bucket mark_cell) p ≡ 1 → Among (line_at bucket p) (lines_in bucket)
  lines_have =
      slots (λ (p : ℕ). mark_of (cell bucket mark_cell) p ≡ 1 → Among (line_at bucket p) (lines_in bucket))
      (λ valid. among_front _ (line_in bucket 0) _ (own_in 0 valid))
      (λ valid. among_back _ (line_in bucket 0) _ (among_front _ (line_in bucket 1) _ (own_in 1 valid)))
      (λ valid. among_back _ (line_in bucket 0) _ (among_back _ (line_in bucket 1) _ (own_in 2 valid)))
      (λ p past valid. absurd (omega (arith, mark_past (cell bucket mark_cell) p past, valid)))

  module _ (l : Line) where
    own_line : (p : ℕ) → Among l (line_in bucket p) → (mark_of (cell bucket mark_cell) p ≡ 1) × (line_at bucket p ≡ l)
    own_line p =
        by_cases (λ (ls : List Line). Among l ls → (mark_of (cell bucket mark_cell) p ≡ 1) × (line_at bucket p ≡ l)) (eqb (mark_of (cell bucket mark_cell) p) 1) _ _
        (λ is there. (eqb-true _ 1 is, by there)) (λ isnot there. absurd there)
      where
        by : (line_at bucket p ≡ l) ⊎ ⊥ → line_at bucket p ≡ l
        by (inl line) = line
        by (inr none) = elim none [ ]

    own_from : (p : ℕ) → p < 3 → Among l (line_in bucket p) → SlotOf bucket l
    own_from p few there = let own = own_line p there in record { slot = p; few = few; valid = own.0; line = own.1 }

    -- and each of them is such a slot's
    lines_from : Among l (lines_in bucket) → SlotOf bucket l
    lines_from there = first (among_either l (line_in bucket 0) (line_in bucket 1 ++ line_in bucket 2) there)
      where
        rest : Among l (line_in bucket 1) ⊎ Among l (line_in bucket 2) → SlotOf bucket l
        rest (inl front) = own_from 1 (omega arith) front
        rest (inr back) = own_from 2 (omega arith) back

        first : Among l (line_in bucket 0) ⊎ Among l (line_in bucket 1 ++ line_in bucket 2) → SlotOf bucket l
        first (inl front) = own_from 0 (omega arith) front
        first (inr back) = rest (among_either l (line_in bucket 1) (line_in bucket 2) back)

-- a valid slot of the first n buckets with this line
pub record StandsOn (board : List ℕ) (n : ℕ) (l : Line) : Type 0 where
  pub bucket : ℕ
  pub under : bucket < n
  pub there : SlotOf (bucket_at board bucket) l

module _ (board : List ℕ) where
  -- §22.1: the line of each valid slot is one of the board's
  pub board_has : (n b p : ℕ) → b < n → mark_of (cell (bucket_at board b) mark_cell) p ≡ 1 → Among (line_at (bucket_at board b) p) (lines_on board n)
  unfolding lines_on
  board_has zero b p under valid = absurd (omega arith)
  board_has (suc n) b p under valid = by (ℕ_discrete b n) (λ before. board_has n b p before valid)
    where
      by :
          Dec (b ≡ n)
          → (b < n → Among (line_at (bucket_at board b) p) (lines_on board n))
          → Among (line_at (bucket_at board b) p) (lines_on board n ++ lines_in (bucket_at board n))
      by (yes is) earlier =
          among_back _ (lines_on board n) _
          (subst (λ (c : ℕ). Among (line_at (bucket_at board b) p) (lines_in (bucket_at board c))) is (lines_have (bucket_at board b) p valid))
      by (no other) earlier = among_front _ (lines_on board n) _ (earlier (omega arith))

  -- and each of them is such a slot's
  pub board_from : (n : ℕ) (l : Line) → Among l (lines_on board n) → StandsOn board n l
  unfolding lines_on
  board_from zero l there = absurd there
  board_from (suc n) l there = by (among_either l (lines_on board n) (lines_in (bucket_at board n)) there) (board_from n l)
    where
      by : Among l (lines_on board n) ⊎ Among l (lines_in (bucket_at board n)) → (Among l (lines_on board n) → StandsOn board n l) → StandsOn board (suc n) l
      by (inl front) earlier =
          let found = earlier front in
          record { bucket = found.bucket; under = omega (arith, found.under); there = found.there }
      by (inr back) earlier = record { bucket = n; under = omega arith; there = lines_from (bucket_at board n) l back }

-- ---- those of each new bucket

module _ (n b : ℕ) where
  -- the lines of a bucket are lines whose lots have it
  pub for_from : (l : Line) (ls : List Line) → Among l (lines_for n b ls) → Among l ls × (bucket_of l.lot n ≡ b)
  unfolding lines_for
  for_from l [] there = absurd there
  for_from l (m ∷ ms) there = by (ℕ_discrete (bucket_of m.lot n) b) (for_from l ms) there
    where
      more : Among l ms × (bucket_of l.lot n ≡ b) → Among l (m ∷ ms) × (bucket_of l.lot n ≡ b)
      more rest = (inr rest.0, rest.1)

      own : bucket_of m.lot n ≡ b → (Among l (lines_for n b ms) → Among l ms × (bucket_of l.lot n ≡ b)) → Among l (m ∷ lines_for n b ms) → Among l (m ∷ ms) × (bucket_of l.lot n ≡ b)
      own home rest (inl is) = (inl is, ap (λ (x : Line). bucket_of x.lot n) (sym is) ∙ home)
      own home rest (inr there) = more (rest there)

      by :
          Dec (bucket_of m.lot n ≡ b)
          → (Among l (lines_for n b ms) → Among l ms × (bucket_of l.lot n ≡ b))
          → Among l (lines_for n b (m ∷ ms))
          → Among l (m ∷ ms) × (bucket_of l.lot n ≡ b)
      by (yes home) rest there = own home rest (rw (eq-eqb (bucket_of m.lot n) b home) at there)
      by (no other) rest there = more (rest (rw (ne_eqb (bucket_of m.lot n) b other) at there))

  -- and all of those
  pub for_has : (l : Line) (ls : List Line) → Among l ls → bucket_of l.lot n ≡ b → Among l (lines_for n b ls)
  unfolding lines_for
  for_has l [] none home = elim none [ ]
  for_has l (m ∷ ms) (inl is) home = rw (eq-eqb (bucket_of m.lot n) b (ap (λ (x : Line). bucket_of x.lot n) is ∙ home)) (inl is)
  for_has l (m ∷ ms) (inr there) home =
      by_cases (Among l) (eqb (bucket_of m.lot n) b) _ _ (λ is. inr (for_has l ms there home)) (λ isnot. for_has l ms there home)

-- ---- lines of different lots

-- no two of these have the same lot
abbrev pub Apart : List Line → Type 0
Apart [] = Unit {0}
Apart (l ∷ ls) = ((m : Line) → Among m ls → l.lot ≡ m.lot → ⊥) × Apart ls

-- two of them are in two places
pub apart_at :
    (ls : List Line)
    → Apart ls
    → (p q : ℕ)
    → p < length ls
    → q < length ls
    → (p ≡ q → ⊥)
    → (get_or ls p no_line).lot ≡ (get_or ls q no_line).lot
    → ⊥
apart_at [] apart p q under-p under-q other same = omega arith
apart_at (l ∷ ls) apart zero zero under-p under-q other same = other refl
apart_at (l ∷ ls) apart zero (suc q) under-p under-q other same = apart.0 _ (among_at ls q (omega arith)) same
apart_at (l ∷ ls) apart (suc p) zero under-p under-q other same = apart.0 _ (among_at ls p (omega arith)) (sym same)
apart_at (l ∷ ls) apart (suc p) (suc q) under-p under-q other same =
    apart_at ls apart.1 p q (omega arith) (omega arith) (λ is. other (ap suc is)) same

-- those of a bucket are so where all are
pub apart_for : (n b : ℕ) (ls : List Line) → Apart ls → Apart (lines_for n b ls)
unfolding lines_for
apart_for n b [] apart = tt
apart_for n b (l ∷ ls) apart =
    by_cases Apart (eqb (bucket_of l.lot n) b) _ _
    (λ is. (λ m there. apart.0 m (for_from n b m ls there).0, apart_for n b ls apart.1)) (λ isnot. apart_for n b ls apart.1)

apart_append :
    (xs ys : List Line)
    → Apart xs
    → Apart ys
    → ((l m : Line) → Among l xs → Among m ys → l.lot ≡ m.lot → ⊥)
    → Apart (xs ++ ys)
apart_append [] ys first second across = second
apart_append (x ∷ xs) ys first second across = (
  λ m there. by m (among_either m xs ys there),
  apart_append xs ys first.1 second (λ l m front back. across l m (inr front) back),
)
  where
    by : (m : Line) → Among m xs ⊎ Among m ys → x.lot ≡ m.lot → ⊥
    by m (inl front) = first.0 m front
    by m (inr back) = across x m (inl refl) back

-- the lines of a bucket in which no two valid slots have the same lot
module _ (bucket : List ℕ) where
  abbrev pub Once : Type 0
  Once =
      (p q : ℕ)
      → (p ≡ q → ⊥)
      → mark_of (cell bucket mark_cell) p ≡ 1
      → mark_of (cell bucket mark_cell) q ≡ 1
      → cell bucket (key_cell p) ≡ cell bucket (key_cell q)
      → ⊥

  module _ (once : Once) where
    -- one slot's line
    one_apart : (p : ℕ) → Apart (line_in bucket p)
    one_apart p = by_cases Apart (eqb (mark_of (cell bucket mark_cell) p) 1) _ _ (λ is. (λ m there. absurd there, tt)) (λ isnot. tt)

    -- the line of another slot
    two_apart : (p q : ℕ) → (p ≡ q → ⊥) → (l m : Line) → Among l (line_in bucket p) → Among m (line_in bucket q) → l.lot ≡ m.lot → ⊥
    two_apart p q other l m here there same =
        let first = own_line bucket l p here in
        let second = own_line bucket m q there in
        once p q other first.0 second.0 (ap (λ (x : Line). x.lot) first.1 ∙ same ∙ ap (λ (x : Line). x.lot) (sym second.1))

    lines_apart : Apart (lines_in bucket)
    lines_apart =
        apart_append (line_in bucket 0) (line_in bucket 1 ++ line_in bucket 2) (one_apart 0)
        (apart_append (line_in bucket 1) (line_in bucket 2) (one_apart 1) (one_apart 2) (two_apart 1 2 (omega arith)))
        (λ l m here there. by l m here (among_either m (line_in bucket 1) (line_in bucket 2) there))
      where
        by : (l m : Line) → Among l (line_in bucket 0) → Among m (line_in bucket 1) ⊎ Among m (line_in bucket 2) → l.lot ≡ m.lot → ⊥
        by l m here (inl front) = two_apart 0 1 (omega arith) l m here front
        by l m here (inr back) = two_apart 0 2 (omega arith) l m here back

-- the lines of a board, where each lot stands in its own bucket of n, and once there
pub board_apart :
    (board : List ℕ) (n k : ℕ)
    → ((b p : ℕ) → b < k → mark_of (cell (bucket_at board b) mark_cell) p ≡ 1 → bucket_of (cell (bucket_at board b) (key_cell p)) n ≡ b)
    → ((b : ℕ) → b < k → Once (bucket_at board b))
    → Apart (lines_on board k)
unfolding lines_on
board_apart board n zero home once = tt
board_apart board n (suc k) home once =
    apart_append (lines_on board k) (lines_in (bucket_at board k))
    (board_apart board n k (λ b p under. home b p (omega arith)) (λ b under. once b (omega arith)))
    (lines_apart (bucket_at board k) (once k (omega arith)))
    (λ l m front back same.
    let old = board_from board k l front in
    let new = lines_from (bucket_at board k) m back in
    let bucket-l = home old.bucket old.there.slot (omega (arith, old.under)) old.there.valid in
    let bucket-m = home k new.slot (omega arith) new.valid in
    let is : old.bucket ≡ k =
    sym bucket-l
    ∙ ap (λ (x : Line). bucket_of x.lot n) old.there.line
    ∙ ap (λ (lot : ℕ). bucket_of lot n) same
    ∙ ap (λ (x : Line). bucket_of x.lot n) (sym new.line)
    ∙ bucket-m in
    omega (arith, is, old.under))
