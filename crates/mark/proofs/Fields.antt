-- The laws of a mark word's fields: what a set and a bump do to the version, to each mark and to byte 7. Assumes nothing.
use Rattle.std.proofs.Common.{◌≡◌, ℕ, ◌+◌, ◌*◌, ◌/◌, ◌%◌, ◌^◌, ◌<◌, cond, ltb, [], ◌∷◌, get_or, sym, ap, ◌∙◌, arith, shr-shr}
use lib.ListN.{get_or-eq_default}
use Rattle.mark.specs.Word.{version, mark_of, byte7, word_of, set_mark, next_version, bump}
use Rattle.mark.proofs.Slots.{slots, slot_pairs, mark_past, set_past}

-- ---- bounds

module _ (w : ℕ) where
  pub version_lt : version w < 2 ^ 32
  unfolding version
  version_lt = omega arith

  pub mark_lt : (i : ℕ) → mark_of w i < 256
  unfolding mark_of
  mark_lt =
      slots (λ (i : ℕ). mark_of w i < 256) (omega arith) (omega arith) (omega arith)
      (λ i past. rw (mark_past w i past) (omega arith))

  pub bump_lt : w < 2 ^ 64 → bump w < 2 ^ 64
  unfolding version bump
  bump_lt fits = omega arith

  pub set_lt : (i m : ℕ) → m < 256 → w < 2 ^ 64 → set_mark w i m < 2 ^ 64
  unfolding mark_of set_mark
  set_lt i m byte fits =
      slots (λ (i : ℕ). set_mark w i m < 2 ^ 64) (omega arith) (omega arith) (omega arith)
      (λ i past. rw (set_past w i past m) fits)
      i

-- a word that is a version alone has no mark
pub mark_none : (v : ℕ) → v < 2 ^ 32 → (i : ℕ) → mark_of v i ≡ 0
unfolding mark_of
mark_none v fits = slots (λ (i : ℕ). mark_of v i ≡ 0) (omega arith) (omega arith) (omega arith) (λ i past. mark_past v i past)

-- ---- the word is its fields

module _ (w : ℕ) where
  fields : word_of (version w) (mark_of w 0) (mark_of w 1) (mark_of w 2) + 2 ^ 56 * byte7 w ≡ w
  unfolding version mark_of byte7 word_of
  fields = omega (arith, shr-shr w 32 8, shr-shr w 40 8, shr-shr w 48 8)

  -- §2.5, §14.5: a word whose byte 7 is 0 is the sum of its version and its marks, each at its place
  pub packed : byte7 w ≡ 0 → word_of (version w) (mark_of w 0) (mark_of w 1) (mark_of w 2) ≡ w
  packed none = omega (arith, fields)

-- two words are equal when version, three marks and byte 7 are
pub same_fields : (v w : ℕ) → version v ≡ version w → ((i : ℕ) → i < 3 → mark_of v i ≡ mark_of w i) → byte7 v ≡ byte7 w → v ≡ w
same_fields v w of-version of-mark of-byte7 =
    sym (fields v) ∙ simp (of-version, of-mark 0 (omega arith), of-mark 1 (omega arith), of-mark 2 (omega arith), of-byte7) (fields w)

-- the fields of such a sum are its parts
module _ (v m0 m1 m2 : ℕ) (version_fits : v < 2 ^ 32) (byte0 : m0 < 256) (byte1 : m1 < 256) (byte2 : m2 < 256) where
  pub version_word : version (word_of v m0 m1 m2) ≡ v
  unfolding version word_of
  version_word = omega arith

  pub mark_word_lem : (i : ℕ) → mark_of (word_of v m0 m1 m2) i ≡ get_or (m0 ∷ m1 ∷ m2 ∷ []) i 0
  unfolding mark_of word_of
  mark_word_lem =
      slots (λ (i : ℕ). mark_of (word_of v m0 m1 m2) i ≡ get_or (m0 ∷ m1 ∷ m2 ∷ []) i 0) (omega arith) (omega arith) (omega arith)
      (λ i past. mark_past (word_of v m0 m1 m2) i past ∙ sym (get_or-eq_default (m0 ∷ m1 ∷ m2 ∷ []) 0 past))

  pub byte7_word : byte7 (word_of v m0 m1 m2) ≡ 0
  unfolding byte7 word_of
  byte7_word = omega arith

-- ---- a set word

module _ (w i m : ℕ) where
  pub mark_set : i < 3 → m < 256 → mark_of (set_mark w i m) i ≡ m
  unfolding mark_of set_mark
  mark_set slot byte =
      slots (λ (i : ℕ). i < 3 → mark_of (set_mark w i m) i ≡ m) (λ h. omega arith) (λ h. omega arith) (λ h. omega arith)
      (λ i past h. absurd (omega arith))
      i slot

  pub mark_set_other : (j : ℕ) → m < 256 → (i ≡ j → ⊥) → mark_of (set_mark w i m) j ≡ mark_of w j
  unfolding mark_of set_mark
  mark_set_other j byte =
      slot_pairs (λ (i j : ℕ). mark_of (set_mark w i m) j ≡ mark_of w j)
      (omega arith)
      (omega arith)
      (omega arith)
      (omega arith)
      (omega arith)
      (omega arith)
      (λ i j past. ap (λ (x : ℕ). mark_of x j) (set_past w i past m))
      (λ i j past. mark_past (set_mark w i m) j past ∙ sym (mark_past w j past))
      i
      j

  pub version_set : version (set_mark w i m) ≡ version w
  unfolding version mark_of set_mark
  version_set =
      slots (λ (i : ℕ). version (set_mark w i m) ≡ version w) (omega arith) (omega arith) (omega arith)
      (λ i past. ap version (set_past w i past m))
      i

  pub set_set : (n : ℕ) → m < 256 → set_mark (set_mark w i m) i n ≡ set_mark w i n
  unfolding mark_of set_mark
  set_set n byte =
      slots (λ (i : ℕ). set_mark (set_mark w i m) i n ≡ set_mark w i n) (omega arith) (omega arith) (omega arith)
      (λ i past. ap (λ (x : ℕ). set_mark x i n) (set_past w i past m))
      i

  pub byte7_set : m < 256 → byte7 (set_mark w i m) ≡ byte7 w
  unfolding byte7 mark_of set_mark
  byte7_set byte =
      slots (λ (i : ℕ). byte7 (set_mark w i m) ≡ byte7 w) (omega arith) (omega arith) (omega arith)
      (λ i past. ap byte7 (set_past w i past m))
      i

module _ (w i : ℕ) where
  pub set_same : set_mark w i (mark_of w i) ≡ w
  unfolding mark_of set_mark
  set_same =
      slots (λ (i : ℕ). set_mark w i (mark_of w i) ≡ w) (omega arith) (omega arith) (omega arith)
      (λ i past. set_past w i past (mark_of w i))
      i

-- ---- a bumped word

module _ (w : ℕ) where
  pub version_bump : version (bump w) ≡ next_version (version w)
  unfolding version bump
  version_bump = omega arith

  -- above the version all is as it was
  above : (k : ℕ) → bump w / 2 ^ (32 + k) ≡ w / 2 ^ (32 + k)
  unfolding version bump
  above k = sym (shr-shr (bump w) 32 k) ∙ ap (λ (x : ℕ). x / 2 ^ k) (omega arith) ∙ shr-shr w 32 k

  pub mark_bump : (i : ℕ) → mark_of (bump w) i ≡ mark_of w i
  unfolding mark_of
  mark_bump i = ap (λ (x : ℕ). cond (ltb i 3) (x % 256) 0) (above (8 * i))

  pub byte7_bump : byte7 (bump w) ≡ byte7 w
  unfolding byte7
  byte7_bump = above 24
