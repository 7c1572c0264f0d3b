-- A board that is cut into buckets, and one bucket of it with other words: what is in each word then. Assumes nothing.
use Prim.Native.Nat.{ℕ, zero, suc, min, ◌+◌, ◌-◌, ◌*◌, ◌≤◌, ◌<◌}
use mathlib.Core.Path.{◌≡◌, refl, sym, ap, ◌∙◌}
use mathlib.Core.List.{List, [], ◌∷◌, ◌++◌}
use native.Mathlib.Omega.{arith}
use lib.ListN.{length, take, drop, get_or, length-take, length-drop, get_or-eq_default}
use lib.Seq.{length-take-le, take_at, drop_at, get_or-take, get_or-drop, ext_get_or}
use borrow.Rule.Slice.PartMut.{same_len_mid}
use Rattle.engine.specs.Board.{bucket_at, with_bucket}
use Rattle.engine.proofs.Parts.{put_same}

-- ---- two lists that differ in a middle part of one length

front_word :
    (x y q : List ℕ) → length x ≡ length y → (j : ℕ) → get_or x j 0 ≡ get_or y j 0 → get_or (x ++ q) j 0 ≡ get_or (y ++ q) j 0
front_word [] [] q long j same = refl
front_word [] (d ∷ y) q long j same = absurd (omega arith)
front_word (c ∷ x) [] q long j same = absurd (omega arith)
front_word (c ∷ x) (d ∷ y) q long zero same = same
front_word (c ∷ x) (d ∷ y) q long (suc j) same = front_word x y q (omega arith) j same

middle_word :
    (p x y q : List ℕ)
    → length x ≡ length y
    → (j : ℕ)
    → ((i : ℕ) → j ≡ length p + i → get_or x i 0 ≡ get_or y i 0)
    → get_or (p ++ (x ++ q)) j 0 ≡ get_or (p ++ (y ++ q)) j 0
middle_word [] x y q long j same = front_word x y q long j (same j (omega arith))
middle_word (c ∷ p) x y q long zero same = refl
middle_word (c ∷ p) x y q long (suc j) same = middle_word p x y q long j (λ i is. same i (omega arith))

-- ---- a bucket by itself

module _ (board : List ℕ) (b : ℕ) where
  bucket_cut : length (bucket_at board b) ≡ min 8 (length board - 8 * b)
  bucket_cut = length-take 8 (drop (8 * b) board) ∙ ap (min 8) (length-drop (8 * b) board)

  -- a bucket that is within the board has eight words
  pub bucket_long : 8 * b + 8 ≤ length board → length (bucket_at board b) ≡ 8
  bucket_long within = let cut = bucket_cut in omega arith

  -- a bucket of eight words is within the board
  pub bucket_within : length (bucket_at board b) ≡ 8 → 8 * b + 8 ≤ length board
  bucket_within eight = let cut = bucket_cut in omega arith

  -- a word of a bucket is a word of the board
  pub bucket_word : (i : ℕ) → i < 8 → get_or (bucket_at board b) i 0 ≡ get_or board (8 * b + i) 0
  bucket_word i few = get_or-take 8 (drop (8 * b) board) i 0 few ∙ get_or-drop (8 * b) board i 0

-- ---- the board with other words in the place of a bucket

module _ (board : List ℕ) (b : ℕ) (words : List ℕ) where
  -- as many words leave the board as long as it was
  pub with_long : length words ≡ length (bucket_at board b) → length (with_bucket board b words) ≡ length board
  with_long = same_len_mid (8 * b) 8 board words

  -- a word of the board is as it was, if it is outside the bucket or the words agree there
  pub with_word :
      length words ≡ length (bucket_at board b)
      → 8 * b ≤ length board
      → (j : ℕ)
      → ((i : ℕ) → j ≡ 8 * b + i → get_or words i 0 ≡ get_or (bucket_at board b) i 0)
      → get_or (with_bucket board b words) j 0 ≡ get_or board j 0
  with_word long within j same =
      let start = length-take-le (8 * b) board within in
      middle_word (take (8 * b) board) words (bucket_at board b) (drop 8 (drop (8 * b) board)) long j (λ i is. same i (rw start at is))
      ∙ ap (λ (l : List ℕ). get_or l j 0) (put_same board b)

  -- words that agree with the bucket's but for one change no other word of the board
  pub one_word :
      (k : ℕ)
      → length words ≡ length (bucket_at board b)
      → 8 * b ≤ length board
      → ((i : ℕ) → (i ≡ k → ⊥) → get_or words i 0 ≡ get_or (bucket_at board b) i 0)
      → (j : ℕ)
      → (j ≡ 8 * b + k → ⊥)
      → get_or (with_bucket board b words) j 0 ≡ get_or board j 0
  one_word k long within same j other = with_word long within j (λ i is. same i (λ at. other (is ∙ ap (λ (n : ℕ). 8 * b + n) at)))

  module _ (within : 8 * b + 8 ≤ length board) (eight : length words ≡ 8) where
    as_long : length words ≡ length (bucket_at board b)
    as_long = eight ∙ sym (bucket_long board b within)

    -- the words are the bucket then
    pub same_bucket : bucket_at (with_bucket board b words) b ≡ words
    same_bucket =
        let start = length-take-le (8 * b) board (omega arith) in
        ap (take 8) (drop_at (take (8 * b) board) (words ++ drop 8 (drop (8 * b) board)) (8 * b) start)
        ∙ take_at words (drop 8 (drop (8 * b) board)) 8 eight

    -- past the eighth word both have nothing
    past_words : (i : ℕ) → 8 ≤ i → get_or words i 0 ≡ get_or (bucket_at board b) i 0
    past_words i past =
        let long = as_long in
        get_or-eq_default words 0 (omega arith) ∙ sym (get_or-eq_default (bucket_at board b) 0 (omega arith))

    -- a word outside the bucket is as it was
    pub outside_word : (j : ℕ) → ((i : ℕ) → j ≡ 8 * b + i → 8 ≤ i) → get_or (with_bucket board b words) j 0 ≡ get_or board j 0
    outside_word j outside = with_word as_long (omega arith) j (λ i is. past_words i (outside i is))

    -- and every other bucket is as it was
    pub other_bucket : (c : ℕ) → (c ≡ b → ⊥) → bucket_at (with_bucket board b words) c ≡ bucket_at board c
    other_bucket c other = ext_get_or 0 _ _ long (λ i under. word i (few i under))
      where
        long : length (bucket_at (with_bucket board b words) c) ≡ length (bucket_at board c)
        long = rw (bucket_cut (with_bucket board b words) c, with_long as_long) (sym (bucket_cut board c))

        few : (i : ℕ) → i < length (bucket_at (with_bucket board b words) c) → i < 8
        few i under = let cut = bucket_cut (with_bucket board b words) c in omega arith

        word : (i : ℕ) → i < 8 → get_or (bucket_at (with_bucket board b words) c) i 0 ≡ get_or (bucket_at board c) i 0
        word i few =
            bucket_word (with_bucket board b words) c i few
            ∙ outside_word (8 * c + i) (λ k is. omega arith)
            ∙ sym (bucket_word board c i few)
