-- Where the lots of a move come to stand, word by word: each new word has the next slot of its bucket, and lacks one exactly where three are
-- taken. Assumes nothing.
use Prim.Native.Nat.{ℕ, zero, suc, ◌+◌, ◌*◌, ◌≤◌, ◌<◌}
use mathlib.Core.Bool.{Bool, true, false, cond, ◌||◌, or_assoc, or_comm, or-true, or-false}
use mathlib.Core.List.{List, [], ◌∷◌, ◌++◌, append_assoc, append-nil}
use mathlib.Core.Path.{◌≡◌, refl, sym, ap, subst, ◌∙◌}
use native.Mathlib.Decide.{ℕ_discrete, dec_le}
use native.Mathlib.Nat.{mod-lt}
use native.Mathlib.Omega.{arith}
use lib.Dec.{eqb, ltb}
use lib.ListN.{length, get_or, set, length-append, length-set, get_or-eq_default, get_or-append}
use lib.Seq.{get_or-set_same, get_or-set_other, get_or_at}
use borrow.Author.Tests.{eq-eqb, ne_eqb, lt-ltb, le-ltb, ltb-false}
use Rattle.mark.specs.Word.{mark_of}
use Rattle.turn.specs.Bucket.{key_cell}
use Rattle.engine.specs.Board.{bucket_of, any_under}
use Rattle.engine.specs.Move.{any_over}
use Rattle.engine.specs.Seating.{no_lot, lot_word, lot_words_for, too_many, Seated, Seats, SeatsMore, taken}
use Rattle.engine.proofs.Buckets.{mark_at_lem}
use Rattle.engine.proofs.AnyUnder.{any_same, any_none}

-- ---- counts over three

-- where none goes over three, none does
pub any_over_none : (count : ℕ → ℕ) (n : ℕ) → any_over count n ≡ false → (b : ℕ) → b < n → count b ≤ 3
any_over_none count n none b under = ltb-false 3 (count b) (any_none (λ b. ltb 3 (count b)) n none b under)

-- a count that goes over three does so after another, and one that is three does then
over_next : (x : Bool) (k : ℕ) → (x || ltb 3 (k + 1)) ≡ ((x || ltb 3 k) || ltb 2 k)
over_next x k = by (dec_le 3 k)
  where
    by : Dec (3 ≤ k) → (x || ltb 3 (k + 1)) ≡ ((x || ltb 3 k) || ltb 2 k)
    by (yes high) = rw (lt-ltb 3 (k + 1) (omega arith), lt-ltb 2 k (omega arith)) (or-true x ∙ sym (or-true (x || ltb 3 k)))
    by (no low) = rw (le-ltb 3 (k + 1) (omega arith), le-ltb 3 k (omega arith), le-ltb 2 k (omega arith)) (sym (or-false (x || false)))

-- one more of number h goes over three exactly where there are three of it
pub any_over_more :
    (f g : ℕ → ℕ) (h n : ℕ)
    → h < n
    → g h ≡ f h + 1
    → ((b : ℕ) → (b ≡ h → ⊥) → g b ≡ f b)
    → any_over g n ≡ (any_over f n || ltb 2 (f h))
unfolding any_under
any_over_more f g h zero under more same = absurd (omega arith)
any_over_more f g h (suc n) under more same = by (ℕ_discrete n h) (λ before. any_over_more f g h n before more same)
  where
    by :
        Dec (n ≡ h)
        → (h < n → any_over g n ≡ (any_over f n || ltb 2 (f h)))
        → (any_over g n || ltb 3 (g n)) ≡ ((any_over f n || ltb 3 (f n)) || ltb 2 (f h))
    by (yes is) earlier =
        rw (any_same (λ b. ltb 3 (f b)) (λ b. ltb 3 (g b)) n (λ b below. ap (ltb 3) (same b (omega (arith, is)))), ap g is ∙ more, ap f is) (over_next (any_over f n) (f h))
    by (no other) earlier =
        rw (earlier (omega arith), same n other)
        (or_assoc (any_over f n) (ltb 2 (f h)) (ltb 3 (f n))
        ∙ ap (λ (x : Bool). any_over f n || x) (or_comm (ltb 2 (f h)) (ltb 3 (f n)))
        ∙ sym (or_assoc (any_over f n) (ltb 3 (f n)) (ltb 2 (f h))))

-- ---- one word more

module _ (old : List ℕ) (n : ℕ) where
  pub words_append : (b : ℕ) (ws vs : List ℕ) → lot_words_for old n b (ws ++ vs) ≡ lot_words_for old n b ws ++ lot_words_for old n b vs
  unfolding lot_words_for
  words_append b [] vs = refl
  words_append b (q ∷ ws) vs = by (eqb (bucket_of (get_or old q 0) n) b) (words_append b ws vs)
    where
      by :
          (t : Bool)
          → lot_words_for old n b (ws ++ vs) ≡ lot_words_for old n b ws ++ lot_words_for old n b vs
          → cond t (q ∷ lot_words_for old n b (ws ++ vs)) (lot_words_for old n b (ws ++ vs))
          ≡ cond t (q ∷ lot_words_for old n b ws) (lot_words_for old n b ws) ++ lot_words_for old n b vs
      by true rest = ap (λ (l : List ℕ). q ∷ l) rest
      by false rest = rest

  module _ (ws from : List ℕ) (q : ℕ) (some : q ≡ no_lot → ⊥) (any : 0 < n) (room : n ≤ 256) (old-seats : Seated old n ws from) where
    -- the bucket of its lot
    abbrev home : ℕ
    home = bucket_of (get_or old q 0) n

    -- the words there before it
    abbrev there : List ℕ
    there = lot_words_for old n home ws

    in_room : home < n
    in_room = mod-lt (get_or old q 0) any

    own : lot_words_for old n home (ws ++ (q ∷ [])) ≡ there ++ (q ∷ [])
    unfolding lot_words_for
    own = words_append home ws (q ∷ []) ∙ rw (eq-eqb home home refl)

    others : (b : ℕ) → (b ≡ home → ⊥) → lot_words_for old n b (ws ++ (q ∷ [])) ≡ lot_words_for old n b ws
    unfolding lot_words_for
    others b other = words_append b ws (q ∷ []) ∙ rw (ne_eqb home b (λ is. other (sym is))) (append-nil (lot_words_for old n b ws))

    -- the word in the p-th of a bucket's three slots
    at_slot : (p : ℕ) → p < 3 → get_or from (3 * home + p) 0 ≡ get_or there p no_lot
    at_slot p few = old-seats.each home p in_room few

    first : get_or from (3 * home) 0 ≡ get_or there 0 no_lot
    first = ap (λ (i : ℕ). get_or from i 0) (omega arith) ∙ at_slot 0 (omega arith)

    -- a slot is free exactly if there are no more words than slots before it
    free_at : (i p : ℕ) → get_or from i 0 ≡ get_or there p no_lot → length there ≤ p → eqb (get_or from i 0) no_lot ≡ true
    free_at i p is few = rw (is, get_or-eq_default there no_lot {n = p} few) (eq-eqb no_lot no_lot refl)

    full_at : (i p : ℕ) → get_or from i 0 ≡ get_or there p no_lot → p < length there → eqb (get_or from i 0) no_lot ≡ false
    full_at i p is more = ne_eqb (get_or from i 0) no_lot (λ none. old-seats.some home p more (sym is ∙ none))

    -- as many slots are taken as there are words, up to three
    pub taken_few : length there < 3 → taken from (3 * home) ≡ length there
    unfolding taken
    taken_few few = by (ℕ_discrete (length there) 0) (ℕ_discrete (length there) 1)
      where
        by : Dec (length there ≡ 0) → Dec (length there ≡ 1) → taken from (3 * home) ≡ length there
        by (yes none) second = rw (free_at (3 * home) 0 first (omega (arith, none))) (sym none)
        by (no more) (yes one) =
            rw (full_at (3 * home) 0 first (omega arith), free_at (3 * home + 1) 1 (at_slot 1 (omega arith)) (omega (arith, one))) (sym one)
        by (no more) (no another) =
            let two : length there ≡ 2 = omega arith in
            rw (
              full_at (3 * home) 0 first (omega arith),
              full_at (3 * home + 1) 1 (at_slot 1 (omega arith)) (omega arith),
              free_at (3 * home + 2) 2 (at_slot 2 (omega arith)) (omega (arith, two)),
            )
            (sym two)

    pub taken_all : 3 ≤ length there → taken from (3 * home) ≡ 3
    unfolding taken
    taken_all high =
        rw (
          full_at (3 * home) 0 first (omega arith),
          full_at (3 * home + 1) 1 (at_slot 1 (omega arith)) (omega arith),
          full_at (3 * home + 2) 2 (at_slot 2 (omega arith)) (omega arith),
        )

    -- it is the word of a lot like those
    still_some : (b p : ℕ) → p < length (lot_words_for old n b (ws ++ (q ∷ []))) → get_or (lot_words_for old n b (ws ++ (q ∷ []))) p no_lot ≡ no_lot → ⊥
    still_some b p under = by (ℕ_discrete b home) under
      where
        last : (p : ℕ) → Dec (p < length there) → p < length (there ++ (q ∷ [])) → get_or (there ++ (q ∷ [])) p no_lot ≡ no_lot → ⊥
        last p (yes before) under = rw (get_or-append there (q ∷ []) no_lot p before) (old-seats.some home p before)
        last p (no after) under =
            let is : length there ≡ p = omega (arith, length-append there (q ∷ [])) in
            rw (get_or_at there q [] no_lot p is) some

        by :
            Dec (b ≡ home)
            → p < length (lot_words_for old n b (ws ++ (q ∷ [])))
            → get_or (lot_words_for old n b (ws ++ (q ∷ []))) p no_lot ≡ no_lot → ⊥
        by (yes is) under =
            subst (λ (l : List ℕ). p < length l → get_or l p no_lot ≡ no_lot → ⊥) (sym (ap (λ (c : ℕ). lot_words_for old n c (ws ++ (q ∷ []))) is ∙ own))
            (last p (dec_le (suc p) (length there))) under
        by (no other) under = subst (λ (l : List ℕ). p < length l → get_or l p no_lot ≡ no_lot → ⊥) (sym (others b other)) (old-seats.some b p) under

    -- the counts with it
    many_then : too_many old n (ws ++ (q ∷ [])) ≡ (too_many old n ws || ltb 2 (length there))
    many_then =
        any_over_more (λ b. length (lot_words_for old n b ws)) (λ b. length (lot_words_for old n b (ws ++ (q ∷ [])))) home n in_room
        (ap length own ∙ length-append there (q ∷ [])) (λ b other. ap length (others b other))

    -- where three are taken it lacks a slot
    pub seat_lacks : 3 ≤ length there → Seats old n ws (q ∷ []) from true
    seat_lacks high =
        record {
          seated =
              record { long = old-seats.long; each = λ b p under few. by b (ℕ_discrete b home) p under few; some = still_some };
          many = many_then ∙ rw (lt-ltb 2 (length there) high);
        }
      where
        by : (b : ℕ) → Dec (b ≡ home) → (p : ℕ) → b < n → p < 3 → get_or from (3 * b + p) 0 ≡ get_or (lot_words_for old n b (ws ++ (q ∷ []))) p no_lot
        by b (yes is) p under few =
            old-seats.each b p under few
            ∙ ap (λ (c : ℕ). get_or (lot_words_for old n c ws) p no_lot) is
            ∙ sym (get_or-append there (q ∷ []) no_lot p (omega arith))
            ∙ ap (λ (l : List ℕ). get_or l p no_lot) (sym (ap (λ (c : ℕ). lot_words_for old n c (ws ++ (q ∷ []))) is ∙ own))
        by b (no other) p under few = old-seats.each b p under few ∙ ap (λ (l : List ℕ). get_or l p no_lot) (sym (others b other))

    -- else it has the next one
    pub seat_next : length there < 3 → Seats old n ws (q ∷ []) (set from (3 * home + length there) q) false
    seat_next low =
        record {
          seated =
              record {
                long = length-set from (3 * home + length there) q ∙ old-seats.long;
                each = λ b p under few. by b (ℕ_discrete b home) p (ℕ_discrete p (length there)) under few;
                some = still_some;
              };
          many = many_then ∙ rw (le-ltb 2 (length there) (omega arith));
        }
      where
        at : ℕ
        at = 3 * home + length there

        in_list : at < length from
        in_list = omega (arith, old-seats.long, in_room)

        with_it : (b p : ℕ) → b ≡ home → get_or (there ++ (q ∷ [])) p no_lot ≡ get_or (lot_words_for old n b (ws ++ (q ∷ []))) p no_lot
        with_it b p is = ap (λ (l : List ℕ). get_or l p no_lot) (sym (ap (λ (c : ℕ). lot_words_for old n c (ws ++ (q ∷ []))) is ∙ own))

        -- a slot that is not its own
        past_it : (p : ℕ) → (p ≡ length there → ⊥) → get_or there p no_lot ≡ get_or (there ++ (q ∷ [])) p no_lot
        past_it p other = split (dec_le (length there) p)
          where
            split : Dec (length there ≤ p) → get_or there p no_lot ≡ get_or (there ++ (q ∷ [])) p no_lot
            split (yes past) =
                get_or-eq_default there no_lot {n = p} past
                ∙ sym (get_or-eq_default (there ++ (q ∷ [])) no_lot {n = p} (omega (arith, length-append there (q ∷ []))))
            split (no before) = sym (get_or-append there (q ∷ []) no_lot p (omega arith))

        by :
            (b : ℕ)
            → Dec (b ≡ home)
            → (p : ℕ)
            → Dec (p ≡ length there)
            → b < n
            → p < 3
            → get_or (set from at q) (3 * b + p) 0 ≡ get_or (lot_words_for old n b (ws ++ (q ∷ []))) p no_lot
        by b (yes is) p (yes own-slot) under few =
            ap (λ (i : ℕ). get_or (set from at q) i 0) (omega (arith, is, own-slot))
            ∙ get_or-set_same from at q 0 in_list
            ∙ sym (get_or_at there q [] no_lot p (sym own-slot))
            ∙ with_it b p is
        by b (yes is) p (no other) under few =
            get_or-set_other from at (3 * b + p) q 0 (λ same. other (omega (arith, same, is)))
            ∙ old-seats.each b p under few
            ∙ ap (λ (c : ℕ). get_or (lot_words_for old n c ws) p no_lot) is
            ∙ past_it p other
            ∙ with_it b p is
        by b (no other) p slot under few =
            get_or-set_other from at (3 * b + p) q 0 (λ same. other (omega (arith, same)))
            ∙ old-seats.each b p under few
            ∙ ap (λ (l : List ℕ). get_or l p no_lot) (sym (others b other))

  -- ---- words one after another

  -- no word more
  pub seats_none : (from : List ℕ) → SeatsMore old n [] from from false
  seats_none from ws seated =
      record {
        seated = subst (λ (l : List ℕ). Seated old n l from) (sym (append-nil ws)) seated;
        many = ap (too_many old n) (append-nil ws) ∙ sym (or-false (too_many old n ws));
      }

  -- some words, and then others
  pub seats_then :
      (more others first second third : List ℕ) (t u : Bool)
      → SeatsMore old n more first second t
      → SeatsMore old n others second third u
      → SeatsMore old n (more ++ others) first third (t || u)
  seats_then more others first second third t u one two ws seated =
      let a = one ws seated in
      let b = two (ws ++ more) a.seated in
      record {
        seated = subst (λ (l : List ℕ). Seated old n l third) (append_assoc ws more others) b.seated;
        many =
            ap (too_many old n) (sym (append_assoc ws more others))
            ∙ b.many
            ∙ ap (λ (x : Bool). x || u) a.many
            ∙ or_assoc (too_many old n ws) t u;
      }

  -- ---- one slot of the old board

  -- a lot stands at none but its own words
  lot_word_lem : (b p : ℕ) → p ≤ 2 → 8 * b + key_cell p ≡ no_lot → ⊥
  lot_word_lem b p few none = omega (arith, few, none)

  module _ (b p : ℕ) (few : p ≤ 2) (any : 0 < n) (room : n ≤ 256) (from : List ℕ) where
    abbrev word : ℕ
    word = 8 * b + key_cell p

    abbrev mark : ℕ
    mark = mark_of (get_or old (8 * b) 0) p

    one_word : mark ≡ 1 → lot_word old b p ≡ word ∷ []
    one_word valid = rw (mark_at_lem old b, eq-eqb mark 1 valid)

    module _ (valid : mark ≡ 1) (w h : ℕ) (at : w ≡ word) (home_is : h ≡ bucket_of (get_or old w 0) n) where
      homed : 3 * h ≡ 3 * bucket_of (get_or old word 0) n
      homed = ap (λ (k : ℕ). 3 * k) (home_is ∙ ap (λ (k : ℕ). bucket_of (get_or old k 0) n) at)

      -- where three are taken its lot lacks a slot
      pub slot_lacks : taken from (3 * h) ≡ 3 → SeatsMore old n (lot_word old b p) from from true
      slot_lacks all ws seated = subst (λ (more : List ℕ). Seats old n ws more from true) (sym (one_word valid)) (by (dec_le 3 (length there)))
        where
          there : List ℕ
          there = lot_words_for old n (bucket_of (get_or old word 0) n) ws

          by : Dec (3 ≤ length there) → Seats old n ws (word ∷ []) from true
          by (yes high) = seat_lacks ws from word (lot_word_lem b p few) any room seated high
          by (no low) =
              absurd (omega (arith, all, ap (taken from) homed, taken_few ws from word (lot_word_lem b p few) any room seated (omega arith)))

      -- else it has the next one
      pub slot_next :
          (taken from (3 * h) ≡ 3 → ⊥) → SeatsMore old n (lot_word old b p) from (set from (3 * h + taken from (3 * h)) w) false
      slot_next some ws seated = subst (λ (more : List ℕ). Seats old n ws more (set from (3 * h + taken from (3 * h)) w) false) (sym (one_word valid)) (by (dec_le 3 (length there)))
        where
          there : List ℕ
          there = lot_words_for old n (bucket_of (get_or old word 0) n) ws

          by : Dec (3 ≤ length there) → Seats old n ws (word ∷ []) (set from (3 * h + taken from (3 * h)) w) false
          by (yes high) = absurd (some (ap (taken from) homed ∙ taken_all ws from word (lot_word_lem b p few) any room seated high))
          by (no low) =
              rw (at, homed, taken_few ws from word (lot_word_lem b p few) any room seated (omega arith))
              (seat_next ws from word (lot_word_lem b p few) any room seated (omega arith))
