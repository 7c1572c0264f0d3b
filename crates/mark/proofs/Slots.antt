-- What is shown of every slot number is shown of the three slots, and of the numbers that name no slot. Assumes nothing.
use Rattle.std.proofs.Common.{◌≡◌, ℕ, zero, suc, ◌+◌, ◌-◌, ◌*◌, ◌/◌, ◌%◌, ◌<◌, ◌≤◌, refl, arith, le-ltb, lt-ltb}
use Rattle.mark.specs.Word.{unit, mark_of, set_mark}

pub slots : (P : ℕ → Type 0) → P 0 → P 1 → P 2 → ((i : ℕ) → 3 ≤ i → P i) → (i : ℕ) → P i
slots P p0 p1 p2 past zero = p0
slots P p0 p1 p2 past (suc zero) = p1
slots P p0 p1 p2 past (suc (suc zero)) = p2
slots P p0 p1 p2 past (suc (suc (suc i))) = past (suc (suc (suc i))) (omega arith)

-- the same of two different slots
pub slot_pairs :
    (P : ℕ → ℕ → Type 0)
    → P 0 1
    → P 0 2
    → P 1 0
    → P 1 2
    → P 2 0
    → P 2 1
    → ((i j : ℕ) → 3 ≤ i → P i j)
    → ((i j : ℕ) → 3 ≤ j → P i j)
    → (i j : ℕ)
    → (i ≡ j → ⊥)
    → P i j
slot_pairs P p01 p02 p10 p12 p20 p21 past-i past-j i j =
    slots (λ (i : ℕ). (i ≡ j → ⊥) → P i j)
    (slots (λ (j : ℕ). (0 ≡ j → ⊥) → P 0 j) (λ h. absurd (h refl)) (λ h. p01) (λ h. p02) (λ j past h. past-j 0 j past) j)
    (slots (λ (j : ℕ). (1 ≡ j → ⊥) → P 1 j) (λ h. p10) (λ h. absurd (h refl)) (λ h. p12) (λ j past h. past-j 1 j past) j)
    (slots (λ (j : ℕ). (2 ≡ j → ⊥) → P 2 j) (λ h. p20) (λ h. p21) (λ h. absurd (h refl)) (λ j past h. past-j 2 j past) j)
    (λ i past h. past-i i j past)
    i

-- at a slot, and past the slots, the definitions' choice is made
module _ (w i : ℕ) (slot : i < 3) where
  pub mark_at_lem : mark_of w i ≡ w / unit i % 256
  unfolding mark_of
  mark_at_lem = rw (lt-ltb i 3 slot)

  pub set_at : (m : ℕ) → set_mark w i m ≡ w - w / unit i % 256 * unit i + m * unit i
  unfolding mark_of set_mark
  set_at m = rw (lt-ltb i 3 slot)

module _ (w i : ℕ) (past : 3 ≤ i) where
  pub mark_past : mark_of w i ≡ 0
  unfolding mark_of
  mark_past = rw (le-ltb i 3 past)

  pub set_past : (m : ℕ) → set_mark w i m ≡ w
  unfolding set_mark
  set_past m = rw (le-ltb i 3 past)
