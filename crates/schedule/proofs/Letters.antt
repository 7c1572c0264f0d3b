-- Whether a word says this, letter by letter. Assumes nothing.
use Prim.Native.Nat.{ℕ, ◌+◌}
use mathlib.Core.Path.{◌≡◌, refl, ap, ◌∙◌}
use mathlib.Core.Bool.{false}
use mathlib.Core.Logic.{◌⊎◌, inl, inr}
use mathlib.Core.List.{List, [], ◌∷◌, map}
use native.Mathlib.Omega.{arith}
use lib.Dec.{eqb}
use lib.ListN.{length}
use borrow.Author.Tests.{eq-eqb, ne_eqb}
use Rattle.schedule.specs.Tokens.{small, same}

-- the letters that are left of a word, and those left of what is said: the two are as long as one another where the wholes are
pub record Left (word said w s : List ℕ) : Type 0 where
  pub says : same (map small w) s ≡ same (map small word) said
  pub long : length w + length said ≡ length s + length word

pub left_all : (word said : List ℕ) → Left word said word said
left_all word said = record { says = refl; long = omega arith }

module _ {word said w s more_w more_s : List ℕ} {b c : ℕ} (l : Left word said w s) (first : w ≡ b ∷ more_w) (letter : s ≡ c ∷ more_s) where
  -- another letter
  pub left_other : (small b ≡ c → ⊥) → false ≡ same (map small word) said
  unfolding same
  left_other other = (rw (first, letter, ne_eqb (small b) c other)) ∙ l.says

  -- the same letter
  pub left_same : small b ≡ c → Left word said more_w more_s
  unfolding same
  left_same is =
      record {
        says = (rw (first, letter, eq-eqb (small b) c is)) ∙ l.says;
        long = (let a = l.long in let f = ap length first in let g = ap length letter in omega (arith, a, f, g));
      }

-- none is left of one of the two
pub left_over : {word said : List ℕ} (w s : List ℕ) → Left word said w s → (length w ≡ 0) ⊎ (length s ≡ 0) → eqb (length word) (length said) ≡ same (map small word) said
unfolding same
left_over {word} {said} [] [] l none = (rw (eq-eqb (length word) (length said) (omega (arith, l.long)))) ∙ l.says
left_over {word} {said} [] (c ∷ s) l none = (rw (ne_eqb (length word) (length said) (omega (arith, l.long)))) ∙ l.says
left_over {word} {said} (b ∷ w) [] l none = (rw (ne_eqb (length word) (length said) (omega (arith, l.long)))) ∙ l.says
left_over {word} {said} (b ∷ w) (c ∷ s) l (inl none) = absurd (omega (arith, none))
left_over {word} {said} (b ∷ w) (c ∷ s) l (inr none) = absurd (omega (arith, none))
