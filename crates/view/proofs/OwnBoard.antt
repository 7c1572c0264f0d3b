-- The program's own board: as many words of it are lent as the sheet's floor asks for. Assumes nothing.
use Prim.Native.Nat.{ℕ, zero, suc, ◌≤◌}
use mathlib.Core.Path.{◌≡◌, refl, ap, ◌∙◌}
use mathlib.Core.List.{List, ◌∷◌}
use native.Mathlib.Nat.{not-suc-le-zero, le_of_suc-le-suc}
use lib.ListN.{take, replicate}
use Rattle.sheet.specs.Listing.{words_asked}
use Rattle.view.specs.Scenes.{scenes_on, scenes}

take_zeros : (n m : ℕ) → n ≤ m → take {A = ℕ} n (replicate m 0) ≡ replicate n 0
take_zeros zero m fits = refl
take_zeros (suc n) zero fits = absurd (not-suc-le-zero fits)
take_zeros (suc n) (suc m) fits = ap (λ (l : List ℕ). 0 ∷ l) (take_zeros n m (le_of_suc-le-suc fits))

-- the scenes on it are the sheet's
pub own_scenes : (sheet : List ℕ) (n : ℕ) → n ≡ words_asked sheet → n ≤ 2048 → scenes_on sheet (take {A = ℕ} n (replicate 2048 0)) ≡ scenes sheet
unfolding scenes
own_scenes sheet n asked fits =
    ap (scenes_on sheet) (take_zeros n 2048 fits ∙ ap (λ (m : ℕ). replicate {A = ℕ} m 0) asked)
