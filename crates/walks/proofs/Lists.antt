-- What holds of each of a list, of one of it, and of any two of it, put together and taken apart. What holds of no entry of a trace is in
-- history's Cuts and Later. Assumes nothing.
use mathlib.Core.List.{List, [], ◌∷◌, ◌++◌}
use mathlib.Core.Logic.{◌⊎◌, inl, inr}
use mathlib.Core.Path.{◌≡◌, sym, subst, ◌∙◌}
use Rattle.walks.specs.Lists.{Each, Has, In, Ordered}

module _ {A : Type 0} where
  module _ (P : A → Type 0) where
    -- what holds of each of two lists holds of each of both together
    pub each_append : (xs ys : List A) → Each P xs → Each P ys → Each P (xs ++ ys)
    each_append [] ys one two = two
    each_append (x ∷ xs) ys one two = (one.0, each_append xs ys one.1 two)

    -- what holds of each of two lists together holds of each of the first
    pub each_left : (xs ys : List A) → Each P (xs ++ ys) → Each P xs
    each_left [] ys all = tt
    each_left (x ∷ xs) ys all = (all.0, each_left xs ys all.1)

    -- what holds of each of two lists together holds of each of the second
    pub each_right : (xs ys : List A) → Each P (xs ++ ys) → Each P ys
    each_right [] ys all = all
    each_right (x ∷ xs) ys all = each_right xs ys all.1

    -- what holds of everything holds of each of a list
    pub each_all : ((x : A) → P x) → (xs : List A) → Each P xs
    each_all all [] = tt
    each_all all (x ∷ xs) = (all x, each_all all xs)

    -- what holds of one of a list holds of one of it with more at its end
    pub has_left : (xs ys : List A) → Has P xs → Has P (xs ++ ys)
    has_left [] ys has = absurd has
    has_left (x ∷ xs) ys (inl here) = inl here
    has_left (x ∷ xs) ys (inr later) = inr (has_left xs ys later)

    -- what holds of one of a list holds of one of it with more before it
    pub has_right : (xs ys : List A) → Has P ys → Has P (xs ++ ys)
    has_right [] ys has = has
    has_right (x ∷ xs) ys has = inr (has_right xs ys has)

    -- what holds of each of a list holds of one that is in it
    pub each_in : (y : A) (xs : List A) → Each P xs → In y xs → P y
    each_in y [] all has = absurd has
    each_in y (x ∷ xs) all (inl is) = subst P is all.0
    each_in y (x ∷ xs) all (inr later) = each_in y xs all.1 later

  -- where Q follows from P, and P holds of each of a list, Q holds of each of it
  pub each_then : (P Q : A → Type 0) → ((x : A) → P x → Q x) → (xs : List A) → Each P xs → Each Q xs
  each_then P Q then [] all = tt
  each_then P Q then (x ∷ xs) all = (then x all.0, each_then P Q then xs all.1)

  -- where P holds of each of a list, and Q does, both hold of each of it
  pub each_both : (P Q : A → Type 0) (xs : List A) → Each P xs → Each Q xs → Each (λ x. P x × Q x) xs
  each_both P Q [] one two = tt
  each_both P Q (x ∷ xs) one two = ((one.0, two.0), each_both P Q xs one.1 two.1)

  -- where P holds of each of a list, and Q of one of it, there is one of which both hold
  pub each_has : (P Q : A → Type 0) (xs : List A) → Each P xs → Has Q xs → (x : A) × P x × Q x
  each_has P Q [] all has = absurd has
  each_has P Q (x ∷ xs) all (inl here) = (x, all.0, here)
  each_has P Q (x ∷ xs) all (inr later) = each_has P Q xs all.1 later

  module _ (R : A → A → Type 0) where
    -- R holds of any two of two lists together, where it does in each, and of one of the first with one of the second
    pub ordered_append : (xs ys : List A) → Ordered R xs → Ordered R ys → Each (λ x. Each (R x) ys) xs → Ordered R (xs ++ ys)
    ordered_append [] ys one two cross = two
    ordered_append (x ∷ xs) ys one two cross =
        (each_append (R x) xs ys one.0 cross.0, ordered_append xs ys one.1 two cross.1)

    -- where R holds of any two of a list, two that are in it are one, or R holds of them in one order or the other
    pub ordered_in : (x y : A) (xs : List A) → Ordered R xs → In x xs → In y xs → (x ≡ y) ⊎ (R x y ⊎ R y x)
    ordered_in x y [] all has-x has-y = absurd has-x
    ordered_in x y (z ∷ zs) all (inl is_x) (inl is_y) = inl (sym is_x ∙ is_y)
    ordered_in x y (z ∷ zs) all (inl is_x) (inr has-y) = inr (inl (subst (λ (w : A). R w y) is_x (each_in (R z) y zs all.0 has-y)))
    ordered_in x y (z ∷ zs) all (inr has-x) (inl is_y) = inr (inr (subst (λ (w : A). R w x) is_y (each_in (R z) x zs all.0 has-x)))
    ordered_in x y (z ∷ zs) all (inr has-x) (inr has-y) = ordered_in x y zs all.1 has-x has-y

  -- where S follows from R, and R holds of any two of a list, S holds of any two of it
  pub ordered_then : (R S : A → A → Type 0) → ((x y : A) → R x y → S x y) → (xs : List A) → Ordered R xs → Ordered S xs
  ordered_then R S then [] all = tt
  ordered_then R S then (x ∷ xs) all = (each_then (R x) (S x) (then x) xs all.0, ordered_then R S then xs all.1)
