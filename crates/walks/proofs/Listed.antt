-- What is in a list that is made of other lists, and that nothing is in it twice. Assumes nothing.
use mathlib.Core.Path.{◌≡◌, refl, sym, ap, ◌∙◌}
use mathlib.Core.List.{List, [], ◌∷◌, ◌++◌, map, flat_map, tail-eq_of_cons-eq}
use mathlib.Core.Logic.{◌⊎◌, inl, inr}
use Rattle.walks.specs.Lists.{Each, Has, In, Ordered}
use Rattle.walks.proofs.Lists.{each_in, has_left, has_right, ordered_append}

-- two things are not the same
abbrev pub Apart : {A : Type 0} → A → A → Type 0
Apart x y = x ≡ y → ⊥

module _ {A : Type 0} where
  -- what is in two lists together is in one of them
  pub has_either : (P : A → Type 0) (xs ys : List A) → Has P (xs ++ ys) → Has P xs ⊎ Has P ys
  has_either P [] ys has = inr has
  has_either P (x ∷ xs) ys (inl here) = inl (inl here)
  has_either P (x ∷ xs) ys (inr later) = by (has_either P xs ys later)
    where
      by : Has P xs ⊎ Has P ys → Has P (x ∷ xs) ⊎ Has P ys
      by (inl one) = inl (inr one)
      by (inr two) = inr two

  -- of each of a list something holds that holds of all that is in it
  pub in_each : (P : A → Type 0) (xs : List A) → ((x : A) → In x xs → P x) → Each P xs
  in_each P [] all = tt
  in_each P (x ∷ xs) all = (all x (inl refl), in_each P xs (λ y has. all y (inr has)))

-- ---- lists put one after another

module _ {A B : Type 0} (f : A → List B) where
  pub in_flat : (y : B) (x : A) (xs : List A) → In x xs → In y (f x) → In y (flat_map f xs)
  unfolding flat_map
  in_flat y x [] has there = absurd has
  in_flat y x (z ∷ zs) (inl is) there = has_left (λ v. v ≡ y) (f z) (flat_map f zs) (rw is there)
  in_flat y x (z ∷ zs) (inr has) there = has_right (λ v. v ≡ y) (f z) (flat_map f zs) (in_flat y x zs has there)

  pub flat_in : (y : B) (xs : List A) → In y (flat_map f xs) → (x : A) × In x xs × In y (f x)
  unfolding flat_map
  flat_in y [] has = absurd has
  flat_in y (z ∷ zs) has = by (has_either (λ v. v ≡ y) (f z) (flat_map f zs) has) (flat_in y zs)
    where
      by : In y (f z) ⊎ In y (flat_map f zs) → (In y (flat_map f zs) → (x : A) × In x zs × In y (f x)) → (x : A) × In x (z ∷ zs) × In y (f x)
      by (inl here) rest = (z, inl refl, here)
      by (inr later) rest = let r = rest later in (r.0, inr r.1, r.2)

  -- nothing is twice in lists put one after another, if nothing is twice in one of them or in two
  pub flat_once :
      (xs : List A) → Ordered Apart xs
      → ((x : A) → In x xs → Ordered Apart (f x))
      → ((x z : A) (y v : B) → Apart x z → In y (f x) → In v (f z) → Apart y v)
      → Ordered Apart (flat_map f xs)
  unfolding flat_map
  flat_once [] once each apart = tt
  flat_once (x ∷ xs) once each apart =
      ordered_append Apart (f x) (flat_map f xs) (each x (inl refl)) (flat_once xs once.1 (λ z has. each z (inr has)) apart)
      (in_each _ (f x) (λ y here. in_each _ (flat_map f xs) (λ v there.
      let z = flat_in v xs there in
      apart x z.0 y v (each_in (Apart x) z.0 xs once.0 z.1) here z.2)))

-- ---- a list with something in front of each

module _ {A : Type 0} (i : A) where
  abbrev front : List A → List A
  front o = i ∷ o

  pub in_front : (o : List A) (os : List (List A)) → In o os → In (i ∷ o) (map (λ o. i ∷ o) os)
  in_front o [] has = absurd has
  in_front o (p ∷ ps) (inl is) = inl (ap front is)
  in_front o (p ∷ ps) (inr has) = inr (in_front o ps has)

  pub front_in : (o : List A) (os : List (List A)) → In o (map (λ o. i ∷ o) os) → (p : List A) × (o ≡ i ∷ p) × In p os
  front_in o [] has = absurd has
  front_in o (p ∷ ps) (inl is) = (p, sym is, inl refl)
  front_in o (p ∷ ps) (inr has) = let r = front_in o ps has in (r.0, r.1, inr r.2)

  pub front_once : (os : List (List A)) → Ordered Apart os → Ordered Apart (map (λ o. i ∷ o) os)
  front_once [] once = tt
  front_once (o ∷ os) once = (
    in_each _ (map (λ o. i ∷ o) os) (λ p has same.
        let r = front_in p os has in
        each_in (Apart o) r.0 os once.0 r.2 (tail-eq_of_cons-eq (same ∙ r.1))),
    front_once os once.1,
  )
