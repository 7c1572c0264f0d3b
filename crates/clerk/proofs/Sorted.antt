-- Calls sorted by their moments, turn by turn; of one turn in the order in which they ended. Assumes nothing.
use Prim.Native.Nat.{ℕ, zero, suc, ◌+◌, ◌≤◌, ◌<◌}
use mathlib.Core.List.{List, [], ◌∷◌, ◌++◌, append_assoc}
use mathlib.Core.Logic.{inl, inr, ite}
use mathlib.Core.Path.{◌≡◌, refl, sym, ap, ◌∙◌}
use native.Mathlib.Decide.{ℕ_discrete}
use native.Mathlib.Omega.{arith}
use Rattle.clerk.specs.Calls.{EndedCall}
use Rattle.walks.specs.Lists.{Each, Has, In, Ordered}
use Rattle.clerk.specs.Sequence.{Placed}
use Rattle.walks.proofs.Lists.{each_all, each_append, each_then, has_left, has_right, ordered_append}
use Rattle.clerk.proofs.Enumerated.{EndsBefore}

-- any call
abbrev pub Any : EndedCall → Type 0
Any c = Unit {0}

-- an earlier moment, or the same one, and another call
abbrev pub Follows : Placed → Placed → Type 0
Follows x y = (x.moment ≤ y.moment) × (x.call ≡ y.call → ⊥)

-- a call at turn m before others, if it is so
abbrev pub if_so : {A : Type 0} → Dec A → EndedCall → ℕ → List Placed → List Placed
if_so d c m rest = ite d (record { call = c; moment = m } ∷ rest) rest

module _ (moment : EndedCall → ℕ) where
  -- those of the calls whose moment is turn m
  abbrev pub placed_at : ℕ → List EndedCall → List Placed
  placed_at m [] = []
  placed_at m (c ∷ cs) = if_so (ℕ_discrete (moment c) m) c m (placed_at m cs)

  -- those whose moment is turn m or one of the k - 1 turns after it, turn by turn
  abbrev pub placed_from : ℕ → ℕ → List EndedCall → List Placed
  placed_from m zero cs = []
  placed_from m (suc k) cs = placed_at m cs ++ placed_from (suc m) k cs

  -- ---- the calls of one turn

  -- P holds of the call, and its moment is turn m
  abbrev pub At : (EndedCall → Type 0) → ℕ → Placed → Type 0
  At P m x = P x.call × (x.moment ≡ m) × (moment x.call ≡ m)

  module _ (m : ℕ) where
    -- what holds of each of some calls holds of each of those that have their moment at turn m
    pub placed_each : (P : EndedCall → Type 0) (cs : List EndedCall) → Each P cs → Each (At P m) (placed_at m cs)
    placed_each P [] all = tt
    placed_each P (c ∷ cs) all = by (ℕ_discrete (moment c) m) (placed_each P cs all.1)
      where
        by : (d : Dec (moment c ≡ m)) → Each (At P m) (placed_at m cs) → Each (At P m) (if_so d c m (placed_at m cs))
        by (yes is) rest = ((all.0, refl, is), rest)
        by (no isnot) rest = rest

    placed_has : (c : EndedCall) (cs : List EndedCall) → moment c ≡ m → In c cs → Has (λ x. x.call ≡ c) (placed_at m cs)
    placed_has c [] at has = absurd has
    placed_has c (d ∷ cs) at (inl is) = by (ℕ_discrete (moment d) m)
      where
        by : (t : Dec (moment d ≡ m)) → Has (λ x. x.call ≡ c) (if_so t d m (placed_at m cs))
        by (yes here) = inl is
        by (no other) = absurd (other (ap moment is ∙ at))
    placed_has c (d ∷ cs) at (inr has) = by (ℕ_discrete (moment d) m) (placed_has c cs at has)
      where
        by : (t : Dec (moment d ≡ m)) → Has (λ x. x.call ≡ c) (placed_at m cs) → Has (λ x. x.call ≡ c) (if_so t d m (placed_at m cs))
        by (yes here) rest = inr rest
        by (no other) rest = rest

    -- where no call of which P holds has its moment at turn m, none of them is placed there
    pub placed_none :
        (P : EndedCall → Type 0)
        → ((c : EndedCall) → P c → moment c ≡ m → ⊥)
        → (cs : List EndedCall)
        → Each P cs
        → placed_at m cs ≡ []
    placed_none P never [] all = refl
    placed_none P never (c ∷ cs) all = by (ℕ_discrete (moment c) m) (placed_none P never cs all.1)
      where
        by : (d : Dec (moment c ≡ m)) → placed_at m cs ≡ [] → if_so d c m (placed_at m cs) ≡ []
        by (yes is) rest = absurd (never c all.0 is)
        by (no isnot) rest = rest

    -- of calls and more of them those whose moment is turn m, one after another
    pub placed_append : (xs ys : List EndedCall) → placed_at m (xs ++ ys) ≡ placed_at m xs ++ placed_at m ys
    placed_append [] ys = refl
    placed_append (c ∷ xs) ys = by (ℕ_discrete (moment c) m) (placed_append xs ys)
      where
        by :
            (d : Dec (moment c ≡ m))
            → placed_at m (xs ++ ys) ≡ placed_at m xs ++ placed_at m ys
            → if_so d c m (placed_at m (xs ++ ys)) ≡ if_so d c m (placed_at m xs) ++ placed_at m ys
        by (yes is) rest = ap (λ (l : List Placed). record { call = c; moment = m } ∷ l) rest
        by (no isnot) rest = rest

  -- ---- the whole sequence

  -- P holds of the call, and its moment is turn m or one of the k - 1 turns after it
  abbrev pub Among : (EndedCall → Type 0) → ℕ → ℕ → Placed → Type 0
  Among P m k x = P x.call × (x.moment ≡ moment x.call) × (m ≤ x.moment) × (x.moment < m + k)

  -- what holds of each of the calls holds of each in the sequence, which is there at its moment
  pub from_each : (P : EndedCall → Type 0) (k m : ℕ) (cs : List EndedCall) → Each P cs → Each (Among P m k) (placed_from m k cs)
  from_each P zero m cs all = tt
  from_each P (suc k) m cs all =
      each_append (Among P m (suc k)) (placed_at m cs) (placed_from (suc m) k cs)
      (each_then (At P m) (Among P m (suc k)) (λ x at. (at.0, at.1 ∙ sym at.2, omega (arith, at.1), omega (arith, at.1))) (placed_at m cs)
      (placed_each m P cs all))
      (each_then (Among P (suc m) k) (Among P m (suc k)) (λ x at. (at.0, at.1, omega (arith, at.2), omega (arith, at.3)))
      (placed_from (suc m) k cs) (from_each P k (suc m) cs all))

  -- among these turns, whatever the calls
  pub from_among : (k m : ℕ) (cs : List EndedCall) → Each (Among Any m k) (placed_from m k cs)
  from_among k m cs = from_each Any k m cs (each_all Any (λ c. tt) cs)

  -- the sequence of k turns, and of l turns from turn n on, which comes after them
  pub from_append :
      (k l m n all : ℕ) (cs : List EndedCall)
      → n ≡ k + m
      → all ≡ k + l
      → placed_from m all cs ≡ placed_from m k cs ++ placed_from n l cs
  from_append zero l m n all cs next both =
      let same : n ≡ m = omega arith in
      let rest : all ≡ l = omega arith in rw (same, rest)
  from_append (suc k) l m n zero cs next both = absurd (omega arith)
  from_append (suc k) l m n (suc all) cs next both =
      ap (λ (xs : List Placed). placed_at m cs ++ xs) (from_append k l (suc m) n all cs (omega arith) (omega arith))
      ∙ sym (append_assoc (placed_at m cs) (placed_from (suc m) k cs) (placed_from n l cs))

  -- a call that has its moment among these turns is in the sequence
  pub from_has :
      (c : EndedCall) (k m : ℕ) (cs : List EndedCall)
      → m ≤ moment c
      → moment c < m + k
      → In c cs
      → Has (λ x. x.call ≡ c) (placed_from m k cs)
  from_has c zero m cs low high has = absurd (omega arith)
  from_has c (suc k) m cs low high has =
      by (ℕ_discrete (moment c) m) (λ other. from_has c k (suc m) cs (omega arith) (omega arith) has)
    where
      by :
          Dec (moment c ≡ m)
          → ((moment c ≡ m → ⊥) → Has (λ x. x.call ≡ c) (placed_from (suc m) k cs))
          → Has (λ x. x.call ≡ c) (placed_from m (suc k) cs)
      by (yes at) rest = has_left (λ x. x.call ≡ c) (placed_at m cs) (placed_from (suc m) k cs) (placed_has m c cs at has)
      by (no other) rest = has_right (λ x. x.call ≡ c) (placed_at m cs) (placed_from (suc m) k cs) (rest other)

  placed_ordered : (m : ℕ) (cs : List EndedCall) → Ordered EndsBefore cs → Ordered Follows (placed_at m cs)
  placed_ordered m [] all = tt
  placed_ordered m (c ∷ cs) all = by (ℕ_discrete (moment c) m) (placed_ordered m cs all.1)
    where
      by : (d : Dec (moment c ≡ m)) → Ordered Follows (placed_at m cs) → Ordered Follows (if_so d c m (placed_at m cs))
      by (yes is) rest = (
        each_then (At (EndsBefore c) m) (Follows (record { call = c; moment = m }))
            (λ x at. (omega (arith, at.1), λ same. let ends = ap (λ (d : EndedCall). d.last) same in omega (arith, at.0)))
            (placed_at m cs) (placed_each m (EndsBefore c) cs all.0),
        rest,
      )
      by (no isnot) rest = rest

  -- any two of the sequence are in the order of their moments, and are two calls
  pub from_ordered : (k m : ℕ) (cs : List EndedCall) → Ordered EndsBefore cs → Ordered Follows (placed_from m k cs)
  from_ordered zero m cs all = tt
  from_ordered (suc k) m cs all =
      ordered_append Follows (placed_at m cs) (placed_from (suc m) k cs) (placed_ordered m cs all) (from_ordered k (suc m) cs all)
      (each_then (At Any m) (λ x. Each (Follows x) (placed_from (suc m) k cs)) cross (placed_at m cs)
      (placed_each m Any cs (each_all Any (λ c. tt) cs)))
    where
      cross : (x : Placed) → At Any m x → Each (Follows x) (placed_from (suc m) k cs)
      cross x at =
          each_then (Among Any (suc m) k) (Follows x)
          (λ y later. (omega (arith, at.1, later.2), λ same. omega (arith, at.2, ap moment same, later.1, later.2)))
          (placed_from (suc m) k cs) (from_among k (suc m) cs)
