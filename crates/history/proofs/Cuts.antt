-- Entries that stand somewhere in a trace, and a walk that is cut at one of them. Assumes nothing.
use Prim.Native.Nat.{ℕ, ◌≤◌}
use mathlib.Core.List.{List, [], ◌∷◌, ◌++◌, nil≢cons, head-eq_of_cons-eq, tail-eq_of_cons-eq}
use mathlib.Core.Path.{◌≡◌, refl, sym, ap, subst}
use mathlib.Core.Logic.{◌⊎◌, inl, inr}
use native.Mathlib.Omega.{arith}
use Rattle.turn.specs.declared.Worker.{Worker}
use Rattle.history.specs.Trace.{Turn, Entry, acted, retired, IsTurn, Cut, Some, None, total}
use Rattle.history.proofs.View.{View, Acts, Walk, stays, starts, acts}

-- ---- some entry, and none

-- a cut further on
unfoldable pub cut_later : (P : Entry → List Entry → Type 0) (e : Entry) (es : List Entry) → Cut P es → Cut P (e ∷ es)
cut_later P e es c =
    record {
      older = e ∷ c.older;
      entry = c.entry;
      newer = c.newer;
      cut = ap (λ (l : List Entry). e ∷ l) c.cut;
      holds = c.holds;
    }

-- an empty trace is cut nowhere
pub no_cut : (older : List Entry) (e : Entry) (newer : List Entry) → [] ≡ older ++ (e ∷ newer) → ⊥
no_cut [] e newer cut = nil≢cons cut
no_cut (o ∷ older) e newer cut = nil≢cons cut

module _ (P : Entry → Type 0) where
  -- the first one
  pub some_here : (e : Entry) (es : List Entry) → P e → Some P (e ∷ es)
  some_here e es holds = record { older = []; entry = e; newer = es; cut = refl; holds = holds }

  -- a later one
  pub some_later : (e : Entry) (es : List Entry) → Some P es → Some P (e ∷ es)
  some_later = cut_later (λ e newer. P e)

  -- an empty trace has none
  pub none_nil : None P []
  none_nil some = no_cut some.older some.entry some.newer some.cut

  module _ (e : Entry) (es : List Entry) where
    first_or_later : Some P (e ∷ es) → P e ⊎ Some P es
    first_or_later some = by some.older some.cut
      where
        by : (older : List Entry) → e ∷ es ≡ older ++ (some.entry ∷ some.newer) → P e ⊎ Some P es
        by [] cut = inl (subst P (sym (head-eq_of_cons-eq cut)) some.holds)
        by (o ∷ older) cut =
            inr (record { older = older; entry = some.entry; newer = some.newer; cut = tail-eq_of_cons-eq cut; holds = some.holds })

    -- none more
    pub none_more : (P e → ⊥) → None P es → None P (e ∷ es)
    none_more not_first not_later some = by (first_or_later some)
      where
        by : P e ⊎ Some P es → ⊥
        by (inl first) = not_first first
        by (inr later) = not_later later

  -- two traces with none have none together
  pub none_append : (es fs : List Entry) → None P es → None P fs → None P (es ++ fs)
  none_append [] fs none more = more
  none_append (e ∷ es) fs none more =
      none_more e (es ++ fs) (λ holds. none (some_here e es holds)) (none_append es fs (λ some. none (some_later e es some)) more)

-- where each entry is tested, the trace is cut at the last one of which P holds
pub last_or_none :
    (P : Entry → Type 0) → ((e : Entry) → P e ⊎ (P e → ⊥)) → (es : List Entry) → Cut (λ e newer. P e × None P newer) es ⊎ None P es
last_or_none P test [] = inr (none_nil P)
last_or_none P test (e ∷ es) = by (test e) (last_or_none P test es)
  where
    by :
        P e ⊎ (P e → ⊥)
        → Cut (λ e newer. P e × None P newer) es ⊎ None P es
        → Cut (λ e newer. P e × None P newer) (e ∷ es) ⊎ None P (e ∷ es)
    by first (inl later) = inl (cut_later _ e es later)
    by (inl holds) (inr none) = inl (record { older = []; entry = e; newer = es; cut = refl; holds = (holds, none) })
    by (inr fails) (inr none) = inr (none_more P e es fails none)

-- another property of the same entry
pub some_as : (P : Entry → List Entry → Type 0) (Q : Entry → Type 0) (es : List Entry) (c : Cut P es) → Q c.entry → Some Q es
some_as P Q es c holds = record { older = c.older; entry = c.entry; newer = c.newer; cut = c.cut; holds = holds }

-- ---- some turn

-- a turn of which P holds stands somewhere in a trace
pub record SomeTurn (P : Turn → Type 0) (es : List Entry) : Type 0 where
  pub older : List Entry
  pub turn : Turn
  pub newer : List Entry
  pub cut : es ≡ older ++ (acted turn ∷ newer)
  pub holds : P turn

-- an entry that is such a turn
unfoldable pub some_turn : (P : Turn → Type 0) (es : List Entry) → Some (IsTurn P) es → SomeTurn P es
some_turn P es some = by some.entry some.cut some.holds
  where
    by : (e : Entry) → es ≡ some.older ++ (e ∷ some.newer) → IsTurn P e → SomeTurn P es
    by (acted t) cut holds = record { older = some.older; turn = t; newer = some.newer; cut = cut; holds = holds }
    by (retired r) cut holds = absurd holds

-- ---- what is counted

module _ (count : Entry → ℕ) (e : Entry) (newer : List Entry) where
  within : (older : List Entry) → count e ≤ total count (older ++ (e ∷ newer))
  unfolding total
  within [] = omega arith
  within (o ∷ older) = omega (arith, within older)

-- what an entry counts for is in the total
pub some_counts : (count : Entry → ℕ) (P : Entry → Type 0) (es : List Entry) (some : Some P es) → count some.entry ≤ total count es
some_counts count P es some = rw some.cut (within count some.entry some.newer some.older)

-- ---- a walk, cut at an entry

-- from s by these entries, then the entry, then those to u
pub record CutAt (n : ℕ) (s : View) (before : List Entry) (e : Entry) (after : List Entry) (u : View) : Type 0 where
  pub here : View
  pub new : Worker
  pub there : View
  pub many : ℕ
  pub more : ℕ
  pub first : Walk n s before many here
  pub act : Acts n here e new there
  pub rest : Walk n there after more u

as_entry : {n : ℕ} {s : View} {x y : Entry} {v : Worker} {t : View} → x ≡ y → Acts n s x v t → Acts n s y v t
as_entry {n} {s} {x} {y} {v} {t} is = subst (λ (e : Entry). Acts n s e v t) is

as_entries : {n : ℕ} {s : View} {es fs : List Entry} {k : ℕ} {u : View} → es ≡ fs → Walk n s es k u → Walk n s fs k u
as_entries {n} {s} {es} {fs} {k} {u} is = subst (λ (l : List Entry). Walk n s l k u) is

module _ (n : ℕ) (y : Entry) (after : List Entry) where
  -- every walk can be cut at each of its entries
  pub cut_at :
      {s u : View} {l : List Entry} {k : ℕ} (before : List Entry) → Walk n s l k u → l ≡ before ++ (y ∷ after) → CutAt n s before y after u
  cut_at before (starts start rest) cut =
      let c = cut_at before rest cut in
      record {
        here = c.here;
        new = c.new;
        there = c.there;
        many = _;
        more = c.more;
        first = starts start c.first;
        act = c.act;
        rest = c.rest;
      }
  cut_at [] stays cut = absurd (nil≢cons cut)
  cut_at (e ∷ before) stays cut = absurd (nil≢cons cut)
  cut_at [] (acts act rest) cut =
      record {
        here = _;
        new = _;
        there = _;
        many = 0;
        more = _;
        first = stays;
        act = as_entry (head-eq_of_cons-eq cut) act;
        rest = as_entries (tail-eq_of_cons-eq cut) rest;
      }
  cut_at (e ∷ before) (acts act rest) cut =
      let c = cut_at before rest (tail-eq_of_cons-eq cut) in
      record {
        here = c.here;
        new = c.new;
        there = c.there;
        many = _;
        more = c.more;
        first = acts (as_entry (head-eq_of_cons-eq cut) act) c.first;
        act = c.act;
        rest = c.rest;
      }
