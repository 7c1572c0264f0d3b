-- Scene after scene: each of a sheet's scenes is the next one of a stage where all before it have led. Assumes nothing.
use Prim.Native.Nat.{ℕ, zero, suc, ◌+◌, ◌≤◌}
use mathlib.Core.Bool.{Bool, true, false, cond}
use mathlib.Core.Path.{◌≡◌, refl, sym, subst}
use mathlib.Core.List.{List, [], ◌∷◌, ◌++◌, append-nil, append_assoc}
use lib.Dec.{ltb}
use lib.ListN.{length}
use borrow.Author.Tests.{ltb-true, ltb-false}
use Rattle.turn.specs.Turn.{After}
use Rattle.view.specs.declared.Stage.{Stage}
use Rattle.view.specs.Stage.{next_scene}
use Rattle.view.specs.Scenes.{scenes_from, before_all, scenes}
use Rattle.view.proofs.Coming.{desk_in, place, apart, Stands, Quiet, Does, Leads, ends, goes}
use Rattle.view.proofs.Listed.{long_scene}
use Rattle.view.proofs.Next.{next_leads, first_leads}

-- ---- the next scene of a stage that a sheet comes to

-- a stage that a sheet comes to: before all, or in a field
pub data Reached (sheet : List ℕ) : After Stage → Type 0 where
  at_start_lem : Reached sheet (before_all sheet)
  in_field : {s : After Stage} → length sheet ≤ 16384 → (more : ℕ) → Stands sheet more s → Reached sheet s

-- its next scene is the last, and no turn; or something was done, and it comes to another stage
pub data Onward (sheet : List ℕ) (s x : After Stage) : Type 0 where
  no_more : (place x).over ≡ true → Quiet x → Onward sheet s x
  onward :
      length sheet ≤ 16384
      → (more : ℕ)
      → Stands sheet more x
      → Does sheet (place s).end (desk_in s) s.handed.changes x
      → Onward sheet s x

-- so the lines can be left out
of_leads :
    {sheet lines : List ℕ} {from : ℕ} (s : After Stage) {x : After Stage}
    → length sheet ≤ 16384
    → Leads sheet from (place s).end (desk_in s) s.handed.changes lines x
    → Onward sheet s x
of_leads s short (ends over quiet is) = no_more over quiet
of_leads s short (goes more stands later is does) = onward short more stands does

module _ (sheet : List ℕ) where
  start_onward : (t : Bool) → ltb 16384 (length sheet) ≡ t → Onward sheet (before_all sheet) (next_scene sheet (before_all sheet))
  start_onward true long = rw (long_scene sheet (ltb-true 16384 (length sheet) long)) (no_more refl (λ turn. apart (cc)))
  start_onward false isnot = let short = ltb-false 16384 (length sheet) isnot in of_leads (before_all sheet) short (first_leads sheet short)

  pub next_onward : {s : After Stage} → Reached sheet s → Onward sheet s (next_scene sheet s)
  next_onward at_start_lem = start_onward _ refl
  next_onward {s} (in_field short more stands) = of_leads s short (next_leads sheet short more s stands)

-- ---- scene after scene

-- what holds where scenes have led holds where one more leads, if it is not the last
abbrev pub Carries : List ℕ → (List (After Stage) → After Stage → Type 0) → Type 0
Carries sheet P =
    (done : List (After Stage)) (s : After Stage)
    → P done s
    → (place (next_scene sheet s)).over ≡ false
    → P (done ++ (next_scene sheet s ∷ [])) (next_scene sheet s)

-- a stage where these scenes have led, and whose next one is x
pub record Before (sheet : List ℕ) (P : List (After Stage) → After Stage → Type 0) (done : List (After Stage)) (x : After Stage) : Type 0 where
  pub stage : After Stage
  pub holds : P done stage
  pub next : x ≡ next_scene sheet stage

-- no scenes have none among them
nothing : {A : Type 0} (xs ys : List (After Stage)) (x : After Stage) → [] ≡ xs ++ (x ∷ ys) → A
nothing [] ys x is = apart (cc)
nothing (z ∷ zs) ys x is = apart (cc)

-- the scenes after one, if there are any
rest_on :
    {A : Type 0} (t : Bool) (others zs ys : List (After Stage)) (x : After Stage)
    → (t ≡ false → others ≡ zs ++ (x ∷ ys) → A)
    → cond t [] others ≡ zs ++ (x ∷ ys)
    → A
rest_on true others zs ys x on is = nothing zs ys x is
rest_on false others zs ys x on is = on refl is

module _ (sheet : List ℕ) (P : List (After Stage) → After Stage → Type 0) (carries : Carries sheet P) where
  -- from where scenes have led
  walk_on :
      (more : ℕ) (s : After Stage) (done xs ys : List (After Stage)) (x : After Stage)
      → P done s
      → scenes_from more sheet s ≡ xs ++ (x ∷ ys)
      → Before sheet P (done ++ xs) x
  unfolding scenes_from
  walk_on zero s done xs ys x holds is = nothing xs ys x is
  walk_on (suc more) s done [] ys x holds is =
      record { stage = s; holds = subst (λ (l : List (After Stage)). P l s) (sym (append-nil done)) holds; next = sym (cc) }
  walk_on (suc more) s done (z ∷ zs) ys x holds is =
      let y = next_scene sheet s in
      let same : y ≡ z = cc in
      let joined : (done ++ (y ∷ [])) ++ zs ≡ done ++ (z ∷ zs) = rw (← same) (append_assoc done (y ∷ []) zs) in
      rest_on (place y).over (scenes_from more sheet y) zs ys x
      (λ goes others.
      subst (λ (l : List (After Stage)). Before sheet P l x) joined
      (walk_on more y (done ++ (y ∷ [])) zs ys x (carries done s holds goes) others)) (cc)

  -- from the beginning
  pub walk :
      P [] (before_all sheet)
      → (before later : List (After Stage)) (x : After Stage)
      → scenes sheet ≡ before ++ (x ∷ later)
      → Before sheet P before x
  unfolding scenes
  walk starts before later x is = walk_on (length sheet + 2) (before_all sheet) [] before later x starts is
