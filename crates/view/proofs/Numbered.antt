-- The number that is told of a turn is how many turns there are with it. Assumes nothing.
use Prim.Native.Nat.{ℕ, ◌+◌}
use mathlib.Core.Path.{◌≡◌, refl, sym, ap, ◌∙◌}
use mathlib.Core.List.{List, [], ◌∷◌, ◌++◌}
use native.Mathlib.Omega.{arith}
use Rattle.mark.proofs.Choices.{not_both}
use Rattle.turn.specs.Turn.{After}
use Rattle.engine.specs.declared.Totals.{Totals}
use Rattle.sheet.specs.Play.{Outcome, open_field, call_field}
use Rattle.view.specs.declared.Acted.{Acted}
use Rattle.view.specs.declared.Scene.{Scene}
use Rattle.view.specs.declared.Scene.TheVariants.{Turned}
use Rattle.view.specs.declared.Stage.{Stage}
use Rattle.view.specs.Stage.{next_scene}
use Rattle.view.specs.Scenes.{before_all, scenes}
use Rattle.view.specs.Naming.{one_turn, turns_among}
use Rattle.view.proofs.Coming.{desk_in, place, Does, opens, begins, turns}
use Rattle.view.proofs.Walking.{Reached, at_start_lem, in_field, Onward, no_more, onward, next_onward, Carries, walk}

-- the turns of scenes and one more
among_then : (xs : List (After Stage)) (x : After Stage) → turns_among (xs ++ (x ∷ [])) ≡ turns_among xs + one_turn x.handed.scene
unfolding turns_among
among_then [] x = omega arith
among_then (y ∷ ys) x = omega (arith, among_then ys x)

-- a scene counts one turn more if it is one
counts_on :
    {sheet : List ℕ} {at : ℕ} (s x : After Stage)
    → Does sheet at (desk_in s) s.handed.changes x
    → x.handed.totals.turns ≡ s.handed.totals.turns + one_turn x.handed.scene
unfolding open_field call_field
counts_on s x (opens next p read scene same did) =
    rw scene (let e = ap (λ (o : Outcome). o.left.handed.totals.turns) did in omega (arith, e))
counts_on s x (begins next c read scene same did) =
    rw scene (let e = ap (λ (o : Outcome). o.left.handed.totals.turns) did in omega (arith, e))
counts_on s x (turns i t) = rw t.scene (ap (λ (n : Totals). n.turns) t.counted)

-- where scenes have led, as many turns are counted as there are among them
record Counts (sheet : List ℕ) (done : List (After Stage)) (s : After Stage) : Type 0 where
  reached : Reached sheet s
  counted : s.handed.totals.turns ≡ turns_among done

module _ (sheet : List ℕ) where
  starts : Counts sheet [] (before_all sheet)
  unfolding turns_among
  starts = record { reached = at_start_lem; counted = refl }

  one_more :
      (done : List (After Stage)) (s x : After Stage)
      → Counts sheet done s
      → Does sheet (place s).end (desk_in s) s.handed.changes x
      → x.handed.totals.turns ≡ turns_among done + one_turn x.handed.scene
  one_more done s x was does = counts_on s x does ∙ ap (λ (n : ℕ). n + one_turn x.handed.scene) was.counted

  carries : Carries sheet (Counts sheet)
  carries done s was goes = by (next_onward sheet was.reached)
    where
      by : Onward sheet s (next_scene sheet s) → Counts sheet (done ++ (next_scene sheet s ∷ [])) (next_scene sheet s)
      by (no_more over quiet) = not_both (place (next_scene sheet s)).over goes over
      by (onward short more stands does) =
          record {
            reached = in_field short more stands;
            counted = one_more done s (next_scene sheet s) was does ∙ sym (among_then done (next_scene sheet s));
          }

  -- THE NUMBER OF A TURN is one more than the turns before it
  pub numbered :
      (before later : List (After Stage)) (x : After Stage) (a : Acted)
      → scenes sheet ≡ before ++ (x ∷ later)
      → x.handed.scene ≡ Turned a
      → x.handed.totals.turns ≡ turns_among before + 1
  numbered before later x a cut is =
      let b = walk sheet (Counts sheet) carries starts before later x cut in
      let next = ap (λ (y : After Stage). y.handed.scene) (sym b.next) ∙ is in
      ap (λ (y : After Stage). y.handed.totals.turns) b.next ∙ told b.stage b.holds next (next_onward sheet b.holds.reached)
    where
      told :
          (s : After Stage)
          → Counts sheet before s
          → (next_scene sheet s).handed.scene ≡ Turned a
          → Onward sheet s (next_scene sheet s)
          → (next_scene sheet s).handed.totals.turns ≡ turns_among before + 1
      told s was next (no_more over quiet) = absurd (quiet (record { turn = a; is = next; holds = tt }))
      told s was next (onward short more stands does) =
          one_more before s (next_scene sheet s) was does ∙ ap (λ (y : Scene). turns_among before + one_turn y) next
