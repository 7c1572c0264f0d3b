-- The change that is told with a turn is the last one before it in its bucket. Assumes nothing.
use Prim.Native.Nat.{ℕ, ◌<◌}
use mathlib.Core.Bool.{Bool, true, false, cond}
use mathlib.Core.Logic.{◌⊎◌, inl, inr}
use mathlib.Core.Path.{◌≡◌, refl, sym, ap, subst, ◌∙◌}
use mathlib.Core.List.{List, [], ◌∷◌, ◌++◌, append_assoc}
use native.Mathlib.Decide.{ℕ_discrete}
use native.Mathlib.Omega.{arith}
use lib.Dec.{eqb}
use lib.ListN.{length, get_or, set, length-set, get_or-replicate}
use lib.Seq.{get_or-set_same, get_or-set_other}
use borrow.Author.Tests.{eqb-true}
use Rattle.mark.proofs.Choices.{not_both}
use Rattle.turn.specs.declared.Action.{Action}
use Rattle.turn.specs.declared.Action.TheVariants.{Read, Store, Won, Lost}
use Rattle.turn.specs.declared.Worker.{Worker}
use Rattle.turn.specs.Worker.{free_place}
use Rattle.turn.specs.Turn.{After}
use Rattle.engine.specs.Calls.{changes}
use Rattle.view.specs.declared.Change.{Change}
use Rattle.view.specs.declared.Acted.{Acted}
use Rattle.view.specs.declared.Scene.TheVariants.{Turned}
use Rattle.view.specs.declared.Stage.{Stage}
use Rattle.view.specs.Stage.{unchanged, next_scene}
use Rattle.view.specs.Scenes.{before_all, scenes}
use Rattle.view.specs.Naming.{IsTurn, SomeTurn, NoTurn, ChangedIn, Noted, by_last, by_nobody}
use Rattle.view.proofs.Coming.{desk_in, place, apart, acted_at, turn_is, Turns, Does, opens, begins, turns}
use Rattle.view.proofs.Walking.{Reached, at_start_lem, in_field, Onward, no_more, onward, next_onward, Carries, walk}

-- ---- one scene more

module _ (P : Acted → Type 0) where
  -- a turn of scenes and one more is one of them, or that one
  some_then : (xs : List (After Stage)) (x : After Stage) → SomeTurn P (xs ++ (x ∷ [])) → SomeTurn P xs ⊎ IsTurn P x
  unfolding SomeTurn
  some_then [] x (inl here) = inr here
  some_then [] x (inr none) = absurd none
  some_then (y ∷ ys) x (inl here) = inl (inl here)
  some_then (y ∷ ys) x (inr there) = by (some_then ys x there)
    where
      by : SomeTurn P ys ⊎ IsTurn P x → (IsTurn P y ⊎ SomeTurn P ys) ⊎ IsTurn P x
      by (inl there) = inl (inr there)
      by (inr here) = inr here

  none_then : (xs : List (After Stage)) (x : After Stage) → NoTurn P xs → (IsTurn P x → ⊥) → NoTurn P (xs ++ (x ∷ []))
  none_then xs x none not some = by (some_then xs x some)
    where
      by : SomeTurn P xs ⊎ IsTurn P x → ⊥
      by (inl there) = none there
      by (inr here) = not here

module _ (b : ℕ) (done : List (After Stage)) (x : After Stage) where
  -- a scene that did not change the word of a bucket leaves what is noted for it
  still : (c : Change) → (IsTurn (ChangedIn b) x → ⊥) → Noted b done c → Noted b (done ++ (x ∷ [])) c
  still c not (by_last l) =
      by_last
      (record {
        older = l.older;
        by = l.by;
        newer = l.newer ++ (x ∷ []);
        cut = ap (λ (xs : List (After Stage)). xs ++ (x ∷ [])) l.cut ∙ append_assoc l.older (l.by ∷ l.newer) (x ∷ []);
        done = l.done;
        last = none_then (ChangedIn b) l.newer x l.last not;
        named = l.named;
      })
  still c not (by_nobody none is) = by_nobody (none_then (ChangedIn b) done x none not) is

  -- one that did is the last
  now :
      (a : Acted)
      → x.handed.scene ≡ Turned a
      → ChangedIn b a
      → Noted b (done ++ (x ∷ [])) (record { turn = x.handed.totals.turns; worker = a.worker })
  unfolding SomeTurn
  now a is changed =
      let turn : IsTurn (ChangedIn b) x = record { turn = a; is = is; holds = changed } in
      by_last (record { older = done; by = x; newer = []; cut = refl; done = turn; last = λ none. none; named = refl })

-- ---- where scenes have led

-- for each bucket its last change is noted
pub record Follows (sheet : List ℕ) (done : List (After Stage)) (s : After Stage) : Type 0 where
  pub reached : Reached sheet s
  pub long : length s.handed.changes ≡ 256
  pub notes : (b : ℕ) → b < 256 → Noted b done (get_or s.handed.changes b unchanged)

-- a change is counted as one
one_change : (place : ℕ) (a : Action) → eqb (changes place a) 0 ≡ false → changes place a ≡ 1
one_change place Read some = not_both true some refl
one_change place Store some = by (eqb place free_place) some
  where
    by : (t : Bool) → eqb (cond t 1 0) 0 ≡ false → ◌≡◌ {A = ℕ} (cond t 1 0) 1
    by true some = refl
    by false some = not_both true some refl
one_change place Won some = refl
one_change place Lost some = not_both true some refl

module _ (sheet : List ℕ) (done : List (After Stage)) (s x : After Stage) (follows : Follows sheet done s) (reached : Reached sheet x) where
  abbrev all : List Change
  all = s.handed.changes

  -- what is noted in a list is noted at the stage that has it
  noted_in :
      (cs : List Change)
      → x.handed.changes ≡ cs
      → (b : ℕ)
      → Noted b (done ++ (x ∷ [])) (get_or cs b unchanged)
      → Noted b (done ++ (x ∷ [])) (get_or x.handed.changes b unchanged)
  noted_in cs same b = subst (λ (l : List Change). Noted b (done ++ (x ∷ [])) (get_or l b unchanged)) (sym same)

  -- a scene that changes no word
  quiet_follows : ((b : ℕ) → IsTurn (ChangedIn b) x → ⊥) → x.handed.changes ≡ all → Follows sheet (done ++ (x ∷ [])) x
  quiet_follows not same =
      record {
        reached = reached;
        long = ap length same ∙ follows.long;
        notes = λ b under. noted_in all same b (still b done x (get_or all b unchanged) (not b) (follows.notes b under));
      }

  module _ (i : ℕ) (w : Worker) (t : Turns (desk_in s) all i w x) where
    -- the change that it is, if it is one
    abbrev new : Change
    new = record { turn = x.handed.totals.turns; worker = i }

    each_noted :
        changes w.place t.report.action ≡ 1
        → (b : ℕ)
        → b < 256
        → Dec (b ≡ t.report.bucket)
        → Noted b (done ++ (x ∷ [])) (get_or (set all t.report.bucket new) b unchanged)
    each_noted one b under (yes own) =
        rw (own, get_or-set_same all t.report.bucket new unchanged (rw follows.long t.bucket))
        (now t.report.bucket done x _ t.scene (refl, one))
    each_noted one b under (no other) =
        rw (get_or-set_other all t.report.bucket b new unchanged other)
        (still b done x (get_or all b unchanged) (λ turn. other (sym (turn_is (ChangedIn b) t.scene turn).0)) (follows.notes b under))

    turn_follows : (none : Bool) → eqb (changes w.place t.report.action) 0 ≡ none → Follows sheet (done ++ (x ∷ [])) x
    turn_follows true is =
        let zero = eqb-true (changes w.place t.report.action) 0 is in
        quiet_follows (λ b turn. absurd (omega (arith, zero, (turn_is (ChangedIn b) t.scene turn).1))) (t.notes ∙ rw is)
    turn_follows false isnot =
        let one = one_change w.place t.report.action isnot in
        let same : x.handed.changes ≡ set all t.report.bucket new = t.notes ∙ rw isnot in
        record {
          reached = reached;
          long = ap length same ∙ simp length-set follows.long;
          notes = λ b under. noted_in _ same b (each_noted one b under (ℕ_discrete b t.report.bucket));
        }

  does_follow : Does sheet (place s).end (desk_in s) all x → Follows sheet (done ++ (x ∷ [])) x
  does_follow (opens next p read scene same did) = quiet_follows (λ b turn. apart (cc)) same
  does_follow (begins next c read scene same did) = quiet_follows (λ b turn. apart (cc)) same
  does_follow (turns i t) = turn_follows i _ t _ refl

module _ (sheet : List ℕ) where
  starts : Follows sheet [] (before_all sheet)
  unfolding SomeTurn
  starts = record { reached = at_start_lem; long = refl; notes = λ b under. by_nobody (λ none. none) (get_or-replicate 256 b unchanged unchanged under) }

  carries : Carries sheet (Follows sheet)
  carries done s follows goes = by (next_onward sheet follows.reached)
    where
      by : Onward sheet s (next_scene sheet s) → Follows sheet (done ++ (next_scene sheet s ∷ [])) (next_scene sheet s)
      by (no_more over quiet) = not_both (place (next_scene sheet s)).over goes over
      by (onward short more stands does) = does_follow sheet done s (next_scene sheet s) follows (in_field short more stands) does

  -- what is told with a turn, at the stage before it
  told_noted :
      (before : List (After Stage)) (s : After Stage) (a : Acted)
      → Follows sheet before s
      → (next_scene sheet s).handed.scene ≡ Turned a
      → Noted a.report.bucket before a.change
  told_noted before s a follows is = by (next_onward sheet follows.reached)
    where
      of_turn : (i : ℕ) (w : Worker) → Turns (desk_in s) s.handed.changes i w (next_scene sheet s) → Noted a.report.bucket before a.change
      of_turn i w t =
          let same : acted_at s.handed.changes i w t.later t.report ≡ a = cc t.scene in
          subst (λ (y : Acted). Noted y.report.bucket before y.change) same (follows.notes t.report.bucket t.bucket)

      of_does : Does sheet (place s).end (desk_in s) s.handed.changes (next_scene sheet s) → Noted a.report.bucket before a.change
      of_does (opens next p read scene same did) = apart (cc)
      of_does (begins next c read scene same did) = apart (cc)
      of_does (turns i t) = of_turn i _ t

      by : Onward sheet s (next_scene sheet s) → Noted a.report.bucket before a.change
      by (no_more over quiet) = absurd (quiet (record { turn = a; is = is; holds = tt }))
      by (onward short more stands does) = of_does does

  -- THE CHANGE THAT IS TOLD WITH A TURN is the last one of its bucket before it, or that there is none
  pub noted_last :
      (before later : List (After Stage)) (x : After Stage) (a : Acted)
      → scenes sheet ≡ before ++ (x ∷ later)
      → x.handed.scene ≡ Turned a
      → Noted a.report.bucket before a.change
  noted_last before later x a cut is =
      let b = walk sheet (Follows sheet) carries starts before later x cut in
      told_noted before b.stage a b.holds (rw b.next at is)
