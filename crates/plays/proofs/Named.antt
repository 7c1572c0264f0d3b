-- Who is named after a lost swap. Assumes nothing.
use Prim.Native.Nat.{ℕ}
use mathlib.Core.Bool.{Bool, true, false, cond}
use mathlib.Core.Logic.{◌⊎◌, inl, inr}
use mathlib.Core.Path.{◌≡◌, refl, sym, ap, ap₂, subst, ◌∙◌}
use mathlib.Core.List.{List, [], ◌∷◌, ◌++◌, nil≢cons, head-eq_of_cons-eq, tail-eq_of_cons-eq, append_assoc}
use native.Mathlib.Omega.{arith}
use lib.Dec.{eqb}
use borrow.Author.Tests.{eqb-true}
use Rattle.turn.specs.declared.Action.{Action}
use Rattle.turn.specs.declared.Action.TheVariants.{Read, Store, Won, Lost}
use Rattle.turn.specs.Worker.{free_place}
use Rattle.turn.specs.Turn.{After}
use Rattle.engine.specs.Calls.{changes}
use Rattle.engine.proofs.Tallies.{changes_change}
use Rattle.sheet.specs.Fields.{Bytes}
use Rattle.history.specs.Trace.{Turn, Entry, acted, Some}
use Rattle.history.specs.Moment.{Own, Sees, HasMoment, ChangedByAnother}
use Rattle.history.proofs.Cuts.{no_cut, some_here, some_later}
use Rattle.history.proofs.DemandThree.{every_lost_swap}
use Rattle.history.proofs.Opened.{opening_ready}
use Rattle.view.specs.declared.Acted.{Acted}
use Rattle.view.specs.declared.Scene.{Scene}
use Rattle.view.specs.declared.Scene.TheVariants.{Nothing, Opened, Began, Turned, Stopped, Over}
use Rattle.view.specs.declared.Stage.{Stage}
use Rattle.view.specs.Stage.{next_scene}
use Rattle.view.specs.Scenes.{scenes}
use Rattle.view.specs.Naming.{IsTurn, SomeTurn, NoTurn, ChangedIn, SeenBy, Noted, by_last, by_nobody, Named}
use Rattle.view.proofs.Coming.{place}
use Rattle.view.proofs.LastChange.{noted_last}
use Rattle.view.proofs.Walking.{Onward, no_more, onward, next_onward, walk}
use Rattle.plays.proofs.Scenes.{turn_of, entries_in, entries_of, entries_then, Played, Plays, not_yet, plays, plays_reached, plays_carries}

-- ---- the scenes and the entries that they have

-- scenes are cut at the turn of an entry
pub record CutScenes (xs : List (After Stage)) (e : Entry) (rest : List Entry) : Type 0 where
  pub older : List (After Stage)
  pub by : After Stage
  pub newer : List (After Stage)
  pub cut : xs ≡ older ++ (by ∷ newer)
  pub done : IsTurn (λ a. acted (turn_of a) ≡ e) by
  pub others : entries_of newer ≡ rest

module _ (e : Entry) (rest : List Entry) where
  -- the same cut with a scene before it
  cut_further : (x : After Stage) (xs : List (After Stage)) → CutScenes xs e rest → CutScenes (x ∷ xs) e rest
  cut_further x xs c =
      record {
        older = x ∷ c.older;
        by = c.by;
        newer = c.newer;
        cut = ap (λ (l : List (After Stage)). x ∷ l) c.cut;
        done = c.done;
        others = c.others;
      }

  module _
      (x : After Stage) (xs : List (After Stage))
      (further : (before : List Entry) → entries_of xs ≡ before ++ (e ∷ rest) → CutScenes xs e rest)
    where
      cut_turn :
          (a : Acted)
          → x.handed.scene ≡ Turned a
          → (before : List Entry)
          → acted (turn_of a) ∷ entries_of xs ≡ before ++ (e ∷ rest)
          → CutScenes (x ∷ xs) e rest
      cut_turn a is [] cut =
          let turn : IsTurn (λ y. acted (turn_of y) ≡ e) x = record { turn = a; is = is; holds = head-eq_of_cons-eq cut } in
          record { older = []; by = x; newer = xs; cut = refl; done = turn; others = tail-eq_of_cons-eq cut }
      cut_turn a is (o ∷ before) cut = cut_further x xs (further before (tail-eq_of_cons-eq cut))

      cut_scene :
          (y : Scene)
          → x.handed.scene ≡ y
          → (before : List Entry)
          → entries_in y ++ entries_of xs ≡ before ++ (e ∷ rest)
          → CutScenes (x ∷ xs) e rest
      cut_scene Nothing is before cut = cut_further x xs (further before cut)
      cut_scene (Opened p) is before cut = cut_further x xs (further before cut)
      cut_scene (Began c) is before cut = cut_further x xs (further before cut)
      cut_scene (Turned a) is before cut = cut_turn a is before cut
      cut_scene (Stopped s) is before cut = cut_further x xs (further before cut)
      cut_scene (Over lots) is before cut = cut_further x xs (further before cut)

  -- every entry of scenes is that of a turn of theirs
  cut_scenes : (xs : List (After Stage)) (before : List Entry) → entries_of xs ≡ before ++ (e ∷ rest) → CutScenes xs e rest
  unfolding entries_of
  cut_scenes [] before cut = absurd (no_cut before e rest cut)
  cut_scenes (x ∷ xs) before cut = cut_scene x xs (cut_scenes xs) x.handed.scene refl before cut

module _ (P : Acted → Type 0) where
  -- a turn where scenes are cut
  some_at : (older : List (After Stage)) (x : After Stage) (newer : List (After Stage)) → IsTurn P x → SomeTurn P (older ++ (x ∷ newer))
  unfolding SomeTurn
  some_at [] x newer holds = inl holds
  some_at (o ∷ older) x newer holds = inr (some_at older x newer holds)

  -- a turn of the later scenes
  some_in : (older newer : List (After Stage)) → SomeTurn P newer → SomeTurn P (older ++ newer)
  unfolding SomeTurn
  some_in [] newer some = some
  some_in (o ∷ older) newer some = inr (some_in older newer some)

  module _ (Q : Entry → Type 0) (entry : (a : Acted) → P a → Q (acted (turn_of a))) where
    some_further : (es fs : List Entry) → Some Q fs → Some Q (es ++ fs)
    some_further [] fs some = some
    some_further (e ∷ es) fs some = some_later Q e (es ++ fs) (some_further es fs some)

    -- a turn of scenes is an entry of theirs
    some_entry : (xs : List (After Stage)) → SomeTurn P xs → Some Q (entries_of xs)
    unfolding SomeTurn entries_of
    some_entry [] none = absurd none
    some_entry (x ∷ xs) (inl here) = rw here.is (some_here Q _ (entries_of xs) (entry here.turn here.holds))
    some_entry (x ∷ xs) (inr there) = some_further (entries_in x.handed.scene) (entries_of xs) (some_entry xs there)

  -- where scenes with such a turn among them come after others, the last such turn of all is one of theirs
  last_within :
      (first xs older newer : List (After Stage)) (x : After Stage)
      → first ++ xs ≡ older ++ (x ∷ newer)
      → NoTurn P newer
      → SomeTurn P xs
      → (part : List (After Stage)) × ((xs ≡ part ++ (x ∷ newer)) × (older ≡ first ++ part))
  last_within [] xs older newer x same last some = (older, (same, refl))
  last_within (f ∷ first) xs [] newer x same last some =
      absurd (last (subst (SomeTurn P) (tail-eq_of_cons-eq same) (some_in first xs some)))
  last_within (f ∷ first) xs (o ∷ older) newer x same last some =
      let w = last_within first xs older newer x (tail-eq_of_cons-eq same) last some in
      let one : f ≡ o = head-eq_of_cons-eq same in
      (w.0, (w.1.0, ap₂ (λ (y : After Stage) (l : List (After Stage)). y ∷ l) (sym one) w.1.1))

-- ---- what a turn is, in the scenes and in the history

-- a change is one
change_is : (place : ℕ) (a : Action) → changes place a ≡ 1 → (a ≡ Won) ⊎ ((place ≡ free_place) × (a ≡ Store))
change_is place Read one = absurd (omega arith)
change_is place Store one = inr (by (eqb place free_place) refl one, refl)
  where
    by : (t : Bool) → eqb place free_place ≡ t → ◌≡◌ {A = ℕ} (cond t 1 0) 1 → place ≡ free_place
    by true is one = eqb-true place free_place is
    by false isnot one = absurd (omega arith)
change_is place Won one = inl refl
change_is place Lost one = absurd (omega arith)

-- what a worker has seen, it has seen in the history
sees : (y : Turn) (a : Acted) → SeenBy y.worker a → Own y (acted (turn_of a)) × Sees (acted (turn_of a))
sees y a (own, inl reads) = (own, inl reads)
sees y a (own, inr changed) = (own, inr (change_is a.before.place a.report.action changed))

-- and what it has seen there
seen_there : (y : Turn) (a : Acted) → Own y (acted (turn_of a)) → Sees (acted (turn_of a)) → SeenBy y.worker a
seen_there y a own (inl reads) = (own, inl reads)
seen_there y a own (inr changed) = (own, inr (changes_change a.before.place a.report.action changed))

-- ---- from the moment of a turn to the turn

module _
    (before : List (After Stage)) (a : Acted) (has : HasMoment (entries_of before) (turn_of a))
    (change : Some (ChangedByAnother (turn_of a)) has.newer)
  where
    abbrev b : ℕ
    b = a.report.bucket

    abbrev Seen : Acted → Type 0
    Seen = SeenBy a.worker

    -- the scenes before it, cut at its moment
    abbrev m : CutScenes before (acted has.moment) has.newer
    m = cut_scenes (acted has.moment) has.newer before has.older has.cut

    -- its moment is of its worker, which saw the word
    moment_seen : IsTurn Seen m.by
    moment_seen =
        let same = sym m.done.holds in
        record {
          turn = m.done.turn;
          is = m.done.is;
          holds = seen_there (turn_of a) m.done.turn (subst (Own (turn_of a)) same has.is.own) (subst Sees same has.is.sees);
        }

    -- and has not since
    not_since : NoTurn Seen m.newer
    not_since some =
        let Saw : Entry → Type 0 = λ e. Own (turn_of a) e × Sees e in
        has.is.latest (subst (Some Saw) m.others (some_entry Seen Saw (sees (turn_of a)) m.newer some))

    -- but the word was changed since
    changed_since : SomeTurn (ChangedIn b) m.newer
    changed_since =
        let c = cut_scenes change.entry change.newer m.newer change.older (m.others ∙ change.cut) in
        let y = c.done.turn in
        let by = subst (ChangedByAnother (turn_of a)) (sym c.done.holds) change.holds in
        subst (SomeTurn (ChangedIn b)) (sym c.cut)
        (some_at (ChangedIn b) c.older c.by c.newer
        (record { turn = y; is = c.done.is; holds = (by.0.1, changes_change y.before.place y.report.action by.1) }))

    -- the scenes to its moment
    abbrev till : List (After Stage)
    till = m.older ++ (m.by ∷ [])

    -- and those since
    whole : till ++ m.newer ≡ before
    whole = append_assoc m.older (m.by ∷ []) m.newer ∙ sym m.cut

    moment_names : Noted b before a.change → Named before a
    unfolding SomeTurn
    moment_names (by_nobody nobody is) =
        absurd (nobody (subst (SomeTurn (ChangedIn b)) whole (some_in (ChangedIn b) till m.newer changed_since)))
    moment_names (by_last l) =
        let w = last_within (ChangedIn b) till m.newer l.older l.newer l.by (whole ∙ l.cut) l.last changed_since in
        let since : SomeTurn Seen (l.by ∷ l.newer) → ⊥ =
        λ some. not_since (subst (SomeTurn Seen) (sym w.1.0) (some_in Seen w.0 (l.by ∷ l.newer) some)) in
        record {
          change = l;
          another = λ own. since (inl (record { turn = l.done.turn; is = l.done.is; holds = (own, inr l.done.holds.1) }));
          seen =
              subst (SomeTurn Seen) (sym (w.1.1 ∙ append_assoc m.older (m.by ∷ []) w.0))
              (some_at Seen m.older m.by w.0 moment_seen);
          unseen = λ some. since (inr some);
        }

-- ---- the play with a turn

-- where there are scenes, the floor is open
of_plays : {sheet : List ℕ} {xs : List (After Stage)} {s : After Stage} → Plays sheet xs s → (xs ≡ [] → ⊥) → Played sheet xs s
of_plays not_yet some = absurd (some refl)
of_plays (plays p) some = p

some_scenes : (xs : List (After Stage)) (x : After Stage) → xs ++ (x ∷ []) ≡ [] → ⊥
some_scenes [] x is = nil≢cons (sym is)
some_scenes (y ∷ ys) x is = nil≢cons (sym is)

module _ (sheet : List ℕ) (bytes : Bytes sheet) (before later : List (After Stage)) (x : After Stage) (a : Acted) where
  module _ (cut : scenes sheet ≡ before ++ (x ∷ later)) (is : x.handed.scene ≡ Turned a) where
    -- all is not over with a turn
    turn_goes_on : (s : After Stage) → x ≡ next_scene sheet s → Onward sheet s (next_scene sheet s) → (place (next_scene sheet s)).over ≡ false
    turn_goes_on s next (no_more over quiet) =
        absurd (quiet (record { turn = a; is = ap (λ (y : After Stage). y.handed.scene) (sym next) ∙ is; holds = tt }))
    turn_goes_on s next (onward short more stands does) = stands.goes_on

    turn_played : Played sheet (before ++ (x ∷ [])) x
    turn_played =
        let b = walk sheet (Plays sheet) (plays_carries sheet bytes) not_yet before later x cut in
        let goes = turn_goes_on b.stage b.next (next_onward sheet (plays_reached b.holds)) in
        subst (λ (y : After Stage). Played sheet (before ++ (y ∷ [])) y) (sym b.next)
        (of_plays (plays_carries sheet bytes before b.stage b.holds goes) (some_scenes before _))

    -- a lost swap is the last turn of the history so far, and has its moment there
    lost_moment :
        a.report.action ≡ Lost → (has : HasMoment (entries_of before) (turn_of a)) × Some (ChangedByAnother (turn_of a)) has.newer
    lost_moment =
        let p = turn_played in
        every_lost_swap (opening_ready p.opening) p.calls
        (record {
          before = entries_of before;
          turn = turn_of a;
          after = [];
          cut = p.same ∙ entries_then before x ∙ ap (λ (y : Scene). entries_of before ++ entries_in y) is;
        })

-- WHO IS NAMED AFTER A LOST SWAP, in every sheet: the last that changed the word before it, another worker; whoever lost had seen the word
-- before that, and not since
pub named_after_loss :
    (sheet : List ℕ)
    → Bytes sheet
    → (before later : List (After Stage)) (x : After Stage) (a : Acted)
    → scenes sheet ≡ before ++ (x ∷ later)
    → x.handed.scene ≡ Turned a
    → a.report.action ≡ Lost
    → Named before a
named_after_loss sheet bytes before later x a cut is lost =
    let m = lost_moment sheet bytes before later x a cut is lost in
    moment_names before a m.0 m.1 (noted_last sheet before later x a cut is)
