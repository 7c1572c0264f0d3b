-- Who is named after a lost swap, told from the scenes before it.
use Rattle.std.specs.Prelude.{ℕ, ◌+◌, ◌⊎◌, ◌≡◌, List, [], ◌∷◌, ◌++◌}
use Rattle.turn.specs.Worker.{read_place}
use Rattle.turn.specs.Turn.{After}
use Rattle.engine.specs.Calls.{changes}
use Rattle.view.specs.declared.Change.{Change}
use Rattle.view.specs.declared.Acted.{Acted}
use Rattle.view.specs.declared.Scene.{Scene}
use Rattle.view.specs.declared.Scene.TheVariants.{Nothing, Opened, Began, Turned, Stopped, Over}
use Rattle.view.specs.declared.Stage.{Stage}
use Rattle.view.specs.Stage.{unchanged}

-- ---- the turns of scenes

-- the scene of a stage is a turn, and P holds of it
pub record IsTurn (P : Acted → Type 0) (x : After Stage) : Type 0 where
  pub turn : Acted
  pub is : x.handed.scene ≡ Turned turn
  pub holds : P turn

-- P holds of a turn of scenes
unfoldable pub SomeTurn : (Acted → Type 0) → List (After Stage) → Type 0
SomeTurn P [] = ⊥
SomeTurn P (x ∷ xs) = IsTurn P x ⊎ SomeTurn P xs

-- it holds of none
abbrev pub NoTurn : (Acted → Type 0) → List (After Stage) → Type 0
NoTurn P xs = SomeTurn P xs → ⊥

-- 1 for a scene that is a turn, else 0
abbrev pub one_turn : Scene → ℕ
one_turn Nothing = 0
one_turn (Opened p) = 0
one_turn (Began c) = 0
one_turn (Turned a) = 1
one_turn (Stopped s) = 0
one_turn (Over lots) = 0

-- how many of scenes are turns
unfoldable pub turns_among : List (After Stage) → ℕ
turns_among [] = 0
turns_among (x ∷ xs) = one_turn x.handed.scene + turns_among xs

-- ---- what a turn is

-- §4.9: it changed the mark word of its bucket
abbrev pub Changed : Acted → Type 0
Changed a = changes a.before.place a.report.action ≡ 1

-- it changed the mark word of bucket b
abbrev pub ChangedIn : ℕ → Acted → Type 0
ChangedIn b a = (a.report.bucket ≡ b) × Changed a

-- §11.3: it is worker i's, and it read the mark word whole or changed it
abbrev pub SeenBy : ℕ → Acted → Type 0
SeenBy i a = (a.worker ≡ i) × ((a.before.place ≡ read_place) ⊎ Changed a)

-- ---- who is named

-- the last change of bucket b in scenes, and that it is the one of this name: the worker, and the turn by its number
pub record LastChange (b : ℕ) (before : List (After Stage)) (c : Change) : Type 0 where
  pub older : List (After Stage)
  pub by : After Stage
  pub newer : List (After Stage)
  pub cut : before ≡ older ++ (by ∷ newer)
  pub done : IsTurn (ChangedIn b) by
  pub last : NoTurn (ChangedIn b) newer
  pub named : c ≡ record { turn = by.handed.totals.turns; worker = done.turn.worker }

-- what is noted for bucket b after scenes: its last change, or that there is none
pub data Noted (b : ℕ) (before : List (After Stage)) (c : Change) : Type 0 where
  by_last : LastChange b before c → Noted b before c
  by_nobody : NoTurn (ChangedIn b) before → c ≡ unchanged → Noted b before c

-- §4.8, §11.3, §23.4: WHO IS NAMED AFTER A LOST SWAP: the last that changed the word before it, which is another worker; whoever lost had read the
-- word whole or changed it before that, and has not since
pub record Named (before : List (After Stage)) (a : Acted) : Type 0 where
  pub change : LastChange a.report.bucket before a.change
  pub another : change.done.turn.worker ≡ a.worker → ⊥
  pub seen : SomeTurn (SeenBy a.worker) change.older
  pub unseen : NoTurn (SeenBy a.worker) change.newer
