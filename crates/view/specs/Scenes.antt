-- A sheet as its scenes, and what is told and listed of them.
use Rattle.std.specs.Prelude.{ℕ, zero, suc, ◌+◌, ◌*◌, cond, List, [], ◌∷◌, ◌++◌, length, take, drop, replicate}
use Rattle.turn.specs.Turn.{After, after}
use Rattle.engine.specs.declared.Totals.{Totals}
use Rattle.sheet.specs.Play.{ended_line}
use Rattle.sheet.specs.Line.{totals_line, refusal_line}
use Rattle.sheet.specs.Listing.{words_asked}
use Rattle.view.specs.declared.Scene.{Scene}
use Rattle.view.specs.declared.Scene.TheVariants.{Nothing, Opened, Began, Turned, Stopped, Over}
use Rattle.view.specs.declared.Stage.{Stage}
use Rattle.view.specs.Stage.{shut, next_scene}
use Rattle.view.specs.Telling.{stop_told, stage_told}

-- scene after scene from where a sheet stands, so many at most: each as the board and the stage that it leaves
unfoldable pub scenes_from : ℕ → List ℕ → After Stage → List (After Stage)
scenes_from zero sheet s = []
scenes_from (suc more) sheet s =
    let x : After Stage = next_scene sheet s in
    x ∷ cond x.handed.cursor.over [] (scenes_from more sheet x)

-- before the first scene: a board of as many words as the sheet's floor asks for
abbrev pub before_all : List ℕ → After Stage
before_all sheet = after (replicate (words_asked sheet) 0) shut

-- the scenes of a sheet on a lent board; there are no more than it has bytes, and one
abbrev pub scenes_on : List ℕ → List ℕ → List (After Stage)
scenes_on sheet board = scenes_from (length sheet + 2) sheet (after board shut)

-- §23.1: THE SCENES OF A SHEET: a field of a call is one, a turn is one, and one comes last
unfoldable pub scenes : List ℕ → List (After Stage)
scenes sheet = scenes_from (length sheet + 2) sheet (before_all sheet)

-- what is told of scenes, one after another
unfoldable pub all_told : List (After Stage) → List ℕ
all_told [] = []
all_told (x ∷ xs) = stage_told x ++ all_told xs

-- §23.1: THE BOARD, TURN BY TURN
unfoldable pub board_text : List ℕ → List ℕ
board_text sheet = all_told (scenes sheet)

-- a page has so many scenes
abbrev pub per_page : ℕ
per_page = 1024

-- the scenes of a page
abbrev pub on_page : List ℕ → ℕ → List (After Stage)
on_page sheet page = take per_page (drop (per_page * page) (scenes sheet))

-- ---- the listing of document 01, from the same scenes

-- §23.8: the line that a scene is listed by, if it is
abbrev pub scene_listed : Totals → Scene → List ℕ
scene_listed t Nothing = []
scene_listed t (Opened p) = []
scene_listed t (Began c) = []
scene_listed t (Turned a) = ended_line t.turns a.worker a.before.kind a.report.progress
scene_listed t (Stopped s) = refusal_line s.number s.offset
scene_listed t (Over lots) = totals_line t

-- the lines of scenes, one after another
unfoldable pub all_listed : List (After Stage) → List ℕ
all_listed [] = []
all_listed (x ∷ xs) = scene_listed x.handed.totals x.handed.scene ++ all_listed xs

-- ---- the refusal alone

-- the sentence of a refusal; nothing of a sheet that was not refused
abbrev pub refusal_in : Scene → List ℕ
refusal_in Nothing = []
refusal_in (Opened p) = []
refusal_in (Began c) = []
refusal_in (Turned a) = []
refusal_in (Stopped s) = stop_told s
refusal_in (Over lots) = []

-- of scenes, whose last may be one
unfoldable pub all_refused : List (After Stage) → List ℕ
all_refused [] = []
all_refused (x ∷ xs) = refusal_in x.handed.scene ++ all_refused xs

-- §23.7: THE SENTENCE OF A SHEET'S REFUSAL
unfoldable pub refusal_text : List ℕ → List ℕ
refusal_text sheet = all_refused (scenes sheet)
