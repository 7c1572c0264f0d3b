-- What the public functions promise (§12.1), and of the private ones those whose promise has several parts.
use Rattle.std.specs.Prelude.{ℕ, ◌+◌, ◌*◌, ◌≡◌, Bool, List, length, take, drop, leb}
use Rattle.turn.specs.Turn.{After}
use Rattle.pen.specs.declared.Pen.{Pen}
use Rattle.pen.specs.Written.{Wrote, Writes}
use Rattle.view.specs.declared.Stage.{Stage}
use Rattle.view.specs.declared.Page.{Page}
use Rattle.view.specs.Scenes.{scenes, all_told, on_page, per_page, refusal_text}

-- a page of the text of scenes: the pen before and after, and whether it is the last
pub record PagePut (all : List (After Stage)) (page : ℕ) (old new : Pen) (last : Bool) : Type 0 where
  pub lines : Writes old (all_told (take per_page (drop (per_page * page) all))) new
  pub is_last : last ≡ leb (length all) (per_page * page + per_page)

-- a page of the board's text: the buffer before and after, how long it is, and whether it is the last
pub record PageWritten (sheet : List ℕ) (page : ℕ) (out later : List ℕ) (r : Page) : Type 0 where
  pub lines : Wrote out 0 (all_told (on_page sheet page)) later r.written
  pub last : r.last ≡ leb (length (scenes sheet)) (per_page * page + per_page)

-- what is said of the refusal of a sheet: the buffer before and after, and how long it is
pub record RefusalSaid (sheet out later : List ℕ) (r : ℕ) : Type 0 where
  pub lines : Wrote out 0 (refusal_text sheet) later r
