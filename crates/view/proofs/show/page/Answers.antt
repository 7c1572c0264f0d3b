use Rattle.std.proofs.Common.{◌≡◌, ◌+◌, ◌*◌, ◌-◌, refl, sym, ◌∙◌, arith, le-leb}
use Rattle.std.proofs.lemmas.Bool.{lt-leb}
use Rattle.turn.specs.Turn.{after}
use Rattle.pen.specs.Written.{Writes}
use Rattle.view.specs.Scenes.{scenes_on}
use Rattle.view.proofs.Playing.{Playing, playing_starts, playing_on, playing_more, played_one, played_last, length_here, told_on, page_starts, page_next, page_before, page_ends}
use Rattle.view.proofs.show.page.Goals as goal
use Rattle.view.proofs.show.page.Goals.{Joined-n-page-2, Else-stage, then-n-page-2, else-n-page-2}

-- the scene is told, if it stands on the page
told_next : (c : Joined-n-page-2) → Writes c.args.pen.now (told_on (scenes_on c.args.sheet.now c.args.board.now) c.args.page (c.loop-n.n + 1)) c.if-n-page-2.pen
told_next c =
    let here = played_one _ _ _ _ _ c.loop-n.invariant.0 c.next.ensures in
    elim c.if-n-page-2.branch [
      | then-n-page-2 w ↦ rw w.pen-is (page_next _ c.args.page c.loop-n.n _ _ here w.if-n-page-2.true c.loop-n.invariant.1 w.stage.ensures)
      | else-n-page-2 w ↦ rw w.pen-is (page_before _ c.args.page c.loop-n.n _ _ here (omega arith) c.loop-n.invariant.1)
    ]

-- it was not the last
another : (c : Else-stage) → Playing c.args.sheet.now c.args.board.now (c.loop-n.n + 1) (after c.next.new.board c.next.new.self)
another c = playing_on _ _ _ _ _ c.loop-n.invariant.0 c.next.ensures c.if-stage.false

pub loop-n-init : goal.loop-n-init
loop-n-init c = (rw c.shut-stage.ensures (playing_starts _ _), page_starts (scenes_on c.args.sheet.now c.args.board.now) c.args.page _, omega arith, refl)

pub returns-then-stage : goal.returns-then-stage
returns-then-stage c =
    let here = played_last _ _ _ _ _ c.loop-n.invariant.0 c.next.ensures c.if-stage.true in
    let long = length_here c.loop-n.n _ _ _ here in
    record {
      lines = rw (← page_ends _ c.args.page c.loop-n.n _ _ here refl c.if-n-page.false) (told_next (goal.at.returns-then-stage c).Joined-n-page-2);
      is_last = sym (le-leb _ _ (omega (arith, long, c.if-n-page.false)));
    }

pub loop-n-preserved : goal.loop-n-preserved
loop-n-preserved c = (
  another (goal.at.loop-n-preserved c).Else-stage,
  told_next (goal.at.loop-n-preserved c).Joined-n-page-2,
  omega (arith, c.if-n-page.false),
  c.next.auto.board ∙ c.loop-n.invariant.3,
)

-- the page is full
pub returns-then-n-page : goal.returns-then-n-page
returns-then-n-page c =
    let all : c.loop-n.n - 1024 * c.args.page ≡ 1024 = omega (arith, c.loop-n.invariant.2, c.if-n-page.true) in
    let more = playing_more _ _ _ _ c.loop-n.invariant.0 in
    record { lines = rw all at c.loop-n.invariant.1; is_last = sym (lt-leb _ _ (omega (arith, more, c.if-n-page.true))) }

-- a sheet has no more scenes
pub returns-else-stage : goal.returns-else-stage
returns-else-stage c =
    let p = another (goal.at.returns-else-stage c).Else-stage in
    absurd (omega (arith, p.passed, p.within.turns, p.within.inside))
