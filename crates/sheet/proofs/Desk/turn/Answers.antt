-- The turn is the engine's, and the others sleep through it.
use Rattle.std.proofs.Common.{arith, ◌∙◌, refl, sym}
use Rattle.std.proofs.lemmas.Result.{err_from_is_err_and}
use Rattle.turn.specs.Asleep.{slept}
use Rattle.engine.proofs.Few.{few_more, few_exact}
use Rattle.engine.proofs.Firsts.{firsts_none, firsts_next}
use Rattle.pen.proofs.Putting.{writes_none}
use Rattle.pen.specs.Written.{Writes}
use Rattle.sheet.specs.Play.{ended_line}
use Rattle.sheet.proofs.OneTurn.{turn_refused, turn_known, turn_did}
use Rattle.sheet.proofs.Sleeping.{all_slept}
use Rattle.sheet.proofs.Desk.turn.Goals as goal
use Rattle.sheet.proofs.Desk.turn.Goals.{in-Ended, in_default}

pub returns-in_err-done : goal.returns-in_err-done
returns-in_err-done c =
    let a = c.args in
    let p = err_from_is_err_and c.from_residual.result c.from_residual.ensures.1 in
    let tried = rw (c.record_of-w.ensures, c.seat_of.ensures) at c.try_turn.ensures.whole in
    rw (p.1, p.2) (turn_refused a.worker a.board.now a.self.now _ _ tried _ _ c.in_err-done.was)

pub slice_bounds-sleeper-items-end : goal.slice_bounds-sleeper-items-end
slice_bounds-sleeper-items-end c =
    let a = c.args in
    let tried = rw (c.record_of-w.ensures, c.seat_of.ensures) at c.try_turn.ensures.whole in
    (turn_known a.worker a.board.now a.self.now _ _ tried a.pen.now _ c.in_ok-done.was).1

pub loop-sleeper-init : goal.loop-sleeper-init
loop-sleeper-init c = sym (firsts_none (λ k w. slept w) _)

pub loop-sleeper-preserved : goal.loop-sleeper-preserved
loop-sleeper-preserved c = rw (c.slept.ensures, c.loop-sleeper.invariant) (firsts_next (λ k w. slept w) c.loop-sleeper.sleeper-index _)

pub bounds-self-from : goal.bounds-self-from
bounds-self-from c =
    let a = c.args in
    let tried = rw (c.record_of-w.ensures, c.seat_of.ensures) at c.try_turn.ensures.whole in
    let known = turn_known a.worker a.board.now a.self.now _ _ tried a.pen.now _ c.in_ok-done.was in
    omega (arith, known.0, known.1, c.from.ensures)

pub returns : goal.returns
returns c =
    let a = c.args in
    let tried = rw (c.record_of-w.ensures, c.seat_of.ensures) at c.try_turn.ensures.whole in
    let asleep =
    all_slept a.self.now.floor.workers c.loop-sleeper.sleeper-index a.self.now.records _ c.requires.past c.loop-sleeper.invariant c.loop-sleeper-test.false in
    let few = few_more 16383 c.record_of-w.result.place c.in_ok-done.done.report a.self.now.totals c.requires.few in
    let counted = c.add-totals.ensures.whole ∙ few_exact 16384 _ (omega arith) few in
    let line :
    Writes a.pen.now (ended_line c.add-totals.result.turns a.worker c.record_of-w.result.kind c.in_ok-done.done.report.progress) c.match-done.pen =
    elim c.match-done.branch [
      | in-Ended w ↦ rw (w.in-Ended.is, w.pen-is) w.ended.ensures
      | in_default w ↦ rw (w.in_default.is, w.pen-is) (writes_none _)
    ] in
    turn_did a.worker a.board.now a.self.now _ _ tried a.pen.now _ c.in_ok-done.was c.match-done.pen _ _ (rw (asleep, c.from.ensures) refl)
    (rw c.record_of-w.ensures at counted) (rw c.record_of-w.ensures at line)
