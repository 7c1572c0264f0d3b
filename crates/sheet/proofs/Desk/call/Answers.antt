use Rattle.std.proofs.Common.{arith}
use Rattle.std.proofs.lemmas.Result.{err_from_is_err_and}
use Rattle.sheet.proofs.Seats.{call_refused, call_known, call_done}
use Rattle.sheet.proofs.Desk.call.Goals as goal

pub returns-in_err-begun : goal.returns-in_err-begun
returns-in_err-begun c =
    let a = c.args in
    let p = err_from_is_err_and c.from_residual.result c.from_residual.ensures.1 in
    rw (p.1, p.2) (call_refused a.call a.board.now a.self.now _ (rw c.record_of.ensures at c.start.ensures) _ c.in_err-begun.was)

pub bounds-self-from : goal.bounds-self-from
bounds-self-from c =
    let a = c.args in
    let known = call_known a.call a.board.now a.self.now _ (rw c.record_of.ensures at c.start.ensures) _ c.in_ok-begun.was in
    omega (arith, known, c.from.ensures)

pub returns : goal.returns
returns c =
    let a = c.args in
    rw c.from.ensures (call_done a.call a.board.now a.self.now _ (rw c.record_of.ensures at c.start.ensures) _ c.in_ok-begun.was)
