use Rattle.std.proofs.Common.{rules}
use Rattle.std.proofs.lemmas.Result.{err_from_is_err_and}
use Rattle.sheet.proofs.Laying.{open_refused, open_done}
use Rattle.sheet.proofs.Desk.open.Goals as goal

pub returns-in_err-self : goal.returns-in_err-self
returns-in_err-self c =
    let a = c.args in
    let p = err_from_is_err_and c.from_residual.result c.from_residual.ensures.1 in
    rw (p.1, p.2) (open_refused a.plan a.board.now _ a.self.now _ c.open_floor.ensures.whole _ c.in_err-self.was)

pub returns : goal.returns
returns c =
    let a = c.args in
    rw c.idle-records.ensures (open_done a.plan a.board.now _ a.self.now _ c.open_floor.ensures.whole _ c.in_ok-self.was (search rules))
