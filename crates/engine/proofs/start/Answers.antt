use Rattle.std.proofs.lemmas.Result.{err_from_is_err_and}
use borrow.Author.Tests.{ne_eqb}
use Rattle.turn.proofs.Refusing.{number_some}
use Rattle.engine.proofs.Starting.{start_asked}
use Rattle.engine.proofs.start.Goals as goal

pub returns-in_err-start_refusal : goal.returns-in_err-start_refusal
returns-in_err-start_refusal c =
    let p = err_from_is_err_and c.from_residual.result c.from_residual.ensures.1 in
    let a = c.args in
    let why = c.in_err-start_refusal.field-0.0 in
    record {
      whole =
          rw (p.1, p.2, ← start_asked a.board.now a.seat a.w a.asked _ _ c.is_late-late.ensures c.in_err-start_refusal.ensures, ne_eqb _ 0 (number_some why));
    }

pub returns : goal.returns
returns c =
    let a = c.args in
    record {
      whole =
          rw (c.record.ensures, c.leaves.ensures)
          (start_asked a.board.now a.seat a.w a.asked 0 _ c.is_late-late.ensures c.in_ok-start_refusal.ensures);
    }
