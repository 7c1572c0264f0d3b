use Rattle.std.proofs.Common.{sym}
use borrow.Author.Tests.{ne_eqb}
use Rattle.turn.proofs.Refusing.{number_some}
use Rattle.engine.specs.Calls.{show_start}
use Rattle.engine.proofs.Sizes.{shown_right}
use Rattle.engine.proofs.show_start.Goals as goal

pub first_word-requires : goal.first_word-requires
first_word-requires c =
    let ok = shown_right _ _ c.args.lot (sym c.in-Ok.ensures.whole) in
    (ok.some_bucket, ok.buckets)

pub returns-in-Ok : goal.returns-in-Ok
unfolding show_start
returns-in-Ok c = record { whole = rw (← c.in-Ok.ensures.whole) c.first_word.ensures.0 }

pub returns-in-Err : goal.returns-in-Err
unfolding show_start
returns-in-Err c = record { whole = rw (← c.in-Err.ensures.whole, ne_eqb _ 0 (number_some c.in-Err.field-0)) }
