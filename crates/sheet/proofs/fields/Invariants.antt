-- Where the sheet stands; a field takes more than a byte.
use Rattle.std.proofs.Common.{length, ◌-◌}
use Rattle.sheet.specs.Listing.{played}
use Rattle.sheet.proofs.FieldByField.{Standing}
use Rattle.sheet.proofs.fields.Given as goal

abbrev pub invariant-loop-found : goal.invariant-loop-found
invariant-loop-found l = Standing l.fn.sheet (played l.fn.sheet l.fn.board) l.fn.pen l.board l.desk l.pen l.at

abbrev pub decreases-loop-found : goal.decreases-loop-found
decreases-loop-found l = length l.fn.sheet - l.at
