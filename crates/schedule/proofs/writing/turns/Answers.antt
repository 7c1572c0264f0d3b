use Rattle.std.proofs.Common.{arith, length, drop, ◌-◌, length-drop}
use lib.Seq.{take_all}
use Rattle.pen.specs.Words.{bytes}
use Rattle.pen.proofs.Putting.{writes_then}
use Rattle.schedule.specs.Writing.{turns_text}
use Rattle.schedule.proofs.Runs.{telling_next, telling_over}
use Rattle.schedule.proofs.writing.turns.Goals as goal

pub loop-worker-preserved : goal.loop-worker-preserved
loop-worker-preserved c =
    let behind = c.in-Some.behind.now in
    let same = c.same_as-same.result in
    let d = length-drop same behind in
    rw (take_all (length behind - same) (drop same behind) (omega (arith, d)))
    (telling_next c.loop-worker.invariant c.in-Some.ensures.cases.0 c.same_as-same.ensures.is c.run.ensures)

pub returns : goal.returns
unfolding bytes turns_text
returns c = writes_then c.words.ensures (writes_then (telling_over c.loop-worker.invariant c.in_default.ensures.cases) c.words-2.ensures)
