use Rattle.std.proofs.Common.{ap, ◌∙◌, ◌≡◌}
use Rattle.schedule.specs.declared.expected.Expected.{Expected}
use Rattle.schedule.specs.Numbers.{expected_number}
use Rattle.pen.specs.Words.{bytes}
use Rattle.schedule.specs.Saying.{expected, complaint}
use Rattle.pen.proofs.Putting.{writes_then, writes_puts}
use Rattle.schedule.proofs.NumberOf.{said_by}
use Rattle.schedule.proofs.complain.Goals as goal

pub returns : goal.returns
unfolding bytes complaint
returns c =
    let what : c.said.result.now ≡ expected c.args.what =
    c.said.ensures ∙ ap (λ (e : Expected). expected (expected_number e)) c.unwrap_or-expected.ensures ∙ said_by _ _ c.try_from.ensures in
    record {
      lines = rw (← c.spot-spot.ensures, ← what)
          (writes_puts
          (writes_then (c.told.ensures) (writes_then c.told-2.ensures (writes_then c.words.ensures (writes_then c.words-2.ensures c.words-3.ensures)))));
    }
