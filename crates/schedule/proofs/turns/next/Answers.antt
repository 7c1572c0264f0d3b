use Rattle.std.proofs.Common.{sym, ◌∙◌}
use Rattle.schedule.proofs.Turning.{word_inside, step_on, step_ahead}
use Rattle.schedule.proofs.Spans.{reach_then}
use Rattle.schedule.proofs.turns.next.Goals as goal

pub returns : goal.returns
returns c =
    let word = c.word-word.ensures in
    let some = sym c.is_empty.ensures ∙ c.if-is_empty.false in
    let n = rw c.from.ensures at c.in_ok-worker.ensures.takes in
    let t = rw n.text at c.in_ok-times.ensures.finds in
    record {
      text = c.in_ok-times.ensures.text ∙ n.text;
      is = step_on word some _ _ _ _ n.finds.is t.is;
      inside = λ _. word_inside word some;
      ahead = step_ahead word some _ c.in_ok-times.times _ _ n.finds.is t.reach.onward;
      reach = reach_then n.finds.reach t.reach;
    }
