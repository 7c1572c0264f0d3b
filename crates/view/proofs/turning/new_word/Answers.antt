use Rattle.std.proofs.Common.{ne_eqb}
use Rattle.pen.specs.Words.{bytes}
use Rattle.view.specs.Telling.{new_word}
use Rattle.view.proofs.turning.new_word.Goals as goal
use Rattle.view.proofs.turning.new_word.Goals.{then-w-eq1-via-then-w-eq1, then-w-eq1-via-else-w-eq1+then-claims}

pub returns-then-w-eq1 : goal.returns-then-w-eq1
unfolding bytes new_word
returns-then-w-eq1 c =
    elim c.then-w-eq1.branch [
      | then-w-eq1-via-then-w-eq1 w ↦ rw w.if-w-eq1.true c.mark_word.ensures
      | then-w-eq1-via-else-w-eq1+then-claims w ↦
          rw (ne_eqb c.args.w.place 1 w.if-w-eq1.false, ← w.claims.ensures, w.if-claims.true) c.mark_word.ensures
    ]
