-- What an answer tells: its report, and its number, which is the one that the call's tests come to. Assumes nothing.
use Prim.Native.Nat.{ℕ}
use mathlib.Core.Bool.{cond}
use mathlib.Core.Path.{◌≡◌, refl, sym, ◌∙◌}
use mathlib.Core.List.{List}
use lib.Dec.{eqb}
use borrow.Author.Tests.{eqb-true}
use Rattle.mark.proofs.Choices.{by_cases}
use Rattle.turn.specs.declared.Worker.{Worker}
use Rattle.turn.specs.declared.Report.{Report}
use Rattle.turn.specs.Turn.{Answer, Refused, Done, Turned, After, after, number_of, refusing}

-- the report in an answer, and this one where it has none
abbrev pub report_in : Report → Answer → Report
report_in r (Refused number) = r
report_in r (Done report) = report

-- the number in what a turn left
abbrev pub number_in : After Turned → ℕ
number_in x = number_of x.handed.answer

-- a turn with number n is done where n is 0, and else refused with it
pub number_told :
    (n : ℕ) (done : After Turned) (b : List ℕ) (w : Worker) → number_in done ≡ 0 → number_in (cond (eqb n 0) done (after b (refusing n w))) ≡ n
number_told n done b w none =
    by_cases (λ (x : After Turned). number_in x ≡ n) (eqb n 0) _ _ (λ is. none ∙ sym (eqb-true n 0 is)) (λ isnot. refl)
