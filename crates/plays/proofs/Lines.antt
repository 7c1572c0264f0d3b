-- The E lines of a trace with one turn more, and that the sheet's own line is such a line. Assumes nothing.
use Prim.Native.Nat.{ℕ, suc, ◌+◌}
use mathlib.Core.Path.{◌≡◌, refl, sym, ap, ◌∙◌}
use mathlib.Core.List.{List, [], ◌∷◌, ◌++◌, append_assoc, append-nil}
use native.Mathlib.Omega.{arith}
use Rattle.turn.specs.declared.Progress.{Progress}
use Rattle.turn.specs.declared.Progress.TheVariants.{GoesOn, Ended}
use Rattle.sheet.specs.Play.{ended_line}
use Rattle.history.specs.Trace.{Turn, Entry, acted, retired, total}
use Rattle.history.specs.Counts.{turns_in}
use Rattle.plays.specs.Plays.{line_for, end_lines}

-- what the sheet lists of a turn is the line of its entry
pub line_is : (n : ℕ) (e : Turn) (p : Progress) → ended_line n e.worker e.was.kind p ≡ line_for n e p
line_is n e GoesOn = refl
line_is n e (Ended answer) = refl

-- the line of a turn, if it ended its call
abbrev line_of : ℕ → Turn → List ℕ
line_of n e = line_for n e e.report.progress

-- the line of a turn more comes last
pub end_lines_then : (n : ℕ) (es : List Entry) (e : Turn) → end_lines n (es ++ (acted e ∷ [])) ≡ end_lines n es ++ line_of (turns_in es + n) e
unfolding end_lines total
end_lines_then n [] e = let same : n ≡ 0 + n = omega arith in append-nil (line_of n e) ∙ ap (λ (m : ℕ). line_of m e) same
end_lines_then n (acted d ∷ es) e =
    let more : turns_in es + suc n ≡ 1 + turns_in es + n = omega arith in
    ap (λ (l : List ℕ). line_of n d ++ l) (end_lines_then (suc n) es e ∙ ap (λ (m : ℕ). end_lines (suc n) es ++ line_of m e) more)
    ∙ sym (append_assoc (line_of n d) _ _)
end_lines_then n (retired r ∷ es) e =
    let same : turns_in es + n ≡ 0 + turns_in es + n = omega arith in end_lines_then n es e ∙ ap (λ (m : ℕ). end_lines n es ++ line_of m e) same
