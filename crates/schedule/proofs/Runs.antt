-- Turns of one worker, one after another. Assumes nothing.
use Prim.Native.Nat.{ℕ, zero, suc, ◌+◌, ◌-◌, ◌≤◌, ◌<◌}
use mathlib.Core.Path.{◌≡◌, refl, sym, ap, subst, ◌∙◌}
use mathlib.Core.List.{List, [], ◌∷◌, ◌++◌, append-nil, append_assoc}
use native.Mathlib.Numerals.{add-one}
use native.Mathlib.Omega.{arith}
use lib.Dec.{eqb}
use lib.ListN.{length, drop, get_or, length-drop, drop_of_length-le}
use lib.Seq.{drop-cons}
use borrow.Author.Tests.{eq-eqb, ne_eqb}
use Rattle.mark.proofs.Choices.{by_cases}
use Rattle.pen.specs.declared.Pen.{Pen}
use Rattle.pen.specs.Written.{Writes}
use Rattle.pen.proofs.Putting.{writes_then}
use Rattle.schedule.specs.Writing.{same_as, run_text, runs_text}

module _ (turns : List ℕ) (i worker : ℕ) where
  -- one turn more
  pub same_one : i < length turns → get_or turns i 0 ≡ worker → i + same_as worker (drop i turns) ≡ i + 1 + same_as worker (drop (i + 1) turns)
  unfolding same_as
  same_one inside is = rw (add-one, drop-cons turns i 0 inside, eq-eqb (get_or turns i 0) worker is) (omega arith)

  -- another's turn
  pub same_other : i < length turns → (get_or turns i 0 ≡ worker → ⊥) → i + same_as worker (drop i turns) ≡ i
  unfolding same_as
  same_other inside other = rw (drop-cons turns i 0 inside, ne_eqb (get_or turns i 0) worker other) (omega arith)

  -- no turn is left
  pub same_over : length turns ≤ i → i + same_as worker (drop i turns) ≡ i
  unfolding same_as
  same_over over = rw (drop_of_length-le turns over) (omega arith)

-- no more turns than there are
pub same_within : (worker : ℕ) (turns : List ℕ) → same_as worker turns ≤ length turns
unfolding same_as
same_within worker [] = omega arith
same_within worker (i ∷ is) =
    let more = same_within worker is in
    by_cases (λ (n : ℕ). n ≤ suc (length is)) (eqb i worker) (1 + same_as worker is) 0 (λ is. omega arith) (λ isnot. omega arith)

none_left : (l : List ℕ) → length l ≡ 0 → l ≡ []
none_left [] none = refl
none_left (x ∷ l) none = absurd (omega (arith, none))

-- no turn, no run
runs_none : (more : ℕ) → runs_text more [] ≡ []
unfolding runs_text
runs_none zero = refl
runs_none (suc more) = refl

-- the run at the head of the turns, and the rest
runs_here :
    (more worker : ℕ) (behind : List ℕ)
    → 1 ≤ more
    → runs_text more (worker ∷ behind) ≡ run_text worker (1 + same_as worker behind) ++ runs_text (more - 1) (drop (same_as worker behind) behind)
unfolding runs_text
runs_here zero worker behind some = absurd (omega arith)
runs_here (suc more) worker behind some = let less : suc more - 1 ≡ more = omega arith in rw less

-- the runs of a list of turns, told but for the rest
pub record Telling (turns : List ℕ) (first pen : Pen) (rest : List ℕ) : Type 0 where
  pub more : ℕ
  pub so_far : List ℕ
  pub lines : Writes first so_far pen
  pub same : so_far ++ runs_text more rest ≡ runs_text (length turns) turns
  pub enough : length rest ≤ more

module _ {turns : List ℕ} {first pen : Pen} {rest : List ℕ} (g : Telling turns first pen rest) where
  -- another is told
  pub telling_next :
      {worker same : ℕ} {behind : List ℕ} {later : Pen}
      → rest ≡ worker ∷ behind
      → same ≡ same_as worker behind
      → Writes pen (run_text worker (1 + same)) later
      → Telling turns first later (drop same behind)
  telling_next {worker} {same} {behind} all is run =
      let some : 1 ≤ g.more = (let long = ap length all in omega (arith, long, g.enough)) in
      let here = rw (← is) at (runs_here g.more worker behind some) in
      record {
        more = g.more - 1;
        so_far = g.so_far ++ run_text worker (1 + same);
        lines = writes_then g.lines run;
        same =
            append_assoc g.so_far (run_text worker (1 + same)) _
            ∙ ap (λ (l : List ℕ). g.so_far ++ l) (sym here)
            ∙ ap (λ (l : List ℕ). g.so_far ++ runs_text g.more l) (sym all)
            ∙ g.same;
        enough = (let long = ap length all in let d = length-drop same behind in omega (arith, long, d, g.enough));
      }

  -- all are told
  pub telling_over : length rest ≡ 0 → Writes first (runs_text (length turns) turns) pen
  telling_over over =
      let all : g.so_far ≡ runs_text (length turns) turns =
      sym (append-nil g.so_far)
      ∙ ap (λ (l : List ℕ). g.so_far ++ l) (sym (runs_none g.more))
      ∙ ap (λ (l : List ℕ). g.so_far ++ runs_text g.more l) (sym (none_left rest over))
      ∙ g.same in
      subst (λ (l : List ℕ). Writes first l pen) all g.lines
