-- The turns of a field, one after another: what those done and those that are left come to. Assumes nothing.
use Prim.Native.Nat.{ℕ, ◌+◌, ◌-◌, ◌≤◌, ◌<◌}
use mathlib.Core.Bool.{true, false}
use mathlib.Core.Path.{◌≡◌, refl, sym, ap, ◌∙◌}
use mathlib.Core.List.{List, [], ◌++◌, append-nil, append_assoc}
use native.Mathlib.Numerals.{add-one}
use native.Mathlib.Omega.{arith}
use lib.Dec.{eqb}
use lib.ListN.{length, get_or, drop}
use lib.Seq.{drop-cons}
use Rattle.std.proofs.Math.ListN.{drop_of_length-le}
use borrow.Author.Tests.{eq-eqb, ne_eqb}
use Rattle.turn.specs.Turn.{After, after}
use Rattle.pen.specs.declared.Pen.{Pen}
use Rattle.pen.specs.Written.{Writes}
use Rattle.pen.proofs.Putting.{writes_none}
use Rattle.sheet.specs.Play.{Desk, Outcome, outcome, turn_at_desk, and_then, turns_done}
use Rattle.sheet.specs.Promises.{Does}
use Rattle.sheet.specs.Room.{Ready}
use Rattle.sheet.proofs.OneTurn.{ready_le, turn_ready}
use Rattle.pen.proofs.Putting.{writes_then}

-- lines before what something comes to
abbrev lines_first : List ℕ → Outcome → Outcome
lines_first lines o = outcome (lines ++ o.lines) o.left o.stop

-- the turns before one are done, and those from there on come to the rest
pub record Going (turns board₀ : List ℕ) (d₀ : Desk) (pen₀ : Pen) (board : List ℕ) (d : Desk) (pen : Pen) (k : ℕ) : Type 0 where
  pub so_far : List ℕ
  pub lines : Writes pen₀ so_far pen
  pub same : lines_first so_far (turns_done (drop k turns) (after board d)) ≡ turns_done turns (after board₀ d₀)
  pub ready : Ready (16384 - length turns + k) d
  pub short : length turns ≤ 16384

-- before the first
pub going_starts :
    (turns board : List ℕ) (d : Desk) (pen : Pen)
    → Ready (16384 - length turns) d
    → length turns ≤ 16384
    → Going turns board d pen board d pen 0
going_starts turns board d pen ready short =
    record { so_far = []; lines = writes_none pen; same = refl; ready = ready_le _ _ d (omega arith) ready; short = short }

module _
    (turns board₀ : List ℕ) (d₀ : Desk) (pen₀ : Pen) (board : List ℕ) (d : Desk) (pen : Pen) (k : ℕ)
    (g : Going turns board₀ d₀ pen₀ board d pen k)
  where
    -- all are done
    pub going_over : length turns ≤ k → Does (turns_done turns (after board₀ d₀)) pen₀ pen board d 0
    unfolding turns_done
    going_over over =
        let same = rw (drop_of_length-le turns over) at g.same in
        rw (← same)
        (record {
          lines = rw (append-nil g.so_far) g.lines;
          comes = record { words = refl; stop = refl; desk = refl };
        })

    module _ (inside : k < length turns) where
      -- the desk is ready for the next
      pub going_ready : Ready 16383 d
      going_ready = ready_le _ 16383 d (omega (arith, g.short)) g.ready

      module _
          (later : Pen) (left : List ℕ) (x : Desk) (number : ℕ)
          (did : Does (turn_at_desk (get_or turns k 0) (after board d)) pen later left x number)
        where
          abbrev o : Outcome
          o = turn_at_desk (get_or turns k 0) (after board d)

          turn_here : turns_done (drop k turns) (after board d) ≡ and_then o (turns_done (drop (k + 1) turns))
          unfolding turns_done
          turn_here = rw (add-one k, drop-cons turns k 0 inside)

          here : lines_first g.so_far (and_then o (turns_done (drop (k + 1) turns))) ≡ turns_done turns (after board₀ d₀)
          here = ap (lines_first g.so_far) (sym turn_here) ∙ g.same

          then_lines : Writes pen₀ (g.so_far ++ o.lines) later
          then_lines = writes_then g.lines did.lines

          -- it is refused
          pub going_refused : (number ≡ 0 → ⊥) → Does (turns_done turns (after board₀ d₀)) pen₀ later left x number
          going_refused some =
              let isnot : eqb o.stop 0 ≡ false = ne_eqb o.stop 0 (λ none. some (did.comes.stop ∙ none)) in
              rw (← rw isnot at here)
              (record { lines = then_lines; comes = record { words = did.comes.words; stop = did.comes.stop; desk = did.comes.desk } })

          abbrev rest : Outcome
          rest = turns_done (drop (k + 1) turns) o.left

          -- it is done
          pub going_next : number ≡ 0 → Going turns board₀ d₀ pen₀ left x later (k + 1)
          going_next none =
              let done : eqb o.stop 0 ≡ true = eq-eqb o.stop 0 (sym did.comes.stop ∙ none) in
              let same_left : after left x ≡ o.left = λ i. record { words = did.comes.words i; handed = did.comes.desk i } in
              record {
                so_far = g.so_far ++ o.lines;
                lines = then_lines;
                same =
                    ap (λ (s : After Desk). lines_first (g.so_far ++ o.lines) (turns_done (drop (k + 1) turns) s)) same_left
                    ∙ ap (λ (l : List ℕ). outcome l rest.left rest.stop) (append_assoc g.so_far o.lines rest.lines)
                    ∙ (rw done at here);
                ready =
                    rw did.comes.desk (ready_le _ _ _ (omega arith) (turn_ready (get_or turns k 0) board d _ g.ready));
                short = g.short;
              }
