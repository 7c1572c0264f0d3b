-- §4.10, §11.1: a run is its turns one after another, up to the first that is refused. Assumes nothing.
use Prim.Native.Nat.{ℕ, ◌+◌, ◌≤◌}
use mathlib.Core.List.{List, [], ◌∷◌, ◌++◌, append-nil}
use mathlib.Core.Path.{◌≡◌, refl, sym, ap, ◌∙◌}
use native.Mathlib.Nat.{add-zero}
use native.Mathlib.Omega.{arith}
use lib.ListN.{length, drop, drop_of_length-le}
use borrow.Author.Tests.{ne_eqb}
use Rattle.turn.specs.Turn.{Done, After}
use Rattle.engine.specs.declared.Floor.{Floor}
use Rattle.engine.specs.Calls.{Ran, turned, standing}
use Rattle.engine.proofs.Stops.{mover, done_by}
use Rattle.hall.specs.Refusals.{hall_each_number}
use Rattle.hall.specs.Calls.{index_left, Indexed, indexed, hall_run_from}

module _ (f : Floor) where
  -- the number of refusal of a turn of worker t, as the run stands
  abbrev pub hall_number_at : ℕ → Indexed (After Ran) → ℕ
  hall_number_at t s = hall_each_number f s.left.words s.index t (mover t s.left)

  -- the turn of worker t is done as the engine does it, and the index follows
  abbrev pub hall_done_by : ℕ → Indexed (After Ran) → Indexed (After Ran)
  hall_done_by t s = let x = done_by f t s.left in indexed (index_left s.index (Done x.handed.last)) x

  -- the turns of a list are done, one after another
  abbrev pub done_all : List ℕ → Indexed (After Ran) → Indexed (After Ran)
  done_all [] s = s
  done_all (t ∷ ts) s = done_all ts (hall_done_by t s)

  -- none of them is refused
  abbrev pub AllDone : List ℕ → Indexed (After Ran) → Type 0
  AllDone [] s = Unit {0}
  AllDone (t ∷ ts) s = (hall_number_at t s ≡ 0) × AllDone ts (hall_done_by t s)

  -- no turn is left
  pub run_over : (ts : List ℕ) (i : ℕ) (s : Indexed (After Ran)) → length ts ≤ i → hall_run_from f (drop i ts) s ≡ s
  unfolding hall_run_from
  run_over ts i s past = rw (drop_of_length-le ts {i = i} past)

  -- the next turn is done
  pub next_done :
      (t : ℕ) (ts : List ℕ) (s : Indexed (After Ran)) → hall_number_at t s ≡ 0 → hall_run_from f (t ∷ ts) s ≡ hall_run_from f ts (hall_done_by t s)
  unfolding hall_run_from turned
  next_done t ts s none = rw none

  -- turns that are not refused are done, and the run goes on with the rest
  pub run_goes : (ts rest : List ℕ) (s : Indexed (After Ran)) → AllDone ts s → hall_run_from f (ts ++ rest) s ≡ hall_run_from f rest (done_all ts s)
  run_goes [] rest s all = refl
  run_goes (t ∷ ts) rest s all = next_done t (ts ++ rest) s all.0 ∙ run_goes ts rest (hall_done_by t s) all.1

  -- a run that is stopped by a number leaves and tells what stood before
  abbrev pub stopped : ℕ → Indexed (After Ran) → Indexed (After Ran)
  stopped number s =
      let r : Ran = s.left.handed in
      indexed s.index (standing s.left.words r.records r.totals r.last number)

  -- the next turn is refused
  pub next_refused :
      (t : ℕ) (ts : List ℕ) (s : Indexed (After Ran)) → (hall_number_at t s ≡ 0 → ⊥) → hall_run_from f (t ∷ ts) s ≡ stopped (hall_number_at t s) s
  unfolding hall_run_from turned
  next_refused t ts s some = rw (ne_eqb _ 0 some)

  -- the first turn that is refused is not done, those before it stand, those after it are not tried, and the run tells its number
  pub run_stops :
      (ts : List ℕ) (t : ℕ) (rest : List ℕ) (s : Indexed (After Ran))
      → AllDone ts s
      → (hall_number_at t (done_all ts s) ≡ 0 → ⊥)
      → hall_run_from f (ts ++ t ∷ rest) s ≡ stopped (hall_number_at t (done_all ts s)) (done_all ts s)
  run_stops ts t rest s all some = run_goes ts (t ∷ rest) s all ∙ next_refused t rest (done_all ts s) some

  -- a run of which no turn is refused does them all
  pub run_ends : (ts : List ℕ) (s : Indexed (After Ran)) → AllDone ts s → hall_run_from f ts s ≡ done_all ts s
  unfolding hall_run_from
  run_ends ts s all = ap (λ (l : List ℕ). hall_run_from f l s) (sym (append-nil ts)) ∙ run_goes ts [] s all

  -- and the turns that it reports are the turns done
  pub turns_done_lem : (ts : List ℕ) (s : Indexed (After Ran)) → (done_all ts s).left.handed.totals.turns ≡ s.left.handed.totals.turns + length ts
  turns_done_lem [] s = sym (add-zero s.left.handed.totals.turns)
  turns_done_lem (t ∷ ts) s = let rest = turns_done_lem ts (hall_done_by t s) in omega arith
