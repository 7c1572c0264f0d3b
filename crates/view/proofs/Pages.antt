-- The pages in their order are the whole text, and there are 17 at most. Assumes nothing.
use Prim.Native.Nat.{ℕ, zero, suc, ◌+◌, ◌*◌, ◌≤◌}
use mathlib.Core.Bool.{Bool, true, false}
use mathlib.Core.Path.{◌≡◌, refl, sym, ap, ◌∙◌}
use mathlib.Core.List.{List, [], ◌∷◌, ◌++◌, append_assoc}
use native.Mathlib.Omega.{arith}
use lib.Dec.{leb, ltb}
use lib.ListN.{length, take}
use lib.Seq.{take-add, take_all}
use borrow.Author.Tests.{leb-true, le-leb, ltb-true, ltb-false}
use Rattle.mark.proofs.Choices.{by_cases}
use Rattle.turn.specs.Turn.{After}
use Rattle.view.specs.declared.Stage.{Stage}
use Rattle.view.specs.Stage.{next_scene}
use Rattle.view.specs.Telling.{stage_told}
use Rattle.view.specs.Scenes.{scenes_from, before_all, scenes, all_told, board_text, per_page, on_page}
use Rattle.view.proofs.Listed.{enough_scenes, scene_here, long_scene}
use Rattle.view.proofs.Coming.{place}

-- ---- the whole text

-- scenes and then others are told one after another
told_append : (xs ys : List (After Stage)) → all_told (xs ++ ys) ≡ all_told xs ++ all_told ys
unfolding all_told
told_append [] ys = refl
told_append (x ∷ xs) ys = ap (λ (l : List ℕ). stage_told x ++ l) (told_append xs ys) ∙ sym (append_assoc (stage_told x) (all_told xs) (all_told ys))

-- the first pages, to a number
unfoldable pub pages_to : List ℕ → ℕ → List ℕ
pages_to sheet zero = all_told (on_page sheet 0)
pages_to sheet (suc k) = pages_to sheet k ++ all_told (on_page sheet (suc k))

module _ (sheet : List ℕ) where
  -- the scenes that stand on them
  pages_told : (k : ℕ) → pages_to sheet k ≡ all_told (take (per_page * k + per_page) (scenes sheet))
  unfolding pages_to
  pages_told zero = refl
  pages_told (suc k) =
      let more : per_page * suc k ≡ per_page * k + per_page = omega arith in
      let xs = scenes sheet in
      ap (λ (l : List ℕ). l ++ all_told (on_page sheet (suc k))) (pages_told k)
      ∙ ap (λ (n : ℕ). all_told (take n xs) ++ all_told (on_page sheet (suc k))) (sym more)
      ∙ sym (told_append (take (per_page * suc k) xs) (on_page sheet (suc k)))
      ∙ ap all_told (sym (take-add (per_page * suc k) per_page xs))

  -- the pages to the last one are the whole text
  pub pages_whole : (k : ℕ) → leb (length (scenes sheet)) (per_page * k + per_page) ≡ true → pages_to sheet k ≡ board_text sheet
  unfolding board_text
  pages_whole k last = pages_told k ∙ ap all_told (take_all _ (scenes sheet) (leb-true (length (scenes sheet)) _ last))

  -- ---- how many there are

  -- there are no more scenes than were asked for
  scenes_most : (more : ℕ) (s : After Stage) → length (scenes_from more sheet s) ≤ more
  unfolding scenes_from
  scenes_most zero s = omega arith
  scenes_most (suc more) s =
      let x = next_scene sheet s in
      by_cases (λ (xs : List (After Stage)). length (x ∷ xs) ≤ suc more) (place x).over _ _
      (λ over. omega arith) (λ not. let rest = scenes_most more x in omega arith)

  few_scenes : (t : Bool) → ltb 16384 (length sheet) ≡ t → length (scenes sheet) ≤ 16386
  few_scenes true is =
      let over = ap (λ (x : After Stage). (place x).over) (long_scene sheet (ltb-true 16384 (length sheet) is)) in
      rw (← enough_scenes sheet, scene_here sheet (length sheet + 1) (before_all sheet) true over) (omega arith)
  few_scenes false isnot =
      let short = ltb-false 16384 (length sheet) isnot in
      rw (← enough_scenes sheet) (let n = scenes_most (suc (length sheet + 1)) (before_all sheet) in omega arith)

  -- the seventeenth is the last, if there is none before
  pub pages_most : leb (length (scenes sheet)) (per_page * 16 + per_page) ≡ true
  pages_most = le-leb (length (scenes sheet)) _ (let few = few_scenes _ refl in omega arith)
