-- The scenes of a sheet, one after another from the first on. Assumes nothing.
use Prim.Native.Nat.{ℕ, zero, suc, ◌+◌, ◌-◌, ◌*◌, ◌/◌, ◌≤◌, ◌<◌}
use mathlib.Core.Bool.{Bool, true, false, cond}
use mathlib.Core.Path.{◌≡◌, refl, sym, ap, ◌∙◌}
use mathlib.Core.List.{List, [], ◌∷◌, ◌++◌, append-nil, append_assoc}
use native.Mathlib.Nat.{sub-zero, zero-sub}
use native.Mathlib.Numerals.{add-one}
use native.Mathlib.Omega.{arith}
use lib.ListN.{length, take, drop, length-drop}
use lib.Seq.{take_all, drop-drop}
use Rattle.turn.specs.Turn.{After, after}
use Rattle.pen.specs.declared.Pen.{Pen}
use Rattle.pen.specs.Written.{Writes}
use Rattle.pen.proofs.Putting.{writes_then, writes_none}
use Rattle.view.specs.declared.Stage.{Stage}
use Rattle.view.specs.Stage.{shut, next_scene}
use Rattle.view.specs.Telling.{stage_told}
use Rattle.view.specs.Scenes.{scenes_from, scenes_on, all_told, refusal_in, all_refused}
use Rattle.view.proofs.Onward.{Within, Beyond, next_onward}

-- ---- a list, and what is left of it from a place on

module _ {A : Type 0} where
  drop_suc : (k : ℕ) (l : List A) (x : A) (rest : List A) → drop k l ≡ x ∷ rest → drop (suc k) l ≡ rest
  drop_suc zero [] x rest here = absurd (let z : ◌≡◌ {A = ℕ} 0 1 = cc in omega arith)
  drop_suc zero (y ∷ l) x rest here = cc
  drop_suc (suc k) [] x rest here = absurd (let z : ◌≡◌ {A = ℕ} 0 1 = cc in omega arith)
  drop_suc (suc k) (y ∷ l) x rest here = drop_suc k l x rest here

  -- how long it is
  pub length_here : (k : ℕ) (l : List A) (x : A) (rest : List A) → drop k l ≡ x ∷ rest → length l ≡ k + 1 + length rest
  length_here k l x rest here = let long = ap length here in omega (arith, rw length-drop at long)

-- what is made of scenes, one after another
module _
    (each : After Stage → List ℕ) (all : List (After Stage) → List ℕ) (none : all [] ≡ [])
    (more : (x : After Stage) (xs : List (After Stage)) → all (x ∷ xs) ≡ each x ++ all xs)
  where
    all_next :
        (k : ℕ) (l : List (After Stage)) (x : After Stage) (rest : List (After Stage))
        → drop k l ≡ x ∷ rest
        → all (take (suc k) l) ≡ all (take k l) ++ each x
    all_next zero [] x rest here = absurd (let z : ◌≡◌ {A = ℕ} 0 1 = cc in omega arith)
    all_next zero (y ∷ l) x rest here = let same : y ≡ x = cc in more y [] ∙ rw (none, append-nil) (ap each same)
    all_next (suc k) [] x rest here = absurd (let z : ◌≡◌ {A = ℕ} 0 1 = cc in omega arith)
    all_next (suc k) (y ∷ l) x rest here =
        more y (take (suc k) l)
        ∙ ap (λ (t : List ℕ). each y ++ t) (all_next k l x rest here)
        ∙ sym (append_assoc (each y) (all (take k l)) (each x))
        ∙ ap (λ (t : List ℕ). t ++ each x) (sym (more y (take k l)))

-- what is told of scenes
told_next :
    (k : ℕ) (l : List (After Stage)) (x : After Stage) (rest : List (After Stage))
    → drop k l ≡ x ∷ rest
    → all_told (take (suc k) l) ≡ all_told (take k l) ++ stage_told x
unfolding all_told
told_next = all_next stage_told all_told refl (λ x xs. refl)

-- and what is said of refusals
refused_next :
    (k : ℕ) (l : List (After Stage)) (x : After Stage) (rest : List (After Stage))
    → drop k l ≡ x ∷ rest
    → all_refused (take (suc k) l) ≡ all_refused (take k l) ++ refusal_in x.handed.scene
unfolding all_refused
refused_next = all_next (λ x. refusal_in x.handed.scene) all_refused refl (λ x xs. refl)

-- ---- the scenes

-- so many were played, none of them the last
pub record Playing (sheet board : List ℕ) (k : ℕ) (s : After Stage) : Type 0 where
  pub left : drop k (scenes_on sheet board) ≡ scenes_from (length sheet + 2 - k) sheet s
  pub passed : k ≤ s.handed.cursor.turn
  pub within : Within sheet s.handed.cursor

-- before the first
pub playing_starts : (sheet board : List ℕ) → Playing sheet board 0 (after board shut)
playing_starts sheet board =
    record {
      left = rw (sub-zero (length sheet + 2));
      passed = omega arith;
      within = record { fields = omega arith; turns = omega arith; inside = omega arith };
    }

module _
    (sheet board : List ℕ) (k : ℕ) (s x : After Stage)
    (playing : Playing sheet board k s) (is : x ≡ next_scene sheet s)
  where
    abbrev all : List (After Stage)
    all = scenes_on sheet board

    abbrev rest : List (After Stage)
    rest = scenes_from (length sheet + 2 - (k + 1)) sheet x

    -- there is another
    pub played_one : drop k all ≡ x ∷ cond x.handed.cursor.over [] rest
    unfolding scenes_from
    played_one =
        let passed = playing.passed in
        let turns = playing.within.turns in
        let inside = playing.within.inside in
        let fuel : length sheet + 2 - k ≡ suc (length sheet + 2 - (k + 1)) = omega arith in
        playing.left ∙ ap (λ (n : ℕ). scenes_from n sheet s) fuel ∙ rw is

    -- which is the last
    pub played_last : x.handed.cursor.over ≡ true → drop k all ≡ x ∷ []
    played_last over = played_one ∙ ap (λ (t : Bool). x ∷ cond t [] rest) over

    -- or not
    pub played_beyond : x.handed.cursor.over ≡ false → Beyond sheet s.handed.cursor.turn x.handed
    played_beyond = rw is (next_onward sheet s playing.within)

    pub playing_on : x.handed.cursor.over ≡ false → Playing sheet board (k + 1) x
    playing_on goes_on =
        let beyond = played_beyond goes_on in
        let passed = playing.passed in
        record {
          left =
              ap (λ (n : ℕ). drop n all) (add-one k)
              ∙ drop_suc k all x rest (played_one ∙ ap (λ (t : Bool). x ∷ cond t [] rest) goes_on);
          passed = omega (arith, beyond.further);
          within = beyond.within;
        }

    -- one that is not has refused nothing
    accepted_on :
        x.handed.cursor.over ≡ false
        → all_refused (take k all) ≡ []
        → all_refused (take (k + 1) all) ≡ []
    accepted_on goes_on none =
        rw (add-one k) (refused_next k all x _ played_one ∙ ap (λ (l : List ℕ). l ++ refusal_in x.handed.scene) none ∙ (played_beyond goes_on).accepted)

    -- what the last one refuses is all that is refused
    refused_last : x.handed.cursor.over ≡ true → all_refused (take k all) ≡ [] → refusal_in x.handed.scene ≡ all_refused all
    refused_last over none =
        let long = length_here k all x [] (played_last over) in
        let whole : take (suc k) all ≡ all = take_all (suc k) all (omega arith) in
        sym (ap all_refused (sym whole) ∙ refused_next k all x _ played_one ∙ ap (λ (l : List ℕ). l ++ refusal_in x.handed.scene) none)

-- there is always another
pub playing_more : (sheet board : List ℕ) (k : ℕ) (s : After Stage) → Playing sheet board k s → k < length (scenes_on sheet board)
playing_more sheet board k s playing = let long = length_here k _ _ _ (played_one sheet board k s (next_scene sheet s) playing refl) in omega arith

-- ---- the refusal alone

-- some scenes were played, none of them the last or a refusal
pub record Accepted (sheet board : List ℕ) (s : After Stage) : Type 0 where
  pub count : ℕ
  pub playing : Playing sheet board count s
  pub none : all_refused (take count (scenes_on sheet board)) ≡ []

pub accepted_starts : (sheet board : List ℕ) → Accepted sheet board (after board shut)
unfolding all_refused
accepted_starts sheet board = record { count = 0; playing = playing_starts sheet board; none = refl }

module _ (sheet board : List ℕ) (s x : After Stage) (so_far : Accepted sheet board s) (is : x ≡ next_scene sheet s) where
  pub accepted_next : x.handed.cursor.over ≡ false → Accepted sheet board x
  accepted_next goes_on =
      record {
        count = so_far.count + 1;
        playing = playing_on sheet board so_far.count s x so_far.playing is goes_on;
        none = accepted_on sheet board so_far.count s x so_far.playing is goes_on so_far.none;
      }

  pub accepted_last : x.handed.cursor.over ≡ true → refusal_in x.handed.scene ≡ all_refused (scenes_on sheet board)
  accepted_last over = refused_last sheet board so_far.count s x so_far.playing is over so_far.none

-- ---- a page

-- what is told of the scenes that stand on it, of the first so many
abbrev pub told_on : List (After Stage) → ℕ → ℕ → List ℕ
told_on all page n = all_told (take (n - 1024 * page) (drop (1024 * page) all))

-- nothing yet
pub page_starts : (all : List (After Stage)) (page : ℕ) (pen : Pen) → Writes pen (told_on all page 0) pen
unfolding all_told
page_starts all page pen = rw (zero-sub (1024 * page)) (writes_none pen)

module _ (all : List (After Stage)) (page n : ℕ) (x : After Stage) (rest : List (After Stage)) (here : drop n all ≡ x ∷ rest) where
  -- one more, which stands on the page or before it
  pub page_next : {a b c : Pen} → n / 1024 ≡ page → Writes a (told_on all page n) b → Writes b (stage_told x) c → Writes a (told_on all page (n + 1)) c
  page_next on-it told more =
      let next : n + 1 - 1024 * page ≡ suc (n - 1024 * page) = omega arith in
      let all_of : 1024 * page + (n - 1024 * page) ≡ n = omega arith in
      rw next
      (rw (told_next (n - 1024 * page) (drop (1024 * page) all) x rest
      (drop-drop (n - 1024 * page) (1024 * page) all ∙ ap (λ (m : ℕ). drop m all) all_of ∙ here))
      (writes_then told more))

  pub page_before : {a b : Pen} → n / 1024 < page → Writes a (told_on all page n) b → Writes a (told_on all page (n + 1)) b
  page_before before told =
      let none : n - 1024 * page ≡ 0 = omega arith in
      let still : n + 1 - 1024 * page ≡ 0 = omega arith in
      rw still (rw none at told)

  -- the last of all
  pub page_ends : rest ≡ [] → n / 1024 ≤ page → told_on all page (n + 1) ≡ all_told (take 1024 (drop (1024 * page) all))
  page_ends none before =
      let long : length all ≡ n + 1 = length_here n all x rest here ∙ rw none (omega arith) in
      let least : length (drop (1024 * page) all) ≤ n + 1 - 1024 * page = rw (length-drop, long) (omega arith) in
      let most : length (drop (1024 * page) all) ≤ 1024 = rw (length-drop, long) (omega arith) in
      ap all_told (take_all (n + 1 - 1024 * page) _ least ∙ sym (take_all 1024 _ most))
