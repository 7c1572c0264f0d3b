-- The number that the records of a list give a move, from one record after another. Assumes nothing.
use Prim.Native.Nat.{ℕ, ◌+◌, ◌<◌, ◌≤◌}
use mathlib.Core.Bool.{Bool, true, false, cond, ◌||◌, not, or-false, or_assoc}
use mathlib.Core.Path.{◌≡◌, refl, sym, ap, ◌∙◌}
use mathlib.Core.List.{List, [], ◌∷◌, ◌++◌}
use native.Mathlib.Numerals.{add-one}
use lib.Dec.{eqb}
use lib.ListN.{length, get_or, take}
use lib.Seq.{take-suc, take_all}
use Rattle.turn.specs.declared.Worker.{Worker}
use Rattle.turn.specs.Worker.{is_idle, broken}
use Rattle.engine.specs.Refusals.{any_record}
use Rattle.engine.specs.Calls.{blank}
use Rattle.engine.specs.Move.{rest_number, rest_with}

-- a test holds of one of the records and one more, where it holds of one of them or of that one
any_more : (test : Worker → Bool) (ws : List Worker) (w : Worker) → any_record test (ws ++ (w ∷ [])) ≡ (any_record test ws || test w)
unfolding any_record
any_more test [] w = or-false (test w)
any_more test (x ∷ xs) w = ap (λ (t : Bool). test x || t) (any_more test xs w) ∙ sym (or_assoc (test x) (any_record test xs) (test w))

-- one before is broken or not, and one before is at a call or not; so is the one more
by_tests :
    (was-broken was_busy is-broken is-busy : Bool)
    → let number : ℕ = cond was-broken 3 (cond was_busy 12 0) in
    cond {A = ℕ} (was-broken || is-broken) 3 (cond (was_busy || is-busy) 12 0) ≡ cond (eqb number 3) number (cond is-broken 3 (cond is-busy 12 number))
by_tests true was_busy is-broken is-busy = refl
by_tests false true true is-busy = refl
by_tests false true false true = refl
by_tests false true false false = refl
by_tests false false is-broken is-busy = refl

-- ---- the number of the first records

-- of none of them
pub rest_none : (ws : List Worker) → rest_number (take 0 ws) ≡ 0
unfolding any_record
rest_none ws = refl

-- with one more
pub rest_more : (ws : List Worker) (w : Worker) → rest_number (ws ++ (w ∷ [])) ≡ rest_with (rest_number ws) w
rest_more ws w =
    rw (any_more broken ws w, any_more (λ w. not (is_idle w)) ws w)
    (by_tests (any_record broken ws) (any_record (λ w. not (is_idle w)) ws) (broken w) (not (is_idle w)))

-- with the next of the list
pub rest_next :
    (ws : List Worker) (k : ℕ) → k < length ws → rest_number (take (k + 1) ws) ≡ rest_with (rest_number (take k ws)) (get_or ws k blank)
rest_next ws k less =
    ap rest_number (ap (λ (n : ℕ). take n ws) (add-one k) ∙ take-suc ws k blank less) ∙ rest_more (take k ws) (get_or ws k blank)

-- of all of them
pub rest_all : (ws : List Worker) (k : ℕ) → length ws ≤ k → rest_number (take k ws) ≡ rest_number ws
rest_all ws k over = ap rest_number (take_all k ws over)
