-- The records through a turn, put to sleep one after another from the first on; those past the floor's workers are idle. Assumes nothing.
use Prim.Native.Nat.{ℕ, zero, suc, ◌-◌, ◌≤◌, ◌<◌}
use mathlib.Core.Path.{◌≡◌, refl, sym, ap, ◌∙◌}
use mathlib.Core.List.{List, [], ◌∷◌, ◌++◌, map}
use native.Mathlib.Nat.{zero-sub, sub-zero, suc-sub-suc}
use lib.ListN.{length, set, take, drop, replicate}
use lib.Seq.{drop-set-lt}
use Rattle.std.proofs.lemmas.List.{drop_all, map-append, take-append-drop}
use Rattle.turn.specs.declared.Worker.{Worker}
use Rattle.turn.specs.Worker.{idle}
use Rattle.turn.specs.Asleep.{slept}
use Rattle.turn.proofs.Asleep.{slept_idle}
use Rattle.engine.specs.Firsts.{firsts}
use Rattle.engine.specs.Calls.{after_turn}
use Rattle.sheet.specs.Room.{IdleFrom}

-- the first so many records have slept one turn more
abbrev pub firsts_slept : ℕ → List Worker → List Worker
firsts_slept = firsts (λ k w. slept w)

-- ---- the records past the floor's workers

drop_idle : (n m : ℕ) → drop n (replicate m idle) ≡ replicate (m - n) idle
drop_idle zero m = rw (sub-zero m)
drop_idle (suc n) zero = rw (zero-sub (suc n))
drop_idle (suc n) (suc m) = rw (suc-sub-suc m n) (drop_idle n m)

-- just after the opening all are
pub idle_opened : (n : ℕ) → IdleFrom n (replicate 64 idle)
idle_opened n = drop_idle n 64

-- a record that is put back before them leaves them
pub idle_set : (n : ℕ) (ws : List Worker) (i : ℕ) (w : Worker) → i < n → IdleFrom n ws → IdleFrom n (set ws i w)
idle_set n ws i w before past = drop-set-lt n ws i w before ∙ past

drop_slept : (n : ℕ) (ws : List Worker) → drop n (map slept ws) ≡ map slept (drop n ws)
drop_slept zero ws = refl
drop_slept (suc n) [] = refl
drop_slept (suc n) (w ∷ ws) = drop_slept n ws

idles_sleep : (n : ℕ) → map slept (replicate n idle) ≡ replicate n idle
idles_sleep zero = refl
idles_sleep (suc n) = rw (slept_idle, idles_sleep n)

-- nobody there is busy
past_sleep : (n : ℕ) (ws : List Worker) → IdleFrom n ws → map slept (drop n ws) ≡ drop n ws
past_sleep n ws past = rw past (idles_sleep (64 - n))

-- so that a turn leaves them too
pub idle_turn : (n : ℕ) (ws : List Worker) (i : ℕ) (w : Worker) → i < n → IdleFrom n ws → IdleFrom n (after_turn ws i w)
idle_turn n ws i w before past = idle_set n (map slept ws) i w before (drop_slept n ws ∙ past_sleep n ws past ∙ past)

rest_sleeps : (n : ℕ) (ws : List Worker) → map slept (drop n ws) ≡ drop n ws → firsts_slept n ws ≡ map slept ws
unfolding firsts
rest_sleeps zero ws same = sym same
rest_sleeps (suc n) [] same = refl
rest_sleeps (suc n) (w ∷ ws) same = ap (λ (vs : List Worker). slept w ∷ vs) (rest_sleeps n ws same)

-- and all have slept where those before them have
pub firsts_all : (n : ℕ) (ws : List Worker) → IdleFrom n ws → firsts_slept n ws ≡ map slept ws
firsts_all n ws past = rest_sleeps n ws (past_sleep n ws past)

-- also where those before them were gone over by themselves
pub all_slept :
    (n k : ℕ) (ws asleep : List Worker)
    → IdleFrom n ws
    → asleep ≡ firsts_slept k (take n ws)
    → length (take n ws) ≤ k
    → asleep ++ drop n ws ≡ map slept ws
all_slept n k ws asleep past so over =
    rw (so, rest_sleeps k (take n ws) (rw (drop_all k (take n ws) over) refl))
    (ap (λ (l : List Worker). map slept (take n ws) ++ l) (sym (past_sleep n ws past))
    ∙ sym (map-append slept (take n ws) (drop n ws))
    ∙ ap (map slept) (take-append-drop n ws))
