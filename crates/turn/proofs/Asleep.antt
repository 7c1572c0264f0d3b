-- What the number of turns slept does not touch, and that a turn leaves its own worker awake. Assumes nothing.
use Prim.Native.Nat.{ℕ, ◌+◌}
use mathlib.Core.Bool.{Bool, true, false}
use mathlib.Core.Path.{◌≡◌, refl, sym, ap}
use mathlib.Core.List.{List}
use native.Mathlib.Omega.{arith}
use lib.Dec.{leb}
use borrow.Author.Tests.{leb-false, lt-leb}
use Rattle.mark.proofs.Choices.{by_cases}
use Rattle.turn.specs.declared.Worker.{Worker}
use Rattle.turn.specs.declared.Action.{Action}
use Rattle.turn.specs.declared.Action.TheVariants.{Read, Store, Won, Lost}
use Rattle.turn.specs.declared.Stepped.{Stepped}
use Rattle.turn.specs.Worker.{idle, is_idle, may_stand, fits, sound, broken}
use Rattle.turn.specs.Asleep.{capped, asleep_for, awake, slept}
use Rattle.turn.specs.Places.{Act, rows, stays, turn}
use Rattle.turn.specs.Effects.{effect_of}
use Rattle.turn.proofs.Sound.{Sound, Accepted, sound_parts, sound_whole, sound_busy, not_broken, sound_not_broken}
use Rattle.turn.proofs.Cells.{cell_of, touched, each_at}
use Rattle.turn.proofs.Lands.{Lands, reads, goes, loses, answers, claims, commits, frees, closes}
use Rattle.turn.proofs.Landing.{turn_lands}
use Rattle.turn.proofs.Kept.{idle_is, sound_some, idle_kept}

-- ---- a busy record with another number

-- is as sound
pub asleep_sound : (n : ℕ) (w : Worker) → Sound w → Sound (asleep_for n w)
asleep_sound n w s = record { stands = s.stands; ticket = s.ticket; held = s.held; slot = s.slot; word = s.word }

-- and a turn on it is accepted
pub awake_accepted : (b : List ℕ) (w : Worker) → Accepted b w → Accepted b (awake w)
awake_accepted b w ok =
    let s = asleep_sound 0 w ok.sound in
    record { sound = s; whole = ok.whole; busy = sound_busy (awake w) s }

-- one that is not broken is not when it is awake
pub awake_kept : (w : Worker) → broken w ≡ false → broken (awake w) ≡ false
awake_kept w kept = by (is_idle w) refl
  where
    by : (t : Bool) → is_idle w ≡ t → broken (awake w) ≡ false
    by true is = rw (idle_is w is) idle_kept
    by false busy = sound_not_broken (awake w) (asleep_sound 0 w (not_broken w kept busy))

-- one that is not broken is idle if it is idle when it is awake
pub awake_idle : (w : Worker) → broken w ≡ false → awake w ≡ idle → w ≡ idle
awake_idle w kept is = by (is_idle w) refl
  where
    by : (t : Bool) → is_idle w ≡ t → w ≡ idle
    by true idle = idle_is w idle
    by false busy = absurd (sound_some (awake w) (asleep_sound 0 w (not_broken w kept busy)) is)

-- it touches the same cell
pub touched_awake : (w : Worker) → touched (awake w) ≡ touched w
touched_awake w =
    each_at (λ (a : Act). cell_of a (awake w) ≡ cell_of a w) rows
    (refl, (refl, (refl, (refl, (refl, (refl, (refl, (refl, (refl, (refl, (refl, (refl, (refl, (refl, tt)))))))))))))) stays refl w.place

-- and has the same effect
pub effect_awake : (w : Worker) (a : Action) → effect_of (awake w) a ≡ effect_of w a
effect_awake w Read = refl
effect_awake w Store = refl
effect_awake w Won = refl
effect_awake w Lost = refl

-- ---- a turn of another

-- who is busy has slept one turn more
pub slept_busy : (w : Worker) → Sound w → slept w ≡ asleep_for (capped (w.asleep + 1)) w
unfolding slept
slept_busy w s = rw (sound_whole w s)

-- what it makes of a record: one more turn slept, or nothing
pub by_slept : (P : Worker → Type 0) (w : Worker) → (Sound w → P (asleep_for (capped (w.asleep + 1)) w)) → P w → P (slept w)
unfolding slept
by_slept P w busy same = by_cases (λ (n : ℕ). P (asleep_for n w)) (sound w) _ _ (λ is. busy (sound_parts w is)) (λ isnot. same)

-- nothing else is touched
pub slept_only : (w : Worker) → awake (slept w) ≡ awake w
unfolding slept
slept_only w = refl

-- an idle record stays
pub slept_idle : slept idle ≡ idle
unfolding slept sound fits may_stand
slept_idle = refl

-- whoever is idle, or broken, is so afterwards, and nobody else is
pub slept_idles : (w : Worker) → is_idle (slept w) ≡ is_idle w
slept_idles w =
    by_slept (λ (v : Worker). is_idle v ≡ is_idle w) w (λ s. rw (sound_busy w s) (sound_busy _ (asleep_sound _ w s))) refl

pub slept_broken : (w : Worker) → broken (slept w) ≡ broken w
slept_broken w =
    by_slept (λ (v : Worker). broken v ≡ broken w) w (λ s. rw (sound_not_broken w s) (sound_not_broken _ (asleep_sound _ w s))) refl

-- one more of a count that stays at the highest number
pub capped_more : (n : ℕ) → capped (capped n + 1) ≡ capped (n + 1)
capped_more n =
    by_cases (λ (m : ℕ). capped (m + 1) ≡ capped (n + 1)) (leb n 4294967295) _ _
    (λ few. refl)
    (λ many. rw (lt-leb (n + 1) 4294967295 (let past = leb-false n 4294967295 many in omega arith)))

-- ---- a turn of its own

lands_awake : {m n : ℕ} {w : Worker} {x : Stepped} → Lands m n w x → w.asleep ≡ 0 → x.worker.asleep ≡ 0
lands_awake (reads p same place other fits away aims) up = up
lands_awake (goes a full p s v same swap none from fits away slot aims) up = up
lands_awake (loses same swapper missed fits) up = up
lands_awake (answers answer same) up = refl
lands_awake (claims left kind place held is) up = up
lands_awake (commits left kind place held is) up = refl
lands_awake (frees left kind place held) up = refl
lands_awake (closes left kind place held is) up = refl

-- leaves it awake
pub turn_awake : (b : List ℕ) (w : Worker) → Accepted b w → w.asleep ≡ 0 → (turn b w).stepped.worker.asleep ≡ 0
turn_awake b w ok = lands_awake (turn_lands b w ok)

-- a record that has slept for no turn is awake
pub is_awake : (w : Worker) → w.asleep ≡ 0 → awake w ≡ w
is_awake w up = ap (λ (n : ℕ). asleep_for n w) (sym up)
