-- A retiring that is accepted: what its tests have let through, and what it leaves of the bucket. Assumes nothing.
use Prim.Native.Nat.{ℕ, ◌≤◌}
use mathlib.Core.Bool.{Bool, true, false, cond}
use mathlib.Core.List.{List}
use mathlib.Core.Path.{◌≡◌, refl, ap, ◌∙◌}
use native.Mathlib.Omega.{arith}
use lib.Dec.{eqb}
use lib.ListN.{length, set, length-set}
use lib.Seq.{get_or-set_same, get_or-set_other}
use borrow.Author.Tests.{eqb-true, eqb-false, ne_eqb}
use Rattle.mark.proofs.Choices.{by_cases, passes}
use Rattle.mark.specs.Word.{version, next_version}
use Rattle.mark.proofs.Fields.{version_set, version_bump}
use Rattle.mark.proofs.WellFormed.{well_formed_set, well_formed_bump}
use Rattle.turn.specs.declared.Worker.{Worker}
use Rattle.turn.specs.Worker.{no_slot, idle, is_idle, broken}
use Rattle.turn.specs.Bucket.{mark_cell, spare_cell, cell, broken_bucket}
use Rattle.turn.specs.Effects.{Effect, none, retire, effect_on, effect_of_retiring}
use Rattle.turn.specs.Retire.{retire_refusal, vacated}
use Rattle.turn.specs.Asleep.{awake}
use Rattle.turn.proofs.Sound.{Sound, Whole, sound_busy, not_broken, whole_parts}
use Rattle.turn.proofs.Asleep.{asleep_sound}
use Rattle.turn.proofs.Works.{works, works_holder}
use Rattle.turn.proofs.Effects.{Moves, answers, retires}

-- what a retiring does goes by whether a slot is held
pub by_held :
    (P : Effect → Type 0) (w : Worker)
    → (w.held ≡ no_slot → P none)
    → ((w.held ≡ no_slot → ⊥) → P (retire w.held))
    → P (effect_of_retiring w)
by_held P w free holds =
    by_cases P (eqb w.held no_slot) none (retire w.held) (λ is. free (eqb-true _ no_slot is)) (λ isnot. holds (eqb-false _ no_slot isnot))

-- a retiring of a slot moves the version on by one, and wraps as a commit does
pub retire_version : (s m : ℕ) → version (effect_on (retire s) m) ≡ next_version (version m)
retire_version s m = version_bump _ ∙ ap next_version (version_set m s 0)

-- a busy record that is sound, and where it holds a slot a bucket that is whole
pub record Retirable (b : List ℕ) (w : Worker) : Type 0 where
  pub sound : Sound w
  pub busy : is_idle w ≡ false
  pub whole : (w.held ≡ no_slot → ⊥) → Whole b

-- a retiring of who is awake is no other
pub awake_retirable : (b : List ℕ) (w : Worker) → Retirable b w → Retirable b (awake w)
awake_retirable b w ok =
    let s = asleep_sound 0 w ok.sound in
    record { sound = s; busy = sound_busy (awake w) s; whole = ok.whole }

-- that is a retiring with no number of refusal
pub retirable : (b : List ℕ) (w : Worker) → retire_refusal b w ≡ 0 → Retirable b w
unfolding retire_refusal
retirable b w is =
    let one = passes (broken w) 2 _ is in
    let two = passes (is_idle w) 5 _ one.1 in
    record {
      sound = not_broken w one.0 two.0;
      busy = two.0;
      whole = λ holds. whole_parts b (passes (broken_bucket b) 6 0 (rw (ne_eqb w.held no_slot holds) at two.1)).0;
    }

module _ (b : List ℕ) (w : Worker) where
  -- a bucket stays as long as it was
  pub vacated_long : length (vacated b w) ≡ length b
  vacated_long =
      by_cases (λ (l : List ℕ). length l ≡ length b) (eqb w.held no_slot) _ _ (λ none. refl) (λ some. length-set b mark_cell _)

  -- no cell but that of the mark word is touched
  pub vacated_other : (k : ℕ) → (k ≡ mark_cell → ⊥) → cell (vacated b w) k ≡ cell b k
  vacated_other k other =
      by_cases (λ (l : List ℕ). cell l k ≡ cell b k) (eqb w.held no_slot) _ _
      (λ none. refl) (λ some. get_or-set_other b mark_cell k _ 0 other)

  module _ (ok : Retirable b w) where
    -- whoever holds a slot is at an insert
    pub retires_holder : (w.held ≡ no_slot → ⊥) → (w.kind ≡ 2) × (w.held ≤ 2)
    retires_holder = works_holder _ _ _ (works _ _ _ ok.sound.stands ok.sound.held)

    -- the mark word is left as the effect says
    pub vacated_mark : cell (vacated b w) mark_cell ≡ effect_on (effect_of_retiring w) (cell b mark_cell)
    vacated_mark = by (eqb w.held no_slot) refl
      where
        by :
            (t : Bool)
            → eqb w.held no_slot ≡ t
            → cell (cond t b (set b mark_cell (effect_on (retire w.held) (cell b mark_cell)))) mark_cell
            ≡ effect_on (cond t none (retire w.held)) (cell b mark_cell)
        by true is = refl
        by false is = get_or-set_same b mark_cell _ 0 (omega (arith, (ok.whole (eqb-false _ no_slot is)).eight))

    -- record and effect go as the moves of a call do
    pub retiring_moves : (m : ℕ) → Moves m w (effect_of_retiring w) idle
    retiring_moves m =
        by_held (λ (e : Effect). Moves m w e idle) w (λ free. answers refl refl)
        (λ some. let holds = retires_holder some in retires refl holds.0 holds.1 refl)

    -- a bucket that was whole stays so
    pub vacated_whole : Whole b → Whole (vacated b w)
    vacated_whole whole =
        by_cases (λ (l : List ℕ). Whole l) (eqb w.held no_slot) _ _ (λ none. whole)
        (λ some.
        record {
          eight = length-set b mark_cell _ ∙ whole.eight;
          formed =
              rw (get_or-set_same b mark_cell (effect_on (retire w.held) (cell b mark_cell)) 0 (omega (arith, whole.eight)), well_formed_bump)
              (well_formed_set _ whole.formed w.held 0 (omega arith));
          spare = get_or-set_other b mark_cell spare_cell _ 0 (omega arith) ∙ whole.spare;
        })
