-- What a turn and a retiring do to the mark word of a bucket, told from the worker's record and, of a turn, the action alone.
use Rattle.std.specs.Prelude.{ℕ, cond, eqb}
use Rattle.mark.specs.Word.{set_mark, bump}
use Rattle.turn.specs.Worker.{claim_place, commit_place, free_place, no_slot}
use Rattle.turn.specs.declared.Worker.{Worker}
use Rattle.turn.specs.declared.Action.{Action}
use Rattle.turn.specs.declared.Action.TheVariants.{Read, Store, Won, Lost}

-- nothing, or at a slot: a claim (mark 2), a commit (mark 1 and the next version), a free or a close (mark 0), a retiring (mark 0 and the
-- next version)
pub data Effect : Type 0 where
  none : Effect
  claim : ℕ → Effect
  commit : ℕ → Effect
  free : ℕ → Effect
  close : ℕ → Effect
  retire : ℕ → Effect

-- the mark word that an effect leaves
abbrev pub effect_on : Effect → ℕ → ℕ
effect_on none m = m
effect_on (claim s) m = set_mark m s 2
effect_on (commit s) m = bump (set_mark m s 1)
effect_on (free s) m = set_mark m s 0
effect_on (close s) m = set_mark m s 0
effect_on (retire s) m = bump (set_mark m s 0)

-- §4.11: a won swap is a claim, a commit or a close, by its place; one store frees, the others touch no mark
abbrev pub effect_of : Worker → Action → Effect
effect_of w Read = none
effect_of w Store = cond (eqb w.place free_place) (free w.held) none
effect_of w Won = cond (eqb w.place claim_place) (claim w.slot) (cond (eqb w.place commit_place) (commit w.held) (close w.slot))
effect_of w Lost = none

-- §19.2: a retiring gives a held slot back, at the next version; where none is held it does nothing
abbrev pub effect_of_retiring : Worker → Effect
effect_of_retiring w = cond (eqb w.held no_slot) none (retire w.held)
