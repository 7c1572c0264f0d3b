use Rattle.std.proofs.Common.{◌≡◌, ℕ, Bool, true, false, cond, Some, None, nat_lt, refl, sym}
use Rattle.std.proofs.lemmas.Option.{none-some, cond_some}
use Rattle.mark.specs.Word.{slot_if_any}
use Rattle.turn.specs.Places.{find_slot}
use Rattle.turn.proofs.place.find_slot.Goals as goal

-- where there is none, none of the three is empty
not_there : (n : ℕ) → None ≡ slot_if_any n → nat_lt n 3 ≡ false
not_there n = by (nat_lt n 3)
  where
    by : (t : Bool) → None ≡ cond t (Some n) None → t ≡ false
    by true is = absurd (none-some n is)
    by false is = refl

pub returns-in-Some : goal.returns-in-Some
unfolding find_slot
returns-in-Some c =
    let is = cond_some _ _ _ (sym c.in-Some.ensures) in
    rw (is.0, is.1) c.read_to_slot.ensures

pub returns-in-None : goal.returns-in-None
unfolding find_slot
returns-in-None c = rw (not_there _ (c.in-None.ensures)) c.read_to_slot-in-None.ensures
