use Rattle.std.proofs.Common.{◌≡◌, ℕ, Bool, true, false, nat_lt, refl, ap, ◌∙◌}
use Rattle.std.specs.Bool.{then_some}
use Rattle.mark.specs.Word.{slot_if_any}
use Rattle.mark.proofs.Empties.{first_empty_by_masks}
use Rattle.mark.proofs.first_empty.Goals as goal

-- the two ways to say that a slot is there
same : (n : ℕ) → then_some (nat_lt n 3) n ≡ slot_if_any n
same n = by (nat_lt n 3) refl
  where
    by : (t : Bool) → nat_lt n 3 ≡ t → then_some (nat_lt n 3) n ≡ slot_if_any n
    by true is = rw is refl
    by false is = rw is refl

pub returns : goal.returns
returns c = c.then_some.ensures ∙ same _ ∙ ap slot_if_any (first_empty_by_masks c.args.word)
