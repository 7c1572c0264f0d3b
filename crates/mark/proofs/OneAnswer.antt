-- §12.2: every promise of this crate is an equation of the answer with a value that the arguments fix. Two answers that meet such a
-- promise are equal. Assumes nothing.
use Rattle.std.proofs.Common.{◌≡◌, sym, ◌∙◌}

pub one_answer : {A : Type 0} {promised r s : A} → r ≡ promised → s ≡ promised → r ≡ s
one_answer p q = p ∙ sym q
