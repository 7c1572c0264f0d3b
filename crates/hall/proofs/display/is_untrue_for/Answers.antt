use Rattle.std.proofs.Common.{ℕ, ap₂, ◌∙◌, arith}
use native.Mathlib.Nat.{mod-lt}
use Rattle.hall.specs.Index.{untrue}
use Rattle.hall.proofs.Numbers.{touched_is}
use Rattle.hall.proofs.display.is_untrue_for.Goals as goal

pub is_untrue-requires : goal.is_untrue-requires
is_untrue-requires c =
    let is = touched_is c.args.board.now c.args.floor c.args.lot _ c.requires c.touched_by-touched.ensures in
    (omega (arith, is.0, mod-lt c.args.lot c.requires.some_bucket), c.requires.buckets)

pub returns : goal.returns
returns c =
    let is = touched_is c.args.board.now c.args.floor c.args.lot _ c.requires c.touched_by-touched.ensures in
    c.is_untrue.ensures ∙ ap₂ (λ (b m : ℕ). untrue c.args.floor.buckets c.args.index.now b m) is.0 is.1
