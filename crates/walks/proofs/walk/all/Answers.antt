use Rattle.std.proofs.Common.{◌-◌, sym, ◌∙◌, arith}
use Rattle.walks.proofs.Bounds.{begun_fit, sum_fit}
use Rattle.walks.proofs.Walking.{walk_ends, walk_on}
use Rattle.walks.proofs.walk.all.Goals as goal

pub returns-then-are_idle : goal.returns-then-are_idle
returns-then-are_idle c = c.one.ensures ∙ sym (walk_ends _ _ _ _ _ c.args.depth (sym c.are_idle.ensures ∙ c.if-are_idle.true))

pub sum-requires : goal.sum-requires
sum-requires c =
    let a = c.args in
    let fit = begun_fit (a.depth - 1) a.words 0 (omega (arith, c.requires)) in
    (fit _ _ _ _ c.begun_by-first.ensures, fit _ _ _ _ c.begun_by-second.ensures)

pub sum-requires-2 : goal.sum-requires-2
sum-requires-2 c =
    let a = c.args in (
      sum_fit (a.depth - 1) a.words 0 (omega (arith, c.requires)) _ _ _ _ _ _ _ _ _
          c.begun_by-first.ensures c.begun_by-second.ensures c.sum.ensures,
      begun_fit (a.depth - 1) a.words 0 (omega (arith, c.requires)) _ _ _ _ c.begun_by-third.ensures,
    )

pub returns : goal.returns
returns c =
    let a = c.args in
    walk_on a.words _ _ _ 0 a.depth _ _ _ _ _
    (sym c.are_idle.ensures ∙ c.if-are_idle.false) (omega (arith, c.requires))
    c.begun_by-first.ensures c.begun_by-second.ensures c.begun_by-third.ensures c.sum.ensures c.sum-2.ensures
