use Rattle.std.proofs.Common.{arith, refl, ◌≡◌, length, Ok, Err, rules}
use Rattle.schedule.proofs.Reciting.{text_recited}
use Rattle.schedule.proofs.recite.Goals as goal

pub returns-in-Ok : goal.returns-in-Ok
returns-in-Ok c =
    let long : length c.args.out.now ≡ 65600 = search rules in
    text_recited (Ok c.in-Ok.at) (λ i. omega (arith, c.type_inv.sheet i)) refl long (rw c.in-Ok.is at c.lines-read.ensures)

pub returns-in-Err : goal.returns-in-Err
returns-in-Err c =
    let long : length c.args.out.now ≡ 65600 = search rules in
    text_recited (Err c.in-Err.at) (λ i. omega (arith, c.type_inv.sheet i)) refl long (rw c.in-Err.is at c.lines-read.ensures)
