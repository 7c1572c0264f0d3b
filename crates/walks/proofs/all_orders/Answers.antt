-- The numbers of the tests are the call's, and where there is none all orders are walked. Assumes nothing.
use Rattle.std.proofs.Common.{◌≡◌, sym}
use Rattle.std.proofs.lemmas.Result.{err_from_is_err_and}
use Rattle.walks.specs.Walk.{seated, class_number}
use Rattle.walks.proofs.Outcomes.{refused_size, refused_class, walked_all, small, eight}
use Rattle.walks.proofs.all_orders.Goals as goal

pub returns-in_err-size_refusal : goal.returns-in_err-size_refusal
returns-in_err-size_refusal c =
    let p = err_from_is_err_and c.from_residual.result c.from_residual.ensures.1 in
    let a = c.args in
    rw (p.1, p.2) (refused_size a.board.now a.floor a.class a.depth _ c.in_err-size_refusal.ensures)

pub returns-in_err-class_refusal : goal.returns-in_err-class_refusal
returns-in_err-class_refusal c =
    let p = err_from_is_err_and c.from_residual-in_err-class_refusal.result c.from_residual-in_err-class_refusal.ensures.1 in
    let a = c.args in
    rw (p.1, p.2)
    (refused_class a.board.now a.floor a.class a.depth (sym c.in_ok-size_refusal.ensures) _
    (rw (← c.seated-second.ensures, ← c.seated-third.ensures) c.in_err-class_refusal.ensures))

pub words_of-words-requires : goal.words_of-words-requires
words_of-words-requires c =
    let a = c.args in
    eight a.board.now a.floor a.class a.depth (sym c.in_ok-size_refusal.ensures)

pub all-requires : goal.all-requires
all-requires c =
    let a = c.args in
    let fits = small a.board.now a.floor a.class a.depth (sym c.in_ok-size_refusal.ensures) in
    (fits.some, fits.most)

pub returns : goal.returns
returns c =
    let a = c.args in
    let none
    : class_number a.board.now a.class.first (seated a.class.second 1 a.class.listed) (seated a.class.third 2 a.class.listed) ≡ 0 =
    rw (← c.seated-second.ensures, ← c.seated-third.ensures) (sym c.in_ok-class_refusal.ensures) in
    rw (c.all.ensures, c.words_of-words.ensures, c.seated-second.ensures, c.seated-third.ensures)
    (walked_all a.board.now a.floor a.class a.depth (sym c.in_ok-size_refusal.ensures) none)
