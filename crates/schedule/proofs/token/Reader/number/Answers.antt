use Rattle.std.proofs.Common.{sym, ◌∙◌, ap, refl, Option, Some, None, ℕ, List, cond}
use Rattle.schedule.specs.Tokens.{is_number, value_after}
use Rattle.schedule.specs.Numbers.{expected_number}
use Rattle.schedule.proofs.Found.{number_none, number_some, number_most}
use Rattle.schedule.proofs.token.Reader.number.Goals as goal

-- a number of so much at most, where these digits say one
abbrev said_by : ℕ → List ℕ → Option ℕ
said_by most digits = cond (is_number 0 most digits) (Some (value_after 0 digits)) None

pub returns-in_default-clause-takes : goal.returns-in_default-clause-takes
returns-in_default-clause-takes c =
    let e = sym c.in_default.is ∙ c.number_in.ensures ∙ ap (said_by c.args.most) c.bytes.ensures in
    rw c.wrong.ensures.is (record { text = refl; finds = number_none c.word-word.ensures _ _ e })

pub returns-clause-takes : goal.returns-clause-takes
returns-clause-takes c =
    let e = sym c.in-Some.is ∙ c.number_in.ensures ∙ ap (said_by c.args.most) c.bytes.ensures in
    record { text = refl; finds = number_some c.word-word.ensures _ (expected_number c.args.what) e }

pub returns-clause-most : goal.returns-clause-most
returns-clause-most c =
    let e = sym c.in-Some.is ∙ c.number_in.ensures ∙ ap (said_by c.args.most) c.bytes.ensures in
    number_most c.word-word.ensures _ (expected_number c.args.what) e
