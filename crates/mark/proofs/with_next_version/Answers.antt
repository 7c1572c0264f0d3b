use Rattle.std.proofs.Common.{◌≡◌, ℕ, ◌*◌, ◌/◌, ◌%◌, ◌^◌, ap, ◌∙◌, arith}
use lib.Bits.{bit_or, or_shifted}
use Rattle.mark.specs.Word.{version, bump, next_version}
use Rattle.mark.proofs.with_next_version.Goals as goal

pub returns : goal.returns
unfolding version bump
returns c =
    let w = c.args.word in
    let n = c.next_version.result in
    let e : n ≡ next_version (version w) = c.next_version.ensures ∙ ap next_version c.version_of.ensures in
    let h : w / 2 ^ 32 * 2 ^ 32 % 2 ^ 64 ≡ w / 2 ^ 32 * 2 ^ 32 = omega arith in
    ap (λ (x : ℕ). bit_or x n) h ∙ or_shifted (w / 2 ^ 32) 32 n (omega arith) ∙ omega arith
