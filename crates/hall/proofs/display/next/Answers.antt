-- What a word has is what is sought, or the search goes on with the next. Assumes nothing.
use Rattle.std.proofs.Common.{◌≡◌, ℕ, ◌+◌, ◌-◌, ◌*◌, ◌/◌, ◌%◌, ◌≤◌, get_or, sym, ap, ◌∙◌, arith}
use mathlib.Core.Bool.{cond}
use lib.Dec.{ltb}
use borrow.Author.Tests.{le-ltb}
use Rattle.bits.specs.Seek.{seek}
use Rattle.bits.specs.Bits.{first_from}
use Rattle.bits.proofs.Seeks.{seek_ge}
use Rattle.hall.specs.Index.{bit_in}
use Rattle.hall.specs.Next.{Next}
use Rattle.hall.proofs.Searching.{first_wide, first_past, word_has, word_none, some_bit, none_bit, bucket_told}
use Rattle.hall.proofs.display.next.Goals as goal

pub returns-then-from-buckets : goal.returns-then-from-buckets
returns-then-from-buckets c = first_past _ _ _ c.if-from-buckets.true

pub loop-k-init : goal.loop-k-init
loop-k-init c =
    let a = c.args in
    let is : a.from ≡ 64 * (a.from / 64) + a.from % 64 = omega arith in record {
      left = ap (λ (n : ℕ). seek (bit_in a.index.now) n (256 - n)) is;
      in_word = omega arith;
      within = omega arith;
    }

pub returns-in-Some : goal.returns-in-Some
returns-in-Some c =
    let a = c.args in
    let p = bit_in a.index.now in
    let k = c.loop-k.k in
    let bit = some_bit (first_from (get_or a.index.now (1 + k) 0) c.loop-k.bit) c.in-Some.found c.in-Some.ensures in
    rw (c.then_some.ensures, bucket_told (ltb (64 * k + c.in-Some.found) a.buckets) (64 * k + c.in-Some.found), bit.1)
    (sym
    (first_wide p a.buckets a.from 256 (omega arith) c.requires
    ∙ ap (λ (b : ℕ). cond (ltb b a.buckets) (Next.Bucket b) Next.Nowhere)
    (c.loop-k.invariant.left ∙ word_has a.index.now k c.loop-k.bit c.loop-k.invariant.in_word c.loop-k-test.true bit.0)))

pub loop-k-preserved : goal.loop-k-preserved
loop-k-preserved c =
    let a = c.args in
    let k = c.loop-k.k in
    let none = none_bit (first_from (get_or a.index.now (1 + k) 0) c.loop-k.bit) c.in_default.ensures in record {
      left = c.loop-k.invariant.left ∙ word_none a.index.now k c.loop-k.bit c.loop-k.invariant.in_word c.loop-k-test.true none;
      in_word = omega arith;
      within = omega arith;
    }

pub returns : goal.returns
returns c =
    let a = c.args in
    let p = bit_in a.index.now in
    let last : 256 ≤ 64 * c.loop-k.k + c.loop-k.bit = omega arith in
    let all : a.buckets ≤ seek p a.from (256 - a.from) =
    omega (arith, c.loop-k.invariant.left, seek_ge p (64 * c.loop-k.k + c.loop-k.bit) (256 - (64 * c.loop-k.k + c.loop-k.bit))) in
    sym (first_wide p a.buckets a.from 256 (omega arith) c.requires ∙ rw (le-ltb _ _ all))
