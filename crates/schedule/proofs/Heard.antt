-- What was read of a line: something else stood there, or a part of it was right. Assumes nothing.
use Prim.Native.Nat.{ℕ, ◌<◌, ◌≤◌}
use mathlib.Core.Path.{◌≡◌, sym}
use native.Mathlib.Omega.{arith}
use lib.ListN.{length}
use borrow.Author.Tests.{ne_eqb, lt-ltb, le-ltb}
use Rattle.std.proofs.Common.{Ok, Err}
use Rattle.schedule.specs.declared.Wrong.{Wrong}
use Rattle.schedule.specs.declared.Entry.TheVariants.{Turns}
use Rattle.schedule.specs.declared.token.Reader.{Reader}
use Rattle.schedule.specs.declared.expected.Expected.TheVariants.{Room}
use Rattle.schedule.specs.Numbers.{expected_number}
use Rattle.schedule.specs.Tokens.{number_at}
use Rattle.schedule.specs.Reading.{Line, wrong, turns_line}
use Rattle.schedule.specs.Promises.{Reaches}
use Rattle.schedule.specs.Results.{Takes, Hears, Counted}
use Rattle.schedule.proofs.NumberOf.{some_number}
use Rattle.schedule.proofs.Spans.{reach_here}
use Rattle.schedule.proofs.Turning.{all_turns}

-- something else stood there
pub hears_wrong :
    {before after : Reader} {l : Line} (w : Wrong)
    → after.text ≡ before.text
    → wrong w.at (expected_number w.what) ≡ l
    → Reaches before.text.now before.at w.at
    → Hears before l after (Err w)
hears_wrong w text e reach =
    record { text = text; says = record { is = rw (ne_eqb (expected_number w.what) 0 (some_number w.what)) e; counts = tt; reach = reach } }

-- ---- turns

module _ {before peeked : Reader} where
  -- the first word is no number
  pub turns_none :
      {w : Wrong} (after : Reader)
      → Takes (λ n. n) before (number_at before.text.now before.at 255 17) peeked (Err w)
      → after.text ≡ before.text
      → Hears before (turns_line before.text.now before.at) after (Err w)
  unfolding turns_line
  turns_none {w} after t text =
      hears_wrong w text (rw (← t.finds.is, ne_eqb (expected_number w.what) 0 (some_number w.what))) t.finds.reach

  module _ {v : ℕ} {after : Reader} (first : Takes (λ n. n) before (number_at before.text.now before.at 255 17) peeked (Ok v)) where
    -- one of them is wrong
    pub turns_wrong : {w : Wrong} → Counted before (all_turns before) after (Err w) → Hears before (turns_line before.text.now before.at) after (Err w)
    unfolding turns_line
    turns_wrong {w} k =
        let some = some_number w.what in
        hears_wrong w k.text (rw (← first.finds.is, ← k.tallies.stops some, ne_eqb (expected_number w.what) 0 some)) k.tallies.reach

    module _ {count : ℕ} (k : Counted before (all_turns before) after (Ok count)) where
      -- they are more than a sheet holds
      pub turns_many : 16384 < count → Hears before (turns_line before.text.now before.at) after (Err (record { at = before.at; what = Room }))
      unfolding turns_line
      turns_many more =
          let many : 16384 < length (all_turns before).bytes = omega (arith, k.tallies.tally, more) in
          hears_wrong _ k.text
          (rw (← first.finds.is, ← k.tallies.what, lt-ltb 16384 (length (all_turns before).bytes) many))
          (reach_here before.text.now before.at)

      -- they are right
      pub turns_right : count ≤ 16384 → Hears before (turns_line before.text.now before.at) after (Ok (Turns before.at count))
      unfolding turns_line
      turns_right few =
          let fits : length (all_turns before).bytes ≤ 16384 = omega (arith, k.tallies.tally, few) in
          let as_many : length (all_turns before).bytes ≡ count = omega (arith, k.tallies.tally, few) in
          record {
            text = k.text;
            says = record {
              is = rw (← first.finds.is, ← k.tallies.what, le-ltb 16384 (length (all_turns before).bytes) fits, k.tallies.at);
              counts = (sym k.tallies.what, as_many, few);
              reach = k.tallies.reach;
            };
          }
